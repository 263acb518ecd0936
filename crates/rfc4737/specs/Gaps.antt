-- Gaps between discontinuities (RFC 4737, section 4.5), over the answers of a sample. Assumes nothing.
use Rattle.std.specs.Prelude.{ℕ, zero, suc, ◌-◌, Bool, true, false, cond, Option as Maybe, Some, None, List, [], ◌∷◌, ◌++◌, map, eqb, ltb}
use Rattle.std.proofs.Math.Option.{Option, none, some}
use Rattle.rfc4737.specs.declared.Answer.{Answer}
use Rattle.rfc4737.specs.declared.Answer.TheVariants.{Duplicate, InOrder, Reordered}
use Rattle.rfc4737.specs.Runs.{arrived}

-- whether an answer is that of a reordered packet whose discontinuity is at position p: its position less its extent
unfoldable pub belongs_to : ℕ → Answer → Bool
belongs_to p (Duplicate d) = false
belongs_to p (InOrder d) = false
belongs_to p (Reordered d) = eqb (d.position - d.extent) p

-- the position of an answer's packet, if it is a first arrival
unfoldable pub position_of : Answer → Option ℕ
position_of (Duplicate d) = none
position_of (InOrder d) = some d.position
position_of (Reordered d) = some d.position

-- the discoverer of the discontinuity at p: the position of the first reordered packet whose discontinuity it is, if there is one
unfoldable pub discoverer : ℕ → List Answer → Option ℕ
discoverer p [] = none
discoverer p (a ∷ l) = cond (belongs_to p a) (position_of a) (discoverer p l)

-- whether there is a value
abbrev pub is_some : Option ℕ → Bool
is_some none = false
is_some (some p) = true

-- of the positions 1 to n, in order, those of discontinuities
unfoldable pub discontinuities_to : ℕ → List Answer → List ℕ
discontinuities_to zero l = []
discontinuities_to (suc n) l = discontinuities_to n l ++ cond (is_some (discoverer (suc n) l)) (suc n ∷ []) []

-- the positions of the discontinuities of a sample, in order
unfoldable pub discontinuities : List Answer → List ℕ
discontinuities l = discontinuities_to (arrived l) l

-- whether one discoverer is an earlier reordered packet than another: positions of first arrivals rise with time
unfoldable pub earlier : Option ℕ → Option ℕ → Bool
earlier none e = false
earlier (some d) none = false
earlier (some d) (some e) = ltb d e

-- the neighbour of a position: the nearest discontinuity before it, if there is one; positions begin at 1
unfoldable pub neighbour : List Answer → ℕ → Option ℕ
neighbour l zero = none
neighbour l (suc zero) = none
neighbour l (suc (suc q)) = cond (is_some (discoverer (suc q) l)) (some (suc q)) (neighbour l (suc q))

-- the gap of a record in positions, if it has one; the code's `Option<u32>`
abbrev pub Gap : Type 0
Gap = Maybe ℕ

-- the gap of position p over its neighbour: p less the neighbour exactly if that was discovered by an earlier reordered packet than p.
-- So neither a position that is no discontinuity nor the first discontinuity has a gap
unfoldable pub gap_over : List Answer → ℕ → Option ℕ → Gap
gap_over l p none = None
gap_over l p (some q) = cond (earlier (discoverer q l) (discoverer p l)) (Some (p - q)) None

-- the gap of a record with this position, if it has one; a duplicate has no gap
unfoldable pub gap_of : List Answer → Option ℕ → Gap
gap_of l none = None
gap_of l (some p) = gap_over l p (neighbour l p)

-- the gap of every record of a sample
unfoldable pub gaps : List Answer → List Gap
gaps l = map (λ (a : Answer). gap_of l (position_of a)) l
