-- The reordered ratio (RFC 4737, section 4.1) and the degree of n-reordering (5.3), over the answers of a sample. The
-- counts are whole numbers; a ratio is two counts, made f64 and divided once. Assumes nothing.
use Rattle.std.specs.Prelude.{ℕ, Bool, false, cond, List, leb, eqb, pos, Float}
use Rattle.std.specs.Float.{binary64}
use Rattle.std.specs.Float.Ieee.{div, of_int}
use Rattle.rfc4737.specs.declared.Answer.{Answer}
use Rattle.rfc4737.specs.declared.Answer.TheVariants.{Duplicate, InOrder, Reordered}
use Rattle.rfc4737.specs.declared.Ratio.{Ratio}
use Rattle.rfc4737.specs.declared.Ratios.{Ratios}
use Rattle.rfc4737.specs.Arrivals.{count}
use Rattle.rfc4737.specs.Runs.{arrived, is_reordered}

-- a packet is n-reordered, n from 1, if its largest n is n or more
unfoldable pub is_n_reordered : ℕ → Answer → Bool
is_n_reordered n (Duplicate d) = false
is_n_reordered n (InOrder d) = false
is_n_reordered n (Reordered d) = leb n d.largest

-- the number of n-reordered packets
unfoldable pub n_reordered : ℕ → List Answer → ℕ
n_reordered n l = count (is_n_reordered n) l

-- a count over another, both made f64 and divided once
unfoldable pub quotient : ℕ → ℕ → Float
quotient part whole = div binary64 (of_int binary64 (pos part)) (of_int binary64 (pos whole))

-- the share of the packets whose answers pass a test: their number over L
unfoldable pub share : (Answer → Bool) → List Answer → Float
share p l = quotient (count p l) (arrived l)

-- the degree of n-reordering: the share of the n-reordered packets; undefined if L = 0
unfoldable pub degree : ℕ → List Answer → Ratio
degree n l = cond (eqb (arrived l) 0) Ratio.Undefined (Ratio.Known (share (is_n_reordered n) l))

-- the ratio figures of a sample, undefined if L = 0: the share of the reordered packets, and the degrees for n = 1 and n = 3
unfoldable pub ratios : List Answer → Ratios
ratios l =
    cond (eqb (arrived l) 0) Ratios.Undefined
    (Ratios.Known
    (record { reordered = share is_reordered l; degree1 = share (is_n_reordered 1) l; degree3 = share (is_n_reordered 3) l }))
