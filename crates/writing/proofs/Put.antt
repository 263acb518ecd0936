-- A text that is copied part by part to memory that may be too short (`Put`). A part, and one at the offset after it, are one part
-- (`put_then`). Here at is the offset of a part, next the offset after it, xs and ys are octets, old, new and newer memory before and
-- after. Assumes nothing.
use Prim.Native.Nat.{ℕ, ◌+◌, ◌≤◌}
use native.Mathlib.Omega.{arith}
use mathlib.Core.Path.{◌≡◌, refl, sym, ap, subst, ◌∙◌}
use mathlib.Core.List.{List, [], ◌++◌}
use lib.ListN.{length, length-append}
use Rattle.octets.specs.Memory.{over, put, splice}
use Rattle.octets.proofs.Memory.{splice-nil, splice-next, over-splice, put-room, put-length}
use Rattle.writing.specs.Put.{Put}

-- nothing
pub put-nothing : (at : ℕ) (old : List ℕ) → Put at at [] old old
put-nothing at old = record { place = omega arith; same = refl; memory = λ _. sym (splice-nil at old) }

-- octets that are put
pub put-octets : {at : ℕ} {xs old new : List ℕ} → new ≡ put at xs old → Put at (at + length xs) xs old new
put-octets {at} {xs} {old} e =
    record { place = refl; same = ap length e ∙ put-length at xs old; memory = λ room. e ∙ put-room at xs old room }

-- octets that are put at the start
pub put_first : {xs old new : List ℕ} → new ≡ put 0 xs old → Put 0 (length xs) xs old new
put_first {xs} {old} e =
    record { place = omega arith; same = ap length e ∙ put-length 0 xs old; memory = λ room. e ∙ put-room 0 xs old room }

-- a part, and one at the offset after it, are one part
pub put_then : {at mid next : ℕ} {xs ys old new newer : List ℕ} → Put at mid xs old new → Put mid next ys new newer
    → Put at next (xs ++ ys) old newer
put_then {at} {mid} {next} {xs} {ys} {old} {new} p q =
    record {
      place = simp length-append (omega (arith, p.place, q.place));
      same = q.same ∙ p.same;
      memory =
          λ room.
          let both : at + (length xs + length ys) ≤ length old = subst (λ (n : ℕ). at + n ≤ length old) (length-append xs ys) room in
          let first : at + length xs ≤ length old = omega (arith, both) in
          let second : mid + length ys ≤ length new = omega (arith, both, p.place, p.same) in
          let inside : at ≤ length old = omega (arith, first) in
          q.memory second ∙ ap (λ (l : List ℕ). splice mid ys l) (p.memory first) ∙ splice-next at mid xs ys old (sym p.place) inside;
    }

-- a part of octets that are equal to others is one of those
pub put-named : {at next : ℕ} {xs ys old new : List ℕ} → xs ≡ ys → Put at next xs old new → Put at next ys old new
put-named {at} {next} {xs} {ys} {old} {new} e p = subst (λ (l : List ℕ). Put at next l old new) e p

-- at the start of memory that has room
pub put-start : {n : ℕ} {xs old new : List ℕ} → Put 0 n xs old new → length xs ≤ length old → new ≡ over xs old
put-start {n} {xs} {old} p room = p.memory (omega (arith, room)) ∙ sym (over-splice xs old)
