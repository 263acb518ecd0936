-- Octets that are put after the first n octets of an array, which has room for them, are written after those (`added`). Here text is what
-- was written, xs are the octets, old and new is the array before and after. Assumes nothing.
use Rattle.std.proofs.Common.{◌≡◌, ℕ, ◌+◌, ◌≤◌, List, ◌++◌, length, take, ap, ◌∙◌, arith}
use Rattle.std.proofs.Math.Seq.{length-take-le, take-add}
use Rattle.octets.specs.Memory.{put, splice}
use Rattle.octets.proofs.Memory.{put-room, splice-take, splice-part}

-- octets put where there is room stand after those before them
part-put : (n : ℕ) (xs old : List ℕ) → n + length xs ≤ length old → take (n + length xs) (put n xs old) ≡ take n old ++ xs
part-put n xs old h =
    rw (
      put-room n xs old h,
      take-add n (length xs) (splice n xs old),
      splice-take n xs old n (omega arith) (omega arith),
      splice-part n xs old (omega arith),
    )

module _ {n : ℕ} {text : List ℕ} (old : List ℕ) (e : take n old ≡ text) (inside : n ≤ length old) where
  -- as many octets as were written
  pub used : n ≡ length text
  used = omega (arith, length-take-le n old inside, ap length e)

  pub added : (xs new : List ℕ) → new ≡ put n xs old → n + length xs ≤ length old → take (n + length xs) new ≡ text ++ xs
  added xs new p room = ap (take (n + length xs)) p ∙ part-put n xs old room ∙ ap (λ (l : List ℕ). l ++ xs) e
