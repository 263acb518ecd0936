-- Parts of a line, and a line that is written whole. A part written and one at the place after it are one part, since splicing in xs and
-- then ys right behind them is splicing in xs ++ ys (`then`). Its bound is the sum of theirs. So a line is written part by part. Where
-- there is room for the longest it is a line put (`whole`). Else it is written at the start of a buffer, stands in the buffer's first
-- places, and copied from there is a line put too (`copied`).
-- Here at is the place of a part, most the bound of its octets, next the place after it, xs and ys are octets, old, new and newer memory
-- before and after each part, text the buffer, and w and v that a part is written. Assumes nothing.
use Prim.Native.Nat.{ℕ, ◌+◌, ◌≤◌, ◌<◌}
use native.Mathlib.Omega.{arith}
use mathlib.Core.Path.{◌≡◌, refl, sym, ap, ◌∙◌}
use mathlib.Core.List.{List, [], ◌∷◌, ◌++◌, append_assoc}
use lib.ListN.{length, take, set, length-append}
use Rattle.octets.specs.Memory.{splice, put}
use Rattle.octets.proofs.Memory.{splice-nil, splice-length, splice-next, splice-part, splice-set, put-room}
use Rattle.decimal.specs.Decimal.{decimal_of}
use Rattle.rfc4737.specs.declared.Answer.{Answer}
use Rattle.rfc4737.specs.declared.Answer.TheVariants.{Duplicate, InOrder, Reordered}
use Rattle.rfc4737.specs.declared.LateTime.{LateTime}
use Rattle.rfc4737.specs.Numbering.{amount_of}
use Rattle.octets.specs.Text.{line_feed}
use Rattle.listing.specs.Words.{space}
use Rattle.listing.specs.Lines.{number, sign, late_time, line, answer_fields, record_line}
use Rattle.listing.specs.Private.Written.{PartWritten}

pub nothing : (at : ℕ) (old : List ℕ) → PartWritten at 1 at [] old old
nothing at old = record { place = omega arith; within = omega arith; memory = sym (splice-nil at old) }

-- one octet stored where there is room
pub one : (at x : ℕ) (old : List ℕ) → at < length old → PartWritten at 1 (at + 1) (x ∷ []) old (set old at x)
one at x old h = record { place = refl; within = omega arith; memory = splice-set at x old h }

-- octets put where there is room, and one octet stored after them
pub with-after : (at : ℕ) (xs : List ℕ) (x : ℕ) (old : List ℕ) → at + (length xs + 1) ≤ length old
    → PartWritten at (length xs + 1) (at + length xs + 1) (xs ++ (x ∷ [])) old (set (put at xs old) (at + length xs) x)
with-after at xs x old h =
    let room : at + length xs ≤ length old = omega arith in
    let more : at + length xs < length (splice at xs old) = rw (splice-length at xs old room) (omega arith) in
    let start : at ≤ length old = omega arith in
    record {
      place = simp length-append (omega arith);
      within = simp length-append (omega arith);
      memory =
          rw (put-room at xs old room, splice-set (at + length xs) x (splice at xs old) more)
          (splice-next at (at + length xs) xs (x ∷ []) old refl start);
    }

-- a part of at most `most` octets is one of at most `more`
pub weaken : {at most next : ℕ} {xs old new : List ℕ} (more : ℕ) → most ≤ more → PartWritten at most next xs old new
    → PartWritten at more next xs old new
weaken more h w = record { place = w.place; within = omega arith; memory = w.memory }

-- a part of octets that are equal to others is one of those
pub named : {at most next : ℕ} {xs ys old new : List ℕ} (more : ℕ) → xs ≡ ys → length ys ≤ more → PartWritten at most next xs old new
    → PartWritten at more next ys old new
named more e h w = record { place = rw e at w.place; within = h; memory = rw e at w.memory }

-- a part, and one at the place after it, are one part
pub then : {at a mid b next : ℕ} {xs ys old new newer : List ℕ} → at ≤ length old → PartWritten at a mid xs old new
    → PartWritten mid b next ys new newer
    → PartWritten at (a + b) next (xs ++ ys) old newer
then {at} {a} {mid} {b} {next} {xs} {ys} {old} {new} {newer} h w v =
    record {
      place = simp length-append (omega (arith, w.place, v.place));
      within = simp length-append (omega (arith, w.within, v.within));
      memory = rw (v.memory, w.memory) (splice-next at mid xs ys old (sym w.place) h);
    }

-- the same, where there is room for `room` octets
pub then-within : {at a mid b next : ℕ} {xs ys old new newer : List ℕ} (room : ℕ) → at + room ≤ length old → PartWritten at a mid xs old new
    → PartWritten mid b next ys new newer → PartWritten at (a + b) next (xs ++ ys) old newer
then-within {at} {a} {mid} {b} {next} {xs} {ys} {old} {new} {newer} room h w v =
    let start : at ≤ length old = omega arith in
    then start w v

-- a word with a space after it, and then a field that ends the line, are the line of both
pub two_fields : {at a mid b next : ℕ} {old new newer : List ℕ} (room : ℕ) (word field : List ℕ) → at + room ≤ length old
    → PartWritten at a mid (word ++ (space ∷ [])) old new → PartWritten mid b next (field ++ (line_feed ∷ [])) new newer
    → PartWritten at (a + b) next (line (word ∷ field ∷ [])) old newer
two_fields {at} {a} {mid} {b} {next} {old} {new} {newer} room word field h w v =
    simp append_assoc (simp append_assoc at (then-within room h w v))

-- a line written where there is room for it is a line put
pub whole : {at most next : ℕ} {xs old new : List ℕ} → at + most ≤ length old → PartWritten at most next xs old new → new ≡ put at xs old
whole {at} {most} {next} {xs} {old} h w = w.memory ∙ sym (put-room at xs old (omega (arith, w.within)))

-- a line written at the start of other memory stands in its first places
read_back : {most next : ℕ} {xs text new : List ℕ} → PartWritten 0 most next xs text new → take next new ≡ xs
read_back {most} {next} {xs} {text} {new} w =
    let e : next ≡ length xs = omega (arith, w.place) in
    rw (e, w.memory) (splice-part 0 xs text (omega arith))

-- as many of them as the place after it says
pub read_length : {most next : ℕ} {xs text new : List ℕ} → PartWritten 0 most next xs text new → next ≡ length (take next new)
read_length w = rw (read_back w) (omega (arith, w.place))

-- and copied from there it is a line put
pub copied : {most next : ℕ} {xs text new newer : List ℕ} (at : ℕ) (old : List ℕ) → PartWritten 0 most next xs text new
    → newer ≡ put at (take next new) old → (next ≡ length xs) × (newer ≡ put at xs old)
copied at old w e = (omega (arith, w.place), e ∙ ap (λ (l : List ℕ). put at l old) (read_back w))

-- a late time and the octet after it: what stands in front of its amount, and then the amount with that octet
pub time-parts : (t : LateTime) (v after : ℕ) → v ≡ amount_of t → late_time t ++ (after ∷ []) ≡ sign t ++ (decimal_of v ++ (after ∷ []))
unfolding late_time
time-parts t v after e = rw e (append_assoc (sign t) (decimal_of (amount_of t)) (after ∷ []))

-- a record's line: the record and its number, and then its answer
pub record-parts : (r n : ℕ) (a : Answer)
    → record_line r n a ≡ ((number r ++ (space ∷ [])) ++ (number n ++ (space ∷ []))) ++ line (answer_fields a)
unfolding record_line
record-parts r n (Duplicate f) = simp append_assoc
record-parts r n (InOrder f) = simp append_assoc
record-parts r n (Reordered f) = simp append_assoc
