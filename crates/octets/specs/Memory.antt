-- What lent memory (the caller's buffer) holds after a write, as a function of what it held before. Assumes nothing.
use Rattle.std.specs.Prelude.{ℕ, ◌+◌, cond, List, ◌++◌, leb, length, take, drop}

-- the n elements from offset `at` on, or as many as there are
abbrev pub part {ℓ} : {A : Type ℓ} → (at n : ℕ) → List A → List A
part at n l = take n (drop at l)

-- xs at the start of `old`; what stands after them is as it was
abbrev pub over {ℓ} : {A : Type ℓ} → List A → List A → List A
over xs old = xs ++ drop (length xs) old

-- xs in `old` from offset `at` on; all else is as it was
abbrev pub splice {ℓ} : {A : Type ℓ} → (at : ℕ) → List A → List A → List A
splice at xs old = take at old ++ (xs ++ drop (at + length xs) old)

-- xs in `old` from offset `at` on if there is room for all of them, else `old` as it was
unfoldable pub put {ℓ} : {A : Type ℓ} → (at : ℕ) → List A → List A → List A
put at xs old = cond (leb (at + length xs) (length old)) (splice at xs old) old
