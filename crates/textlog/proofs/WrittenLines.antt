-- The written form. A line is the digits of the number x, a semicolon, the digits of the milliseconds y, and z, a comma, three decimals and
-- a line feed. Put one behind the other, each where the one before ends, these are one put of the line (`put-parts`). The log of the first
-- i + 1 arrivals is that of the first i and the next line (`log-next`). It is never longer than the whole (`log-part`), and is the whole at
-- the end. `first` and `third` are the offsets of the semicolon and of z, `old` is memory before and o₁ to o₄ after each put; `same` says
-- that both lists are equally long. Assumes nothing.
use Prim.Native.Nat.{ℕ, ◌+◌, ◌/◌, ◌%◌, ◌≤◌, ◌<◌}
use native.Mathlib.Omega.{arith}
use mathlib.Core.Path.{◌≡◌, sym, ap, ◌∙◌}
use mathlib.Core.List.{List, [], ◌∷◌, ◌++◌, append_assoc}
use lib.ListN.{length, get_or, take, drop, length-append, take-append-drop}
use lib.Seq.{take_all, append_snoc}
use Rattle.octets.specs.Memory.{put}
use Rattle.octets.specs.Text.{line_feed}
use Rattle.octets.proofs.Memory.{put_next}
use Rattle.decimal.specs.Decimal.{decimal_of}
use Rattle.rfc4737.specs.declared.Arrival.{Arrival}
use Rattle.rfc4737.specs.Judge.{arrivals_from}
use Rattle.rfc4737.proofs.Pairs.{arrivals-get_or, arrivals-length}
use Rattle.sample.specs.Places.{no_arrival}
use Rattle.sample.proofs.Items.{octets-append, octets-snoc}
use Rattle.textlog.specs.Form.{semicolon, comma, three_digits, arrival_line, log_of}

pub line-long : (a : Arrival) → length (arrival_line a) ≡ length (decimal_of a.number) + length (decimal_of (a.time / 1000)) + 6
unfolding arrival_line
line-long a =
    let t : List ℕ = comma ∷ (three_digits (a.time % 1000) ++ (line_feed ∷ [])) in
    omega (
      arith,
      length-append (decimal_of a.number) (semicolon ∷ (decimal_of (a.time / 1000) ++ t)),
      length-append (decimal_of (a.time / 1000)) t,
    )

-- a line put in four parts
pub put-parts : (at first third : ℕ) (x y z old : List ℕ) {o₁ o₂ o₃ o₄ : List ℕ} → at + length (x ++ (semicolon ∷ (y ++ z))) ≤ length old
    → first ≡ at + length x → third ≡ first + 1 + length y
    → o₁ ≡ put at x old → o₂ ≡ put first (semicolon ∷ []) o₁ → o₃ ≡ put (first + 1) y o₂ → o₄ ≡ put third z o₃
    → o₄ ≡ put at (x ++ (semicolon ∷ (y ++ z))) old
put-parts at first third x y z old {o₁} {o₂} {o₃} room f t p q r s =
    let n = length-append x (semicolon ∷ (y ++ z)) in
    let m = length-append y z in
    let l₁ = length-append x (semicolon ∷ []) in
    let l₂ = length-append (x ++ (semicolon ∷ [])) y in
    let e₂ : o₂ ≡ put at (x ++ (semicolon ∷ [])) old =
    q ∙ ap (put first (semicolon ∷ [])) p ∙ put_next at first x (semicolon ∷ []) old (omega arith) (omega arith) in
    let e₃ : o₃ ≡ put at ((x ++ (semicolon ∷ [])) ++ y) old =
    r ∙ ap (put (first + 1) y) e₂ ∙ put_next at (first + 1) (x ++ (semicolon ∷ [])) y old (omega arith) (omega arith) in
    s ∙ ap (put third z) e₃ ∙ put_next at third ((x ++ (semicolon ∷ [])) ++ y) z old (omega arith) (omega arith)
    ∙ ap (λ (l : List ℕ). put at l old) (append_assoc (x ++ (semicolon ∷ [])) y z ∙ append_snoc x semicolon (y ++ z))

-- ---- the log of two lists, after i lines

module _ (numbers times : List ℕ) (same : length times ≡ length numbers) (i : ℕ) where
  -- at most the whole
  pub log-part : length (log_of (take i (arrivals_from numbers times))) ≤ length (log_of (arrivals_from numbers times))
  log-part =
      let l = arrivals_from numbers times in
      let e : log_of (arrivals_from numbers times)
      ≡ log_of (take i (arrivals_from numbers times)) ++ log_of (drop i (arrivals_from numbers times)) =
      ap log_of (sym (take-append-drop i (arrivals_from numbers times)))
      ∙ octets-append arrival_line (take i (arrivals_from numbers times)) (drop i (arrivals_from numbers times)) in
      omega (arith, ap length e, length-append (log_of (take i (arrivals_from numbers times))) (log_of (drop i (arrivals_from numbers times))))

  -- one line more
  pub log-next : i < length numbers
      → log_of (take (i + 1) (arrivals_from numbers times))
      ≡ log_of (take i (arrivals_from numbers times)) ++ arrival_line (record { number = get_or numbers i 0; time = get_or times i 0 })
  log-next h =
      octets-snoc arrival_line (arrivals_from numbers times) i no_arrival (omega (arith, arrivals-length numbers times same))
      ∙ ap (λ (a : Arrival). log_of (take i (arrivals_from numbers times)) ++ arrival_line a)
      (sym (arrivals-get_or numbers times i no_arrival same h))

  -- its length
  pub long-next : i < length numbers
      → length (log_of (take (i + 1) (arrivals_from numbers times)))
      ≡ length (log_of (take i (arrivals_from numbers times))) + length
      (arrival_line (record { number = get_or numbers i 0; time = get_or times i 0 }))
  long-next h =
      ap length (log-next h)
      ∙ length-append (log_of (take i (arrivals_from numbers times)))
      (arrival_line (record { number = get_or numbers i 0; time = get_or times i 0 }))

  -- at the end
  pub log-all : length numbers ≤ i → log_of (take i (arrivals_from numbers times)) ≡ log_of (arrivals_from numbers times)
  log-all h = ap log_of (take_all i (arrivals_from numbers times) (omega (arith, arrivals-length numbers times same)))
