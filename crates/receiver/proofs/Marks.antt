-- Marks: a packet is marked exactly if it was marked before or is the one marked now (`mark-with`); after some arrivals, exactly if it is
-- among them (`marked-is-arrived`, by induction on the arrivals). The bit b of a word is set by `bit_or` with 2 to the b, of which b is
-- the only bit (`power-bit`), so just that bit is changed (`mark-bit`). If the packets p, marked now, and q have one word, they are the
-- same exactly if they have one bit; if not, q's word stays.
-- Here m are the words of the marks, b and c are bits of the word w, fs are the arrivals, a is the next, and s a packet. Assumes nothing.
use Prim.Native.Nat.{ℕ, zero, suc, ◌+◌, ◌-◌, ◌*◌, ◌/◌, ◌%◌, ◌^◌, ◌≤◌, ◌<◌}
use mathlib.Core.Path.{◌≡◌, refl, sym, ap, ◌∙◌}
use mathlib.Core.Logic.{◌≢◌}
use mathlib.Core.Bool.{Bool, true, false, ◌||◌, or-false}
use mathlib.Core.List.{List, [], ◌∷◌, ◌++◌, foldl}
use native.Mathlib.Nat.{zero-div, div-eq_of_lt, pow-suc, mul-mod_left, one-mul}
use native.Mathlib.Omega.{arith}
use lib.Bits.{bit_or, or_shr, or_mod, or_zero_l}
use lib.Pow.{pow-lt, pow-add, shl-shr}
use lib.Dec.{eqb, ltb}
use lib.ListN.{length, get_or, replicate, length-set, get_or-replicate, get_or-eq_default}
use lib.Seq.{get_or-set_same, get_or-set_other}
use borrow.Author.Tests.{ltb-true, ltb-false, eqb-true, eqb-false, eq-eqb, ne_eqb}
use Rattle.rfc4737.specs.declared.Arrival.{Arrival}
use Rattle.rfc4737.specs.Arrivals.{has}
use Rattle.rfc4737.proofs.Lists.{snoc-ind, All, all_left, all_right}
use Rattle.rfc4737.proofs.Arrivals.{fold_more, has_more}
use Rattle.rfc4737.proofs.Packets.{OfPackets}
use Rattle.rfc4737.specs.Judge.{sent_most}
use Rattle.receiver.specs.Marks.{mark_words, word_of, bit_of, mark_at, with_mark}

-- two tests that hold together are equal
same_test : (a b c d : ℕ) → (a ≡ b → c ≡ d) → (c ≡ d → a ≡ b) → eqb a b ≡ eqb c d
same_test a b c d f g = go (eqb a b) refl
  where
    go : (t : Bool) → eqb a b ≡ t → t ≡ eqb c d
    go true e = sym (eq-eqb c d (f (eqb-true a b e)))
    go false e = sym (ne_eqb c d (λ q. eqb-false a b e (g q)))

-- of two bits joined one is set exactly if it is set in either
or-bit : (x y : ℕ) → x < 2 → y < 2 → eqb (bit_or x y) 1 ≡ (eqb x 1 || eqb y 1)
or-bit zero y h g = ap (λ (n : ℕ). eqb n 1) (or_zero_l y)
or-bit (suc zero) zero h g = refl
or-bit (suc zero) (suc zero) h g = refl
or-bit (suc zero) (suc (suc y)) h g = absurd (omega arith)
or-bit (suc (suc x)) y h g = absurd (omega arith)

-- the only bit of a power of 2
power-bit : (b c : ℕ) → eqb (2 ^ b / 2 ^ c % 2) 1 ≡ eqb b c
power-bit b c = go (ltb b c) (ltb c b) refl refl
  where
    go : (t u : Bool) → ltb b c ≡ t → ltb c b ≡ u → eqb (2 ^ b / 2 ^ c % 2) 1 ≡ eqb b c
    go true u et eu =
        let l : b < c = ltb-true _ _ et in
        let z : 2 ^ b / 2 ^ c ≡ 0 = div-eq_of_lt (pow-lt l) in
        let n : eqb b c ≡ false = ne_eqb b c (λ q. omega arith) in
        rw (z, n)
    go false true et eu =
        let l : c < b = ltb-true _ _ eu in
        let s : b ≡ suc (b - suc c) + c = omega arith in
        let q : 2 ^ (suc (b - suc c) + c) / 2 ^ c ≡ 2 ^ (b - suc c) * 2 =
        ap (λ (x : ℕ). x / 2 ^ c) (pow-add 2 (suc (b - suc c)) c) ∙ shl-shr (2 ^ suc (b - suc c)) c ∙ pow-suc 2 (b - suc c) in
        let z : 2 ^ b / 2 ^ c % 2 ≡ 0 =
        ap (λ (x : ℕ). 2 ^ x / 2 ^ c % 2) s ∙ ap (λ (x : ℕ). x % 2) q ∙ mul-mod_left (2 ^ (b - suc c)) 2 in
        let n : eqb b c ≡ false = ne_eqb b c (λ q. omega arith) in
        rw (z, n)
    go false false et eu =
        let e : b ≡ c = omega (arith, ltb-false) in
        let one : 2 ^ c / 2 ^ c ≡ 1 = ap (λ (x : ℕ). x / 2 ^ c) (sym (one-mul (2 ^ c))) ∙ shl-shr 1 c in
        rw (e, one) (sym (eq-eqb c c refl))

-- a bit of a word in which bit b is set now
mark-bit : (w b c : ℕ) → eqb (bit_or w (2 ^ b) / 2 ^ c % 2) 1 ≡ (eqb (w / 2 ^ c % 2) 1 || eqb b c)
mark-bit w b c =
    let lx : w / 2 ^ c % 2 < 2 = omega arith in
    let ly : 2 ^ b / 2 ^ c % 2 < 2 = omega arith in
    ap (λ (x : ℕ). eqb (x % 2) 1) (or_shr w (2 ^ b) c)
    ∙ ap (λ (x : ℕ). eqb x 1) (or_mod (w / 2 ^ c) (2 ^ b / 2 ^ c) 1)
    ∙ or-bit (w / 2 ^ c % 2) (2 ^ b / 2 ^ c % 2) lx ly
    ∙ ap (λ (t : Bool). eqb (w / 2 ^ c % 2) 1 || t) (power-bit b c)

-- a packet is marked exactly if it was or is the one marked now
mark-with : (m : List ℕ) (p q : ℕ) → 1 ≤ p → 1 ≤ q → word_of p < length m → mark_at (with_mark m p) q ≡ (mark_at m q || eqb p q)
unfolding mark_at with_mark
mark-with m p q hp hq l = go (eqb (word_of p) (word_of q)) refl
  where
    go : (t : Bool) → eqb (word_of p) (word_of q) ≡ t → mark_at (with_mark m p) q ≡ (mark_at m q || eqb p q)
    go true e =
        let w : word_of p ≡ word_of q = eqb-true _ _ e in
        let b : eqb (bit_of p) (bit_of q) ≡ eqb p q = same_test (bit_of p) (bit_of q) p q (λ k. omega arith) (λ k. ap bit_of k) in
        rw (← w, get_or-set_same m (word_of p) (bit_or (get_or m (word_of p) 0) (2 ^ bit_of p)) 0 l, mark-bit, b)
    go false e =
        let n : word_of q ≢ word_of p = λ k. eqb-false _ _ e (sym k) in
        let d : eqb p q ≡ false = ne_eqb p q (λ k. n (ap word_of (sym k))) in
        rw (get_or-set_other m (word_of p) (word_of q) (bit_or (get_or m (word_of p) 0) (2 ^ bit_of p)) 0 n, d, or-false)

-- no packet is marked where every word is 0
marked-none : (s : ℕ) → mark_at (replicate mark_words 0) s ≡ false
unfolding mark_at
marked-none s = rw (zero (word_of s), zero-div)
  where
    zero : (i : ℕ) → ◌≡◌ {A = ℕ} (get_or (replicate mark_words 0) i 0) 0
    zero i = go (ltb i mark_words) refl
      where
        go : (t : Bool) → ltb i mark_words ≡ t → ◌≡◌ {A = ℕ} (get_or (replicate mark_words 0) i 0) 0
        go true e = get_or-replicate mark_words i 0 0 (ltb-true _ _ e)
        go false e = get_or-eq_default (replicate mark_words 0) 0 {n = i} (ltb-false _ _ e)

-- the marks after some arrivals
unfoldable pub marks_of : List Arrival → List ℕ
marks_of fs = foldl (λ (m : List ℕ) (a : Arrival). with_mark m a.number) (replicate mark_words 0) fs

pub marks-more : (fs : List Arrival) (a : Arrival) → marks_of (fs ++ (a ∷ [])) ≡ with_mark (marks_of fs) a.number
unfolding marks_of
marks-more fs a = fold_more _ _ fs a

-- they stay as many words
length-marks : (fs : List Arrival) → length (marks_of fs) ≡ mark_words
unfolding marks_of with_mark
length-marks = snoc-ind (λ (fs : List Arrival). length (marks_of fs) ≡ mark_words) more refl
  where
    more : (fs : List Arrival) (a : Arrival) → length (marks_of fs) ≡ mark_words → length (marks_of (fs ++ (a ∷ []))) ≡ mark_words
    more fs a e = rw marks-more (simp length-set e)

-- a packet is marked exactly if it is among the arrivals
pub marked-is-arrived : (fs : List Arrival) → All (OfPackets sent_most) fs → (s : ℕ) → 1 ≤ s → mark_at (marks_of fs) s ≡ has s fs
unfolding marks_of has
marked-is-arrived =
    snoc-ind (λ (fs : List Arrival). All (OfPackets sent_most) fs → (s : ℕ) → 1 ≤ s → mark_at (marks_of fs) s ≡ has s fs) more
    (λ h s l. marked-none s)
  where
    more : (fs : List Arrival) (a : Arrival)
        → (All (OfPackets sent_most) fs → (s : ℕ) → 1 ≤ s → mark_at (marks_of fs) s ≡ has s fs)
        → All (OfPackets sent_most) (fs ++ (a ∷ []))
        → (s : ℕ) → 1 ≤ s → mark_at (marks_of (fs ++ (a ∷ []))) s ≡ has s (fs ++ (a ∷ []))
    more fs a h g s l =
        let n : OfPackets sent_most a = (all_right (OfPackets sent_most) fs (a ∷ []) g).0 in
        let w : word_of a.number < length (marks_of fs) = rw (length-marks fs) (omega arith) in
        rw (has_more, marks-more)
        (mark-with (marks_of fs) a.number s n.low l w
        ∙ ap (λ (t : Bool). t || eqb a.number s) (h (all_left (OfPackets sent_most) fs (a ∷ []) g) s l))
