-- If no arrival is a fragment, the flags are those of the answers of rfc4737. A copy is then an arrival whose number came before
-- (`copy-whole`). FragSeq# and NextExpFrag stay 0. So an arrival is reordered exactly if its number is below NextExp, and NextExp changes
-- as in rfc4737 (`reordered-whole`, `after-whole`). By induction over the arrivals from the last, only NextExp is expected
-- (`expected-whole`). So each flag is that of the answer (`flag-whole`), and so are all of them. l are the arrivals before, a is the next
-- one, n is NextExp, c says that no arrival is a fragment and w that a is whole. Assumes nothing.
use Prim.Native.Nat.{ℕ, ◌+◌}
use native.Mathlib.Omega.{arith}
use mathlib.Core.Bool.{Bool, true, false, cond, not, or-false, and-true, and-false}
use mathlib.Core.Path.{◌≡◌, refl, sym, ap, ◌∙◌}
use mathlib.Core.List.{List, [], ◌∷◌, ◌++◌, map, foldl, flatten, append-nil, map-append}
use borrow.Author.Tests.{not-false, leb-true, leb-false, le-ltb, lt-ltb}
use lib.Dec.{leb, ltb, eqb}
use Rattle.rfc4737.specs.declared.Answer.TheVariants.{Duplicate}
use Rattle.rfc4737.specs.Arrivals.{has, with_arrival, each, each_after}
use Rattle.rfc4737.specs.Arrivals as base
use Rattle.rfc4737.specs.Order.{next_after, next_exp, is_in_order}
use Rattle.rfc4737.specs.Answer.{in_order_answer, reordered_answer, first_answer, answer_to, answers}
use Rattle.rfc4737.specs.Numbering.{in_order_number, reordered_after_number, duplicate_number}
use Rattle.rfc4737.specs.Extent.{discontinuity}
use Rattle.rfc4737.proofs.Lists.{snoc-ind, each_more, flatten-more}
use Rattle.rfc4737.proofs.Arrivals.{fold_more, firsts_more, has-firsts}
use Rattle.rfc4737.proofs.Folds.{next_more}
use Rattle.fragments.specs.declared.Piece.{Piece}
use Rattle.fragments.specs.declared.Expected.{Expected}
use Rattle.fragments.specs.Pieces.{arrival_of, any, is_last, is_whole, copies, is_copy, first_after, no_copies}
use Rattle.fragments.specs.Order.{at_start, is_reordered_fragment, in_order_after, expected_after, expected, flag_after, flags}
use Rattle.fragments.specs.Whole.{order_flag, WholeFlags}
use Rattle.rfc4737.proofs.Tests.{neither}
use Rattle.fragments.proofs.Laws.{both, any-more}

-- some arrival is a fragment
abbrev cut : List Piece → Bool
cut l = any (λ (a : Piece). not (is_whole a)) l

-- of whole packets the number alone decides
copy-whole : (l : List Piece) (a : Piece) → is_whole a ≡ true → cut l ≡ false → is_copy l a ≡ has a.number (map arrival_of l)
unfolding is_copy any copies has
copy-whole [] a w c = refl
copy-whole (b ∷ l) a w c =
    let n = neither (not (is_whole b)) (cut l) c in
    rw (w, not-false (is_whole b) n.0, and-true (eqb b.number a.number), copy-whole l a w n.1)

-- ---- under one arrival more

-- those that are no copies
firsts-more-piece : (l : List Piece) (a : Piece) → no_copies (l ++ (a ∷ [])) ≡ no_copies l ++ first_after l a
unfolding no_copies
firsts-more-piece l a = rw (each_more first_after l a) (flatten-more (each first_after l) (first_after l a))

-- a copy changes nothing of what is expected
pub expected-more : (l : List Piece) (a : Piece) → expected (l ++ (a ∷ [])) ≡ cond (is_copy l a) (expected l) (expected_after (expected l) a)
unfolding expected first_after
expected-more l a = ap (foldl expected_after at_start) (firsts-more-piece l a) ∙ go (is_copy l a)
  where
    go : (t : Bool) → foldl expected_after at_start (no_copies l ++ cond t [] (a ∷ []))
        ≡ cond t (foldl expected_after at_start (no_copies l)) (expected_after (foldl expected_after at_start (no_copies l)) a)
    go true = ap (foldl expected_after at_start) (append-nil (no_copies l))
    go false = fold_more expected_after at_start (no_copies l) a

-- some arrival is cut, under one arrival more
uncut : (l : List Piece) (a : Piece) → cut (l ++ (a ∷ [])) ≡ false → (cut l ≡ false) × (is_whole a ≡ true)
uncut l a c =
    let n = neither (cut l) (not (is_whole a)) (sym (any-more (λ (a : Piece). not (is_whole a)) l a) ∙ c) in
    (n.0, not-false (is_whole a) n.1)

-- ---- no fragment is under evaluation

-- NextExp alone
abbrev next_only : ℕ → Expected
next_only n = record { next = n; packet = 0; fragment = 0 }

reordered-whole : (n : ℕ) (a : Piece) → is_reordered_fragment (next_only n) a ≡ ltb a.number n
unfolding is_reordered_fragment
reordered-whole n a =
    rw (
      le-ltb a.number 0 (omega arith),
      le-ltb a.offset 0 (omega arith),
      and-false (eqb a.number 0),
      and-false (leb n a.number),
    )
    (or-false (ltb a.number n))

after-whole : (n : ℕ) (a : Piece) → is_last a ≡ true → expected_after (next_only n) a ≡ next_only (next_after n a.number)
unfolding expected_after in_order_after next_after
after-whole n a w = rw (reordered-whole n a, w) (go (leb n a.number) refl)
  where
    go : (t : Bool) → leb n a.number ≡ t → cond (ltb a.number n) (next_only n) (next_only (a.number + 1))
        ≡ next_only (cond t (a.number + 1) n)
    go true e = rw (le-ltb a.number n (leb-true n a.number e))
    go false e = rw (lt-ltb a.number n (leb-false n a.number e))

-- NextExp of the base
base_next : List Piece → ℕ
base_next l = next_exp (base.firsts (map arrival_of l))

base_next-more : (l : List Piece) (a : Piece) → base_next (l ++ (a ∷ []))
    ≡ cond (has a.number (map arrival_of l)) (base_next l) (next_after (base_next l) a.number)
unfolding base_next with_arrival
base_next-more l a =
    rw (map-append arrival_of l (a ∷ []), firsts_more (map arrival_of l) (arrival_of a), has-firsts a.number (map arrival_of l))
    (go (has a.number (map arrival_of l)))
  where
    go : (t : Bool) → next_exp (cond t (base.firsts (map arrival_of l)) (base.firsts (map arrival_of l) ++ (arrival_of a ∷ [])))
        ≡ cond t (next_exp (base.firsts (map arrival_of l))) (next_after (next_exp (base.firsts (map arrival_of l))) a.number)
    go true = refl
    go false = next_more (base.firsts (map arrival_of l)) (arrival_of a)

-- what is expected is the base's NextExp alone
expected-whole : (l : List Piece) → cut l ≡ false → expected l ≡ next_only (base_next l)
unfolding expected no_copies each each_after flatten base_next base.firsts next_exp
expected-whole = snoc-ind (λ (l : List Piece). cut l ≡ false → expected l ≡ next_only (base_next l)) more (λ c. refl)
  where
    go : (n : ℕ) (a : Piece) → is_last a ≡ true → (t : Bool) → cond t (next_only n) (expected_after (next_only n) a)
        ≡ next_only (cond t n (next_after n a.number))
    go n a w true = refl
    go n a w false = after-whole n a w

    more : (l : List Piece) (a : Piece) → (cut l ≡ false → expected l ≡ next_only (base_next l)) → cut (l ++ (a ∷ [])) ≡ false
        → expected (l ++ (a ∷ [])) ≡ next_only (base_next (l ++ (a ∷ [])))
    more l a h c =
        let u = uncut l a c in
        rw (expected-more l a, h u.0, copy-whole l a u.1 u.0, base_next-more l a)
        (go (base_next l) a (both (is_last a) (eqb a.offset 0) u.1).0 (has a.number (map arrival_of l)))

-- the flag of an arrival is that of the base's answer
flag-whole : (l : List Piece) (a : Piece) (size : ℕ → ℕ) → cut l ≡ false → is_whole a ≡ true
    → flag_after l a ≡ order_flag (answer_to size (map arrival_of l) (arrival_of a))
unfolding flag_after answer_to first_answer is_in_order in_order_answer reordered_answer base_next
flag-whole l a size c w =
    rw (copy-whole l a w c, expected-whole l c, reordered-whole (base_next l) a)
    (go (has a.number (map arrival_of l)) (leb (base_next l) a.number) refl)
  where
    go : (t u : Bool) → leb (base_next l) a.number ≡ u
        → cond t duplicate_number (cond (ltb a.number (base_next l)) reordered_after_number in_order_number)
        ≡ order_flag (cond t (Duplicate (record { first = base.first_record a.number (map arrival_of l) }))
        (cond u (in_order_answer (base.firsts (map arrival_of l)) (arrival_of a))
        (reordered_answer size (base.firsts (map arrival_of l)) (arrival_of a) (discontinuity (base.firsts (map arrival_of l)) a.number))))
    go true u e = refl
    go false true e = rw (le-ltb a.number (base_next l) (leb-true (base_next l) a.number e))
    go false false e = rw (lt-ltb a.number (base_next l) (leb-false (base_next l) a.number e))

pub whole-flags : (l : List Piece) → WholeFlags l
unfolding WholeFlags flags answers each each_after
whole-flags l c size = snoc-ind Same more (λ c. refl) l c
  where
    Same : List Piece → Type 0
    Same l = cut l ≡ false → each flag_after l ≡ map order_flag (each (answer_to size) (map arrival_of l))

    more : (l : List Piece) (a : Piece) → Same l → Same (l ++ (a ∷ []))
    more l a h c =
        let u = uncut l a c in
        rw (
          each_more flag_after l a,
          map-append arrival_of l (a ∷ []),
          each_more (answer_to size) (map arrival_of l) (arrival_of a),
          h u.0,
          flag-whole l a size u.0 u.1,
        )
        (sym (map-append order_flag (each (answer_to size) (map arrival_of l)) (answer_to size (map arrival_of l) (arrival_of a) ∷ [])))
