-- `cases::lists::fill`: all elements are the numbers of the text, as many as there are or as the list has room for, and what stands after
-- them is as it was.
use Rattle.std.proofs.Common.{◌≡◌, ◌<◌, ℕ, min, List, ◌++◌, map, length, get_or, drop, sym, ap, ◌∙◌, arith, rules, length-take, get_or-take}
use Rattle.std.proofs.lemmas.List.{ext_get_or}
use lib.ListN.{length-map, get_or-map}
use Rattle.octets.specs.Memory.{over}
use Rattle.cases.specs.Text.{cut_at, part_number, numbers_in}
use Rattle.cases.specs.Lists.{numbers_within}
use Rattle.cases.proofs.lists.fill.Goals as goal

all-filled : {A : Type 0} (cut : ℕ → A) (t : List ℕ) (old part : List A) (n : ℕ) → n ≡ min (length (cut_at 32 t)) (length old)
    → length part ≡ n → ((k : ℕ) (d : A) → k < n → get_or part k d ≡ cut (get_or (numbers_in t) k 0))
    → part ++ drop n old ≡ over (numbers_within cut (length old) t) old
all-filled cut t old part n e l below =
    let many = length-take (length old) (map cut (numbers_in t)) in
    let mapped = length-map (numbers_in t) cut ∙ length-map (cut_at 32 t) part_number in
    let same = ext_get_or (cut 0) part (numbers_within cut (length old) t) (omega arith)
    (λ k h. below k (cut 0) (omega arith)
    ∙ sym (get_or-take (length old) (map cut (numbers_in t)) k (cut 0) (omega arith) ∙ get_or-map cut (numbers_in t) k 0)) in
    ap (λ k. part ++ drop k old) (sym l) ∙ ap (λ xs. over xs old) same

pub returns-clause-filled : goal.returns-clause-filled
returns-clause-filled g c =
    let n : c.min-filled.result ≡ min (length (cut_at 32 c.args.text.now)) (length c.args.out.now) = search rules in
    let l = length-take c.min-filled.result c.args.out.now in
    all-filled g.T.Element.cut_to c.args.text.now c.args.out.now c.loop-i.element-items c.min-filled.result
    n (omega arith) (λ k d h. c.loop-i.invariant k d (omega arith))
