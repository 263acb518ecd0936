-- `cases::lists::filled`: the list is filled with the numbers that it has room for, and then the first n elements are those (`cut-off`),
-- where n is how many numbers the text has.
use Rattle.std.proofs.Common.{◌≡◌, ◌+◌, ◌-◌, ℕ, min, List, ◌++◌, map, length, take, drop, ap, ◌∙◌, arith, length-take, length-drop}
use Rattle.std.proofs.lemmas.List.{nil_from_length, append-nil}
use Rattle.std.proofs.Math.Seq.{take-append-add}
use lib.ListN.{length-map}
use Rattle.octets.specs.Memory.{over}
use Rattle.cases.specs.Text.{numbers_in}
use Rattle.cases.specs.Lists.{numbers_within}
use Rattle.cases.proofs.lists.filled.Goals as goal

cut-off : {A : Type 0} (xs old : List A) (n : ℕ) → length xs ≡ min (length old) n → take n (over xs old) ≡ xs
cut-off xs old n e =
    let k : n ≡ length xs + (n - length xs) = omega arith in
    let none = nil_from_length (take (n - length xs) (drop (length xs) old)) (simp (length-take, length-drop) (omega arith)) in
    ap (λ j. take j (over xs old)) k ∙ take-append-add xs (drop (length xs) old) (n - length xs) ∙ ap (λ ys. xs ++ ys) none ∙ append-nil xs

pub returns : goal.returns
returns g c =
    let cut = g.T.Element.cut_to in
    let t = c.args.text.now in
    let old = c.args.out.now in
    let many = length-take (length old) (map cut (numbers_in t)) in
    let mapped = length-map (numbers_in t) cut in
    c.first.ensures ∙ ap (λ n. take n c.fill-n.new.out) c.fill-n.ensures.count ∙ ap (take (length (numbers_in t))) c.fill-n.ensures.filled
    ∙ cut-off (numbers_within cut (length old) t) old (length (numbers_in t)) (omega arith)
