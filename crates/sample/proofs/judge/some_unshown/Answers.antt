-- What `any` returns, said by the recursion of `some_unshown`.
use Rattle.std.proofs.Common.{◌||◌, ◌∙◌, refl, rules, tests}
use Rattle.std.proofs.lemmas.Iterator.{YieldsList-from_slice}
use Rattle.std.proofs.lemmas.Iterator.Search.{any_from_yields_List}
use Rattle.std.proofs.lemmas.List.Recursion.{same_from_clauses}
use Rattle.std.specs.List.{list_any}
use Rattle.rfc4737.specs.Refusals.{outside}
use Rattle.sample.specs.Format.{shown_least, shown_most}
use Rattle.sample.specs.Judge.{some_unshown}
use Rattle.sample.proofs.judge.some_unshown.Goals as goal

pub returns : goal.returns
unfolding some_unshown
returns c =
    let xs = c.args.octets.now in
    let test = outside shown_least shown_most in
    any_from_yields_List test _ _ _ c.any.ensures.ran (YieldsList-from_slice xs cc) (λ x b q k. search (rules, tests))
    ∙ same_from_clauses (list_any test) some_unshown (λ x r. test x || r) refl (λ _ _. refl) (λ _ _. refl) xs
