use Rattle.std.proofs.Common.{rules, length, ap, ◌∙◌, sym, ℕ, List}
use Rattle.cases.proofs.Parts.{split-some, split-none, split-empty}
use Rattle.cases.proofs.text.PartsIterator.next.Goals as goal

pub returns-then-is_empty-clause-steps : goal.returns-then-is_empty-clause-steps
returns-then-is_empty-clause-steps c = let e = split-empty c.args.self.now.separator c.args.self.now.rest.now (sym c.if-is_empty.true ∙ c.is_empty.ensures) in (e, e)

pub returns-in-Some-clause-steps : goal.returns-in-Some-clause-steps
returns-in-Some-clause-steps c = split-some _ _ _ c.in-Some.ensures

pub returns-in-Some-clause-goes : goal.returns-in-Some-clause-goes
returns-in-Some-clause-goes c =
    let l = ap (length {A = List ℕ}) (split-some c.args.self.now.separator c.args.self.now.rest.now c.in-Some.end c.in-Some.ensures) in
    search rules

pub returns-in-None-clause-steps : goal.returns-in-None-clause-steps
returns-in-None-clause-steps c = split-none _ _ (sym c.is_empty.ensures ∙ c.if-is_empty.false) c.in-None.ensures

pub returns-in-None-clause-goes : goal.returns-in-None-clause-goes
returns-in-None-clause-goes c =
    let l = ap (length {A = List ℕ}) (split-none c.args.self.now.separator c.args.self.now.rest.now (sym c.is_empty.ensures ∙ c.if-is_empty.false) c.in-None.ensures) in
    search rules
