-- The place that was found is the one that the definition finds, and past the last place it finds none. Below the dropped number the
-- figures are from the first place, which holds the oldest kept jump, else from the place found.
use Rattle.std.proofs.Common.{arith}
use Rattle.receiver.specs.Parts.{in_count}
use Rattle.receiver.specs.Kept.{held_of, kept_of}
use Rattle.receiver.proofs.Search.{search-found, search-none}
use Rattle.receiver.proofs.StepCases.{late-none, late-beyond, late-exact, after-place, oldest-kept}
use Rattle.receiver.proofs.Stream.note_reordered.Goals as goal

pub returns-in_default : goal.returns-in_default
unfolding kept_of
returns-in_default c = late-none _ _ _ (search-none _ _ c.args.self.now.kept _ (omega arith) c.in_default.ensures.first)

pub lateness_from-requires : goal.lateness_from-requires
lateness_from-requires c = after-place _ c.args.number c.args.time c.requires 0 (omega (arith, c.in-Some.ensures.kept))

pub returns-then-number-self : goal.returns-then-number-self
unfolding kept_of
returns-then-number-self c =
    late-beyond _ _ _ _ _ _ (search-found _ _ c.args.self.now.kept _ c.in-Some.ensures.kept c.in-Some.ensures.first)
    c.if-number-self.true
    (oldest-kept (held_of c.args.self.now (in_count c.args.down c.args.places.now)) (omega (arith, c.in-Some.ensures.kept)))
    c.lateness_from.ensures

pub lateness_from-requires-2 : goal.lateness_from-requires-2
lateness_from-requires-2 c = after-place _ c.args.number c.args.time c.requires c.in-Some.found c.in-Some.ensures.kept

pub returns : goal.returns
unfolding kept_of
returns c =
    late-exact _ _ _ _ _ (search-found _ _ c.args.self.now.kept _ c.in-Some.ensures.kept c.in-Some.ensures.first)
    c.if-number-self.false c.lateness_from-2.ensures
