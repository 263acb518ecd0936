-- The tables of short numbers and of the numbers found for them, by computation of the definitions that it opens. Assumes nothing.
use mathlib.Core.Path.{refl}
use Rattle.shortnumbers.specs.Number.{number_found}
use Rattle.shortnumbers.specs.InTurn.{greatest_of, in_turn}
use Rattle.shortnumbers.specs.Cases.{FoundAsGiven}

pub found-as-given : FoundAsGiven
unfolding number_found in_turn greatest_of
found-as-given = record { one = refl; list = refl }
