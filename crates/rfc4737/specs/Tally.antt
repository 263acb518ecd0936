-- The extent tally, a term of the scope, over the answers of a sample. It has 101 counts: the one at place e, 1 to 100, is of the extent e,
-- and the one at place 0 of all greater extents. Assumes nothing.
use Rattle.std.specs.Prelude.{ℕ, ◌+◌, cond, leb, get_or, set, replicate}
use mathlib.Core.List.{List, foldl}
use Rattle.rfc4737.specs.declared.Answer.{Answer}
use Rattle.rfc4737.specs.declared.Answer.TheVariants.{Duplicate, InOrder, Reordered}

-- the greatest extent that has a place of its own
abbrev pub tally_most : ℕ
tally_most = 100

-- the number of places of a tally
abbrev pub tally_places : ℕ
tally_places = 101

-- the place of an extent
unfoldable pub tally_place : ℕ → ℕ
tally_place extent = cond (leb extent tally_most) extent 0

-- the count at place `at` raised by 1
unfoldable pub one_more_at : ℕ → List ℕ → List ℕ
one_more_at at t = set t at (get_or t at 0 + 1)

-- the tally after the next answer
unfoldable pub tally_after : List ℕ → Answer → List ℕ
tally_after t (Duplicate d) = t
tally_after t (InOrder d) = t
tally_after t (Reordered d) = one_more_at (tally_place d.extent) t

-- the tally of a sample
unfoldable pub tally : List Answer → List ℕ
tally l = foldl tally_after (replicate tally_places 0) l
