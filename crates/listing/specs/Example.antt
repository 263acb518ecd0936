-- The scope's example, case P1, and the report that must be printed of it. Assumes nothing.
use Rattle.std.specs.Prelude.{ℕ, ◌≡◌}
use mathlib.Core.List.{List, [], ◌∷◌, map, flatten}
use Rattle.octets.specs.Text.{ascii}
use Rattle.rfc4737.specs.Cases.{Case, measured, p1}
use Rattle.listing.specs.Lines.{listing_of}

-- the text as the scope has it
abbrev pub example_text : List ℕ
example_text =
    flatten
    (map ascii
    ("sent 5 arrivals 5\n"
    ∷ "1 1 in 1 0\n"
    ∷ "2 2 in 2 0\n"
    ∷ "3 4 in 3 1\n"
    ∷ "4 5 in 4 0\n"
    ∷ "5 3 late 5 2 30 200 2\n"
    ∷ "end 5 1 0 1 16 0\n"
    ∷ []))

-- the listing of a case by the definitions
unfoldable pub listing_of_case : Case → List ℕ
listing_of_case c = listing_of c.sent c.arrivals (measured c).answers (measured c).counts

-- the listing of the example is this text
abbrev pub ExampleHolds : Type 0
ExampleHolds = listing_of_case p1 ≡ example_text
