-- Verdicts on listings of the scope's example, found by hand. Assumes nothing.
use Prim.Native.String as text
use Rattle.std.specs.Prelude.{◌≡◌}
use mathlib.Core.List.{List, [], ◌∷◌, map, flatten}
use Rattle.listing.specs.Example.{example_text}
use Rattle.octets.specs.Text.{ascii}
use Rattle.checker.specs.declared.Verdict.{Verdict}
use Rattle.checker.specs.Verdict.{verdict_on}

-- a listing, in parts of text, and its verdict
pub record ListingCase : Type 0 where
  pub given : List text.String
  pub verdict : Verdict

-- the lines of the example without the first and the last
abbrev middle : text.String
middle = "1 1 in 1 0\n2 2 in 2 0\n3 4 in 3 1\n4 5 in 4 0\n5 3 late 5 2 30 200 2\n"

-- the right listing, and wrong ones: a line differs, is missing or is extra, at the start, in the middle or at the end
unfoldable pub listing_cases : List ListingCase
listing_cases =
    record { given = "sent 5 arrivals 5\n" ∷ middle ∷ "end 5 1 0 1 16 0\n" ∷ []; verdict = Verdict.Agrees }
    ∷ record { given = "sent 5 arrivals 4\n" ∷ middle ∷ "end 5 1 0 1 16 0\n" ∷ []; verdict = Verdict.WrongLine 1 }
    ∷ record { given = middle ∷ "end 5 1 0 1 16 0\n" ∷ []; verdict = Verdict.WrongLine 1 }
    ∷ record { given = "\nsent 5 arrivals 5\n" ∷ middle ∷ "end 5 1 0 1 16 0\n" ∷ []; verdict = Verdict.WrongLine 1 }
    ∷ record { given = "sent 5 arrivals 5\r\n" ∷ middle ∷ "end 5 1 0 1 16 0\n" ∷ []; verdict = Verdict.WrongLine 1 }
    ∷ record { given = "sent 5 arrivals 5\n1 1 in 1 -0\n" ∷ []; verdict = Verdict.WrongLine 2 }
    ∷ record { given = "sent 5 arrivals 5\n1 1 in 1 0\n2 2 in 02 0\n" ∷ []; verdict = Verdict.WrongLine 3 }
    ∷ record { given = "sent 5 arrivals 5\n1 1 in 1 0\n3 4 in 3 1\n" ∷ []; verdict = Verdict.WrongLine 3 }
    ∷ record { given = "sent 5 arrivals 5\n1 1 in 1 0\n1 1 in 1 0\n" ∷ []; verdict = Verdict.WrongLine 3 }
    ∷ record { given = "sent 5 arrivals 5\n" ∷ middle ∷ "end 5 1 0 1 16 0 \n" ∷ []; verdict = Verdict.WrongLine 7 }
    ∷ record { given = "sent 5 arrivals 5\n" ∷ middle ∷ []; verdict = Verdict.WrongLine 7 }
    ∷ record { given = "sent 5 arrivals 5\n" ∷ middle ∷ "end 5 1 0 1 16 0" ∷ []; verdict = Verdict.WrongLine 7 }
    ∷ record { given = "sent 5 arrivals 5\n" ∷ middle ∷ "end 5 1 0 1 16 0\n\n" ∷ []; verdict = Verdict.WrongLine 8 }
    ∷ record { given = "sent 5 arrivals 5\n" ∷ middle ∷ "end 5 1 0 1 16 0\nx" ∷ []; verdict = Verdict.WrongLine 8 }
    ∷ record { given = "refused 6\n" ∷ []; verdict = Verdict.WrongLine 1 }
    ∷ record { given = []; verdict = Verdict.WrongLine 1 }
    ∷ []

-- the definition gives these verdicts
abbrev pub ListingCasesHold : Type 0
ListingCasesHold =
    map (λ (c : ListingCase). verdict_on example_text (flatten (map ascii c.given))) listing_cases
    ≡ map (λ (c : ListingCase). c.verdict) listing_cases
