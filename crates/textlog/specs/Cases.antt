-- Lines, logs and a written log: statements over tables of them. The calls' contracts carry them. Assumes nothing.
use Rattle.std.specs.Prelude.{ℕ, List, [], ◌∷◌, map, ◌≡◌}
use Rattle.octets.specs.Text.{ascii}
use Rattle.textlog.specs.Form.{log_of}
use Rattle.textlog.specs.Decode.{DecodedLine, malformed, arrived, decode_line, judge_log}
use Rattle.textlog.specs.declared.LogJudgement.{LogJudgement}

-- lines, each with what it decodes to
abbrev pub line_table : List (List ℕ × DecodedLine)
line_table =
    (ascii "1;4,5\n", arrived (record { number = 1; time = 4500 }))
    ∷ (ascii "1;4.5\n", arrived (record { number = 1; time = 4500 }))
    ∷ (ascii "1;45\n", arrived (record { number = 1; time = 45000 }))
    ∷ (ascii "7;4,05\n", arrived (record { number = 7; time = 4050 }))
    ∷ (ascii "007;0,001\n", arrived (record { number = 7; time = 1 }))
    ∷ (ascii "1;4,\n", malformed)
    -- without its line feed
    ∷ (ascii "1;4", malformed)
    ∷ []

-- logs, each with its judgement for K = 2
abbrev pub log_table : List (List ℕ × LogJudgement)
log_table =
    ([], record { refusal = 0; arrivals = 0; line = 0 })
    ∷ (ascii "1;1\n2;1,5\n", record { refusal = 0; arrivals = 2; line = 0 })
    -- a time may go back by 1,000 microseconds, and not by 1,001; 6 before 7
    ∷ (ascii "1;2\n2;1\n", record { refusal = 0; arrivals = 2; line = 0 })
    ∷ (ascii "1;2\n2;0,999\n", record { refusal = 7; arrivals = 0; line = 2 })
    ∷ (ascii "1;2\n3;0,999\n", record { refusal = 6; arrivals = 0; line = 2 })
    -- a time is held to the greatest of the lines before
    ∷ (ascii "1;2\n2;1,5\n1;1\n", record { refusal = 0; arrivals = 3; line = 0 })
    ∷ (ascii "1;2\n2;1,5\n1;0,999\n", record { refusal = 7; arrivals = 0; line = 3 })
    -- an empty line; the first of two refused lines decides
    ∷ (ascii "1;1\n\n", record { refusal = 14; arrivals = 0; line = 2 })
    ∷ (ascii "3;1\n\n", record { refusal = 6; arrivals = 0; line = 1 })
    ∷ []

-- each line decodes, and each log is judged, as its table says
pub record LinesReadAsGiven : Type 0 where
  pub decoded : map (λ (c : List ℕ × DecodedLine). decode_line c.0) line_table ≡ map (λ (c : List ℕ × DecodedLine). c.1) line_table
  pub judged : map (λ (c : List ℕ × LogJudgement). judge_log 2 c.0) log_table ≡ map (λ (c : List ℕ × LogJudgement). c.1) log_table

-- packet 1 at 4,500 and packet 20 at 7 microseconds
pub record LinesWrittenAsGiven : Type 0 where
  pub written : log_of (record { number = 1; time = 4500 } ∷ record { number = 20; time = 7 } ∷ []) ≡ ascii "1;4,500\n20;0,007\n"
