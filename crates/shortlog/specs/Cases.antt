-- Logs of short numbers: statements over a table of them. The calls' contracts carry them. Assumes nothing.
use Rattle.std.specs.Prelude.{ℕ, List, [], ◌∷◌, map, ◌≡◌}
use Rattle.octets.specs.Text.{ascii}
use Rattle.rfc4737.specs.Judge.{numbers_of}
use Rattle.shortnumbers.specs.Number.{range_of}
use Rattle.textlog.specs.declared.LogJudgement.{LogJudgement}
use Rattle.shortlog.specs.Found.{found_arrivals, judge_short_log}

-- a log of short numbers, their width in bits, K, and the judgement of the log
pub record ShortLogCase : Type 0 where
  pub width : ℕ
  pub k : ℕ
  pub log : List ℕ
  pub judgement : LogJudgement

-- a case whose log is accepted, with its number of arrivals
abbrev pub accepted_case : (width k : ℕ) → List ℕ → (arrivals : ℕ) → ShortLogCase
accepted_case w k log n = record { width = w; k = k; log = log; judgement = record { refusal = 0; arrivals = n; line = 0 } }

-- a case whose log is refused, with the refusal and the refused line
abbrev pub refused_case : (width k : ℕ) → List ℕ → (refusal line : ℕ) → ShortLogCase
refused_case w k log r n = record { width = w; k = k; log = log; judgement = record { refusal = r; arrivals = 0; line = n } }

-- a wrap at 256, and a late number across it
abbrev pub log_of8 : List ℕ
log_of8 = ascii "100;1\n200;2\n255;3\n0;4\n3;5\n254;6\n"

-- a wrap at 1,024, and a late number across it
abbrev pub log_of10 : List ℕ
log_of10 = ascii "500;1\n1000;2\n1023;3\n0;4\n5;5\n1020;6\n"

-- accepted and refused logs
abbrev pub short_log_cases : List ShortLogCase
short_log_cases =
    accepted_case 8 259 log_of8 6 ∷ accepted_case 10 1029 log_of10 6
    -- the number found is over K
    ∷ refused_case 8 258 log_of8 6 5 ∷ refused_case 10 1028 log_of10 6 5
    -- 0 as the first number, and one that is found below 1
    ∷ refused_case 8 400 (ascii "0;1\n") 6 1 ∷ refused_case 8 400 (ascii "200;1\n") 6 1
    -- over the width of 8 bits, and not of 10
    ∷ refused_case 8 400 (ascii "1;1\n256;2\n") 6 2 ∷ accepted_case 10 400 (ascii "1;1\n256;2\n") 2
    -- 7, 6 before 7, and the first of two refused lines decides
    ∷ refused_case 8 400 (ascii "1;2\n2;0,999\n") 7 2 ∷ refused_case 8 400 (ascii "1;2\n0;0,999\n") 6 2
    ∷ refused_case 8 400 (ascii "1;1\nx\n0;1\n") 14 2 ∷ refused_case 8 400 (ascii "1;1\n0;1\nx\n") 6 2
    -- K before the first line
    ∷ refused_case 8 0 (ascii "x\n") 4 0
    ∷ []

-- each log has the judgement of the table, and two logs have these full numbers
pub record ShortLogsAsGiven : Type 0 where
  pub judged : map (λ (c : ShortLogCase). judge_short_log (range_of c.width) c.k c.log) short_log_cases
      ≡ map (λ (c : ShortLogCase). c.judgement) short_log_cases
  pub eight : numbers_of (found_arrivals (range_of 8) log_of8) ≡ (100 ∷ 200 ∷ 255 ∷ 256 ∷ 259 ∷ 254 ∷ [])
  pub ten : numbers_of (found_arrivals (range_of 10) log_of10) ≡ (500 ∷ 1000 ∷ 1023 ∷ 1024 ∷ 1029 ∷ 1020 ∷ [])
