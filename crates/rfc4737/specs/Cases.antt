-- The cases P1 to P9 of the scope, and two that are added here: P10 for request 2 and P11 for request 5. Each case has K, the arrivals and
-- the figures that must come of them; `CasesHold` says that the definitions give these figures. Unless a case says otherwise, K is the
-- greatest number that arrives, every size is 100, and record r arrives at 10 times r. A ratio is written as the quotient of two counts;
-- a table at the end gives some quotients as f64. Assumes nothing.
use Rattle.std.specs.Prelude.{ℕ, ◌+◌, ◌-◌, ◌*◌, ◌≡◌, false, cond, pos, negsuc, Float, length, set, replicate, Some, None}
use mathlib.Core.List.{List, [], ◌∷◌, map, foldl, flatten}
use Rattle.std.specs.Float.{fin}
use Rattle.rfc4737.specs.declared.Arrival.{Arrival}
use Rattle.rfc4737.specs.declared.Answer.{Answer}
use Rattle.rfc4737.specs.declared.Answer.TheVariants.{Duplicate, InOrder, Reordered}
use Rattle.rfc4737.specs.declared.LateTime.TheVariants.{After, Before}
use Rattle.rfc4737.specs.declared.Counts.{Counts}
use Rattle.rfc4737.specs.declared.Ratios.{Ratios}
use Rattle.rfc4737.specs.Arrivals.{each}
use Rattle.rfc4737.specs.Extent.{size_in}
use Rattle.rfc4737.specs.Judge.{arrivals_from}
use Rattle.rfc4737.specs.Ratios.{quotient}
use Rattle.rfc4737.specs.Answer as answer
use Rattle.rfc4737.specs.Gaps as gap
use Rattle.rfc4737.specs.Gaps.{Gap}
use Rattle.rfc4737.specs.Runs as run
use Rattle.rfc4737.specs.Tally as tallying
use Rattle.rfc4737.specs.Ratios as ratio

-- the figures of a sample; `lengths` are those of the closed runs, in order
pub record Figures : Type 0 where
  pub answers : List Answer
  pub discontinuities : List ℕ
  pub gaps : List Gap
  pub lengths : List ℕ
  pub tally : List ℕ
  pub counts : Counts
  pub ratios : Ratios

pub record Case : Type 0 where
  pub sent : ℕ
  pub arrivals : List Arrival
  pub given : Figures

-- the length of the run that answer a closes, after the answers `before`; nothing if it closes none
unfoldable pub closes : List Answer → Answer → List ℕ
closes before a = cond (run.is_reordered a) ((run.runs before).current ∷ []) []

-- the figures of a sample by its answers
unfoldable pub case_figures : List Answer → Figures
case_figures l =
    record {
      answers = l;
      discontinuities = gap.discontinuities l;
      gaps = gap.gaps l;
      lengths = flatten (each closes l);
      tally = tallying.tally l;
      counts = run.counts l;
      ratios = ratio.ratios l;
    }

-- the figures of a case by the definitions
unfoldable pub measured : Case → Figures
measured c = case_figures (answer.answers (size_in (replicate c.sent 100)) c.arrivals)

-- ---- how the table is written

-- arrivals with these numbers, where record r arrives at 10 times r
unfoldable pub every_ten : List ℕ → List Arrival
every_ten ns = each (λ (before : List ℕ) (n : ℕ). record { number = n; time = 10 * (length before + 1) }) ns

abbrev copy : ℕ → Answer
copy first = Duplicate (record { first = first })

abbrev in_order : ℕ → ℕ → Answer
in_order position jump = InOrder (record { position = position; jump = jump })

abbrev late : ℕ → ℕ → ℕ → ℕ → ℕ → Answer
late position extent time offset largest =
    Reordered (record { position = position; extent = extent; late = After time; offset = offset; largest = largest })

abbrev late_before : ℕ → ℕ → ℕ → ℕ → ℕ → Answer
late_before position extent time offset largest =
    Reordered (record { position = position; extent = extent; late = Before time; offset = offset; largest = largest })

-- the gaps of n records: `places` has pairs of record and gap; the other records have none
unfoldable pub with_gaps : ℕ → List (ℕ × ℕ) → List Gap
with_gaps n places = foldl (λ (g : List Gap) (p : ℕ × ℕ). set g (p.0 - 1) (Some p.1)) (replicate n None) places

abbrev no_gaps : ℕ → List Gap
no_gaps n = replicate n None

-- a tally: `places` has pairs of place and count; the other counts are 0
unfoldable pub tallied : List (ℕ × ℕ) → List ℕ
tallied places = foldl (λ (t : List ℕ) (p : ℕ × ℕ). set t p.0 p.1) (replicate tallying.tally_places 0) places

abbrev totals : ℕ → ℕ → ℕ → ℕ → ℕ → ℕ → ℕ → Counts
totals arrived reordered duplicates inorder closed squares current =
    record {
      arrived = arrived;
      reordered = reordered;
      duplicates = duplicates;
      inorder = inorder;
      runs = record { closed = closed; squares = squares; current = current };
    }

abbrev known : Float → Float → Float → Ratios
known reordered degree1 degree3 = Ratios.Known (record { reordered = reordered; degree1 = degree1; degree3 = degree3 })

-- ---- the table

-- P1: the report's sample
unfoldable pub p1 : Case
p1 =
    record {
      sent = 5;
      arrivals = arrivals_from (1 ∷ 2 ∷ 4 ∷ 5 ∷ 3 ∷ []) (10 ∷ 20 ∷ 40 ∷ 50 ∷ 70 ∷ []);
      given =
          record {
            answers =
                in_order 1 0 ∷ in_order 2 0 ∷ in_order 3 1 ∷ in_order 4 0 ∷ late 5 2 30 200 2 ∷ [];
            discontinuities = 3 ∷ [];
            gaps = no_gaps 5;
            lengths = 4 ∷ [];
            tally = tallied ((2, 1) ∷ []);
            counts = totals 5 1 0 4 1 16 0;
            ratios = known (quotient 1 5) (quotient 1 5) (quotient 0 5);
          };
    }

-- P2 (RFC 4737, section 7.3)
unfoldable pub p2 : Case
p2 =
    record {
      sent = 11;
      arrivals =
          arrivals_from (1 ∷ 2 ∷ 3 ∷ 7 ∷ 8 ∷ 9 ∷ 10 ∷ 4 ∷ 5 ∷ 6 ∷ 11 ∷ [])
          (68 ∷ 88 ∷ 108 ∷ 188 ∷ 208 ∷ 228 ∷ 248 ∷ 250 ∷ 252 ∷ 256 ∷ 268 ∷ []);
      given =
          record {
            answers =
                in_order 1 0 ∷ in_order 2 0 ∷ in_order 3 0 ∷ in_order 4 3 ∷ in_order 5 0
                ∷ in_order 6 0 ∷ in_order 7 0 ∷ late 8 4 62 400 4 ∷ late 9 5 64 400 0 ∷ late 10 6 68 400 0
                ∷ in_order 11 0 ∷ [];
            discontinuities = 4 ∷ [];
            gaps = no_gaps 11;
            lengths = 7 ∷ 0 ∷ 0 ∷ [];
            tally = tallied ((4, 1) ∷ (5, 1) ∷ (6, 1) ∷ []);
            counts = totals 11 3 0 8 3 49 1;
            ratios = known (quotient 3 11) (quotient 1 11) (quotient 1 11);
          };
    }

-- P3 (RFC 4737, section 7.4)
unfoldable pub p3 : Case
p3 =
    record {
      sent = 16;
      arrivals = every_ten (1 ∷ 2 ∷ 3 ∷ 6 ∷ 7 ∷ 4 ∷ 5 ∷ 8 ∷ 9 ∷ 10 ∷ 12 ∷ 13 ∷ 11 ∷ 14 ∷ 15 ∷ 16 ∷ []);
      given =
          record {
            answers =
                in_order 1 0 ∷ in_order 2 0 ∷ in_order 3 0 ∷ in_order 4 2 ∷ in_order 5 0
                ∷ late 6 2 20 200 2 ∷ late 7 3 30 200 0 ∷ in_order 8 0 ∷ in_order 9 0 ∷ in_order 10 0
                ∷ in_order 11 1 ∷ in_order 12 0 ∷ late 13 2 20 200 2 ∷ in_order 14 0 ∷ in_order 15 0
                ∷ in_order 16 0 ∷ [];
            discontinuities = 4 ∷ 11 ∷ [];
            gaps = with_gaps 16 ((11, 7) ∷ []);
            lengths = 5 ∷ 0 ∷ 5 ∷ [];
            tally = tallied ((2, 2) ∷ (3, 1) ∷ []);
            counts = totals 16 3 0 13 3 50 3;
            ratios = known (quotient 3 16) (quotient 2 16) (quotient 0 16);
          };
    }

-- P4: largest n falls to 0 while the extent grows
unfoldable pub p4 : Case
p4 =
    record {
      sent = 9;
      arrivals = every_ten (1 ∷ 2 ∷ 3 ∷ 7 ∷ 8 ∷ 9 ∷ 4 ∷ 5 ∷ 6 ∷ []);
      given =
          record {
            answers =
                in_order 1 0 ∷ in_order 2 0 ∷ in_order 3 0 ∷ in_order 4 3 ∷ in_order 5 0
                ∷ in_order 6 0 ∷ late 7 3 30 300 3 ∷ late 8 4 40 300 0 ∷ late 9 5 50 300 0 ∷ [];
            discontinuities = 4 ∷ [];
            gaps = no_gaps 9;
            lengths = 6 ∷ 0 ∷ 0 ∷ [];
            tally = tallied ((3, 1) ∷ (4, 1) ∷ (5, 1) ∷ []);
            counts = totals 9 3 0 6 3 36 0;
            ratios = known (quotient 3 9) (quotient 1 9) (quotient 1 9);
          };
    }

-- P5: a jump of size 8
unfoldable pub p5 : Case
p5 =
    record {
      sent = 10;
      arrivals = every_ten (1 ∷ 10 ∷ 5 ∷ []);
      given =
          record {
            answers =
                in_order 1 0 ∷ in_order 2 8 ∷ late 3 1 10 100 1 ∷ [];
            discontinuities = 2 ∷ [];
            gaps = no_gaps 3;
            lengths = 2 ∷ [];
            tally = tallied ((1, 1) ∷ []);
            counts = totals 3 1 0 2 1 4 0;
            ratios = known (quotient 1 3) (quotient 1 3) (quotient 0 3);
          };
    }

-- P6: a copy
unfoldable pub p6 : Case
p6 =
    record {
      sent = 3;
      arrivals = every_ten (1 ∷ 2 ∷ 2 ∷ 3 ∷ []);
      given =
          record {
            answers =
                in_order 1 0 ∷ in_order 2 0 ∷ copy 2 ∷ in_order 3 0 ∷ [];
            discontinuities = [];
            gaps = no_gaps 4;
            lengths = [];
            tally = tallied [];
            counts = totals 3 0 1 3 0 0 3;
            ratios = known (quotient 0 3) (quotient 0 3) (quotient 0 3);
          };
    }

-- P7: two discontinuities, the earlier one discovered last, so that the later one has no gap
unfoldable pub p7 : Case
p7 =
    record {
      sent = 6;
      arrivals = every_ten (1 ∷ 3 ∷ 6 ∷ 5 ∷ 2 ∷ []);
      given =
          record {
            answers =
                in_order 1 0 ∷ in_order 2 1 ∷ in_order 3 2 ∷ late 4 1 10 100 1 ∷ late 5 3 30 300 3 ∷ [];
            discontinuities = 2 ∷ 3 ∷ [];
            gaps = no_gaps 5;
            lengths = 3 ∷ 0 ∷ [];
            tally = tallied ((1, 1) ∷ (3, 1) ∷ []);
            counts = totals 5 2 0 3 2 9 0;
            ratios = known (quotient 2 5) (quotient 2 5) (quotient 1 5);
          };
    }

-- P8: no arrivals
unfoldable pub p8 : Case
p8 =
    record {
      sent = 1;
      arrivals = every_ten [];
      given =
          record {
            answers =
                [];
            discontinuities = [];
            gaps = no_gaps 0;
            lengths = [];
            tally = tallied [];
            counts = totals 0 0 0 0 0 0 0;
            ratios = Ratios.Undefined;
          };
    }

-- P9: the first arrival is a jump
unfoldable pub p9 : Case
p9 =
    record {
      sent = 3;
      arrivals = every_ten (3 ∷ []);
      given =
          record {
            answers =
                in_order 1 2 ∷ [];
            discontinuities = [];
            gaps = no_gaps 1;
            lengths = [];
            tally = tallied [];
            counts = totals 1 0 0 1 0 0 1;
            ratios = known (quotient 0 1) (quotient 0 1) (quotient 0 1);
          };
    }

-- P10, added here for request 2: discontinuities at 1, 3, 4, discovered at positions 2, 6, 5. The one at 3 has the gap 2; the one at 4
-- has none, since its neighbour 3 is discovered later
unfoldable pub p10 : Case
p10 =
    record {
      sent = 6;
      arrivals = every_ten (2 ∷ 1 ∷ 4 ∷ 6 ∷ 5 ∷ 3 ∷ []);
      given =
          record {
            answers =
                in_order 1 1 ∷ late 2 1 10 100 1 ∷ in_order 3 1 ∷ in_order 4 1 ∷ late 5 1 10 100 1
                ∷ late 6 3 30 300 3 ∷ [];
            discontinuities = 1 ∷ 3 ∷ 4 ∷ [];
            gaps = with_gaps 6 ((3, 2) ∷ []);
            lengths = 1 ∷ 2 ∷ 0 ∷ [];
            tally = tallied ((1, 2) ∷ (3, 1) ∷ []);
            counts = totals 6 3 0 3 3 5 0;
            ratios = known (quotient 3 6) (quotient 3 6) (quotient 1 6);
          };
    }

-- P11, added here for request 5: a clock that steps. Late times before by 1,000, after by 0, before by 1
unfoldable pub p11 : Case
p11 =
    record {
      sent = 6;
      arrivals = arrivals_from (2 ∷ 1 ∷ 4 ∷ 3 ∷ 6 ∷ 5 ∷ []) (2000 ∷ 1000 ∷ 2000 ∷ 2000 ∷ 2000 ∷ 1999 ∷ []);
      given =
          record {
            answers =
                in_order 1 1 ∷ late_before 2 1 1000 100 1 ∷ in_order 3 1 ∷ late 4 1 0 100 1 ∷ in_order 5 1
                ∷ late_before 6 1 1 100 1 ∷ [];
            discontinuities = 1 ∷ 3 ∷ 5 ∷ [];
            gaps = with_gaps 6 ((3, 2) ∷ (5, 2) ∷ []);
            lengths = 1 ∷ 1 ∷ 1 ∷ [];
            tally = tallied ((1, 3) ∷ []);
            counts = totals 6 3 0 3 3 3 0;
            ratios = known (quotient 3 6) (quotient 3 6) (quotient 0 6);
          };
    }

unfoldable pub worked_cases : List Case
worked_cases = p1 ∷ p2 ∷ p3 ∷ p4 ∷ p5 ∷ p6 ∷ p7 ∷ p8 ∷ p9 ∷ p10 ∷ p11 ∷ []

-- ---- quotients

-- two counts, and their quotient as f64. Here `fin false m (negsuc e)` is m over 2 to the e + 1, and m has at most 53 bits. The f64
-- nearest to 1 / 5 has the m of which 5 times is 2 ^ 54 + 1
unfoldable pub quotient_table : List ((ℕ × ℕ) × Float)
quotient_table =
    ((0, 5), fin false 0 (pos 0))
    ∷ ((3, 6), fin false 1 (negsuc 0))
    ∷ ((3, 16), fin false 3 (negsuc 3))
    ∷ ((1, 5), fin false 3602879701896397 (negsuc 53))
    ∷ ((3, 5), fin false 5404319552844595 (negsuc 52))
    ∷ ((1, 3), fin false 6004799503160661 (negsuc 53))
    ∷ ((3, 11), fin false 1228254443828317 (negsuc 51))
    ∷ []

-- every case of the table has the figures given for it, and every quotient is the f64 given for it
pub record CasesHold : Type 0 where
  pub figures : map measured worked_cases ≡ map (λ (c : Case). c.given) worked_cases
  pub quotients : map (λ (q : (ℕ × ℕ) × Float). quotient q.0.0 q.0.1) quotient_table
      ≡ map (λ (q : (ℕ × ℕ) × Float). q.1) quotient_table
