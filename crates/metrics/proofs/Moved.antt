-- Moving the clock by c: every call returns the same for the moved sample as for the sample. The answers of the records are the same
-- (rfc4737's `answers-moved`), and there are as many records. A listing has no times but those of the answers, since a line has only the
-- number of its arrival (`lines-moved`, by induction over the arrivals). Each call is a function of these, so it returns the same
-- (`figures-same`).
-- Here l are the arrivals, m the answers, n the counts, s the sample, and in `figures-same` i is the point of a path from the one to the
-- other. Assumes nothing.
use Rattle.std.specs.Prelude.{None}
use Prim.Native.Nat.{ℕ, ◌+◌}
use mathlib.Core.Path.{◌≡◌, refl, sym, ap, subst, ◌∙◌}
use mathlib.Core.Bool.{cond}
use mathlib.Core.List.{List, [], ◌∷◌, ◌++◌}
use lib.ListN.{length, length-map}
use Rattle.octets.specs.Below.{Octets}
use Rattle.rfc4737.specs.declared.Arrival.{Arrival}
use Rattle.rfc4737.specs.declared.Answer.{Answer}
use Rattle.rfc4737.specs.declared.Counts.{Counts}
use Rattle.rfc4737.specs.Extent.{size_in}
use Rattle.rfc4737.specs.Refusals.{refusal_if, first_refusal, asked_outside, outside}
use Rattle.rfc4737.specs.Runs as run
use Rattle.rfc4737.specs.Tally as tallying
use Rattle.rfc4737.specs.Gaps.{Gap, gaps}
use Rattle.rfc4737.specs.Ratios as ratio
use Rattle.rfc4737.specs.Moved.{moved_one, moved}
use Rattle.rfc4737.proofs.Moved.{answers-moved}
use Rattle.listing.specs.Lines.{record_line, record_lines_from, record_lines, listing_of}
use Rattle.sample.specs.Format.{Sample}
use Rattle.sample.specs.Decode.{Decoded, accepted}
use Rattle.sample.specs.Moved.{moved_sample}
use Rattle.sample.proofs.Moved.{moved-accepted, sample-twice}
use Rattle.rfc4737.specs.Needs as goal
use Rattle.rfc4737.specs.declared.Measure.{Measure}
use Rattle.metrics.specs.Sample.{answers_of}
use Rattle.metrics.specs.Figures.{at_record, record_answer, record_gap, sample_counts, sample_tally, degree_counts, sample_degree, sample_ratios, sample_accommodated, sample_needs, degree_most}
use Rattle.metrics.specs.Report.{sample_text}
use Rattle.metrics.specs.Moved.{SameFigures, ClockMoved}

module _ (c : ℕ) where
  -- the lines of records
  lines-moved : (r : ℕ) (l : List Arrival) (m : List Answer) → record_lines_from r (moved c l) m ≡ record_lines_from r l m
  unfolding record_lines_from
  lines-moved r [] m = refl
  lines-moved r (a ∷ l) [] = refl
  lines-moved r (a ∷ l) (b ∷ m) = ap (λ (t : List ℕ). record_line r a.number b ++ t) (lines-moved (r + 1) l m)

  -- a listing
  listing-moved : (k : ℕ) (l : List Arrival) (m : List Answer) (n : Counts) → listing_of k (moved c l) m n ≡ listing_of k l m n
  unfolding listing_of record_lines
  listing-moved k l m n = rw (length-map l (moved_one c), lines-moved 1 l m)

  module _ (s : Sample) where
    -- the moved sample and the sample, decoded
    abbrev there : Decoded
    there = accepted (moved_sample c s)

    abbrev here : Decoded
    here = accepted s

    -- the answers of their records
    answers-same : answers_of there ≡ answers_of here
    answers-same = answers-moved c (size_in s.sizes) s.arrivals

    -- how many records there are
    records-same : length (moved c s.arrivals) ≡ length s.arrivals
    records-same = length-map s.arrivals (moved_one c)

    -- the listing
    text_same : sample_text there ≡ sample_text here
    text_same =
        listing-moved (length s.sizes) s.arrivals (answers_of there) (run.counts (answers_of there))
        ∙ ap (λ (m : List Answer). listing_of (length s.sizes) s.arrivals m (run.counts m)) answers-same

    -- every call
    pub figures-same : SameFigures there here
    unfolding record_answer record_gap sample_counts sample_tally degree_counts sample_degree sample_ratios sample_accommodated sample_needs
    figures-same =
        let a = answers-same in
        let n = records-same in
        record {
          refusal = refl;
          text = text_same;
          answer = λ asked i.
              record {
                refusal = first_refusal (refusal_if (outside 1 (n i) asked) asked_outside ∷ []);
                answer = at_record (Answer.InOrder (record { position = 0; jump = 0 })) (a i) asked;
              };
          gap = λ asked i.
              record {
                refusal = first_refusal (refusal_if (outside 1 (n i) asked) asked_outside ∷ []);
                gap = at_record None (gaps (a i)) asked;
              };
          counts = λ i. record { refusal = 0; counts = run.counts (a i) };
          tally = λ i. record { refusal = 0; tally = tallying.tally (a i) };
          shares = λ m i.
              record {
                refusal = first_refusal (refusal_if (outside 1 degree_most m) asked_outside ∷ []);
                reordered = ratio.n_reordered m (cond (outside 1 degree_most m) [] (a i));
                arrived = run.arrived (cond (outside 1 degree_most m) [] (a i));
              };
          degree = λ m i.
              record {
                refusal = first_refusal (refusal_if (outside 1 degree_most m) asked_outside ∷ []);
                ratio = ratio.degree m (cond (outside 1 degree_most m) [] (a i));
              };
          ratios = λ i. record { refusal = 0; ratios = ratio.ratios (a i) };
          buffers = λ m size i. record { refusal = 0; accommodated = goal.accommodated m size (a i); arrived = run.arrived (a i) };
          needs = λ i.
              record {
                refusal = 0;
                packets = goal.greatest_need Measure.Packets (a i);
                octets = goal.greatest_need Measure.Octets (a i);
                time = goal.greatest_need Measure.Time (a i);
              };
        }

-- as `listing` carries it, of a file of octets
pub clock-moved : (file : List ℕ) → Octets file → ClockMoved file
clock-moved file o =
    record {
      accepts = moved-accepted file o;
      same =
          λ s c e t. subst (λ (d : Decoded × Decoded). SameFigures d.0 d.1) (λ i. (sym (moved-accepted file o s c e t) i, sym e i))
          (figures-same c s);
      twice = sample-twice;
    }
