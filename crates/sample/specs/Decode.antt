-- Decoding a file in stages, in the order of its refusals. For each section its count is read (1) and judged (3, 4 or 5), then its length
-- (1); for the label then its octets (13). Then come octets that follow (2), and the arrivals in turn, 6 before 7. Assumes nothing.
use Rattle.std.specs.Prelude.{ℕ, zero, suc, List, [], ◌∷◌, ltb, length, drop}
use Rattle.octets.specs.BigEndian.{be_value}
use Rattle.octets.specs.Memory.{part}
use Rattle.rfc4737.specs.declared.Arrival.{Arrival}
use Rattle.rfc4737.specs.Refusals.{refusal_if, first_refusal, ends_early, octets_follow}
use Rattle.sample.specs.Format.{Sample, count_width, octet_width, size_width, number_width, time_width, arrival_width, items_at, end_of, sent_start, arrived_start, last_end, items_in}
use Rattle.rfc4737.specs.Judge.{judge_sent, judge_arrivals, judge}
use Rattle.sample.specs.Judge.{judge_label, judge_octets}
use Rattle.sample.specs.declared.Layout.{Layout}

-- ---- the counts of a file, and the offsets of its sections by them

-- the count at offset `at`
unfoldable pub count_at : (at : ℕ) (file : List ℕ) → ℕ
count_at at file = be_value (part at count_width file)

-- the length of the label
abbrev pub label_count : List ℕ → ℕ
label_count file = count_at 0 file

-- the offset of the section of sent packets
abbrev pub sent_at : List ℕ → ℕ
sent_at file = sent_start (label_count file)

-- K
abbrev pub sent_count : List ℕ → ℕ
sent_count file = count_at (sent_at file) file

-- the offset of the section of arrivals
abbrev pub arrived_at : List ℕ → ℕ
arrived_at file = arrived_start (label_count file) (sent_count file)

-- A
abbrev pub arrival_count : List ℕ → ℕ
arrival_count file = count_at (arrived_at file) file

-- the offset after the last section
abbrev pub file_end : List ℕ → ℕ
file_end file = last_end (label_count file) (sent_count file) (arrival_count file)

-- ---- what the sections hold

-- the arrival in these octets: its number, then its time
unfoldable pub arrival_in : List ℕ → Arrival
arrival_in os = record { number = be_value (part 0 number_width os); time = be_value (part number_width time_width os) }

-- the sample in a file
unfoldable pub sample_in : List ℕ → Sample
sample_in file =
    record {
      label = part (items_at 0) (label_count file) file;
      sizes = items_in size_width be_value (sent_count file) (drop (items_at (sent_at file)) file);
      arrivals = items_in arrival_width arrival_in (arrival_count file) (drop (items_at (arrived_at file)) file);
    }

-- ---- what is refused

-- the refusal of the section that begins at `at`, with items of `width` octets each; 0 for none. Its count is read (1) and judged, then its
-- length (1)
unfoldable pub section_stage : (at width : ℕ) (judge_count : ℕ → ℕ) (file : List ℕ) → ℕ
section_stage at width judge_count file =
    first_refusal
    (refusal_if (ltb (length file) (items_at at)) ends_early
    ∷ judge_count (count_at at file)
    ∷ refusal_if (ltb (length file) (end_of at width (count_at at file))) ends_early
    ∷ [])

-- the first refusal that applies to a file, 0 if none does. In order: the label's section, its octets, the section of sent packets, the
-- section of arrivals, the end of the file, and the arrivals in turn
unfoldable pub file_refusal : List ℕ → ℕ
file_refusal file =
    first_refusal
    (section_stage 0 octet_width judge_label file
    ∷ judge_octets (sample_in file).label
    ∷ section_stage (sent_at file) size_width judge_sent file
    ∷ section_stage (arrived_at file) arrival_width judge_arrivals file
    ∷ refusal_if (ltb (file_end file) (length file)) octets_follow
    ∷ judge (sent_count file) 0 (sample_in file).arrivals
    ∷ [])

-- ---- the answer

-- the result of decoding: a refusal or a sample
pub data Decoded : Type 0 where
  refused : ℕ → Decoded
  accepted : Sample → Decoded

-- the sample, unless a refusal applies
abbrev pub accepted_unless : ℕ → Sample → Decoded
accepted_unless zero s = accepted s
accepted_unless (suc r) s = refused (suc r)

-- what a file decodes to
unfoldable pub decode : List ℕ → Decoded
decode file = accepted_unless (file_refusal file) (sample_in file)

-- the sample of a decoded file; that of a refused file is empty
abbrev pub sample_of : Decoded → Sample
sample_of (refused r) = record { label = []; sizes = []; arrivals = [] }
sample_of (accepted s) = s

-- the refusal of a decoded file; 0 if it is accepted
abbrev pub decoded_refusal : Decoded → ℕ
decoded_refusal (refused r) = r
decoded_refusal (accepted s) = 0

-- the layout of a decoded file: the refusal, the length of the label, K and A. With a refusal the other three are 0
abbrev pub layout_of : Decoded → Layout
layout_of d =
    record {
      refusal = decoded_refusal d;
      label = length (sample_of d).label;
      sent = length (sample_of d).sizes;
      arrivals = length (sample_of d).arrivals;
    }
