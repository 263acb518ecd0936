-- The answer of the sweep, and the caller's table and lists after it. Both engines find the same figures, and moving the clock changes
-- nothing. Assumes nothing.
use Rattle.std.specs.Prelude.{◌≡◌, Bool, ◌||◌, List, [], ◌↔◌, ℕ, ◌^◌, ltb, length, get_or, take, replicate}
use Rattle.octets.specs.Below.{Below}
use Rattle.octets.specs.Memory.{over}
use Rattle.rfc4737.specs.Judge.{sent_most, times_of}
use Rattle.rfc4737.specs.declared.Answer.{Answer}
use Rattle.rfc4737.specs.Runs.{counts}
use Rattle.listing.specs.Lines.{listing_of}
use Rattle.sample.specs.declared.Layout.{Layout}
use Rattle.sample.specs.Format.{Sample, file_of}
use Rattle.sample.specs.Decode.{Decoded, refused, accepted, decode, sample_of, layout_of}
use Rattle.sample.specs.Calls.{unless_short}
use Rattle.sample.specs.Moved.{moved_sample}
use Rattle.metrics.specs.Sample.{sample_arrivals, answers_of}
use Rattle.metrics.specs.Figures.{at_record, record_answer}
use Rattle.metrics.specs.Rows.{row_of}
use Rattle.metrics.specs.Report.{sample_text}
use Rattle.sweep.specs.declared.Figures.{Figures}
use Rattle.sweep.specs.Figures.{figures_of, flags_of, positions_of, extents_of, lates_of}

-- ---- the caller's memory

-- the length of the table: one number for each possible packet
abbrev pub table_places : ℕ
table_places = sent_most

-- the table and the four lists
pub record Lent : Type 0 where
  pub table : List ℕ
  pub flags : List ℕ
  pub positions : List ℕ
  pub extents : List ℕ
  pub lates : List ℕ

abbrev pub lent : (table flags positions extents lates : List ℕ) → Lent
lent table flags positions extents lates =
    record { table = table; flags = flags; positions = positions; extents = extents; lates = lates }

-- whether the table or one of the four lists, of these lengths, is too short for a sample of `arrivals` arrivals
unfoldable pub lent_short : (arrivals table flags positions extents lates : ℕ) → Bool
lent_short arrivals table flags positions extents lates =
    ltb table table_places || (ltb flags arrivals || (ltb positions arrivals || (ltb extents arrivals || ltb lates arrivals)))

-- whether the table or a list is too short for a sample
abbrev pub lent_short_for : Decoded → Lent → Bool
lent_short_for d old =
    lent_short (length (sample_arrivals d)) (length old.table) (length old.flags) (length old.positions) (length old.extents)
    (length old.lates)

-- ---- the call

-- the start of the table after the call: zeros; nothing is set if the file is refused
abbrev pub cleared : Decoded → List ℕ
cleared (refused r) = []
cleared (accepted s) = replicate table_places 0

-- the answer for a decoded file, and the caller's memory after it: the table begins with zeros, the lists begin with the figures of every
-- record, and the rest is unchanged
pub record Swept (d : Decoded) (old : Lent) (answer : Layout) (new : Lent) : Type 0 where
  pub layout : answer ≡ layout_of d
  pub table : new.table ≡ over (cleared d) old.table
  pub flags : new.flags ≡ over (flags_of (answers_of d)) old.flags
  pub positions : new.positions ≡ over (positions_of (answers_of d)) old.positions
  pub extents : new.extents ≡ over (extents_of (answers_of d)) old.extents
  pub lates : new.lates ≡ over (lates_of (answers_of d)) old.lates

-- the call's answer, and the caller's memory after it; 8 comes after the file's own refusals
abbrev pub SweptTo : (d : Decoded) (old : Lent) (answer : Layout) (new : Lent) → Type 0
SweptTo d old answer new = Swept (unless_short (lent_short_for d old) d) old answer new

-- ---- both engines

-- the figures of record `asked` in the four lists; records count from 1
abbrev pub figures_at : Lent → ℕ → Figures
figures_at l asked =
    record {
      flag = at_record 0 l.flags asked;
      position = at_record 0 l.positions asked;
      extent = at_record 0 l.extents asked;
      late = at_record 0 l.lates asked;
    }

-- both engines agree: after a sweep that is not refused, the lists hold for each record of the sample the figures of the answer of
-- `metrics::answer`, which is `record_answer`
pub record EnginesAgree (d : Decoded) (answer : Layout) (new : Lent) : Type 0 where
  pub at : answer.refusal ≡ 0 → (asked : ℕ) → (record_answer d asked).refusal ≡ 0
      → figures_at new asked ≡ figures_of (record_answer d asked).answer

-- the report agrees, too: there are answers, one for each record, whose listing is the report that `metrics::listing` writes. After a sweep
-- that is not refused, the lists hold their figures
pub record ReportAgrees (d : Decoded) (answer : Layout) (new : Lent) : Type 0 where
  pub answers : List Answer
  pub listed : sample_text d ≡ listing_of (length (sample_of d).sizes) (sample_arrivals d) answers (counts answers)
  pub every : length answers ≡ length (sample_arrivals d)
  pub flags : answer.refusal ≡ 0 → take answer.arrivals new.flags ≡ flags_of answers
  pub positions : answer.refusal ≡ 0 → take answer.arrivals new.positions ≡ positions_of answers
  pub extents : answer.refusal ≡ 0 → take answer.arrivals new.extents ≡ extents_of answers
  pub lates : answer.refusal ≡ 0 → take answer.arrivals new.lates ≡ lates_of answers

-- the rows of `metrics::record_rows` agree, too: a record's figures are the first, second, fourth and fifth number of its row
pub record RowsAgree : Type 0 where
  pub figures : (a : Answer)
      → figures_of a ≡ record {
        flag = get_or (row_of a) 0 0;
        position = get_or (row_of a) 1 0;
        extent = get_or (row_of a) 3 0;
        late = get_or (row_of a) 4 0;
      }

-- ---- moving the clock

-- moving the clock of the sample changes neither the answer nor the lists, if no time leaves its range
abbrev pub SweepMoved : List ℕ → Type 0
SweepMoved file =
    (s : Sample) (c : ℕ) → decode file ≡ accepted s → Below (2 ^ 64) (times_of (moved_sample c s).arrivals)
    → (old new : Lent) (answer : Layout) → SweptTo (decode (file_of (moved_sample c s))) old answer new ↔ SweptTo (decode file) old answer new
