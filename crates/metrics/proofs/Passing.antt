-- A pass over a sample, line by line. A line is written after those before it or, comparing, at the start of the buffer and then compared
-- with the text from its offset on; `Taken` says what either leaves (`line_taken`). Lines that are taken whole and a line after them are
-- lines taken (`taken_more`): what is written is spliced in behind, and what agrees goes by `agreed-more`. A line that is written is
-- always whole, so only comparing can end the pass; then what follows is not read, and the whole listing is known to differ there
-- (`taken-stop`). So after a record's line the pass goes on (`passed-next`) or ends (`passed-stop`), and after the last line all records
-- are done (`passed-all`).
-- The lines of records are taken in a buffer that has the first line. The listing begins with that line and overwrites it too, so it may
-- be laid over the buffer as it was (`taken-over`): if the first line differs (`first-differs`), if a record's does (`record-differs`),
-- and after the last line (`last_taken`). The offset reached is less than 2^64, as it is within the text or is the length of the lines
-- (`taken-fits`).
-- Here d is the decoded file, i the number of records done, at the offset after them, p how far a line is taken, old the buffer before
-- the first line, start after it, new before the current line and newer after it, s that the lines before are taken and t that this one
-- is. Assumes nothing.
use Prim.Native.Nat.{ℕ, ◌+◌, ◌-◌, ◌^◌, ◌≤◌, ◌<◌}
use mathlib.Core.Path.{◌≡◌, refl, sym, ap, ◌∙◌}
use mathlib.Core.Bool.{Bool, true, false, cond, true≢false}
use mathlib.Core.List.{List, ◌++◌}
use native.Mathlib.Omega.{arith}
use lib.ListN.{length, take, drop, length-append}
use Rattle.octets.specs.Memory.{put, splice}
use Rattle.octets.proofs.Memory.{put-length, put-room, splice-drop, splice-next}
use Rattle.rfc4737.specs.declared.Answer.{Answer}
use Rattle.rfc4737.specs.declared.Counts.{Counts}
use Rattle.rfc4737.specs.Runs.{counts}
use Rattle.listing.specs.Lines.{header_line, record_line, end_line}
use Rattle.sample.specs.declared.Layout.{Layout}
use Rattle.sample.specs.Decode.{Decoded}
use Rattle.metrics.specs.Report.{sample_text}
use Rattle.metrics.specs.Sample.{answers_of}
use Rattle.metrics.specs.Records.{arrival_at, answer_at, answers_to, FileLayout, HasRecord}
use Rattle.metrics.specs.Private.Taken.{Part, Agreed, LineRoom, Taken, lines_to, PassedTo, part_of, moved}
use Rattle.std.specs.Prelude.{Result, Ok, Err}
use Rattle.std.specs.Result.{result_unwrap_or}
use Rattle.metrics.proofs.OneArrivalMore.{answers-end}
use Rattle.metrics.proofs.Common.{common-le, line_read}
use Rattle.metrics.proofs.Listed.{lines_start, lines_next, lines_end, Rest, lines_rest}
use Rattle.metrics.proofs.Agreed.{agreed-more, agreed-stop}

-- ---- a line

module _ (comparing : Bool) (line text : List ℕ) (at : ℕ) {old new : List ℕ} {n place : ℕ} (e : n ≡ length line) (few : length line ≤ 93)
    (ready : LineRoom comparing text at old) (p : place ≡ cond comparing 0 at) (q : new ≡ put place line old) where
  -- memory is as long with it
  line_kept : length new ≡ length old
  line_kept = ap length q ∙ put-length place line old

  -- it can be compared with the text
  pub line-ready : comparing ≡ true → (n ≤ length new) × (at ≤ length text)
  line-ready t = (omega (arith, line_kept, ready.room t), ready.inside t)

  -- compared with it, or only written, it is taken
  pub line_taken : {r : Part} → (comparing ≡ false → r ≡ record { octets = n; whole = true })
      × (comparing ≡ true → Agreed (take n new) (drop at text) r)
      → Taken comparing line text at old new r
  line_taken h =
      record {
        listed = λ f.
            let there : new ≡ put at line old = rw (p ∙ ap (λ (b : Bool). cond b 0 at) f) at q in
            (h.0 f ∙ rw e, λ room. there ∙ put-room at line old room);
        compared = λ t.
            let start : new ≡ put 0 line old = rw (p ∙ ap (λ (b : Bool). cond b 0 at) t) at q in
            rw (line_read line old new n e (omega (arith, ready.room t)) start) at (h.1 t);
        places = line_kept;
      }

-- the place of the first line is the start, comparing or not
pub same_start : (comparing : Bool) → ◌≡◌ {A = ℕ} 0 (cond comparing 0 0)
same_start true = refl
same_start false = refl

-- ---- lines, and more

-- lines at the start, over those that were there and are no more
splice-again : (xs ys old : List ℕ) → length xs ≤ length ys → splice 0 ys (splice 0 xs old) ≡ splice 0 ys old
splice-again xs ys old h = ap (λ (l : List ℕ). ys ++ l) (splice-drop 0 xs old (0 + length ys) (omega arith) (omega arith))

module _ {comparing : Bool} {text : List ℕ} where
  -- lines that are compared with a text agree with at most all its octets
  pub taken-inside : {lines old new : List ℕ} {r : Part} → Taken comparing lines text 0 old new r → comparing ≡ true
      → r.octets ≤ length text
  taken-inside {lines} t e = omega (arith, (t.compared e).octets, common-le lines text)

  -- they are few
  pub taken-fits : {lines old new : List ℕ} {r : Part} → length text < 2 ^ 64 → length lines < 2 ^ 64
      → Taken comparing lines text 0 old new r → r.octets < 2 ^ 64
  taken-fits {lines} {old} {new} {r} short few t = go comparing refl
    where
      go : (b : Bool) → comparing ≡ b → r.octets < 2 ^ 64
      go true e = omega (arith, short, taken-inside t e)
      go false e = omega (arith, few, ap (λ (q : Part). q.octets) (t.listed e).0)

  -- a line more, after lines that are taken whole
  taken_more : {lines line old new newer : List ℕ} {at : ℕ} {p : Part}
      → Taken comparing lines text 0 old new (record { octets = at; whole = true })
      → Taken comparing line text at new newer p → Taken comparing (lines ++ line) text 0 old newer
      (record { octets = at + p.octets; whole = p.whole })
  taken_more {lines} {line} {old} {new} {newer} {at} {p} s t =
      record {
        listed = λ e.
            let n : at ≡ length lines = ap (λ (q : Part). q.octets) (s.listed e).0 in
            let long : length (lines ++ line) ≡ at + length line = rw n (length-append lines line) in (
              rw ((t.listed e).0, long),
              λ room.
                  (t.listed e).1 (omega (arith, room, long, s.places))
                  ∙ ap (splice at line) ((s.listed e).1 (omega (arith, room, long, n)))
                  ∙ splice-next 0 at lines line old (omega (arith, n)) (omega arith),
            );
        compared = λ e. agreed-more lines line text at p (s.compared e) (t.compared e);
        places = t.places ∙ s.places;
      }

  -- what stands after lines of which one differs
  taken-stop : {lines old new : List ℕ} {p : Part} (rest : List ℕ) → Taken comparing lines text 0 old new p → p.whole ≡ false
      → Taken comparing (lines ++ rest) text 0 old new p
  taken-stop {lines} {old} {new} {p} rest t w =
      record {
        listed = λ e. absurd (true≢false (sym (ap (λ (q : Part). q.whole) (t.listed e).0) ∙ w));
        compared = λ e. agreed-stop lines rest text p (t.compared e) w;
        places = t.places;
      }

  -- lines over the first of them, which was taken before
  taken-over : {first lines old start new : List ℕ} {p r : Part} → length first ≤ length lines → Taken comparing first text 0 old start p
      → Taken comparing lines text 0 start new r → Taken comparing lines text 0 old new r
  taken-over {first} {lines} {old} h s t =
      record {
        listed = λ e. (
          (t.listed e).0,
          λ room. (t.listed e).1 (omega (arith, room, s.places)) ∙ ap (splice 0 lines) ((s.listed e).1 (omega (arith, room)))
              ∙ splice-again first lines old h,
        );
        compared = t.compared;
        places = t.places ∙ s.places;
      }

-- a result for lines after others has the octets of both
pub part-moved : (at : ℕ) (r : Result ℕ ℕ) → part_of (moved at r) ≡ record { octets = at + (part_of r).octets; whole = (part_of r).whole }
part-moved at (Ok octets) = refl
part-moved at (Err octets) = refl

-- where all lines are taken the result is their length
pub whole-part : (r : Result ℕ ℕ) (n : ℕ) → part_of r ≡ record { octets = n; whole = true } → result_unwrap_or r 0 ≡ n
whole-part (Ok octets) n e = ap (λ (p : Part). p.octets) e
whole-part (Err octets) n e = absurd (true≢false (sym (ap (λ (p : Part). p.whole) e)))

-- ---- a record's line

module _ (d : Decoded) (layout : Layout) (text : List ℕ) (comparing : Bool) {i at number : ℕ} {answer : Answer} {old new newer : List ℕ}
    (r : Result ℕ ℕ) (h : HasRecord d layout i) (s : PassedTo d layout text comparing i at old new) (is : number ≡ (arrival_at d i).number)
    (says : answer ≡ answer_at d i)
    (t : Taken comparing (record_line (i + 1) number answer) text at new newer (part_of r)) where
  -- the listing up to record i + 1
  pub line-more : Taken comparing (lines_to d layout (i + 1)) text 0 old newer
      (record { octets = at + (part_of r).octets; whole = (part_of r).whole })
  line-more = rw (lines_next d layout i h, ← is, ← says) (taken_more s t)

  -- after a line that is written or agrees
  pub passed-next : (n : ℕ) → moved at r ≡ Ok n → PassedTo d layout text comparing (i + 1) n old newer
  passed-next n e =
      let k : Taken comparing (lines_to d layout (i + 1)) text 0 old newer (part_of (moved at r)) = rw (part-moved at r) line-more in
      rw e at k

  -- at one that differs the pass ends
  pub passed-stop : (n : ℕ) → moved at r ≡ Err n → Taken comparing (sample_text d) text 0 old newer (record { octets = n; whole = false })
  passed-stop n e =
      let q = lines_rest d layout h.file (layout.arrivals - (i + 1)) (i + 1) (omega (arith, h.inside)) in
      let k : Taken comparing (lines_to d layout (i + 1)) text 0 old newer (part_of (moved at r)) = rw (part-moved at r) line-more in
      rw q.is (taken-stop q.rest (rw e at k) refl)

-- after the last record
pub passed-all : (d : Decoded) (layout : Layout) (text : List ℕ) (comparing : Bool) {i at : ℕ} {old new : List ℕ} {c : Counts}
    → FileLayout d layout
    → i ≤ layout.arrivals → layout.arrivals ≤ i → PassedTo d layout text comparing i at old new → c ≡ counts (answers_to d i)
    → PassedTo d layout text comparing layout.arrivals at old new × (c ≡ counts (answers_of d))
passed-all d layout text comparing {i} h most all s e =
    let last : i ≡ layout.arrivals = omega arith in (rw last at s, e ∙ ap counts (answers-end d layout i h all))

-- ---- the first line and the last

module _ (d : Decoded) (layout : Layout) (laid : FileLayout d layout) (text : List ℕ) (comparing : Bool) {old start : List ℕ} {p : Part}
    (t : Taken comparing (header_line layout.sent layout.arrivals) text 0 old start p) where
  -- the first line
  abbrev header : List ℕ
  header = header_line layout.sent layout.arrivals

  -- the listing after it
  rest : Rest d layout 0
  rest = lines_rest d layout laid layout.arrivals 0 (omega arith)

  -- which it is a part of
  header-le : length header ≤ length (sample_text d)
  header-le = rw (rest.is, length-append (lines_to d layout 0) rest.rest, lines_start d layout) (omega arith)

  -- it stands in memory that has it
  first-again : Taken comparing header text 0 start start p
  first-again =
      record {
        listed = λ e. (
          (t.listed e).0,
          λ room.
              let there = (t.listed e).1 (omega (arith, room, t.places)) in
              there ∙ sym (splice-again header header old (omega arith)) ∙ ap (splice 0 header) (sym there),
        );
        compared = t.compared;
        places = refl;
      }

  -- after the first line
  pub first_taken : p.whole ≡ true → PassedTo d layout text comparing 0 p.octets start start
  first_taken w = rw (lines_start d layout, ← w) first-again

  -- where it differs
  pub first-differs : p.whole ≡ false → Taken comparing (sample_text d) text 0 old start p
  first-differs w = rw (rest.is, lines_start d layout) (taken-stop rest.rest t w)

  -- where a record's line differs
  pub record-differs : {new : List ℕ} (r : Part) → Taken comparing (sample_text d) text 0 start new r
      → Taken comparing (sample_text d) text 0 old new r
  record-differs r s = taken-over header-le t s

  -- after the last line
  pub last_taken : {at : ℕ} {new newer : List ℕ} {c : Counts} {q : Part} → PassedTo d layout text comparing layout.arrivals at start new
      → c ≡ counts (answers_of d) → Taken comparing (end_line c) text at new newer q
      → Taken comparing (sample_text d) text 0 old newer (record { octets = at + q.octets; whole = q.whole })
  last_taken s ec u = taken-over header-le t (rw (← lines_end d layout laid, ← ec) (taken_more s u))
