-- The sample file of a log or of records. Lists of 4,096 places have room for any sample, so the refusal of an import is the input's own
-- (`lines-refusal`, `records-refusal`). If nothing is refused, K is in its range and the lists begin with the arrivals, which were written
-- over their start (`holds-filled`). Together: `lines-imported`, by the decoded lines of a log of any kind, and `records-imported`.
-- The program's answer is the input's refusal (`convert-refused`) or that of `sample::write`. With K equal sizes, and nothing refused of
-- K and the lists, `sample::write` refuses nothing but the label (`label-decides`), and writes the file of the sample
-- (`convert-written`). k is K, ds are decoded lines, os the octets of records, y the answer of the import, f the contract of the import,
-- numbers' and times' the lists after it; l are the arrivals, out and out' the caller's buffer before and after. Assumes nothing.
use Prim.Native.Nat.{ℕ, zero, suc, ◌≤◌}
use native.Mathlib.Omega.{arith}
use mathlib.Core.Path.{◌≡◌, refl, sym, ap, ◌∙◌, subst}
use mathlib.Core.List.{List, [], ◌∷◌}
use lib.ListN.{length, take, replicate, length-map, length-replicate}
use Rattle.octets.specs.Memory.{over}
use Rattle.octets.proofs.Memory.{over_first}
use Rattle.rfc4737.specs.declared.Arrival.{Arrival}
use Rattle.rfc4737.specs.Judge.{sent_most, numbers_of, times_of, arrivals_from, refusal_of_lists}
use Rattle.rfc4737.specs.Refusals.{first_refusal}
use Rattle.rfc4737.proofs.Pairs.{arrivals-back}
use Rattle.sample.specs.Format.{file_of}
use Rattle.sample.specs.Judge.{judge_label, judge_octets, sample_refusal}
use Rattle.sample.specs.Calls.{WrittenTo}
use Rattle.sample.specs.Output.{Output, if_none}
use Rattle.sample.proofs.Output.{output-refused}
use Rattle.sample.specs.declared.WriteAnswer.{WriteAnswer}
use Rattle.textlog.specs.Decode.{DecodedLine, arrivals_of_lines, judge_decoded}
use Rattle.textlog.specs.Calls.{LinesImported}
use Rattle.textlog.specs.declared.LogImport.{LogImport}
use Rattle.textlog.proofs.Accepted.{accepted-decoded, accepted-lists}
use Rattle.textlog.proofs.Answers.{import-room}
use Rattle.owamp.specs.Judge.{records_refusal}
use Rattle.owamp.specs.Calls.{imported_arrivals, RecordsImportedFrom}
use Rattle.owamp.specs.declared.RecordsImport.{RecordsImport}
use Rattle.owamp.proofs.Accepted.{accepted-lists as records-accepted}
use Rattle.owamp.proofs.Answers.{none-refused, import-room as records-room}
use Rattle.cmd_import.specs.Convert.{input_refusal, input_arrivals, RoomForAny, Holds, ImportedTo, labelled_sample, convert_refusal, ConvertedTo}
use Rattle.cmd_import.specs.declared.convert.Kind.{Kind}
use Rattle.cmd_import.specs.declared.convert.Kind.TheVariants.{Records}

-- ---- the import

-- the first places of a list of equal values
pub take-equal : (k n size : ℕ) → k ≤ n → take k (replicate n size) ≡ replicate k size
take-equal zero n size h = refl
take-equal (suc k) zero size h = absurd (omega arith)
take-equal (suc k) (suc n) size h = ap (λ (l : List ℕ). size ∷ l) (take-equal k n size (omega arith))

-- lists over which the values of accepted arrivals were written hold these arrivals
holds-filled : {k arrivals : ℕ} {numbers' times' : List ℕ} (refusal : ℕ) (l : List Arrival) (numbers times : List ℕ)
    → k ≤ sent_most → refusal_of_lists k (numbers_of l) (times_of l) ≡ 0 → arrivals ≡ if_none refusal (length l) 0
    → numbers' ≡ if_none refusal (over (numbers_of l) numbers) numbers → times' ≡ if_none refusal (over (times_of l) times) times
    → refusal ≡ 0 → Holds k arrivals numbers' times' l
holds-filled {k} {arrivals} refusal l numbers times most judged a n t z =
    let many : arrivals ≡ length l = a ∙ ap (λ (r : ℕ). if_none r (length l) 0) z in
    record {
      sent = most;
      in_numbers =
          over_first (numbers_of l) numbers (many ∙ sym (length-map l _))
          (n ∙ ap (λ (r : ℕ). if_none r (over (numbers_of l) numbers) numbers) z);
      in_times = over_first (times_of l) times (many ∙ sym (length-map l _)) (t ∙ ap (λ (r : ℕ). if_none r (over (times_of l) times) times) z);
      judged = judged;
    }

module _ (k : ℕ) (ds : List DecodedLine) {numbers times : List ℕ} {y : LogImport} {numbers' times' : List ℕ}
    (f : LinesImported k ds numbers times y numbers' times') (room : RoomForAny numbers times) where
  -- with room for any sample, the refusal is that of the lines
  lines-refusal : y.refusal ≡ (judge_decoded k ds).refusal
  lines-refusal = f.refusal ∙ import-room k (length numbers) (length times) ds room.in_numbers room.in_times

  -- and where nothing is refused, the lists begin with their arrivals
  lines-hold : y.refusal ≡ 0 → Holds k y.arrivals numbers' times' (arrivals_of_lines ds)
  lines-hold z =
      let none : (judge_decoded k ds).refusal ≡ 0 = sym lines-refusal ∙ z in
      holds-filled y.refusal (arrivals_of_lines ds) numbers times (accepted-decoded k ds none).most (accepted-lists k ds none)
      f.arrivals f.filled_numbers f.filled_times z

  -- the import of a log of a kind, whose decoded lines these are
  pub lines-imported : (kind : Kind) (input : List ℕ) → (judge_decoded k ds).refusal ≡ input_refusal kind k input
      → arrivals_of_lines ds ≡ input_arrivals kind input
      → ImportedTo kind k input y numbers' times'
  lines-imported kind input e a = record { refusal = lines-refusal ∙ e; holds = λ z. rw (← a) (lines-hold z) }

module _ (k : ℕ) (os : List ℕ) {numbers times : List ℕ} {y : RecordsImport} {numbers' times' : List ℕ}
    (f : RecordsImportedFrom k os numbers times y numbers' times') (room : RoomForAny numbers times) where
  -- with room for any sample, the refusal is the records' own
  records-refusal : y.refusal ≡ records_refusal k os
  records-refusal = f.refusal ∙ records-room k (length numbers) (length times) os room.in_numbers room.in_times

  -- the import of records
  pub records-imported : ImportedTo Records k os (record { refusal = y.refusal; arrivals = y.arrivals }) numbers' times'
  records-imported =
      record {
        refusal = records-refusal;
        holds = λ z.
            let none : records_refusal k os ≡ 0 = sym records-refusal ∙ z in
            holds-filled y.refusal (imported_arrivals os) numbers times (none-refused k os none).most
            (records-accepted k os none).lists f.arrivals f.filled_numbers f.filled_times z;
      }

-- ---- the answer

-- of the refusals in their order, a last one that is not due
last_none : (a b : ℕ) → first_refusal (a ∷ b ∷ 0 ∷ []) ≡ first_refusal (a ∷ b ∷ [])
last_none zero zero = refl
last_none zero (suc b) = refl
last_none (suc a) b = refl

-- where nothing of the input, of K and of the lists is refused, the label decides
label-decides : (refusal : ℕ) (label sizes numbers times : List ℕ) → refusal ≡ 0 → refusal_of_lists (length sizes) numbers times ≡ 0
    → sample_refusal label sizes numbers times ≡ convert_refusal refusal label
unfolding sample_refusal convert_refusal
label-decides refusal label sizes numbers times z e = rw (e, z) (last_none (judge_label (length label)) (judge_octets label))

-- the input is refused
pub convert-refused : (refusal : ℕ) (label : List ℕ) (k size : ℕ) (l : List Arrival) (out : List ℕ) → (refusal ≡ 0 → ⊥)
    → ConvertedTo refusal label k size l out (record { refusal = refusal; length = 0 }) out
unfolding convert_refusal
convert-refused zero label k size l out z = absurd (z refl)
convert-refused (suc r) label k size l out z = output-refused (suc r) (file_of (labelled_sample label k size l)) out (suc r) refl z

-- its sample is written, or its label is refused, or there is no room
pub convert-written : (k size refusal : ℕ) (l : List Arrival) (label out : List ℕ) (written : WriteAnswer) (out' : List ℕ)
    {sizes numbers times : List ℕ}
    → refusal ≡ 0 → refusal_of_lists k (numbers_of l) (times_of l) ≡ 0
    → sizes ≡ replicate k size → numbers ≡ numbers_of l → times ≡ times_of l → WrittenTo label sizes numbers times out written out'
    → ConvertedTo refusal label k size l out written out'
convert-written k size refusal l label out written out' z j es en et w =
    let own =
    (λ i. sample_refusal label (es i) (en i) (et i)) ∙ label-decides refusal label (replicate k size) (numbers_of l) (times_of l) z
    (rw (length-replicate k size) j) in
    let file =
    (λ i. file_of (record { label = label; sizes = es i; arrivals = arrivals_from (en i) (et i) }))
    ∙ ap (λ (x : List Arrival). file_of (labelled_sample label k size x)) (arrivals-back l) in
    subst (λ (p : ℕ × List ℕ). Output p.0 p.1 out written out') (λ i. (own i, file i)) w
