-- The layout is that of an accepted file, so its times are judged (18). Then a short buffer is refused with 8, or the records are written.
use Rattle.std.proofs.Common.{ℕ, List, sym, ◌∙◌, arith, w8}
use Rattle.std.proofs.lemmas.Result.{err_from_is_err_and}
use Rattle.octets.proofs.Below.{below-fits}
use Rattle.octets.proofs.Memory.{over-splice}
use Rattle.rfc4737.proofs.Refused.{number-above}
use Rattle.sample.specs.Decode.{decode, sample_of}
use Rattle.sample.proofs.Accepted.{found-sample, accepted-limits}
use Rattle.sample.proofs.Output.{output-refused, output-short, output-written}
use Rattle.owamp.specs.Calls.{records_of, arrivals_of_file}
use Rattle.owamp.proofs.RoundTrips.{records-many}
use Rattle.owamp.proofs.Writing.{found-many, found-refusal, times-refusal}
use Rattle.owamp.proofs.write_accepted.Goals as goal

pub returns-in_err-judge_seconds : goal.returns-in_err-judge_seconds
returns-in_err-judge_seconds c =
    let f = c.args.file.now in
    let p = err_from_is_err_and c.from_residual.result c.from_residual.ensures.1 in
    let d = c.in_err-judge_seconds.field-0.0 in
    rw (p.1, p.2)
    (output-refused _ _ c.args.out.now _
    (times-refusal f _ (sym (found-refusal f c.args.layout c.requires.0) ∙ c.requires.1) c.in_err-judge_seconds.ensures)
    (λ q. absurd (omega (arith, number-above d, q))))

pub returns-then-out-end : goal.returns-then-out-end
returns-then-out-end c =
    let f = c.args.file.now in
    let due =
    times-refusal f 0 (sym (found-refusal f c.args.layout c.requires.0) ∙ c.requires.1) c.in_ok-judge_seconds.ensures in
    output-short _ _ c.args.out.now (sym due)
    (omega (arith, c.if-out-end.true, found-many f c.args.layout c.requires.0, records-many (arrivals_of_file f)))

pub overflow_cast-result : goal.overflow_cast-result
overflow_cast-result c =
    let f : List ℕ = c.args.file.now in
    let d = found-sample f c.args.layout c.requires.0 c.requires.1 in
    omega (
      arith,
      (accepted-limits f (sample_of (decode f)) d (below-fits w8 f c.type_inv.file)).arrivals_fit,
      found-many f c.args.layout c.requires.0,
    )

pub returns : goal.returns
returns c =
    let f : List ℕ = c.args.file.now in
    let due =
    times-refusal f 0 (sym (found-refusal f c.args.layout c.requires.0) ∙ c.requires.1) c.in_ok-judge_seconds.ensures in
    let m = found-many f c.args.layout c.requires.0 in
    let n = records-many (arrivals_of_file f) in
    output-written _ _ c.args.out.now (sym due) (omega (arith, c.if-out-end.false, m, n)) (omega (arith, m, n))
    (c.write_records.ensures ∙ sym (over-splice (records_of (arrivals_of_file f)) c.args.out.now))
