-- Each reading that passes says that its stage refuses nothing and gives the counts and offsets of the file. So at each return the stages
-- before are known to be 0, and the refusal is that of the stage that failed; at the last none applies, and the counts are the layout.
use Rattle.std.proofs.Common.{◌≡◌, ℕ, ◌+◌, ◌*◌, ◌-◌, ◌<◌, ◌≤◌, Bool, false, List, length, take, drop, Err, sym, ap, ◌∙◌, arith}
use Rattle.std.proofs.lemmas.Result.{err_from_is_err_and}
use borrow.Author.Tests.{lt-ltb, le-ltb}
use Rattle.octets.specs.Memory.{part}
use Rattle.rfc4737.specs.declared.refusal.Refusal.{Refusal}
use Rattle.rfc4737.specs.declared.refusal.Refusal.TheVariants.{OctetOutside, OctetsFollow}
use Rattle.rfc4737.specs.Refused.{number_of}
use Rattle.rfc4737.specs.Refusals.{refusal_if, octets_follow}
use Rattle.rfc4737.specs.Judge.{judge_sent, judge_arrivals, judge}
use Rattle.rfc4737.proofs.Refused.{number-above}
use Rattle.sample.specs.Format.{count_width, octet_width, size_width, arrival_width, items_at, items_in}
use Rattle.sample.specs.Judge.{judge_label, some_unshown}
use Rattle.sample.specs.Decode.{label_count, sent_at, arrived_at, file_end, arrival_in, sample_in, section_stage, file_refusal, decode, layout_of}
use Rattle.sample.specs.Calls.{layout_in}
use Rattle.sample.specs.Private.{section_of}
use Rattle.sample.specs.declared.sections.Section.{Section}
use Rattle.sample.proofs.Decoded.{label_stage, sent_stage, arrived_stage, end_stage, refused_none, stage-none, decode-refused, layout-accepted, refused-label, refused-octets, refused-sent, refused-arrived, refused_end, refused-arrivals}
use Rattle.sample.proofs.accepted_layout.Goals as goal

-- a refusal that applies
refused-found : (f : List ℕ) (d : Refusal) → file_refusal f ≡ number_of d → layout_in (Err d) ≡ layout_of (decode f)
refused-found f d e = sym (ap layout_of (decode-refused f (number_of d) (number-above d) e))

module _ (f : List ℕ) (label : Section) (e : label ≡ section_of 0 octet_width f) (r : 0 ≡ label_stage f) where
  -- the label's section is whole
  label-ends : (label.end ≡ sent_at f) × (count_width ≤ label.end) × (label.end ≤ length f)
  label-ends =
      let p = ap (λ (x : Section). x.end) e in
      let s = stage-none 0 octet_width judge_label f (sym r) in
      (p, omega arith, omega arith)

  -- its octets
  looked-at : (b : Bool) → b ≡ some_unshown (take (label.end - count_width) (drop count_width f)) → some_unshown (sample_in f).label ≡ b
  unfolding sample_in
  looked-at b g =
      let p = ap (λ (x : Section). x.end) e in
      let n : label.end - count_width ≡ label_count f = omega arith in
      sym (g ∙ ap (λ (k : ℕ). some_unshown (part (items_at 0) k f)) n)

  module _ (o : some_unshown (sample_in f).label ≡ false) where
    -- the section of sent packets is refused
    sent-refused : (d : Refusal) → number_of d ≡ section_stage label.end size_width judge_sent f → layout_in (Err d) ≡ layout_of (decode f)
    sent-refused d g =
        refused-found f d (refused-sent f (sym r) o (number_of d) (number-above d)
        (sym (g ∙ ap (λ (n : ℕ). section_stage n size_width judge_sent f) label-ends.0)))

    module _ (sent : Section) (g : sent ≡ section_of label.end size_width f) (q : 0 ≡ section_stage label.end size_width judge_sent f) where
      -- it is not
      sent-passed : sent_stage f ≡ 0
      sent-passed = sym (q ∙ ap (λ (n : ℕ). section_stage n size_width judge_sent f) label-ends.0)

      sent-found : sent ≡ section_of (sent_at f) size_width f
      sent-found = g ∙ ap (λ (n : ℕ). section_of n size_width f) label-ends.0

      sent-ends : (sent.end ≡ arrived_at f) × (sent.end ≤ length f)
      sent-ends =
          let p = ap (λ (x : Section). x.end) sent-found in
          let s = stage-none (sent_at f) size_width judge_sent f sent-passed in
          (p, omega arith)

      -- the section of arrivals is refused
      arrived-refused : (d : Refusal) → number_of d ≡ section_stage sent.end arrival_width judge_arrivals f → layout_in (Err d) ≡ layout_of (decode f)
      arrived-refused d h =
          refused-found f d (refused-arrived f (sym r) o sent-passed (number_of d) (number-above d)
          (sym (h ∙ ap (λ (n : ℕ). section_stage n arrival_width judge_arrivals f) sent-ends.0)))

      module _ (arrived : Section) (h : arrived ≡ section_of sent.end arrival_width f)
          (t : 0 ≡ section_stage sent.end arrival_width judge_arrivals f) where
        -- it is not
        arrived-passed : arrived_stage f ≡ 0
        arrived-passed = sym (t ∙ ap (λ (n : ℕ). section_stage n arrival_width judge_arrivals f) sent-ends.0)

        arrived-found : arrived ≡ section_of (arrived_at f) arrival_width f
        arrived-found = h ∙ ap (λ (n : ℕ). section_of n arrival_width f) sent-ends.0

        arrivals-within : (arrived.end ≡ file_end f) × (items_at sent.end + arrival_width * arrived.count ≤ length f)
        arrivals-within =
            let p = ap (λ (x : Section). x.end) arrived-found in
            let c = ap (λ (x : Section). x.count) arrived-found in
            let u = sent-ends in
            let s = stage-none (arrived_at f) arrival_width judge_arrivals f arrived-passed in
            (p, omega arith)

        -- octets follow
        ends-late : arrived.end < length f → layout_in (Err OctetsFollow) ≡ layout_of (decode f)
        ends-late k =
            let p = arrivals-within in
            let e : end_stage f ≡ octets_follow = ap (λ b. refusal_if b octets_follow) (lt-ltb (file_end f) (length f) (omega arith)) in
            refused-found f OctetsFollow (refused_end f (sym r) o sent-passed arrived-passed octets_follow (omega arith) e)

        -- the arrivals are judged last: what that says is said of the file
        judged-last : (n : ℕ) → length f ≤ arrived.end
            → n ≡ judge sent.count 0 (items_in arrival_width arrival_in arrived.count (drop (items_at sent.end) f)) → file_refusal f ≡ n
        unfolding sample_in
        judged-last n k j =
            let p = arrivals-within in
            let u = ap (λ (x : Section). x.count) sent-found in
            let v = sent-ends.0 in
            let w = ap (λ (x : Section). x.count) arrived-found in
            let e : end_stage f ≡ 0 = ap (λ b. refusal_if b octets_follow) (le-ltb (file_end f) (length f) (omega arith)) in
            refused-arrivals f (sym r) o sent-passed arrived-passed n e
            (sym (j ∙ (λ i. judge (u i) 0 (items_in arrival_width arrival_in (w i) (drop (items_at (v i)) f)))))

pub returns-in_err-label-clause-value : goal.returns-in_err-label-clause-value
returns-in_err-label-clause-value c =
    let f = c.args.file.now in
    let p = err_from_is_err_and c.from_residual.result c.from_residual.ensures.1 in
    let d = c.in_err-label.field-0.0 in
    rw (p.1, p.2) (refused-found f d (refused-label f (number_of d) (number-above d) (sym c.in_err-label.ensures.refusal)))

pub slice_bounds-some_unshown-end : goal.slice_bounds-some_unshown-end
slice_bounds-some_unshown-end c =
    let l = label-ends c.args.file.now c.in_ok-label.label c.in_ok-label.ensures.section c.in_ok-label.ensures.refusal in
    omega (arith, l.1, l.2)

pub returns-then-some_unshown-clause-value : goal.returns-then-some_unshown-clause-value
returns-then-some_unshown-clause-value c =
    let f = c.args.file.now in
    let l = c.in_ok-label in
    refused-found f OctetOutside (refused-octets f (sym l.ensures.refusal)
    (looked-at f l.label l.ensures.section l.ensures.refusal _ c.some_unshown.ensures ∙ c.if-some_unshown.true))

pub section_at-requires-2 : goal.section_at-requires-2
section_at-requires-2 c =
    let l = label-ends c.args.file.now c.in_ok-label.label c.in_ok-label.ensures.section c.in_ok-label.ensures.refusal in
    (l.2, omega arith)

pub returns-in_err-sent-clause-value : goal.returns-in_err-sent-clause-value
returns-in_err-sent-clause-value c =
    let f = c.args.file.now in
    let l = c.in_ok-label in
    let o = looked-at f l.label l.ensures.section l.ensures.refusal _ c.some_unshown.ensures ∙ c.if-some_unshown.false in
    let p = err_from_is_err_and c.from_residual-in_err-sent.result c.from_residual-in_err-sent.ensures.1 in
    rw (p.1, p.2) (sent-refused f l.label l.ensures.section l.ensures.refusal o c.in_err-sent.field-0.0 c.in_err-sent.ensures.refusal)

pub section_at-requires-3 : goal.section_at-requires-3
section_at-requires-3 c =
    let f = c.args.file.now in
    let l = c.in_ok-label in
    let k = c.in_ok-sent in
    let o = looked-at f l.label l.ensures.section l.ensures.refusal _ c.some_unshown.ensures ∙ c.if-some_unshown.false in
    ((sent-ends f l.label l.ensures.section l.ensures.refusal o k.sent k.ensures.section k.ensures.refusal).1, omega arith)

pub returns-in_err-arrived-clause-value : goal.returns-in_err-arrived-clause-value
returns-in_err-arrived-clause-value c =
    let f = c.args.file.now in
    let l = c.in_ok-label in
    let k = c.in_ok-sent in
    let o = looked-at f l.label l.ensures.section l.ensures.refusal _ c.some_unshown.ensures ∙ c.if-some_unshown.false in
    let p = err_from_is_err_and c.from_residual-in_err-arrived.result c.from_residual-in_err-arrived.ensures.1 in
    rw (p.1, p.2)
    (arrived-refused f l.label l.ensures.section l.ensures.refusal o k.sent k.ensures.section k.ensures.refusal
    c.in_err-arrived.field-0.0 c.in_err-arrived.ensures.refusal)

pub returns-then-arrived-file-clause-value : goal.returns-then-arrived-file-clause-value
returns-then-arrived-file-clause-value c =
    let f = c.args.file.now in
    let l = c.in_ok-label in
    let k = c.in_ok-sent in
    let b = c.in_ok-arrived in
    let o = looked-at f l.label l.ensures.section l.ensures.refusal _ c.some_unshown.ensures ∙ c.if-some_unshown.false in
    ends-late f l.label l.ensures.section l.ensures.refusal o k.sent k.ensures.section k.ensures.refusal
    b.arrived b.ensures.section b.ensures.refusal c.if-arrived-file.true

pub judge_file-requires : goal.judge_file-requires
judge_file-requires c =
    let f = c.args.file.now in
    let l = c.in_ok-label in
    let k = c.in_ok-sent in
    let b = c.in_ok-arrived in
    let o = looked-at f l.label l.ensures.section l.ensures.refusal _ c.some_unshown.ensures ∙ c.if-some_unshown.false in
    (arrivals-within f l.label l.ensures.section l.ensures.refusal o k.sent k.ensures.section k.ensures.refusal
    b.arrived b.ensures.section b.ensures.refusal).1

pub returns-in_err-judge_file-clause-value : goal.returns-in_err-judge_file-clause-value
returns-in_err-judge_file-clause-value c =
    let f = c.args.file.now in
    let l = c.in_ok-label in
    let k = c.in_ok-sent in
    let b = c.in_ok-arrived in
    let o = looked-at f l.label l.ensures.section l.ensures.refusal _ c.some_unshown.ensures ∙ c.if-some_unshown.false in
    let p = err_from_is_err_and c.from_residual-in_err-judge_file.result c.from_residual-in_err-judge_file.ensures.1 in
    let d = c.in_err-judge_file.field-0.0 in
    rw (p.1, p.2)
    (refused-found f d
    (judged-last f l.label l.ensures.section l.ensures.refusal o k.sent k.ensures.section k.ensures.refusal
    b.arrived b.ensures.section b.ensures.refusal (number_of d) c.if-arrived-file.false c.in_err-judge_file.ensures))

pub overflow_cast-result : goal.overflow_cast-result
overflow_cast-result c =
    let f = c.args.file.now in
    let l = c.in_ok-label in
    let k = c.in_ok-sent in
    let b = c.in_ok-arrived in
    let o = looked-at f l.label l.ensures.section l.ensures.refusal _ c.some_unshown.ensures ∙ c.if-some_unshown.false in
    let z =
    judged-last f l.label l.ensures.section l.ensures.refusal o k.sent k.ensures.section k.ensures.refusal
    b.arrived b.ensures.section b.ensures.refusal 0 c.if-arrived-file.false c.in_ok-judge_file.ensures in
    let p = ap (λ (x : Section). x.count) l.ensures.section in
    let q = ap (λ (x : Section). x.count) (sent-found f l.label l.ensures.section l.ensures.refusal o k.sent k.ensures.section k.ensures.refusal) in
    let r =
    ap (λ (x : Section). x.count) (arrived-found f l.label l.ensures.section l.ensures.refusal o k.sent k.ensures.section k.ensures.refusal
    b.arrived b.ensures.section b.ensures.refusal) in
    let w = refused_none f z in
    omega (arith, w.label_fits, p)

pub overflow_cast-result-2 : goal.overflow_cast-result-2
overflow_cast-result-2 c =
    let f = c.args.file.now in
    let l = c.in_ok-label in
    let k = c.in_ok-sent in
    let b = c.in_ok-arrived in
    let o = looked-at f l.label l.ensures.section l.ensures.refusal _ c.some_unshown.ensures ∙ c.if-some_unshown.false in
    let z =
    judged-last f l.label l.ensures.section l.ensures.refusal o k.sent k.ensures.section k.ensures.refusal
    b.arrived b.ensures.section b.ensures.refusal 0 c.if-arrived-file.false c.in_ok-judge_file.ensures in
    let p = ap (λ (x : Section). x.count) l.ensures.section in
    let q = ap (λ (x : Section). x.count) (sent-found f l.label l.ensures.section l.ensures.refusal o k.sent k.ensures.section k.ensures.refusal) in
    let r =
    ap (λ (x : Section). x.count) (arrived-found f l.label l.ensures.section l.ensures.refusal o k.sent k.ensures.section k.ensures.refusal
    b.arrived b.ensures.section b.ensures.refusal) in
    let w = refused_none f z in
    omega (arith, w.sent_fits, q)

pub overflow_cast-result-3 : goal.overflow_cast-result-3
overflow_cast-result-3 c =
    let f = c.args.file.now in
    let l = c.in_ok-label in
    let k = c.in_ok-sent in
    let b = c.in_ok-arrived in
    let o = looked-at f l.label l.ensures.section l.ensures.refusal _ c.some_unshown.ensures ∙ c.if-some_unshown.false in
    let z =
    judged-last f l.label l.ensures.section l.ensures.refusal o k.sent k.ensures.section k.ensures.refusal
    b.arrived b.ensures.section b.ensures.refusal 0 c.if-arrived-file.false c.in_ok-judge_file.ensures in
    let p = ap (λ (x : Section). x.count) l.ensures.section in
    let q = ap (λ (x : Section). x.count) (sent-found f l.label l.ensures.section l.ensures.refusal o k.sent k.ensures.section k.ensures.refusal) in
    let r =
    ap (λ (x : Section). x.count) (arrived-found f l.label l.ensures.section l.ensures.refusal o k.sent k.ensures.section k.ensures.refusal
    b.arrived b.ensures.section b.ensures.refusal) in
    let w = refused_none f z in
    omega (arith, w.arrivals_fit, r)

pub returns-clause-value : goal.returns-clause-value
returns-clause-value c =
    let f = c.args.file.now in
    let l = c.in_ok-label in
    let k = c.in_ok-sent in
    let b = c.in_ok-arrived in
    let o = looked-at f l.label l.ensures.section l.ensures.refusal _ c.some_unshown.ensures ∙ c.if-some_unshown.false in
    let z =
    judged-last f l.label l.ensures.section l.ensures.refusal o k.sent k.ensures.section k.ensures.refusal
    b.arrived b.ensures.section b.ensures.refusal 0 c.if-arrived-file.false c.in_ok-judge_file.ensures in
    let p = ap (λ (x : Section). x.count) l.ensures.section in
    let q = ap (λ (x : Section). x.count) (sent-found f l.label l.ensures.section l.ensures.refusal o k.sent k.ensures.section k.ensures.refusal) in
    let r =
    ap (λ (x : Section). x.count) (arrived-found f l.label l.ensures.section l.ensures.refusal o k.sent k.ensures.section k.ensures.refusal
    b.arrived b.ensures.section b.ensures.refusal) in
    (λ i. record { refusal = 0; label = p i; sent = q i; arrivals = r i }) ∙ sym (layout-accepted f z)
