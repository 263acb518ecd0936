-- `count_at` says whether the count is there, `outside` judges it, and `place_in` says whether the items are all there: these are the
-- tests of the section's stage in their order. The end fits 64 bits, since count and width are small.
use Rattle.std.proofs.Common.{◌^◌, ◌<◌, ltb, length, sym, ap, ◌∙◌, arith, rules, w8}
use Rattle.octets.proofs.Below.{below-fits}
use Rattle.rfc4737.specs.Refusals.{outside}
use Rattle.sample.specs.Format.{end_of}
use Rattle.sample.proofs.Readings.{read-ended, read-valued, count_fits, section-fits, section-ended, section-judged, section-short, section-whole}
use Rattle.sample.proofs.sections.section_at.Goals as goal

pub returns-in_default : goal.returns-in_default
returns-in_default c =
    let a = c.args in
    record {
      refusal =
          section-ended a.at a.width a.least a.most a.refusal a.file.now
          (read-ended _ _ a.file.now (sym c.count_at.ensures ∙ c.in_default.is));
      section = search rules;
    }

pub returns-then-outside : goal.returns-then-outside
returns-then-outside c =
    let a = c.args in
    let k = read-valued _ _ a.file.now (sym c.count_at.ensures ∙ c.in-Some.is) in
    record {
      refusal =
          section-judged a.at a.width a.least a.most a.refusal a.file.now k.0
          (sym (ap (outside a.least a.most) k.1) ∙ sym c.outside.ensures ∙ c.if-outside.true);
      section = search rules;
    }

pub end_of-requires : goal.end_of-requires
end_of-requires c =
    let a = c.args in
    let k = read-valued _ _ a.file.now (sym c.count_at.ensures ∙ c.in-Some.is) in
    let b : c.in-Some.count < 2 ^ 16 = rw k.1 (count_fits a.at a.file.now (below-fits w8 a.file.now c.type_inv.file)) in
    let p = section-fits a.width c.in-Some.count c.requires.1 b in
    omega (arith, p)

pub returns-in_default-place_in : goal.returns-in_default-place_in
returns-in_default-place_in c =
    let a = c.args in
    let k = read-valued _ _ a.file.now (sym c.count_at.ensures ∙ c.in-Some.is) in
    let e = c.end_of.ensures ∙ ap (end_of a.at a.width) k.1 in
    record {
      refusal =
          section-short a.at a.width a.least a.most a.refusal a.file.now k.0
          (sym (ap (outside a.least a.most) k.1) ∙ sym c.outside.ensures ∙ c.if-outside.false)
          (sym (ap (ltb (length a.file.now)) e) ∙ read-ended _ _ a.file.now (sym c.place_in.ensures ∙ c.in_default-place_in.is));
      section = search rules;
    }

pub returns : goal.returns
returns c =
    let a = c.args in
    let k = read-valued _ _ a.file.now (sym c.count_at.ensures ∙ c.in-Some.is) in
    let e = c.end_of.ensures ∙ ap (end_of a.at a.width) k.1 in
    let p = read-valued _ _ a.file.now (sym c.place_in.ensures ∙ c.in-Some-place_in.is) in
    let q = p.1 ∙ e in
    record {
      refusal =
          section-whole a.at a.width a.least a.most a.refusal a.file.now k.0
          (sym (ap (outside a.least a.most) k.1) ∙ sym c.outside.ensures ∙ c.if-outside.false)
          (sym (ap (ltb (length a.file.now)) e) ∙ p.0);
      section = λ i. record { count = k.1 i; end = q i };
    }
