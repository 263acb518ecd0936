-- `summary::all::Others::put_counts` meets its contract: the parts are put one after the other (`put_then`). Here e1 and e3 are the sections, e2 is
-- the line between them. Assumes nothing.
use Rattle.std.proofs.Common.{ℕ, List, get_or, ap, rules, arith}
use Rattle.summary.specs.All.{over_line, count_lines}
use Rattle.summary.proofs.Sections.{extent-section, degree-section}
use Rattle.writing.proofs.Put.{put-nothing, put_then, put-named}
use Rattle.summary.proofs.all.Others.put_counts.Goals as goal

pub returns : goal.returns
unfolding count_lines
returns c =
    let e1 = c.put_section-one.ensures in
    let e2 = c.put_over-two.ensures in
    let e3 = c.put_section.ensures in (
      search rules,
      λ l known.
          put_then (put-named (extent-section _ l c.args.self.now.tally.now (omega arith) known.extents) e1.0)
          (put_then (put-named (ap (λ (t : List ℕ). over_line (get_or t 0 0)) known.extents) e2.0)
          (put_then (put-named (degree-section _ l c.args.self.now.degrees.now (omega arith) known.reordered) e3.0) (put-nothing _ _))),
    )
