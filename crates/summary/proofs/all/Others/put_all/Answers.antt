-- `summary::all::Others::put_all` meets its contract: the parts are put one after the other (`put_then`). Here e1 to e4 are the summary, the
-- counts, the gaps and the runs. Assumes nothing.
use Rattle.std.proofs.Common.{ap, rules}
use Rattle.rfc4737.specs.declared.Runs.{Runs}
use Rattle.summary.specs.All.{runs_line, more_text}
use Rattle.summary.proofs.Sections.{gap-section}
use Rattle.writing.proofs.Put.{put-nothing, put_then, put-named}
use Rattle.summary.proofs.all.Others.put_all.Goals as goal

pub returns : goal.returns
unfolding more_text
returns c =
    let e1 = c.put_text-one.ensures in
    let e2 = c.put_counts-two.ensures in
    let e3 = c.put_section-three.ensures in
    let e4 = c.put_runs.ensures in (
      search rules,
      λ l known.
          put_then e1
          (put_then (e2.1 l known.counts)
          (put_then (put-named (gap-section _ l _ known.gap) e3.0)
          (put_then (put-named (ap (λ (r : Runs). runs_line r.closed r.squares r.current) known.ran) e4.0) (put-nothing _ _)))),
    )
