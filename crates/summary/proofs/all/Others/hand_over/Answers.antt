-- `summary::all::Others::hand_over` meets its contract: the first `put_all` finds the length of the text. Then the refusal comes first, and 8
-- if the text does not fit; else the text is put. Here n is what the first call ensures, p the same of the answers l. Assumes nothing.
use Rattle.std.proofs.Common.{◌≡◌, ◌<◌, ◌≤◌, ◌++◌, length, refl, arith}
use Rattle.sample.proofs.Output.{output-refused, output-short, output-written}
use Rattle.summary.specs.All.{more_text}
use Rattle.writing.proofs.Put.{put-start}
use Rattle.summary.proofs.all.Others.hand_over.Goals as goal

pub returns-then-refusal-ne-NONE : goal.returns-then-refusal-ne-NONE
returns-then-refusal-ne-NONE c =
    λ l known.
    let n = c.put_all-n.ensures in
    let p = n.1 l known in
    (output-refused _ _ _ _ refl c.if-refusal-ne-NONE.true, omega (arith, n.0, p.place))

pub returns-then-out-n : goal.returns-then-out-n
returns-then-out-n c =
    λ l known.
    let n = c.put_all-n.ensures in
    let p = n.1 l known in
    let a = c.args in
    let short : length a.out.now < length (a.summary.now ++ more_text l (length a.self.now.gaps.now)) = omega (arith, p.place, c.if-out-n.true) in
    (rw c.from.ensures (output-short _ _ _ c.if-refusal-ne-NONE.false short), omega (arith, n.0, p.place))

pub returns : goal.returns
returns c =
    λ l known.
    let n = c.put_all-n.ensures in
    let p = n.1 l known in
    let a = c.args in
    let count : c.put_all-n.result ≡ length (a.summary.now ++ more_text l (length a.self.now.gaps.now)) = omega (arith, p.place) in
    let fits : length (a.summary.now ++ more_text l (length a.self.now.gaps.now)) ≤ length a.out.now = omega (arith, count, c.if-out-n.false) in (
      rw c.from-2.ensures
          (output-written _ _ _ c.if-refusal-ne-NONE.false fits count (put-start (c.put_all.ensures.1 l known) fits)),
      omega (arith, n.0, p.place),
    )
