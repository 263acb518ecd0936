-- The arrival at i settles it, or the rest decides (`turn-stop`, `turn-next`, `past_next`).
use Rattle.std.proofs.Common.{◌≡◌, ℕ, ◌<◌, List, length, refl, ◌∙◌, arith}
use Rattle.std.proofs.lemmas.Result.{err_from_is_err_and}
use Rattle.rfc4737.specs.Arrivals.{each}
use Rattle.rfc4737.proofs.Arrivals.{length-each}
use Rattle.rfc4737.proofs.JudgedInTurn.{turn-stop, turn-next, turn-done}
use Rattle.rfc4737.proofs.Refused.{number-above}
use Rattle.fragments.specs.declared.Piece.{Piece}
use Rattle.fragments.specs.declared.arrivals.Arrivals.{Arrivals}
use Rattle.fragments.specs.Judge.{judge_after}
use Rattle.fragments.specs.Arrivals.{pieces}
use Rattle.fragments.proofs.Laws.{pieces-length}
use Rattle.fragments.proofs.Judged.{turn-start, past_next, refusal-here}
use Rattle.fragments.proofs.judge.judge_pieces.Goals as goal

-- there are as many arrivals and refusals as numbers
many : (k : ℕ) (a : Arrivals) → (length (pieces a) ≡ length a.numbers.now) × (length (each (judge_after k) (pieces a)) ≡ length a.numbers.now)
many k a =
    let n = pieces-length a.numbers.now a.times.now a.lengths.now a.mores.now a.offsets.now in
    (n, length-each (judge_after k) (pieces a) ∙ n)

pub loop-i-init : goal.loop-i-init
loop-i-init c = let s = turn-start c.args.k (pieces c.args.arrivals.now) in record { past = s.0; rest = s.1 }

pub returns-in_err-judge_piece : goal.returns-in_err-judge_piece
returns-in_err-judge_piece c =
    let p = err_from_is_err_and c.from_residual.result c.from_residual.ensures.1 in
    let ps : List Piece = pieces c.args.arrivals.now in
    let i : ℕ = c.loop-i.i in
    let m = many c.args.k c.args.arrivals.now in
    let d = c.in_err-judge_piece.field-0.0 in
    let g : i < length c.args.arrivals.now.numbers.now = omega (arith, c.loop-i-test.true, c.len-i-end.ensures) in
    rw (p.1, p.2)
    (turn-stop (each (judge_after c.args.k) ps) i c.loop-i.invariant.rest 0 (omega (arith, m, g))
    (refusal-here ps c.loop-i.reference i c.get-piece.result (omega (arith, m, g)) c.get-piece.ensures c.loop-i.invariant.past c.args.k _
    c.in_err-judge_piece.ensures)
    (λ q. absurd (omega (arith, number-above d, q))))

pub loop-i-preserved : goal.loop-i-preserved
loop-i-preserved c =
    let ps : List Piece = pieces c.args.arrivals.now in
    let i : ℕ = c.loop-i.i in
    let m = many c.args.k c.args.arrivals.now in
    let g : i < length c.args.arrivals.now.numbers.now = omega (arith, c.loop-i-test.true, c.len-i-end.ensures) in
    let h : i < length ps = omega (arith, m, g) in
    let b = c.get-piece in
    record {
      past = past_next ps c.loop-i.reference i b.result h b.ensures c.loop-i.invariant.past _ c.next_reference-reference.ensures;
      rest =
          turn-next (each (judge_after c.args.k) ps) i c.loop-i.invariant.rest 0 (omega (arith, m, g))
          (refusal-here ps c.loop-i.reference i b.result h b.ensures c.loop-i.invariant.past c.args.k 0 c.in_ok-judge_piece.ensures) refl;
    }

pub returns : goal.returns
returns c =
    let m = many c.args.k c.args.arrivals.now in
    turn-done (each (judge_after c.args.k) (pieces c.args.arrivals.now)) c.loop-i.i c.loop-i.invariant.rest
    (omega (arith, m, c.loop-i-test.false, c.len-i-end.ensures))
