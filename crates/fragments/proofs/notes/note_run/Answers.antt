use Rattle.std.proofs.Common.{◌≡◌, arith, rules, get_or}
use Rattle.fragments.proofs.Laws.{pieces-length}
use Rattle.fragments.proofs.notes.note_run.Goals as goal

pub get-requires : goal.get-requires
get-requires c =
    let a = c.args.arrivals.now in
    let e : c.from-i.result ≡ get_or c.args.run.now c.loop-place.place-index 0 = search rules in
    omega (
      arith,
      e,
      c.requires.0.inside c.loop-place.place-index c.loop-place-test.true,
      pieces-length a.numbers.now a.times.now a.lengths.now a.mores.now a.offsets.now,
    )
