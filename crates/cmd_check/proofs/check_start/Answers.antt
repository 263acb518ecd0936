-- `cmd_check::check_start` meets its contract: the verdict on the start is that on the whole listing, since one octet more than any
-- report has decides (`StartDecides`, which the contract of `checker::check` carries). Assumes nothing.
use Rattle.std.proofs.Common.{arith, ap, ◌∙◌, ◌+◌}
use Rattle.listing.specs.Room.{listing_octets}
use Rattle.sample.specs.Decode.{decode}
use Rattle.checker.specs.Verdict.{sample_verdict}
use Rattle.cmd_check.proofs.check_start.Goals as goal

pub returns : goal.returns
returns c whole e =
    let d = decode c.args.file.now in
    let found = c.check.ensures in
    found.value ∙ ap (sample_verdict d) e ∙ found.start.start whole (listing_octets + 1) (omega arith)
