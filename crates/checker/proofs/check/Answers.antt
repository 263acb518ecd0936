-- `checker::check` meets its contract. If the sample is refused, the listing is not read (`checked_refused`). Else the verdict is
-- `Agrees` if `same` says so (`checked-same`); if not, the octets that agree give the wrong line (`checked-wrong`). The claims that the
-- contract carries are laws. Assumes nothing.
use Rattle.sample.specs.Decode.{decode}
use Rattle.checker.proofs.Answers.{checked_refused, checked-same, checked-wrong, octets-most}
use Rattle.checker.proofs.Claims.{agrees-exactly, start-decides}
use Rattle.checker.proofs.Cases.{cases-hold}
use Rattle.checker.proofs.check.Goals as goal

pub returns-then-agreement-ne-NONE : goal.returns-then-agreement-ne-NONE
returns-then-agreement-ne-NONE c =
    let a = c.agreement-agreement.ensures in
    record {
      value = checked_refused _ _ _ a.value c.if-agreement-ne-NONE.true;
      exactly = agrees-exactly _;
      start = start-decides (decode c.args.file.now) a.room;
      cases = cases-hold;
    }

pub returns-then-agreement : goal.returns-then-agreement
returns-then-agreement c =
    let a = c.agreement-agreement.ensures in
    record {
      value = checked-same _ _ _ a.value c.if-agreement-ne-NONE.false c.if-agreement.true;
      exactly = agrees-exactly _;
      start = start-decides (decode c.args.file.now) a.room;
      cases = cases-hold;
    }

pub wrong_line-requires : goal.wrong_line-requires
wrong_line-requires c =
    let a = c.agreement-agreement.ensures in
    octets-most _ _ _ a.value c.if-agreement-ne-NONE.false a.room

pub returns : goal.returns
returns c =
    let a = c.agreement-agreement.ensures in
    record {
      value = checked-wrong _ _ _ a.value c.if-agreement-ne-NONE.false c.if-agreement.false _ c.wrong_line.ensures;
      exactly = agrees-exactly _;
      start = start-decides (decode c.args.file.now) a.room;
      cases = cases-hold;
    }
