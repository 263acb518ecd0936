-- `checker::line_feeds_in` meets its contract: the chain counts the line feeds (`feeds-counted`). Assumes nothing.
use Rattle.std.proofs.Common.{rules, ◌≡◌, ◌∙◌, sym}
use Rattle.std.specs.Prelude.{count_by, nat_eq}
use Rattle.octets.specs.Text.{line_feed}
use Rattle.checker.proofs.Feeds.{feeds-counted}
use Rattle.checker.proofs.line_feeds_in.Goals as goal

pub returns : goal.returns
returns c =
    let h : c.count.result ≡ count_by (λ x. nat_eq x line_feed) c.args.text.now = search rules in
    h ∙ sym (feeds-counted c.args.text.now)
