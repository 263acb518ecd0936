-- `writing::Text::put_word` meets its contract: the word stands after what was written (`added`). Assumes nothing.
use Rattle.std.proofs.Common.{◌≡◌, ◌+◌, ◌≤◌, length, take, arith}
use Rattle.writing.proofs.Added.{used, added}
use Rattle.writing.proofs.text.Text.put_word.Goals as goal

pub returns : goal.returns
returns g c =
    let text = c.self.inside in
    let e : take text.len text.octets ≡ c.args.self.now = c.self.view_is in
    let inside : text.len ≤ length text.octets = omega arith in
    let room : text.len + length c.args.word.now ≤ length text.octets = omega (arith, used _ e inside) in
    added _ e inside _ _ c.put_octets.ensures room
