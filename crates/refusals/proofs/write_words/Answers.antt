use Rattle.std.proofs.Common.{◌≤◌, length, refl, sym, ◌∙◌, arith}
use Rattle.octets.proofs.Memory.{put-room, over-splice}
use Rattle.rfc4737.proofs.Due.{between}
use Rattle.sample.proofs.Output.{output-refused, output-short, output-written}
use Rattle.refusals.specs.Words.{words_of}
use Rattle.refusals.proofs.Asked.{words-fit, asked-outside, asked-none}
use Rattle.refusals.proofs.write_words.Goals as goal

pub returns-then-outside : goal.returns-then-outside
returns-then-outside c =
    output-refused _ _ _ _ (asked-outside c.args.refusal (sym c.outside.ensures ∙ c.if-outside.true)) (λ e. omega arith)

pub words_of-words-requires : goal.words_of-words-requires
words_of-words-requires c = omega (arith, between 1 18 c.args.refusal (sym c.outside.ensures ∙ c.if-outside.false))

pub returns-then-out-words : goal.returns-then-out-words
returns-then-out-words c =
    let none = asked-none c.args.refusal (sym c.outside.ensures ∙ c.if-outside.false) in
    output-short _ _ _ none (rw c.words_of-words.ensures at c.if-out-words.true)

pub overflow_cast-result : goal.overflow_cast-result
overflow_cast-result c = rw c.words_of-words.ensures (omega (arith, words-fit.most c.args.refusal))

pub returns : goal.returns
returns c =
    let none = asked-none c.args.refusal (sym c.outside.ensures ∙ c.if-outside.false) in
    let room : length (words_of c.args.refusal) ≤ length c.args.out.now = rw c.words_of-words.ensures at c.if-out-words.false in
    rw c.words_of-words.ensures
    (output-written _ _ _ none room refl
    (rw c.words_of-words.ensures at c.put_octets.ensures ∙ put-room 0 _ _ (omega arith)
    ∙ sym (over-splice (words_of c.args.refusal) c.args.out.now)))
