-- `follow::text::write_words` meets its contract: the octets that `words` writes are the words (`words-read`), and a line feed is set after
-- them. Assumes nothing.
use Rattle.std.proofs.Common.{ℕ, List, [], ◌∷◌, ◌++◌, ◌+◌, ◌≡◌, length, take, set, ap, refl, ◌∙◌, rules, arith, length-append}
use Rattle.std.proofs.Math.ListN.{length-replicate}
use Rattle.std.proofs.lemmas.Grind.{take-set_at}
use Rattle.refusals.specs.Words.{words_of}
use Rattle.follow.proofs.Laws.{words-read}
use Rattle.follow.proofs.text.write_words.Goals as goal

pub returns-clause-written : goal.returns-clause-written
returns-clause-written c =
    let n = c.words-n.result.length in
    let read = words-read c.args.refusal c.words-n.ensures.output c.words-n.ensures.fit (length-replicate {A = ℕ} 129 0) in
    let long : length c.words-n.new.out ≡ 129 = search rules in
    let line : take (n + 1) (set c.words-n.new.out n 10) ≡ words_of c.args.refusal ++ (10 ∷ []) =
    take-set_at c.words-n.new.out n (n + 1) 10 refl (omega (arith, long, read.0)) ∙ ap (λ (l : List ℕ). l ++ (10 ∷ [])) read.1.1 in
    c.word.ensures.written (omega (arith, c.words-n.ensures.fit.most c.args.refusal, ap length line, length-append (words_of c.args.refusal) (10 ∷ [])))
    ∙ ap (λ (l : List ℕ). c.args.out.now ++ l) line
