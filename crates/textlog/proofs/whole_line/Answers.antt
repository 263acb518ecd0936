-- What is read is the line if it ends the octets.
use Rattle.std.proofs.Common.{ℕ, ◌≡◌, Bool, true, false, eqb, length, ap, ◌∙◌, Option, Some, None, MatchOption, rules}
use Rattle.std.specs.Bool.{then_some}
use Rattle.textlog.specs.Decode.{read_whole, decode_line}
use Rattle.textlog.specs.declared.reading.ReadLine.{ReadLine}
use Rattle.textlog.proofs.whole_line.Goals as goal

-- a line that a test keeps, which is that it ends the octets, is read as the whole of them
whole-kept : (Gives : ReadLine → Bool → Type 0) (n : ℕ) (read kept : Option ReadLine)
    → ((x : ReadLine) (b : Bool) → Gives x b → b ≡ eqb x.end n)
    → MatchOption read (kept ≡ None) (λ x. (b : Bool) × Gives x b × (kept ≡ then_some b x))
    → read_whole n kept ≡ read_whole n read
whole-kept Gives n None kept says none = rw none
whole-kept Gives n (Some x) kept says (true, gives, kept_is) = rw kept_is
whole-kept Gives n (Some x) kept says (false, gives, kept_is) = rw (kept_is, ← says x false gives)

pub returns-clause-read : goal.returns-clause-read
unfolding decode_line
returns-clause-read c =
    whole-kept _ _ _ _ (λ x b g. search (g, rules)) c.filter.ensures ∙ ap (read_whole (length c.args.line.now)) c.line_at.ensures
