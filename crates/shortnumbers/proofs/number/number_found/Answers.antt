use Rattle.std.proofs.Common.{ℕ, ◌≡◌, ◌+◌, ◌-◌, ◌/◌, ◌%◌, ◌<◌, ap, sym, ◌∙◌}
use borrow.Author.Tests.{lt-ltb, le-ltb}
use Rattle.shortnumbers.specs.Number.{number_found}
use Rattle.shortnumbers.proofs.number.number_found.Goals as goal

-- by the number from which it goes down
down : (r g x t : ℕ) → x < r → t ≡ g + r / 2 - 1 → t - (t + (r - x)) % r ≡ number_found r g x
unfolding number_found
down r g x t h e = ap (λ (s : ℕ). s - (s + (r - x)) % r) e ∙ sym (rw (lt-ltb x r h))

pub returns-then-r-short : goal.returns-then-r-short
unfolding number_found
returns-then-r-short c = sym (rw (le-ltb _ _ c.if-r-short.true))

pub returns : goal.returns
returns c = c.saturating_sub.ensures ∙ down _ _ _ _ c.if-r-short.false c.saturating_sub-top.ensures
