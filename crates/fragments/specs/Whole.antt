-- For whole packets the flags are those of the answers of rfc4737. Assumes nothing.
use Rattle.std.specs.Prelude.{ℕ, false, not, List, map, ◌≡◌}
use Rattle.rfc4737.specs.declared.Answer.{Answer}
use Rattle.rfc4737.specs.declared.Answer.TheVariants.{Duplicate, InOrder, Reordered}
use Rattle.rfc4737.specs.Answer.{answers}
use Rattle.rfc4737.specs.Numbering.{in_order_number, reordered_after_number, duplicate_number}
use Rattle.fragments.specs.declared.Piece.{Piece}
use Rattle.fragments.specs.Pieces.{arrival_of, is_whole, any}
use Rattle.fragments.specs.Order.{flags}

-- the flag of an answer: the number of its case, with one number for both directions of a late time
abbrev pub order_flag : Answer → ℕ
order_flag (Duplicate d) = duplicate_number
order_flag (InOrder d) = in_order_number
order_flag (Reordered d) = reordered_after_number

-- if no arrival is a fragment, the flags are those of the answers, whatever the payload sizes
unfoldable pub WholeFlags : List Piece → Type 0
WholeFlags l = any (λ (a : Piece). not (is_whole a)) l ≡ false → (size : ℕ → ℕ) → flags l ≡ map order_flag (answers size (map arrival_of l))
