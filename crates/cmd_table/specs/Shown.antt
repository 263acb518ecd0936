-- The text that the program prints for an input, in 18 parts; JSON if the first argument is true, else CSV. Assumes nothing.
use Rattle.std.specs.Prelude.{◌≡◌, Bool, cond, List, [], ◌++◌, ℕ, zero, suc, eqb, length}
use Rattle.octets.specs.Memory.{over}
use Rattle.listing.specs.Lines.{refused_line}
use Rattle.sample.specs.Decode.{Decoded, refused, accepted}
use Rattle.table.specs.Text.{table_text, part_text}

-- the text of a decoded input: the table of its sample, or one line if the input is refused
unfoldable pub shown_text : Bool → Decoded → List ℕ
shown_text json (refused r) = refused_line r
shown_text json (accepted s) = table_text json (accepted s)

-- a part of the text; the line of a refused input is part 0
unfoldable pub shown_part : Bool → Decoded → ℕ → List ℕ
shown_part json (refused r) part = cond (eqb part 0) (refused_line r) []
shown_part json (accepted s) part = part_text json (accepted s) part

-- the first n parts, one after the other
abbrev pub shown_to : Bool → Decoded → ℕ → List ℕ
shown_to json d zero = []
shown_to json d (suc n) = shown_to json d n ++ shown_part json d n

-- the 18 parts are the whole text
abbrev pub ShownJoin : Bool → Decoded → Type 0
ShownJoin json d = shown_to json d 18 ≡ shown_text json d

-- a part of r octets, written to the start of a buffer that has room for it
pub record Shown (json : Bool) (d : Decoded) (part : ℕ) (old : List ℕ) (r : ℕ) (new : List ℕ) : Type 0 where
  pub count : r ≡ length (shown_part json d part)
  pub text : new ≡ over (shown_part json d part) old
