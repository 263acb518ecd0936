-- Lines of a text log, each with its fault. Assumes nothing.
use Rattle.std.specs.Prelude.{ℕ, List, [], ◌∷◌, ◌++◌, map, ◌≡◌}
use Rattle.octets.specs.Text.{ascii}
use Rattle.line_faults.specs.Faults.{carriage_return, line_fault}
use Rattle.line_faults.specs.declared.LineFault.{LineFault}
use Rattle.line_faults.specs.declared.LineFault.TheVariants.{ByteOrderMark, EmptyLine, NoDigit, CarriageReturn, NoLineFeed, NumberOver, ManyDecimals, Formed, Other}

-- lines, each with its fault
abbrev pub fault_table : List (List ℕ × LineFault)
fault_table =
    (239 ∷ 187 ∷ 191 ∷ ascii "1;5\n", ByteOrderMark)
    ∷ (ascii "\n", EmptyLine)
    ∷ (ascii "number;time\n", NoDigit)
    -- a line of a Windows file, and an empty one
    ∷ (ascii "1;5" ++ (carriage_return ∷ ascii "\n"), CarriageReturn)
    ∷ (carriage_return ∷ ascii "\n", CarriageReturn)
    ∷ (ascii "1;5", NoLineFeed)
    ∷ (ascii "4294967296;5\n", NumberOver)
    ∷ (ascii "1;5,0000\n", ManyDecimals)
    -- of the form: the first is accepted, and the time of the second is over its range
    ∷ (ascii "1;5,000\n", Formed)
    ∷ (ascii "1;18446744073709551,616\n", Formed)
    ∷ (ascii "1;\n", Other)
    ∷ (ascii "1;5,\n", Other)
    ∷ (ascii "1 5\n", Other)
    ∷ []

-- each line has the fault of the table
pub record FaultsAsGiven : Type 0 where
  pub faults : map (λ (c : List ℕ × LineFault). line_fault c.0) fault_table ≡ map (λ (c : List ℕ × LineFault). c.1) fault_table
