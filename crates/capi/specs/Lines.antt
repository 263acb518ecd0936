-- Lines of a text for C, and the faults of a text log's lines. Assumes nothing.
use Rattle.std.specs.Prelude.{ℕ, List, [], ◌∷◌}
use Rattle.line_faults.specs.declared.LineFault.{LineFault}
use Rattle.line_faults.specs.declared.LineFault.TheVariants.{ByteOrderMark, EmptyLine, NoDigit, CarriageReturn, NoLineFeed, NumberOver, ManyDecimals, Formed, Other}
use Rattle.text_lines.specs.declared.LinePart.{LinePart}

-- the number of a fault; 0 for a line of the form
abbrev pub fault_number : LineFault → ℕ
fault_number Formed = 0
fault_number ByteOrderMark = 1
fault_number EmptyLine = 2
fault_number NoDigit = 3
fault_number CarriageReturn = 4
fault_number NoLineFeed = 5
fault_number NumberOver = 6
fault_number ManyDecimals = 7
fault_number Other = 8

-- the figures of a part of a text: its offset and its length
abbrev pub line_figures : LinePart → List ℕ
line_figures part = part.start ∷ part.length ∷ []
