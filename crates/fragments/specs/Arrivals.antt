-- The arrivals of the caller's five lists, for the contracts of private functions. Assumes nothing.
use Rattle.std.specs.Prelude.{List}
use Rattle.fragments.specs.declared.Piece.{Piece}
use Rattle.fragments.specs.declared.arrivals.Arrivals.{Arrivals}
use Rattle.fragments.specs.Pieces.{pieces_of}

-- the arrivals that the lists hold
abbrev pub pieces : Arrivals → List Piece
pieces a = pieces_of a.numbers.now a.times.now a.lengths.now a.mores.now a.offsets.now
