-- The sweep for C. Assumes nothing.
use Rattle.std.specs.Prelude.{◌≡◌, ℕ}
use Rattle.sample.specs.Decode.{Decoded, decoded_refusal, layout_of}
use Rattle.sample.specs.Calls.{unless_short}
use Rattle.sweep.specs.Calls.{Lent, lent_short_for, Swept}

-- the decoded file, refused with 8 if the caller's table or lists are too short, unless it is refused already
abbrev pub swept_into : Decoded → Lent → Decoded
swept_into d old = unless_short (lent_short_for d old) d

-- the call returns the refusal alone, and the caller's table and lists are as the sweep leaves them
abbrev pub SweptWith : (d : Decoded) (old : Lent) (refusal : ℕ) (new : Lent) → Type 0
SweptWith d old refusal new =
    (refusal ≡ decoded_refusal (swept_into d old)) × Swept (swept_into d old) old (layout_of (swept_into d old)) new
