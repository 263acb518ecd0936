-- The comparison of two samples for C: the number of the worse one, and the offset and length of its label; zeros if one is refused.
-- Assumes nothing.
use Rattle.std.specs.Prelude.{ℕ, List, [], ◌∷◌, length}
use Rattle.sample.specs.Decode.{Decoded, sample_of}
use Rattle.sample.specs.Calls.{label_place}
use Rattle.worse.specs.declared.Link.{Link}
use Rattle.worse.specs.Worse.{chosen, worse_of, worse_label, worse_start}

-- 1 for the first sample, 2 for the second, 0 if a sample is refused
abbrev pub link_number : Link → ℕ
link_number link = chosen 0 1 2 link

abbrev pub worse_figures : Decoded → Decoded → List ℕ
worse_figures a b = link_number (worse_of a b) ∷ worse_start a b ∷ length (worse_label a b) ∷ []

-- the same figures from the link
abbrev pub link_figures : Link → Decoded → Decoded → List ℕ
link_figures link a b =
    link_number link ∷ chosen 0 (label_place a) (label_place b) link ∷ length (chosen [] (sample_of a).label (sample_of b).label link) ∷ []
