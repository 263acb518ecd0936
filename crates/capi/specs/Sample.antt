-- The calls of a sample file for C. Assumes nothing.
use Rattle.std.specs.Prelude.{ℕ, List, [], ◌∷◌, length, get_or}
use Rattle.sample.specs.declared.Layout.{Layout}
use Rattle.sample.specs.declared.WriteAnswer.{WriteAnswer}
use Rattle.sample.specs.Decode.{Decoded, decoded_refusal, sample_of}
use Rattle.sample.specs.Calls.{label_place}
use Rattle.capi.specs.declared.sample_calls.LabelPart.{LabelPart}

-- the figures of a layout: the length of the label, K and A
abbrev pub layout_figures : Layout → List ℕ
layout_figures layout = layout.label ∷ layout.sent ∷ layout.arrivals ∷ []

-- the layout with a refusal and figures
abbrev pub layout_told : (refusal : ℕ) (figures : List ℕ) → Layout
layout_told refusal figures =
    record { refusal = refusal; label = get_or figures 0 0; sent = get_or figures 1 0; arrivals = get_or figures 2 0 }

-- the part of the file that is its label: its offset and its length
abbrev pub label_part : Decoded → LabelPart
label_part d = record { refusal = decoded_refusal d; start = label_place d; length = length (sample_of d).label }

-- the figures of this part
abbrev pub label_figures : LabelPart → List ℕ
label_figures part = part.start ∷ part.length ∷ []

-- the writer's answer with a refusal and figures
abbrev pub write_told : (refusal : ℕ) (figures : List ℕ) → WriteAnswer
write_told refusal figures = record { refusal = refusal; length = get_or figures 0 0 }
