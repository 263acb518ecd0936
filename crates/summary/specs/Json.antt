-- The summary of a sample as one JSON object (RFC 8259) and a line feed. Times are in microseconds. A share is a whole number of percent; a
-- percent has one decimal, and is null if nothing arrived. Assumes nothing.
use Rattle.std.specs.Prelude.{ℕ, Bool, cond, ◌||◌, List, [], ◌∷◌, eqb, length}
use Rattle.octets.specs.Text.{ascii}
use Rattle.decimal.specs.Decimal.{decimal_of}
use Rattle.rfc4737.specs.declared.Answer.{Answer}
use Rattle.sample.specs.declared.WriteAnswer.{WriteAnswer}
use Rattle.sample.specs.Output.{Output}
use Rattle.sample.specs.Format.{item_octets}
use Rattle.sample.specs.Judge.{judge_label}
use Rattle.sample.specs.Decode.{Decoded, sample_of, decoded_refusal}
use Rattle.metrics.specs.Sample.{answers_of}
use Rattle.summary.specs.declared.figures.Figures.{Figures}
use Rattle.summary.specs.declared.figures.Sizes.{Sizes}
use Rattle.summary.specs.Figures.{figures_of, sizes_for}
use Rattle.writing.specs.Numbers.{between}
use Rattle.writing.specs.Parts.{joined}
use Rattle.summary.specs.Text.{ratio}

-- ---- parts

-- the octets of a label that need a backslash before them in a JSON string
abbrev pub quote : ℕ
quote = 0x22

abbrev pub backslash : ℕ
backslash = 0x5C

-- an octet of a label in a JSON string
unfoldable pub escaped_octet : ℕ → List ℕ
escaped_octet o = cond (eqb o quote || eqb o backslash) (backslash ∷ o ∷ []) (o ∷ [])

-- a label in a JSON string
abbrev pub escaped : List ℕ → List ℕ
escaped label = item_octets escaped_octet label

-- a member with a number; `name` includes the comma before the name and the colon after it
unfoldable pub number_member : List ℕ → ℕ → List ℕ
number_member name n = joined (name ∷ decimal_of n ∷ [])

-- a member with true or false
unfoldable pub flag_member : List ℕ → Bool → List ℕ
flag_member name b = joined (name ∷ cond b (ascii "true") (ascii "false") ∷ [])

-- ---- members

-- the start of the object, and the label
unfoldable pub label_member : List ℕ → List ℕ
label_member label = joined (ascii "{\"label\":\"" ∷ escaped label ∷ ascii "\"" ∷ [])

-- K, the packets that arrived, and the copies
unfoldable pub counts_members : (sent arrived copies : ℕ) → List ℕ
counts_members sent arrived copies =
    joined
    (number_member (ascii ",\"sent\":") sent
    ∷ number_member (ascii ",\"arrived\":") arrived
    ∷ number_member (ascii ",\"copies\":") copies
    ∷ [])

-- the least sizes for a share
unfoldable pub sizes_object : List ℕ → ℕ → Sizes → List ℕ
sizes_object start share s =
    joined
    (between start share (ascii ",\"waiting_time_us\":")
    ∷ between [] s.time (ascii ",\"packets_held\":")
    ∷ between [] s.packets (ascii ",\"octets_held\":")
    ∷ between [] s.octets (ascii "}")
    ∷ [])

-- the array of the least sizes for 50, 90, 95, 99 and 100 percent of the packets that arrived
unfoldable pub sizes_member : List Answer → List ℕ
sizes_member l =
    joined
    (sizes_object (ascii ",\"least_sizes\":[{\"share_percent\":") 50 (sizes_for l 50)
    ∷ sizes_object (ascii ",{\"share_percent\":") 90 (sizes_for l 90)
    ∷ sizes_object (ascii ",{\"share_percent\":") 95 (sizes_for l 95)
    ∷ sizes_object (ascii ",{\"share_percent\":") 99 (sizes_for l 99)
    ∷ sizes_object (ascii ",{\"share_percent\":") 100 (sizes_for l 100)
    ∷ ascii "]"
    ∷ [])

-- what limits the sizes: packets and octets held are exact only if no packet is lost, waiting times only if the clock does not step back
unfoldable pub limit_members : (lost back : Bool) → List ℕ
limit_members lost back =
    joined (flag_member (ascii ",\"packets_lost\":") lost ∷ flag_member (ascii ",\"clock_steps_back\":") back ∷ [])

-- the packets of one kind among those that arrived, and their share
unfoldable pub share_member : List ℕ → ℕ → ℕ → List ℕ
share_member name part whole = ratio name (ascii ",\"of\":") (ascii ",\"percent\":") (ascii "null") (ascii "}") part whole

-- the reordered ratio, and the degrees of n-reordering for n = 1 and 3
unfoldable pub ratio_members : (reordered reordered1 reordered3 arrived : ℕ) → List ℕ
ratio_members reordered reordered1 reordered3 arrived =
    joined
    (share_member (ascii ",\"reordered\":{\"packets\":") reordered arrived
    ∷ share_member (ascii ",\"reordered_1\":{\"packets\":") reordered1 arrived
    ∷ share_member (ascii ",\"reordered_3\":{\"packets\":") reordered3 arrived
    ∷ [])

-- the total of disorder, and the end of the object
unfoldable pub disorder_member : ℕ → List ℕ
disorder_member n = between (ascii ",\"disorder_pairs\":") n (ascii "}\n")

-- ---- the object

-- the object of a label, the figures, and the answers, which determine the least sizes
unfoldable pub object_of : List ℕ → Figures → List Answer → List ℕ
object_of label f l =
    joined
    (label_member label
    ∷ counts_members f.sent f.arrived f.copies
    ∷ sizes_member l
    ∷ limit_members f.lost f.back
    ∷ ratio_members f.reordered f.reordered1 f.reordered3 f.arrived
    ∷ disorder_member f.disorder
    ∷ [])

-- the object of a decoded file
unfoldable pub summary_json : Decoded → List ℕ
summary_json d = object_of (sample_of d).label (figures_of d) (answers_of d)

-- room for any label as the first member, in octets
abbrev pub label_octets : ℕ
label_octets = 139

-- the call's answer for a label, refused with 3 if it has over 64 octets, then with 8; and the caller's buffer after it
abbrev pub LabelTo : List ℕ → List ℕ → WriteAnswer → List ℕ → Type 0
LabelTo label old answer new = Output (judge_label (length label)) (label_member label) old answer new

-- the call's answer, and the caller's buffer after it, which begins with the object
abbrev pub SummaryJsonTo : Decoded → List ℕ → WriteAnswer → List ℕ → Type 0
SummaryJsonTo d old answer new = Output (decoded_refusal d) (summary_json d) old answer new
