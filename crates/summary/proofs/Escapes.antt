-- A label in a JSON string, octet by octet: the next octet is appended (`escaped-next`). The label of a file has at most 64 octets
-- (`label-short`). l are the octets of a label, i is the number of octets written. Assumes nothing.
use Prim.Native.Nat.{ℕ, ◌+◌, ◌<◌, ◌≤◌}
use native.Mathlib.Omega.{arith}
use mathlib.Core.Path.{◌≡◌, refl}
use mathlib.Core.List.{List, [], ◌∷◌, ◌++◌, append_assoc, append-nil}
use lib.ListN.{length, take, get_or}
use Rattle.octets.proofs.Memory.{take_snoc}
use Rattle.octets.specs.Below.{Octets}
use Rattle.sample.specs.Format.{item_octets}
use Rattle.sample.specs.Decode.{Decoded, decode, refused, accepted, sample_of}
use Rattle.sample.proofs.Accepted.{accepted-limits}
use Rattle.summary.specs.Json.{escaped_octet, escaped}

-- octets after others
escaped-append : (l m : List ℕ) → escaped (l ++ m) ≡ escaped l ++ escaped m
unfolding item_octets
escaped-append [] m = refl
escaped-append (o ∷ l) m = rw (escaped-append l m, append_assoc (escaped_octet o) (escaped l) (escaped m))

-- one octet
escaped-one : (o : ℕ) → escaped (o ∷ []) ≡ escaped_octet o
unfolding item_octets
escaped-one o = append-nil (escaped_octet o)

pub escaped-next : (l : List ℕ) (i : ℕ) → i < length l → escaped (take i l) ++ escaped_octet (get_or l i 0) ≡ escaped (take (i + 1) l)
escaped-next l i h = rw (take_snoc l i 0 h, escaped-append (take i l) (get_or l i 0 ∷ []), escaped-one (get_or l i 0))

pub escaped-none : (l : List ℕ) → escaped (take 0 l) ≡ []
unfolding item_octets
escaped-none l = refl

-- ---- a file's label

pub label-short : (file : List ℕ) → Octets file → length (sample_of (decode file)).label ≤ 64
label-short file o = go (decode file) refl
  where
    go : (d : Decoded) → decode file ≡ d → length (sample_of d).label ≤ 64
    go (refused r) e = omega arith
    go (accepted s) e = let m = accepted-limits file s e o in omega arith
