-- The order flag of fragments (RFC 4737, section B.3). Assumes nothing.
use Rattle.std.specs.Prelude.{ℕ, ◌+◌, Bool, cond, ◌&&◌, ◌||◌, leb, ltb, eqb}
use mathlib.Core.List.{List, foldl}
use Rattle.rfc4737.specs.Arrivals.{each}
use Rattle.rfc4737.specs.Numbering.{in_order_number, reordered_after_number, duplicate_number}
use Rattle.fragments.specs.declared.Piece.{Piece}
use Rattle.fragments.specs.declared.Expected.{Expected}
use Rattle.fragments.specs.Pieces.{is_last, is_copy, no_copies}

-- what is expected at the start: NextExp 1, FragSeq# and NextExpFrag 0
abbrev pub at_start : Expected
at_start = record { next = 1; packet = 0; fragment = 0 }

-- case 1: s < NextExp; case 2: s < FragSeq#; case 3: s >= NextExp and s = FragSeq# and FragOffset < NextExpFrag
unfoldable pub is_reordered_fragment : Expected → Piece → Bool
is_reordered_fragment e a =
    ltb a.number e.next || (ltb a.number e.packet
    || (leb e.next a.number && (eqb a.number e.packet && ltb a.offset e.fragment)))

-- after an arrival in order: if more fragments are to come, FragSeq# becomes the number and NextExpFrag the offset plus 1; else NextExp
-- becomes the number plus 1, and FragSeq# and NextExpFrag become 0
unfoldable pub in_order_after : Expected → Piece → Expected
in_order_after e a =
    cond (is_last a) (record { next = a.number + 1; packet = 0; fragment = 0 })
    (record { next = e.next; packet = a.number; fragment = a.offset + 1 })

-- after a reordered arrival nothing changes
unfoldable pub expected_after : Expected → Piece → Expected
expected_after e a = cond (is_reordered_fragment e a) e (in_order_after e a)

-- what is expected after some arrivals; copies change nothing
unfoldable pub expected : List Piece → Expected
expected earlier = foldl expected_after at_start (no_copies earlier)

-- the flag of an arrival, which is the number of a case: copy, reordered, or in order
unfoldable pub flag_after : List Piece → Piece → ℕ
flag_after earlier a =
    cond (is_copy earlier a) duplicate_number (cond (is_reordered_fragment (expected earlier) a) reordered_after_number in_order_number)

-- the flags of the arrivals
unfoldable pub flags : List Piece → List ℕ
flags l = each flag_after l
