use Rattle.std.proofs.Common.{◌≡◌, ℕ, ◌+◌, ◌-◌, ◌<◌, ◌/◌, ◌%◌, List, ◌++◌, length, drop, set, ◌∙◌, append-nil, append_assoc, arith}
use Rattle.std.proofs.lemmas.List.{drop-set}
use Rattle.std.proofs.Math.Seq.{drop-length}
use Rattle.octets.specs.BigEndian.{be_octets}
use Rattle.octets.proofs.BigEndian.{octets-snoc}
use Rattle.octets.proofs.write_number.Goals as goal

-- the last of j + 1 octets stored: it stands before those that were written
turn : (j v : ℕ) (l : List ℕ) → j < length l
    → be_octets j (v / 256) ++ drop j (set l j (v % 256)) ≡ be_octets (j + 1) v ++ drop (j + 1) l
turn j v l h = rw (drop-set l j (v % 256) h, octets-snoc, append_assoc)

pub loop-i-init : goal.loop-i-init
loop-i-init c = rw drop-length (append-nil _)

pub loop-i-preserved : goal.loop-i-preserved
loop-i-preserved c =
    let e : c.loop-i.i - 1 + 1 ≡ c.loop-i.i = omega arith in
    turn (c.loop-i.i - 1) c.loop-i.rest c.loop-i.out (omega arith) ∙ rw e c.loop-i.invariant

pub returns : goal.returns
unfolding be_octets
returns c =
    let e : c.loop-i.i ≡ 0 = omega arith in
    rw e at c.loop-i.invariant
