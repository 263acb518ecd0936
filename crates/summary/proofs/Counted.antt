-- The answers of the calls of metrics, as figures of a sample: the counts (`counted`), the runs (`ran`), the tally (`tallied`), and the
-- number of n-reordered packets (`several`).
-- d is the decoded file, r the answer of the call, l are the sample's answers. Assumes nothing.
use Prim.Native.Nat.{ℕ, suc, ◌+◌, ◌≤◌, ◌<◌}
use native.Mathlib.Omega.{arith}
use mathlib.Core.Path.{◌≡◌, refl, sym, ap, ◌∙◌}
use mathlib.Core.Bool.{Bool, true, false, cond}
use mathlib.Core.List.{List, []}
use lib.Dec.{ltb}
use lib.ListN.{length, get_or, set}
use lib.Seq.{get_or-set_same, get_or-set_other}
use borrow.Author.Tests.{ltb-true, ltb-false}
use Rattle.rfc4737.specs.declared.Answer.{Answer}
use Rattle.rfc4737.specs.declared.Counts.{Counts}
use Rattle.rfc4737.specs.Runs.{runs, counts}
use Rattle.rfc4737.specs.Tally.{tally}
use Rattle.rfc4737.specs.Ratios.{n_reordered}
use Rattle.rfc4737.proofs.Due.{not-outside}
use Rattle.sample.specs.Decode.{Decoded}
use Rattle.metrics.specs.declared.SampleCounts.{SampleCounts}
use Rattle.metrics.specs.declared.SampleTally.{SampleTally}
use Rattle.metrics.specs.declared.DegreeCounts.{DegreeCounts}
use Rattle.metrics.specs.Sample.{answers_of}
use Rattle.metrics.specs.Figures.{sample_counts, sample_tally, degree_counts}

-- the counts
pub counted : (d : Decoded) (r : SampleCounts) → r ≡ sample_counts d → r.counts ≡ counts (answers_of d)
unfolding sample_counts
counted d r e = ap (λ (r : SampleCounts). r.counts) e

-- the runs
pub ran : (d : Decoded) (r : SampleCounts) → r ≡ sample_counts d → r.counts.runs ≡ runs (answers_of d)
unfolding counts
ran d r e = ap (λ (k : Counts). k.runs) (counted d r e)

-- the tally
pub tallied : (d : Decoded) (r : SampleTally) → r ≡ sample_tally d → r.tally ≡ tally (answers_of d)
unfolding sample_tally
tallied d r e = ap (λ (r : SampleTally). r.tally) e

-- the n-reordered packets
pub several : (d : Decoded) (n : ℕ) (r : DegreeCounts) → 1 ≤ n → n ≤ 100 → r ≡ degree_counts d n → r.reordered ≡ n_reordered n (answers_of d)
unfolding degree_counts
several d n r low high e =
    ap (λ (r : DegreeCounts). r.reordered) e ∙ ap (λ (b : Bool). n_reordered n (cond b [] (answers_of d))) (not-outside 1 100 n low high)

-- the next of the numbers of n-reordered packets, which stand in a list from n = 1 on
pub several-next : (l : List Answer) (list : List ℕ) (i v : ℕ) → i < length list
    → ((k : ℕ) → k < i → get_or list k 0 ≡ n_reordered (suc k) l) → v ≡ n_reordered (i + 1) l
    → (k : ℕ) → k < i + 1 → get_or (set list i v) k 0 ≡ n_reordered (suc k) l
several-next l list i v inside known e k h = go (ltb k i) refl
  where
    go : (b : Bool) → ltb k i ≡ b → get_or (set list i v) k 0 ≡ n_reordered (suc k) l
    go true t =
        let below : k < i = ltb-true k i t in
        get_or-set_other list i k v 0 (λ z. omega (arith, z, below)) ∙ known k below
    go false t =
        let same : i ≡ k = omega (arith, h, ltb-false k i t) in
        let n : i + 1 ≡ suc k = omega (arith, same) in
        ap (λ (k : ℕ). get_or (set list i v) k 0) (sym same) ∙ get_or-set_same list i v 0 inside ∙ e ∙ ap (λ (n : ℕ). n_reordered n l) n
