-- Each function gives what the next one asks: from zeros come the counts, from these their sums, which are the arrivals of the packets
-- before each (`counts-sums`), and from there the places are filled in.
use Rattle.std.proofs.Common.{◌≡◌, ℕ, ◌<◌, ◌≤◌, List, length, take, sym, subst, ◌∙◌, arith}
use lib.ListN.{replicate, length-replicate, get_or-replicate}
use lib.Seq.{length-take-le, get_or-take}
use Rattle.rfc4737.specs.Judge.{sent_most}
use Rattle.fragments.specs.Private.{NumbersWithin}
use Rattle.fragments.specs.Places.{Zeros, Counts, Sums, Starts}
use Rattle.fragments.proofs.Groups.{counts-sums, arrivals-most}
use Rattle.fragments.proofs.notes.note_arrivals.Goals as goal

-- a part of a table of zeros
abbrev zeros : ℕ → List ℕ
zeros k = take k (replicate {A = ℕ} sent_most 0)

many : (k : ℕ) → k ≤ sent_most → length (zeros k) ≡ k
many k h = length-take-le k (replicate {A = ℕ} sent_most 0) (omega (arith, length-replicate {A = ℕ} sent_most 0))

all-zeros : (k : ℕ) → k ≤ sent_most → Zeros (zeros k)
all-zeros k h = record {
  at = λ p g.
      let i : p < k = omega (arith, g, many k h) in
      get_or-take k (replicate {A = ℕ} sent_most 0) p 0 i ∙ get_or-replicate sent_most p 0 0 (omega arith);
}

-- the sums of the counts are where each packet's places start
starts : (ns counts sums : List ℕ) → length sums ≡ length counts → Counts ns counts → Sums counts sums → Starts ns sums
starts ns counts sums e c s =
    record { at = λ p h. let g : p < length counts = omega arith in s.at p g ∙ counts-sums ns counts c p (omega arith) }

pub count_packets-requires : goal.count_packets-requires
count_packets-requires c =
    let q = c.requires in
    (subst (λ (j : ℕ). NumbersWithin j c.args.arrivals.now.numbers.now) (sym (many _ q.0)) q.1, q.2, all-zeros _ q.0)

pub sum_counts-requires : goal.sum_counts-requires
sum_counts-requires c =
    let n = c.count_packets in
    let ns = c.args.arrivals.now.numbers.now in
    omega (
      arith,
      counts-sums ns n.new.counts n.ensures (length n.new.counts) (omega arith),
      arrivals-most ns (length n.new.counts),
      c.requires.2,
    )

pub fill_places-requires : goal.fill_places-requires
fill_places-requires c =
    let q = c.requires in
    let ns = c.args.arrivals.now.numbers.now in
    let n = c.len-n.ensures in
    let e = c.sum_counts.auto.counts ∙ (c.count_packets.auto.counts ∙ many _ q.0) in (
      subst (λ (j : ℕ). NumbersWithin j ns) (sym e) q.1,
      q.2,
      many _ (omega (arith, n, q.2)) ∙ n,
      starts _ _ _ c.sum_counts.auto.counts c.count_packets.ensures c.sum_counts.ensures,
    )
