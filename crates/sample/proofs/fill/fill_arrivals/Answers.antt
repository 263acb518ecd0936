-- The arrival in a chunk is that at the index (`items-left`, `drop-first`).
use Rattle.std.proofs.Common.{◌≡◌, ℕ, ◌+◌, List, ◌++◌, map, take, length, get_or, drop, sym, ap, ◌∙◌, arith, rules}
use Rattle.std.proofs.lemmas.List.{length-drop, length-map}
use Rattle.std.proofs.Math.ListN.{get_or-map}
use Rattle.std.specs.Slice.Iter.{chunks_exact_rest}
use Rattle.std.specs.Iterator.Adapters.{enumerate_source, enumerate_count}
use Rattle.octets.proofs.Memory.{fill-next, fill_done}
use Rattle.rfc4737.specs.declared.Arrival.{Arrival}
use Rattle.rfc4737.specs.Judge.{numbers_of, times_of}
use Rattle.sample.specs.Format.{arrival_width, items_in}
use Rattle.sample.specs.Decode.{arrival_in}
use Rattle.sample.specs.Places.{no_arrival}
use Rattle.sample.proofs.Items.{items-length}
use Rattle.sample.proofs.Chunks.{drop-first, items-left, items-all, items-none}
use Rattle.sample.proofs.fill.fill_arrivals.Goals as goal

-- the value of the arrival at the index, as one of the values
value_at : (value : Arrival → ℕ) (all : List Arrival) (i : ℕ) (a : Arrival) → a ≡ get_or all i no_arrival
    → value a ≡ get_or (map value all) i (value no_arrival)
value_at value all i a e = ap value e ∙ sym (get_or-map value all i no_arrival)

pub loop-i-init : goal.loop-i-init
loop-i-init c =
    let a = c.args in
    let n : enumerate_count c.into_iter-i-iterator.result ≡ 0 = search rules in
    let all = items_in arrival_width arrival_in a.count (drop a.at a.file.now) in
    record {
      can = search rules;
      finite = search rules;
      size = search rules;
      within = omega (arith, n);
      left =
          items-all arrival_in a.at a.count a.file.now (chunks_exact_rest (enumerate_source c.into_iter-i-iterator.result)) c.requires.0 (search rules)
          ∙ sym (ap (λ (k : ℕ). drop k all) n);
      numbers = search rules;
      times = search rules;
    }

pub loop-i-preserved : goal.loop-i-preserved
loop-i-preserved c =
    let a = c.args in
    let l = c.loop-i in
    let all : List Arrival = items_in arrival_width arrival_in a.count (drop a.at a.file.now) in
    let many = items-length arrival_width arrival_in a.count (drop a.at a.file.now) in
    let s = c.in-Some.ensures.steps in
    let i = c.in-Some.i in
    let e =
    items-left arrival_in (chunks_exact_rest (enumerate_source l.i-iterator)) c.in-Some.twelve.now
    (chunks_exact_rest (enumerate_source c.next.new.self)) s.0.1.0 (s.0.1.1 ∙ l.invariant.size) in
    let f = sym e ∙ l.invariant.left ∙ ap (λ (k : ℕ). drop k all) (sym s.1) in
    let p = drop-first all i no_arrival _ _ f in
    let here = c.arrival_of-arrival.ensures ∙ p.1 in
    let next : enumerate_count c.next.new.self ≡ i + 1 = omega (arith, s.1, s.2) in
    let ns = length-map all (λ (x : Arrival). x.number) in
    let ts = length-map all (λ (x : Arrival). x.time) in
    record {
      can = search rules;
      finite = search rules;
      size = s.0.0 ∙ l.invariant.size;
      within = omega (arith, p.0);
      left = p.2 ∙ ap (λ (k : ℕ). drop k all) (sym next);
      numbers =
          fill-next (numbers_of all) a.numbers.now i 0 (omega (arith, p.0)) (omega (arith, p.0, c.requires))
          (l.invariant.numbers ∙ ap (λ (k : ℕ). take k (numbers_of all) ++ drop k a.numbers.now) (sym s.1))
          (value_at (λ (x : Arrival). x.number) all i c.arrival_of-arrival.result here)
          ∙ ap (λ (k : ℕ). take k (numbers_of all) ++ drop k a.numbers.now) (sym next);
      times =
          fill-next (times_of all) a.times.now i 0 (omega (arith, p.0)) (omega (arith, p.0, c.requires))
          (l.invariant.times ∙ ap (λ (k : ℕ). take k (times_of all) ++ drop k a.times.now) (sym s.1))
          (value_at (λ (x : Arrival). x.time) all i c.arrival_of-arrival.result here)
          ∙ ap (λ (k : ℕ). take k (times_of all) ++ drop k a.times.now) (sym next);
    }

pub returns : goal.returns
returns c =
    let a = c.args in
    let l = c.loop-i in
    let all : List Arrival = items_in arrival_width arrival_in a.count (drop a.at a.file.now) in
    let many = items-length arrival_width arrival_in a.count (drop a.at a.file.now) in
    let s = c.in-None.ensures.steps in
    let i = enumerate_count l.i-iterator in
    let h = items-none arrival_in (chunks_exact_rest (enumerate_source l.i-iterator)) (search rules) in
    let z : length (drop i all) ≡ 0 = ap length (sym l.invariant.left ∙ h) in
    let ns = length-map all (λ (x : Arrival). x.number) in
    let ts = length-map all (λ (x : Arrival). x.time) in
    let w = l.invariant.within in
    let d = length-drop i all in
    (fill_done (numbers_of all) a.numbers.now i (omega arith) l.invariant.numbers, fill_done (times_of all) a.times.now i (omega arith) l.invariant.times)
