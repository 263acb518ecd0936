-- The arrival read at i is the sample's (`found`). The first refusal of two times is that of the greater (`greater`).
use Rattle.std.proofs.Common.{◌≡◌, ℕ, suc, ◌≤◌, ◌<◌, List, ◌∷◌, length, get_or, drop, refl, sym, ap, ◌∙◌, add-one, arith, drop-cons}
use lib.ListN.{length-map, get_or-map, drop_of_length-le}
use Rattle.rfc4737.specs.declared.Arrival.{Arrival}
use Rattle.rfc4737.specs.Refusals.{first_refusal}
use Rattle.rfc4737.proofs.Due.{first_one}
use Rattle.sample.specs.declared.Layout.{Layout}
use Rattle.sample.specs.Decode.{decode, layout_of}
use Rattle.sample.specs.Places.{no_arrival}
use Rattle.owamp.specs.Judge.{judge_time, judge_seconds}
use Rattle.owamp.specs.Calls.{arrivals_of_file}
use Rattle.owamp.proofs.Greatest.{greater, judge_arrival, refusals}
use Rattle.owamp.proofs.Writing.{found-many}
use Rattle.owamp.proofs.judge.judge_seconds.Goals as goal

-- as many as the layout says
many : (file : List ℕ) (y : Layout) → y ≡ layout_of (decode file) → length (refusals file) ≡ y.arrivals
many file y e = length-map (arrivals_of_file file) judge_arrival ∙ sym (found-many file y e)

-- the one at i is that of the arrival that was read
found : (file : List ℕ) (i : ℕ) (a : Arrival) → a ≡ get_or (arrivals_of_file file) i no_arrival
    → judge_arrival a ≡ get_or (refusals file) i (judge_arrival no_arrival)
found file i a e = ap judge_arrival e ∙ sym (get_or-map judge_arrival (arrivals_of_file file) i no_arrival)

pub loop-i-init : goal.loop-i-init
unfolding judge_time
loop-i-init c = refl

pub loop-i-preserved : goal.loop-i-preserved
loop-i-preserved c =
    let f : List ℕ = c.args.file.now in
    let rs : List ℕ = refusals f in
    let i : ℕ = c.loop-i.i in
    let g : ℕ = c.loop-i.greatest in
    let h : i < length rs = omega (arith, many f c.args.layout c.requires.0, c.loop-i-test.true) in
    let t : Arrival = c.arrival.result in
    c.loop-i.invariant
    ∙ ap (λ (x : List ℕ). first_refusal (judge_time g ∷ x))
    (drop-cons rs i (judge_arrival no_arrival) h
    ∙ ap (λ (x : ℕ). x ∷ drop (suc i) rs) (sym (found f i t (c.arrival.ensures.sample c.requires.0 c.loop-i-test.true))))
    ∙ greater g t.time (drop (suc i) rs)
    ∙ ap (λ (x : ℕ). first_refusal (judge_time x ∷ drop (suc i) rs)) (sym c.next_reference-greatest.ensures)
    ∙ ap (λ (x : ℕ). first_refusal (judge_time c.next_reference-greatest.result ∷ drop x rs)) (sym (add-one i))

pub returns : goal.returns
unfolding judge_seconds
returns c =
    let rs : List ℕ = refusals c.args.file.now in
    let h : length rs ≤ c.loop-i.i = omega (arith, many c.args.file.now c.args.layout c.requires.0, c.loop-i-test.false) in
    c.judge_time.ensures
    ∙ sym (c.loop-i.invariant ∙ ap (λ (x : List ℕ). first_refusal (judge_time c.loop-i.greatest ∷ x)) (drop_of_length-le rs h)
    ∙ first_one (judge_time c.loop-i.greatest))
