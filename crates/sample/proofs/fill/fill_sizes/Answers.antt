-- A turn stores the size that stands at the index below, before those that are stored.
use Rattle.std.proofs.Common.{◌≡◌, ℕ, suc, ◌+◌, ◌*◌, ◌-◌, ◌<◌, ◌≤◌, List, [], ◌∷◌, length, get_or, set, drop, sym, ap, ◌∙◌, arith, w8}
use Rattle.std.proofs.Math.ListN.{drop_of_length-le}
use Rattle.std.proofs.Math.Seq.{drop-cons}
use Rattle.octets.specs.BigEndian.{be_value}
use Rattle.octets.specs.Memory.{splice}
use Rattle.octets.proofs.Below.{below-fits}
use Rattle.octets.proofs.Memory.{splice-nil, splice-set, splice-prior}
use Rattle.sample.specs.Format.{size_width, items_in}
use Rattle.sample.proofs.Items.{items-length, taken-fits, size-taken}
use Rattle.sample.proofs.fill.fill_sizes.Goals as goal

-- one size more, x at index j, before those that are stored
stored : (xs old : List ℕ) (j : ℕ) {d : List ℕ} {x : ℕ} → j < length xs → length d ≡ length old → length xs ≤ length old
    → d ≡ splice (suc j) (drop (suc j) xs) old → x ≡ get_or xs j 0 → set d j x ≡ splice j (drop j xs) old
stored xs old j {d} {x} h l k e f =
    splice-set j x d (omega arith) ∙ ap (λ (y : ℕ). splice j (y ∷ []) d) f ∙ ap (splice j (get_or xs j 0 ∷ [])) e
    ∙ splice-prior j (suc j) (get_or xs j 0 ∷ []) (drop (suc j) xs) old (omega arith) (omega arith)
    ∙ ap (λ (ys : List ℕ). splice j ys old) (sym (drop-cons xs j 0 h))

pub loop-i-init : goal.loop-i-init
loop-i-init c =
    let a = c.args in
    let xs = items_in size_width be_value a.count (drop a.at a.file.now) in
    let n : length xs ≤ a.count = omega (arith, items-length size_width be_value a.count (drop a.at a.file.now)) in
    sym (ap (λ (ys : List ℕ). splice a.count ys a.sizes.now) (drop_of_length-le xs n) ∙ splice-nil a.count a.sizes.now)

pub overflow_cast-sizes : goal.overflow_cast-sizes
overflow_cast-sizes c =
    let a = c.args in
    let b =
    taken-fits (a.at + size_width * (c.loop-i.i - 1)) size_width 0 size_width a.file.now (below-fits w8 a.file.now c.type_inv.file)
    c.number_at.ensures in
    omega (arith, b)

pub loop-i-preserved : goal.loop-i-preserved
loop-i-preserved c =
    let a = c.args in
    let j = c.loop-i.i - 1 in
    let e = items-length size_width be_value a.count (drop a.at a.file.now) in
    let p : j < a.count = omega arith in
    let s : suc j ≡ c.loop-i.i = omega arith in
    let xs = items_in size_width be_value a.count (drop a.at a.file.now) in
    stored xs a.sizes.now j (omega arith) c.loop-i.auto.sizes (omega arith)
    (c.loop-i.invariant ∙ ap (λ (n : ℕ). splice n (drop n xs) a.sizes.now) (sym s))
    (size-taken a.count a.at a.file.now j c.number_at.result p c.number_at.ensures)
