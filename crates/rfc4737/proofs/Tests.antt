-- Laws of `||` and `&&`: what follows from a test of two parts, and what it follows from. Here a and b are the parts. Assumes nothing.
use mathlib.Core.Path.{◌≡◌, refl, sym}
use mathlib.Core.Bool.{Bool, true, false, ◌&&◌, ◌||◌, true≢false, or-true}

pub either : {X : Type 0} (a b : Bool) → (a || b) ≡ true → (a ≡ true → X) → (b ≡ true → X) → X
either true b e f g = f refl
either false b e f g = g e

pub both : (a b : Bool) → (a && b) ≡ true → (a ≡ true) × (b ≡ true)
both true b e = (refl, e)
both false b e = absurd (true≢false (sym e))

pub on-left : (a b : Bool) → a ≡ true → (a || b) ≡ true
on-left a b e = rw e refl

pub on-right : (a b : Bool) → b ≡ true → (a || b) ≡ true
on-right a b e = rw e (or-true a)

pub join : (a b : Bool) → a ≡ true → b ≡ true → (a && b) ≡ true
join a b e q = rw (e, q) refl

pub same : (a b : Bool) → (a ≡ true → b ≡ true) → (b ≡ true → a ≡ true) → a ≡ b
same true b f g = sym (f refl)
same false true f g = g refl
same false false f g = refl

pub neither : (a b : Bool) → (a || b) ≡ false → (a ≡ false) × (b ≡ false)
neither true b e = absurd (true≢false e)
neither false b e = (refl, e)
