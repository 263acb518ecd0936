-- `capi::figures::bits_of` meets its contract: the bits returned for a NaN are those of the definition. Assumes nothing.
use Rattle.std.proofs.Common.{◌≡◌, true, refl, sym, ◌∙◌}
use lib.Ieee.{Float, nan, inf, fin, binary64, to_bits, is_nan}
use Rattle.capi.proofs.figures.bits_of.Goals as goal

of_nan : (x : Float) → is_nan x ≡ true → 0x7ff8_0000_0000_0000 ≡ to_bits binary64 x
unfolding is_nan to_bits
of_nan nan h = refl
of_nan (inf s) h = search
of_nan (fin s m k) h = search

pub returns-then-is_nan : goal.returns-then-is_nan
returns-then-is_nan c = of_nan _ (sym c.is_nan.ensures.value ∙ c.if-is_nan.true)
