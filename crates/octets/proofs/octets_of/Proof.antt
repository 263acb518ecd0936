-- `octets::octets_of` meets its contract: its test is whether the width is below 8, and each return is the lesser of both. Assumes
-- nothing.
use native.Mathlib.Omega.{arith}
use Rattle.octets.proofs.octets_of.Statement.{statement}
use Rattle.octets.proofs.octets_of.Tie as tie

pub octets_of_spec : {M : Type 1} → statement M
octets_of_spec = tie.close (tie.spec (λ c. omega arith) (λ c. omega arith))
