-- `ReadBack`: both directions are laws of BigEndian.antt, for every width. A number in memory is `put-value`, since `min width 8` is the
-- width if that is at most 8. The table of cases is computed. Assumes nothing.
use Prim.Native.Nat.{ℕ, ◌≤◌, min}
use native.Mathlib.Omega.{arith}
use mathlib.Core.Path.{◌≡◌, refl, ap, ◌∙◌}
use mathlib.Core.List.{List, map}
use lib.ListN.{length}
use Rattle.octets.specs.BigEndian.{be_value, be_octets}
use Rattle.octets.specs.Memory.{part, put}
use Rattle.octets.specs.RoundTrip.{octet_cases, ReadBack}
use Rattle.octets.proofs.BigEndian.{value-octets, octets-value, put-value}

-- each number of the table is written as its octets
written : map (λ (c : ℕ × List ℕ). be_octets (length c.1) c.0) octet_cases ≡ map (λ (c : ℕ × List ℕ). c.1) octet_cases
unfolding be_octets
written = refl

-- a width of at most 8 is not cut
uncut : (width : ℕ) → width ≤ 8 → min width 8 ≡ width
uncut width h = omega arith

pub read_back : ReadBack
read_back =
    record {
      number = value-octets;
      octets = octets-value;
      in_place =
          λ at width v old h b room. ap (λ (n : ℕ). be_value (part at n (put at (be_octets n v) old))) (uncut width h)
          ∙ put-value at width v old b room;
      cases = written;
    }
