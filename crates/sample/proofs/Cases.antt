-- The order of the refusals, by computation over the table of small files. Assumes nothing.
use Prim.Native.Nat.{ℕ}
use mathlib.Core.Path.{◌≡◌, refl}
use mathlib.Core.List.{List, map}
use Rattle.octets.specs.BigEndian.{be_value, be_octets}
use Rattle.rfc4737.specs.Refusals.{outside}
use Rattle.rfc4737.specs.Times.{too_early, next_reference}
use Rattle.rfc4737.specs.Judge.{arrivals_from, judge_one, judge}
use Rattle.sample.specs.Format.{section, arrival_octets, item_octets, items_in, file_of}
use Rattle.sample.specs.Judge.{some_unshown}
use Rattle.sample.specs.Decode.{count_at, arrival_in, sample_in, section_stage, file_refusal, decode, decoded_refusal}
use Rattle.sample.specs.Cases.{refusal_cases, RefusalsInOrder}

computed : map (λ (c : List ℕ × ℕ). decoded_refusal (decode c.0)) refusal_cases ≡ map (λ (c : List ℕ × ℕ). c.1) refusal_cases
unfolding be_value be_octets outside section arrival_octets item_octets items_in file_of too_early next_reference arrivals_from judge_one judge
    some_unshown count_at arrival_in sample_in section_stage file_refusal decode
computed = refl

pub in_order : RefusalsInOrder
in_order = record { due = computed }
