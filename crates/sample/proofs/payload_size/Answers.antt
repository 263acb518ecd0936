-- The size fits its two octets, and stands at the offset of packet j + 1.
use Rattle.std.proofs.Common.{ℕ, ◌+◌, ◌*◌, ◌∙◌, ap, arith, w8}
use Rattle.octets.specs.BigEndian.{be_value}
use Rattle.octets.specs.Memory.{part}
use Rattle.octets.proofs.Below.{below-fits}
use Rattle.sample.specs.Format.{size_width}
use Rattle.sample.specs.Places.{size_found}
use Rattle.sample.proofs.Items.{part-fits}
use Rattle.sample.proofs.OfSample.{size-of-sample}
use Rattle.sample.proofs.payload_size.Goals as goal

pub overflow_cast-result : goal.overflow_cast-result
overflow_cast-result c =
    let a = c.args in
    let b = part-fits size_width (c.sizes_at.result + size_width * a.j) a.file.now (below-fits w8 a.file.now c.type_inv.file) in
    omega (arith, b, c.number_at.ensures)

pub returns : goal.returns
unfolding size_found
returns c =
    let a = c.args in
    let e = c.number_at.ensures ∙ ap (λ (n : ℕ). be_value (part (n + size_width * a.j) size_width a.file.now)) c.sizes_at.ensures in
    record { value = e; sample = size-of-sample a.file.now a.layout a.j e }
