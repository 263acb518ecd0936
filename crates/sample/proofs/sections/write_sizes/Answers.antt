-- A turn puts one size's octets after those of the sizes before it (`write-from`); at the end count and items are the section.
use Rattle.std.proofs.Common.{ℕ, length, ap, ◌∙◌, arith}
use Rattle.octets.specs.Memory.{put}
use Rattle.octets.proofs.Memory.{taken}
use Rattle.sample.specs.Format.{size_width, items_at, item_octets, size_octets}
use Rattle.sample.proofs.Items.{size-long, octets-many}
use Rattle.sample.proofs.Writing.{write-start, write-from, write_done, section-done}
use Rattle.sample.proofs.sections.write_sizes.Goals as goal

pub loop-size-init : goal.loop-size-init
loop-size-init c =
    let a = c.args in
    let k = c.put_number.auto.out in
    record {
      next = omega arith;
      written = write-start size_octets size_width size-long a.sizes.now (items_at a.at) c.put_number.new.out (omega (arith, c.requires));
    }

pub loop-size-preserved : goal.loop-size-preserved
loop-size-preserved c =
    let a = c.args in
    let k = c.put_number.auto.out in
    let l = c.loop-size in
    record {
      next = omega arith;
      written =
          write-from size_octets size_width size-long a.sizes.now (items_at a.at) c.put_number.new.out (omega (arith, c.requires))
          l.size-index l.invariant.written 0 l.start l.invariant.next c.loop-size-test.true
          (c.put_number-in-loop-size.ensures.out_after
          ∙ ap (λ (v : ℕ). put 0 (size_octets v) (taken l.start size_width l.out)) c.from.ensures);
    }

pub returns : goal.returns
returns c =
    let a = c.args in
    let k = c.put_number.auto.out in
    let n = octets-many size_octets size_width size-long a.sizes.now in
    section-done a.at (length a.sizes.now) (item_octets size_octets a.sizes.now) a.out.now (omega (arith, c.requires))
    c.put_number.ensures.out_after
    (write_done size_octets size_width size-long a.sizes.now (items_at a.at) c.put_number.new.out (omega (arith, c.requires))
    c.loop-size.size-index c.loop-size.invariant.written (omega arith))
