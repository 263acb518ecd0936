-- `table::whole::Part::put` meets its contract: part 0 is the text before the records, part 17 the text after them, and any part between
-- is a block of records (Joined). Assumes nothing.
use Rattle.std.proofs.Common.{◌≡◌, ◌≤◌, ◌-◌, ◌*◌, ℕ, List, length, min, ap, ◌∙◌, arith}
use Rattle.rfc4737.specs.declared.Counts.{Counts}
use Rattle.rfc4737.specs.Runs.{counts}
use Rattle.sample.specs.declared.Layout.{Layout}
use Rattle.sample.specs.Decode.{decode}
use Rattle.metrics.specs.Sample.{sample_arrivals, answers_of}
use Rattle.summary.proofs.Escapes.{label-short}
use Rattle.table.specs.Text.{start_text, end_text, records_from, block_start, part_text}
use Rattle.writing.proofs.Put.{put-named, put_first}
use Rattle.table.proofs.Joined.{part-start, part-records, part_end, part_none}
use Rattle.table.proofs.whole.Part.put.Goals as goal
use Rattle.table.proofs.whole.Part.put.Goals.{in-0, in-17, in_default+else-self-lt17}

pub write_before-requires : goal.write_before-requires
write_before-requires c =
    let short = label-short c.args.self.now.file.now c.args.self.now.octets in
    (omega (arith, ap length c.new-line.ensures), omega (arith, ap length c.label.ensures.0, short))

pub put_records-requires : goal.put_records-requires
put_records-requires c =
    let s = c.args.self.now in
    let low = c.block_start-from.ensures in
    let high = c.block_start-to.ensures in
    let count : s.layout.arrivals ≡ length (sample_arrivals (decode s.file.now)) = ap (λ (y : Layout). y.arrivals) c.args.self.now.laid.laid in (
      rw (low, high, count) c.args.self.now.known,
      omega (arith, low, high),
      omega (arith, high),
      omega (arith, low, high),
    )

pub returns-in-1-to-16 : goal.returns-in-1-to-16
returns-in-1-to-16 c =
    let s = c.args.self.now in
    let d = decode s.file.now in
    let from = c.block_start-from.result in
    let to = c.block_start-to.result in
    let first : from ≡ block_start d (s.number - 1) =
    c.block_start-from.ensures ∙ ap (λ (y : Layout). min (256 * (s.number - 1)) y.arrivals) c.args.self.now.laid.laid in
    let last : to ≡ block_start d s.number =
    c.block_start-to.ensures ∙ ap (λ (y : Layout). min (256 * s.number) y.arrivals) c.args.self.now.laid.laid in (
      c.put_records.ensures.0,
      put-named
          (ap (λ (n : ℕ). records_from s.json d n (to - n)) first
          ∙ ap (λ (n : ℕ). records_from s.json d (block_start d (s.number - 1)) (n - block_start d (s.number - 1))) last
          ∙ part-records s.json d s.number (λ z. omega (arith, z)) (omega arith))
          c.put_records.ensures.1,
    )

pub returns : goal.returns
returns c =
    let s = c.args.self.now in
    let d = decode s.file.now in
    let text = c.octets-text.result.now in
    let found : (length text ≤ 512) × (text ≡ part_text s.json d s.number) =
    elim c.match-self.branch [
      | in-0 w ↦ (
        omega (arith, ap length c.octets-text.ensures, ap length w.line-is, w.write_before.ensures.room, ap length c.new-line.ensures),
        simp (c.octets-text.ensures, w.line-is, w.write_before.ensures.written, c.new-line.ensures)
            (ap (λ (l : List ℕ). start_text s.json l) w.label.ensures.0 ∙ part-start s.json d s.number w.in-0.is),
      )
      | in-17 w ↦ (
        omega (arith, ap length c.octets-text.ensures, ap length w.line-is, w.write_after.ensures.room, ap length c.new-line.ensures),
        simp (c.octets-text.ensures, w.line-is, w.write_after.ensures.written, c.new-line.ensures)
            (ap (λ (c : Counts). end_text s.json s.layout.sent s.layout.arrivals c) c.args.self.now.counts_known
            ∙ ap (λ (y : Layout). end_text s.json y.sent y.arrivals (counts (answers_of d))) c.args.self.now.laid.laid
            ∙ part_end s.json d s.number w.in-17.is),
      )
      | in_default+else-self-lt17 w ↦ (
        omega (arith, ap length c.octets-text.ensures, ap length w.line-is, ap length c.new-line.ensures),
        simp (c.octets-text.ensures, w.line-is, c.new-line.ensures) (part_none s.json d s.number (omega arith)),
      )
    ] in
    (omega (arith, found.0), put-named found.1 (put_first c.put_octets.ensures))
