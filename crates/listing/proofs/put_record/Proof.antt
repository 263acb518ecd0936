-- `listing::put_record` meets its contract: with room for the longest line it is written in place (`whole`), else at the start of a buffer,
-- and copied from there (`copied`). w is where it is written, i where its room is tested. Assumes nothing.
use Prim.Native.Nat.{◌+◌, ◌≤◌}
use mathlib.Core.Path.{sym, ◌∙◌}
use native.Mathlib.Omega.{arith}
use lib.ListN.{length}
use borrow.Author.Tests.{leb-true}
use borrow.Author.Rules.{rules}
use Rattle.listing.proofs.Parts.{whole, read_length, copied}
use Rattle.listing.proofs.put_record.Statement.{statement}
use Rattle.listing.proofs.put_record.Tie as tie

write-record-requires : tie.Need-write_record-requires
write-record-requires c κs = leb-true _ _ (sym c.has_room.ensures ∙ c.if-has_room.true)

returns : tie.Need-returns-then-has_room
returns c =
    let w = c.write_record.ensures in
    let i = c in
    let a = i.args in
    let room : a.at + 93 ≤ length a.out.now = leb-true _ _ (sym i.has_room.ensures ∙ i.if-has_room.true) in
    (omega (arith, w.place), whole room w)

slice-aggregate-put-octets : tie.Need-slice_bounds-put_octets-end
slice-aggregate-put-octets c = read_length c.write_record-n.ensures

returns-2 : tie.Need-returns
returns-2 c =
    let w = c in
    let a = w.args in
    copied a.at a.out.now w.write_record-n.ensures c.put_octets.ensures

pub put_record_spec : {M : Type 1} → statement M
put_record_spec =
    tie.close
    (tie.spec
    (λ c κs. search rules)
    write-record-requires
    (λ c. search rules) (λ c. search rules)
    returns
    (λ c. search rules) (λ c κs. search rules) (λ c. search rules)
    slice-aggregate-put-octets
    (λ c κs. search rules) (λ c. search rules)
    returns-2)
