-- Definitions for the contracts of private functions; no public contract reaches them. The table after some arrivals, and the lists before,
-- during and after the pass. Assumes nothing.
use Rattle.std.specs.Prelude.{◌≡◌, cond, List, ℕ, ◌+◌, ◌-◌, ◌≤◌, ◌<◌, length, get_or, drop, set}
use Rattle.std.proofs.Math.Option.{Option, none, some}
use Rattle.octets.specs.Memory.{over}
use Rattle.rfc4737.specs.declared.Arrival.{Arrival}
use Rattle.rfc4737.specs.declared.Answer.{Answer}
use Rattle.rfc4737.specs.Judge.{arrivals_most}
use Rattle.rfc4737.specs.Arrivals.{has, firsts, first_record}
use Rattle.rfc4737.specs.Order.{FirstArrival, next_exp}
use Rattle.rfc4737.specs.Extent.{discontinuity}
use Rattle.sample.specs.declared.Layout.{Layout}
use Rattle.sample.specs.Decode.{Decoded}
use Rattle.metrics.specs.Records.{FileLayout}
use Rattle.sweep.specs.declared.Figures.{Figures}
use Rattle.sweep.specs.declared.lists.Lists.{Lists}
use Rattle.sweep.specs.declared.table.State.{State}
use Rattle.sweep.specs.Figures.{flags_of, positions_of, extents_of, lates_of}
use Rattle.sweep.specs.Calls.{table_places, Lent, lent}

-- the mark of a packet that has arrived; it is greater than any record
abbrev pub arrived_mark : ℕ
arrived_mark = arrivals_most + 1

-- the record of a discontinuity, 0 if there is none
unfoldable pub record_of : List Arrival → Option FirstArrival → ℕ
record_of earlier none = 0
record_of earlier (some p) = first_record p.number earlier

-- the mark of packet s after some arrivals: `arrived_mark` if it has arrived, else the record of its discontinuity, the jump that skipped
-- it; 0 if no jump has
unfoldable pub mark_of : List Arrival → ℕ → ℕ
mark_of earlier s = cond (has s earlier) arrived_mark (record_of earlier (discontinuity (firsts earlier) s))

-- the table, packet s at index s - 1, and the state after some arrivals
pub record TableAfter (earlier : List Arrival) (table : List ℕ) (state : State) : Type 0 where
  pub room : table_places ≤ length table
  pub at : (s : ℕ) → 1 ≤ s → s ≤ table_places → get_or table (s - 1) 0 ≡ mark_of earlier s
  pub count : state.count ≡ length (firsts earlier)
  pub next : state.next ≡ next_exp (firsts earlier)

-- there is room for n records in the four lists
pub record Room (n : ℕ) (f p e l : List ℕ) : Type 0 where
  pub flags : n ≤ length f
  pub positions : n ≤ length p
  pub extents : n ≤ length e
  pub lates : n ≤ length l

-- a checked file, a table of zeros, and lists with room for every record
pub record SweepReady (d : Decoded) (layout : Layout) (l : Lent) : Type 0 where
  pub file : FileLayout d layout
  pub table : table_places ≤ length l.table
  pub zeros : (k : ℕ) → k < table_places → get_or l.table k 0 ≡ 0
  pub lists : Room layout.arrivals l.flags l.positions l.extents l.lates

-- the four lists after the figures of record i + 1 were stored
pub record Put (i : ℕ) (x : Figures) (f p e l f' p' e' l' : List ℕ) : Type 0 where
  pub flags : f' ≡ set f i x.flag
  pub positions : p' ≡ set p i x.position
  pub extents : e' ≡ set e i x.extent
  pub lates : l' ≡ set l i x.late

-- the caller's memory after the records with answers m: the lists begin with their figures. Apart from the start of the table the rest is
-- unchanged
pub record FilledWith (m : List Answer) (old new : Lent) : Type 0 where
  pub table : drop table_places new.table ≡ drop table_places old.table
  pub table_length : length new.table ≡ length old.table
  pub flags : new.flags ≡ over (flags_of m) old.flags
  pub positions : new.positions ≡ over (positions_of m) old.positions
  pub extents : new.extents ≡ over (extents_of m) old.extents
  pub lates : new.lates ≡ over (lates_of m) old.lates

-- ---- the lists as a struct

-- what is lent: a table, and what stands in the lists
abbrev pub lent_in : List ℕ → Lists → Lent
lent_in table l = lent table l.flags.now l.positions.now l.extents.now l.lates.now

-- there is room for n records
abbrev pub RoomIn : ℕ → Lists → Type 0
RoomIn n l = Room n l.flags.now l.positions.now l.extents.now l.lates.now

-- the references are the caller's, as before
pub record SameLists (old new : Lists) : Type 0 where
  pub flags : new.flags.ghost_name ≡ old.flags.ghost_name
  pub positions : new.positions.ghost_name ≡ old.positions.ghost_name
  pub extents : new.extents.ghost_name ≡ old.extents.ghost_name
  pub lates : new.lates.ghost_name ≡ old.lates.ghost_name

-- the lists after the figures of record i + 1 were stored
abbrev pub PutIn : ℕ → Figures → Lists → Lists → Type 0
PutIn i x old new =
    Put i x old.flags.now old.positions.now old.extents.now old.lates.now new.flags.now new.positions.now new.extents.now new.lates.now
    × SameLists old new
