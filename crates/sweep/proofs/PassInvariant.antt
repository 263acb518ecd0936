-- The pass on plain values: the caller's memory after the first i records. `LentAfter` says that the lists begin with the figures of these
-- records and are unchanged after them, and that the table is as these records left it. `lent-next` is the next record, and after the last
-- `lent-end` gives the contract of the pass. d is the decoded file, y its layout, old and new are the memory before and now. Assumes
-- nothing.
use mathlib.Core.Path.{◌≡◌, refl, sym, ap, subst, ◌∙◌}
use mathlib.Core.List.{List, [], ◌∷◌, ◌++◌, map, map-append}
use Prim.Native.Nat.{ℕ, ◌+◌, ◌-◌, ◌≤◌, ◌<◌}
use native.Mathlib.Omega.{arith}
use lib.ListN.{length, set, take, drop, length-drop, length-map}
use lib.Seq.{take_all}
use Rattle.octets.specs.Memory.{over, splice}
use Rattle.octets.proofs.Memory.{splice-set, over_first, over-next, over-length}
use Rattle.rfc4737.specs.declared.Arrival.{Arrival}
use Rattle.rfc4737.specs.declared.Answer.{Answer}
use Rattle.rfc4737.specs.Arrivals.{firsts}
use Rattle.rfc4737.specs.Order.{next_exp}
use Rattle.rfc4737.specs.Answer.{answers}
use Rattle.rfc4737.proofs.Folds.{answers-take, length-answers}
use Rattle.sample.specs.declared.Layout.{Layout}
use Rattle.sample.specs.Decode.{Decoded}
use Rattle.metrics.specs.Sample.{size_of, sample_arrivals, answers_of}
use Rattle.sample.specs.Places.{no_arrival}
use Rattle.metrics.specs.Records.{before, answer_at, answers_to, FileLayout}
use Rattle.metrics.proofs.TablesFollow.{arrivals-laid, before-count, inside-laid}
use Rattle.sweep.specs.declared.table.State.{State}
use Rattle.sweep.specs.Figures.{figures_of, positions_of}
use Rattle.sweep.specs.Calls.{table_places, Lent}
use Rattle.sweep.specs.declared.lists.Lists.{Lists}
use Rattle.sweep.specs.Private.{TableAfter, Room, SweepReady, Put, FilledWith, SameLists}
use Rattle.sweep.proofs.Marks.{mark-ahead}

-- the references stay over two steps
pub same-again : {a b c : Lists} → SameLists a b → SameLists b c → SameLists a c
same-again h g =
    record {
      flags = g.flags ∙ h.flags;
      positions = g.positions ∙ h.positions;
      extents = g.extents ∙ h.extents;
      lates = g.lates ∙ h.lates;
    }

-- what is lent after the first i records
pub record LentAfter (d : Decoded) (y : Layout) (i : ℕ) (old new : Lent) (state : State) : Type 0 where
  pub most : i ≤ y.arrivals
  pub held : TableAfter (before d i) new.table state
  pub filled : FilledWith (answers_to d i) old new

-- after none: a table of zeros
pub lent-start : (d : Decoded) (y : Layout) (l : Lent) → SweepReady d y l → LentAfter d y 0 l l (record { count = 0; next = 1 })
unfolding firsts next_exp answers Rattle.rfc4737.specs.Arrivals.each Rattle.rfc4737.specs.Arrivals.each_after
lent-start d y l r =
    record {
      most = omega arith;
      held =
          record {
            room = r.table;
            at = λ s low high. r.zeros (s - 1) (omega arith) ∙ sym (mark-ahead [] s low low);
            count = refl;
            next = refl;
          };
      filled = record { table = refl; table_length = refl; flags = refl; positions = refl; extents = refl; lates = refl };
    }

module _ (d : Decoded) (y : Layout) (i : ℕ) (most : i ≤ y.arrivals) (h : FileLayout d y) (f : Answer → ℕ) where
  -- a list has a figure of each of the first i records
  listed-count : length (map f (answers_to d i)) ≡ i
  listed-count = length-map (answers_to d i) f ∙ length-answers (size_of d) (before d i) ∙ before-count d y i h most

  -- its length stays
  listed-length : (old new : List ℕ) → y.arrivals ≤ length old → new ≡ over (map f (answers_to d i)) old → length new ≡ length old
  listed-length old new room e =
      ap length e ∙ over-length (map f (answers_to d i)) old (omega (arith, listed-count))

  -- after the next record
  listed_next : i < y.arrivals → (old new : List ℕ) → y.arrivals ≤ length old → new ≡ over (map f (answers_to d i)) old
      → set new i (f (answer_at d i)) ≡ over (map f (answers_to d (i + 1))) old
  listed_next inside old new room e =
      splice-set i (f (answer_at d i)) new (omega (arith, listed-length old new room e))
      ∙ ap (splice i (f (answer_at d i) ∷ [])) e
      ∙ over-next i (map f (answers_to d i)) (f (answer_at d i) ∷ []) old listed-count
      ∙ ap (λ (l : List ℕ). over l old) (sym more)
    where
      more : map f (answers_to d (i + 1)) ≡ map f (answers_to d i) ++ (f (answer_at d i) ∷ [])
      more =
          ap (map f) (answers-take (size_of d) no_arrival (sample_arrivals d) i (inside-laid d y i (record { file = h; inside = inside })))
          ∙ map-append f (answers_to d i) (answer_at d i ∷ [])

module _ (d : Decoded) (y : Layout) (i : ℕ) (old new : Lent) (state : State) (r : SweepReady d y old) (t : LentAfter d y i old new state)
  where
    -- the lengths stay
    pub flags-length : length new.flags ≡ length old.flags
    flags-length = listed-length d y i t.most r.file _ old.flags new.flags r.lists.flags t.filled.flags

    pub positions-length : length new.positions ≡ length old.positions
    positions-length =
        listed-length d y i t.most r.file _ old.positions new.positions r.lists.positions t.filled.positions

    pub extents-length : length new.extents ≡ length old.extents
    extents-length = listed-length d y i t.most r.file _ old.extents new.extents r.lists.extents t.filled.extents

    pub lates-length : length new.lates ≡ length old.lates
    lates-length = listed-length d y i t.most r.file _ old.lates new.lates r.lists.lates t.filled.lates

    module _ (inside : i < y.arrivals) where
      -- there is room for the next record
      pub lent-room : Room (i + 1) new.flags new.positions new.extents new.lates
      lent-room =
          record {
            flags = omega (arith, flags-length, r.lists.flags);
            positions = omega (arith, positions-length, r.lists.positions);
            extents = omega (arith, extents-length, r.lists.extents);
            lates = omega (arith, lates-length, r.lists.lates);
          }

      -- the list of positions has those of the records before
      pub lent-positioned : take i new.positions ≡ positions_of (answers_to d i)
      lent-positioned =
          (over_first (positions_of (answers_to d i)) _ (sym (listed-count d y i t.most r.file _)) t.filled.positions).1

      -- after the next record
      pub lent-next : (next : Lent) (state' : State) → TableAfter (before d (i + 1)) next.table state'
          → drop table_places next.table ≡ drop table_places new.table
          → Put i (figures_of (answer_at d i)) new.flags new.positions new.extents new.lates next.flags next.positions
          next.extents next.lates
          → LentAfter d y (i + 1) old next state'
      lent-next next state' h e p =
          let g = t.filled in
          record {
            most = omega arith;
            held = h;
            filled =
                record {
                  table = e ∙ g.table;
                  table_length =
                      omega (
                        arith,
                        ap length (e ∙ g.table),
                        length-drop table_places next.table,
                        length-drop table_places old.table,
                        h.room,
                        r.table,
                      );
                  flags =
                      p.flags ∙ listed_next d y i t.most r.file (λ (a : Answer). (figures_of a).flag) inside old.flags
                      new.flags r.lists.flags g.flags;
                  positions =
                      p.positions ∙ listed_next d y i t.most r.file (λ (a : Answer). (figures_of a).position) inside old.positions
                      new.positions r.lists.positions g.positions;
                  extents =
                      p.extents ∙ listed_next d y i t.most r.file (λ (a : Answer). (figures_of a).extent) inside old.extents
                      new.extents r.lists.extents g.extents;
                  lates =
                      p.lates ∙ listed_next d y i t.most r.file (λ (a : Answer). (figures_of a).late) inside old.lates
                      new.lates r.lists.lates g.lates;
                };
          }

    -- after all
    pub lent-end : y.arrivals ≤ i → FilledWith (answers_of d) old new
    lent-end all =
        subst (λ (l : List Arrival). FilledWith (answers (size_of d) l) old new)
        (take_all i (sample_arrivals d) (omega (arith, arrivals-laid d y r.file))) t.filled
