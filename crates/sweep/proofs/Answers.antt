-- The answer of the call. If the file is refused (`swept-refused`), or with 8 if the table or a list is too short (`swept-short`), the
-- decoded file counts as refused, so nothing is set. Else all lists have room (`wide`), and with the table cleared the pass can begin
-- (`ready`). The pass changes only the start of the table, so the table, cleared again, is zeros over what it was (`table-after`). The
-- lists begin with the figures of all answers. So at each record they have the figures of the answer of `metrics::answer` (`at-list`),
-- and their first entries are the figures of the answers in the report (`first-list`): both engines agree (`swept`). d is the decoded
-- file, y its layout, e says so, own says that it is accepted; old is the caller's memory before, table the cleared table, new the memory
-- after the pass, f says that it is filled; table' is the table cleared again, and after the memory then. Assumes nothing.
use mathlib.Core.Path.{◌≡◌, refl, sym, ap, ◌∙◌}
use mathlib.Core.Bool.{Bool, true, false}
use mathlib.Core.List.{List, ◌++◌, map}
use Prim.Native.Nat.{ℕ, zero, suc, ◌≤◌, ◌<◌}
use native.Mathlib.Omega.{arith}
use lib.Dec.{ltb}
use lib.ListN.{length, get_or, take, drop, replicate, length-replicate, get_or-replicate, length-map, get_or-append, get_or-map}
use lib.Seq.{drop_at}
use borrow.Author.Tests.{ltb-false}
use Rattle.octets.specs.Memory.{over}
use Rattle.octets.proofs.Memory.{over-length, over_first}
use Rattle.rfc4737.specs.declared.Answer.{Answer}
use Rattle.rfc4737.specs.Answer.{answers}
use Rattle.rfc4737.proofs.Tests.{neither}
use Rattle.rfc4737.proofs.Folds.{length-answers}
use Rattle.sample.specs.declared.Layout.{Layout}
use Rattle.sample.specs.Decode.{Decoded, refused, accepted, sample_of, layout_of}
use Rattle.sample.specs.Calls.{unless_short}
use Rattle.metrics.specs.Sample.{size_of, sample_arrivals, answers_of}
use Rattle.metrics.specs.Records.{FileLayout}
use Rattle.metrics.specs.Figures.{record_answer, at_record}
use Rattle.metrics.specs.Rows.{row_of}
use Rattle.metrics.proofs.RecordsAsked.{asked-within}
use Rattle.sweep.specs.Figures.{figures_of}
use Rattle.sweep.specs.Calls.{table_places, Lent, lent, lent_short, lent_short_for, SweptTo, figures_at, EnginesAgree, ReportAgrees, RowsAgree}
use Rattle.sweep.specs.Private.{Room, SweepReady, FilledWith}

-- with any refusal nothing is said of the lists
agree-refused : (d : Decoded) (y : Layout) (new : Lent) → (y.refusal ≡ 0 → ⊥) → EnginesAgree d y new × ReportAgrees d y new
agree-refused d y new n = (
  record { at = λ z i h. absurd (n z) },
  record {
    answers = answers_of d;
    listed = refl;
    every = length-answers (size_of d) (sample_arrivals d);
    flags = λ z. absurd (n z);
    positions = λ z. absurd (n z);
    extents = λ z. absurd (n z);
    lates = λ z. absurd (n z);
  },
)

-- with its own refusal
pub swept-refused : (d : Decoded) (y : Layout) → y ≡ layout_of d → (y.refusal ≡ 0 → ⊥) → (old : Lent) → SweptTo d old y old
    × (EnginesAgree d y old × ReportAgrees d y old)
unfolding unless_short answers Rattle.rfc4737.specs.Arrivals.each Rattle.rfc4737.specs.Arrivals.each_after
swept-refused (refused r) y e n old = (
  record { layout = e; table = refl; flags = refl; positions = refl; extents = refl; lates = refl },
  agree-refused (refused r) y old n,
)
swept-refused (accepted s) y e n old = absurd (n (ap (λ (y : Layout). y.refusal) e))

module _ (d : Decoded) (y : Layout) (e : y ≡ layout_of d) (own : d ≡ accepted (sample_of d)) (old : Lent) where
  -- too short by the counts of the layout
  short-is : (b : Bool) → b ≡ lent_short y.arrivals (length old.table) (length old.flags) (length old.positions)
      (length old.extents) (length old.lates)
      → lent_short_for d old ≡ b
  short-is b h = sym (h ∙ rw e)

  into-short : true ≡ lent_short y.arrivals (length old.table) (length old.flags) (length old.positions)
      (length old.extents) (length old.lates)
      → unless_short (lent_short_for d old) d ≡ refused 8
  unfolding unless_short
  into-short h = ap (λ (b : Bool). unless_short b d) (short-is true h) ∙ ap (unless_short true) own

  -- by 8
  pub swept-short : true ≡ lent_short y.arrivals (length old.table) (length old.flags) (length old.positions)
      (length old.extents) (length old.lates)
      → (r : Layout) → r ≡ layout_of (refused 8) → SweptTo d old r old × (EnginesAgree d r old × ReportAgrees d r old)
  unfolding answers Rattle.rfc4737.specs.Arrivals.each Rattle.rfc4737.specs.Arrivals.each_after
  swept-short h r q =
      let k = into-short h in (
        record { layout = rw k q; table = rw k; flags = rw k; positions = rw k; extents = rw k; lates = rw k },
        agree-refused d r old (λ z. omega (arith, ap (λ (y : Layout). y.refusal) q)),
      )

  -- no list is short
  module _ (h : false ≡ lent_short y.arrivals (length old.table) (length old.flags) (length old.positions)
      (length old.extents) (length old.lates)) where
    -- then the sample is swept
    into : unless_short (lent_short_for d old) d ≡ accepted (sample_of d)
    unfolding unless_short
    into = ap (λ (b : Bool). unless_short b d) (short-is false h) ∙ ap (unless_short false) own

    -- there is room in the table and in each list
    pub wide : (table_places ≤ length old.table) × Room y.arrivals old.flags old.positions old.extents old.lates
    unfolding lent_short
    wide =
        let t = neither (ltb (length old.table) table_places) _ (sym h) in
        let f = neither (ltb (length old.flags) y.arrivals) _ t.1 in
        let p = neither (ltb (length old.positions) y.arrivals) _ f.1 in
        let e = neither (ltb (length old.extents) y.arrivals) _ p.1 in (
          ltb-false _ _ t.0,
          record {
            flags = ltb-false _ _ f.0;
            positions = ltb-false _ _ p.0;
            extents = ltb-false _ _ e.0;
            lates = ltb-false _ _ e.1;
          },
        )

    module _ (laid : FileLayout d y) (table : List ℕ) (clear : table ≡ over (replicate table_places 0) old.table) where
      zeros-length : length (replicate {A = ℕ} table_places 0) ≡ table_places
      zeros-length = length-replicate {A = ℕ} table_places 0

      -- after the table is cleared
      pub ready : SweepReady d y (lent table old.flags old.positions old.extents old.lates)
      ready =
          record {
            file = laid;
            table =
                omega (
                  arith,
                  ap length clear,
                  over-length (replicate table_places 0) old.table (omega (arith, zeros-length, wide.0)),
                  wide.0,
                );
            zeros =
                λ k g. ap (λ (l : List ℕ). get_or l k 0) clear
                ∙ get_or-append (replicate table_places 0) (drop (length (replicate {A = ℕ} table_places 0)) old.table) 0 k
                (omega (arith, zeros-length)) ∙ get_or-replicate table_places k 0 0 g;
            lists = wide.1;
          }

      module _ (new : Lent) (f : FilledWith (answers_of d) (lent table old.flags old.positions old.extents old.lates) new)
          (table' : List ℕ) (clear' : table' ≡ over (replicate table_places 0) new.table) where
        abbrev after : Lent
        after = lent table' new.flags new.positions new.extents new.lates

        -- the table after it was cleared again
        table-after : table' ≡ over (replicate table_places 0) old.table
        table-after =
            clear'
            ∙ ap (λ (n : ℕ). replicate table_places 0 ++ drop n new.table) zeros-length
            ∙ ap (λ (l : List ℕ). replicate table_places 0 ++ l)
            (f.table ∙ ap (drop table_places) clear ∙ drop_at (replicate table_places 0)
            (drop (length (replicate {A = ℕ} table_places 0)) old.table) table_places zeros-length)

        -- what stands in a list at a record
        at-list : (g : Answer → ℕ) → g (Answer.InOrder (record { position = 0; jump = 0 })) ≡ 0 → (l l' : List ℕ)
            → l' ≡ over (map g (answers_of d)) l
            → (asked : ℕ) → (record_answer d asked).refusal ≡ 0 → at_record 0 l' asked ≡ g (record_answer d asked).answer
        unfolding record_answer at_record
        at-list g z l l' q zero i = absurd (omega (arith, asked-within d 1 (length (sample_arrivals d)) zero i))
        at-list g z l l' q (suc i) inside =
            let k = asked-within d 1 (length (sample_arrivals d)) (suc i) inside in
            let n : i < length (map g (answers_of d)) =
            omega (arith, k, length-map (answers_of d) g, length-answers (size_of d) (sample_arrivals d)) in
            ap (λ (m : List ℕ). get_or m i 0) q
            ∙ get_or-append (map g (answers_of d)) (drop (length (map g (answers_of d))) l) 0 i n
            ∙ ap (λ (m : ℕ). get_or (map g (answers_of d)) i m) (sym z)
            ∙ get_or-map g (answers_of d) i (Answer.InOrder (record { position = 0; jump = 0 }))

        -- the first places of a list
        first-list : (g : Answer → ℕ) (l l' : List ℕ) → l' ≡ over (map g (answers_of d)) l → take y.arrivals l' ≡ map g (answers_of d)
        first-list g l l' q =
            let n : y.arrivals ≡ length (map g (answers_of d)) =
            ap (λ (y : Layout). y.arrivals) e ∙ sym (length-map (answers_of d) g ∙ length-answers (size_of d) (sample_arrivals d)) in
            (over_first (map g (answers_of d)) l n q).1

        -- so the lists have the figures of the answers whose lines are the report
        reported : ReportAgrees d y after
        reported =
            record {
              answers = answers_of d;
              listed = refl;
              every = length-answers (size_of d) (sample_arrivals d);
              flags = λ z. first-list (λ (a : Answer). (figures_of a).flag) old.flags new.flags f.flags;
              positions = λ z. first-list (λ (a : Answer). (figures_of a).position) old.positions new.positions f.positions;
              extents = λ z. first-list (λ (a : Answer). (figures_of a).extent) old.extents new.extents f.extents;
              lates = λ z. first-list (λ (a : Answer). (figures_of a).late) old.lates new.lates f.lates;
            }

        -- after the pass
        pub swept : SweptTo d old y after × (EnginesAgree d y after × ReportAgrees d y after)
        unfolding figures_of
        swept = (
          record {
            layout = rw into (e ∙ ap layout_of own);
            table = rw into table-after;
            flags = rw into f.flags;
            positions = rw into f.positions;
            extents = rw into f.extents;
            lates = rw into f.lates;
          },
          (record { at = λ z asked h. at asked h }, reported),
        )
          where
            at : (asked : ℕ) → (record_answer d asked).refusal ≡ 0 → figures_at after asked ≡ figures_of (record_answer d asked).answer
            at i h =
                let a = at-list (λ (a : Answer). (figures_of a).flag) refl old.flags new.flags f.flags i h in
                let b = at-list (λ (a : Answer). (figures_of a).position) refl old.positions new.positions f.positions i h in
                let c = at-list (λ (a : Answer). (figures_of a).extent) refl old.extents new.extents f.extents i h in
                let g = at-list (λ (a : Answer). (figures_of a).late) refl old.lates new.lates f.lates i h in
                rw (a, b, c, g)

-- what holds of what is lent holds of the same lists by other names
pub lent-left : (P : Lent → Type 0) → {t f p e l f' p' e' l' : List ℕ} → f' ≡ f → p' ≡ p → e' ≡ e → l' ≡ l
    → P (lent t f p e l) → P (lent t f' p' e' l')
lent-left P f p e l holds = rw (f, p, e, l) holds

-- ---- the rows of records

row-figures : (a : Answer)
    → figures_of a ≡ record {
      flag = get_or (row_of a) 0 0;
      position = get_or (row_of a) 1 0;
      extent = get_or (row_of a) 3 0;
      late = get_or (row_of a) 4 0;
    }
unfolding figures_of row_of
row-figures (Answer.InOrder d) = refl
row-figures (Answer.Reordered d) = refl
row-figures (Answer.Duplicate d) = refl

pub rows_agree : RowsAgree
rows_agree = record { figures = row-figures }
