-- The figures of a record as four numbers. Assumes nothing.
use Rattle.std.specs.Prelude.{ℕ, List, map}
use Rattle.rfc4737.specs.declared.Answer.{Answer}
use Rattle.rfc4737.specs.Numbering.{answer_number, amount_of}
use Rattle.sweep.specs.declared.Figures.{Figures}

-- the number of the answer's case, the position, the extent and the amount of the late time. The cases are 0 in order, 1 reordered after,
-- 2 reordered before, 3 duplicate. Figures that a record lacks are 0
unfoldable pub figures_of : Answer → Figures
figures_of (Answer.InOrder d) = record { flag = answer_number (Answer.InOrder d); position = d.position; extent = 0; late = 0 }
figures_of (Answer.Reordered d) =
    record { flag = answer_number (Answer.Reordered d); position = d.position; extent = d.extent; late = amount_of d.late }
figures_of (Answer.Duplicate d) = record { flag = answer_number (Answer.Duplicate d); position = 0; extent = 0; late = 0 }

-- the flags of all records
abbrev pub flags_of : List Answer → List ℕ
flags_of l = map (λ (a : Answer). (figures_of a).flag) l

-- their positions
abbrev pub positions_of : List Answer → List ℕ
positions_of l = map (λ (a : Answer). (figures_of a).position) l

-- their extents
abbrev pub extents_of : List Answer → List ℕ
extents_of l = map (λ (a : Answer). (figures_of a).extent) l

-- the amounts of their late times
abbrev pub lates_of : List Answer → List ℕ
lates_of l = map (λ (a : Answer). (figures_of a).late) l
