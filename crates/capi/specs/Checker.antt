-- The verdict on a listing for C. Assumes nothing.
use Rattle.std.specs.Prelude.{ℕ, List, [], ◌∷◌}
use Rattle.checker.specs.declared.Verdict.{Verdict}
use Rattle.checker.specs.declared.Verdict.TheVariants.{Agrees, WrongLine}

-- 1 and 0 if the listing agrees; else 0 and its first wrong line
abbrev pub verdict_figures : Verdict → List ℕ
verdict_figures Agrees = 1 ∷ 0 ∷ []
verdict_figures (WrongLine n) = 0 ∷ n ∷ []
