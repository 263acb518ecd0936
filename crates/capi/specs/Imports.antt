-- The answers of the importers for C. Assumes nothing.
use Rattle.std.specs.Prelude.{ℕ, List, get_or}
use Rattle.textlog.specs.declared.LogImport.{LogImport}
use Rattle.textlog.specs.declared.LogLine.{LogLine}
use Rattle.owamp.specs.declared.RecordsImport.{RecordsImport}

-- the answer for a text log, from its refusal and its figures
abbrev pub log_told : (refusal : ℕ) (figures : List ℕ) → LogImport
log_told refusal figures = record { refusal = refusal; arrivals = get_or figures 0 0 }

-- the answer for one line
abbrev pub line_told : (refusal : ℕ) (figures : List ℕ) → LogLine
line_told refusal figures = record { refusal = refusal; number = get_or figures 0 0; time = get_or figures 1 0 }

-- the answer for OWAMP records
abbrev pub records_told : (refusal : ℕ) (figures : List ℕ) → RecordsImport
records_told refusal figures = record { refusal = refusal; arrivals = get_or figures 0 0 }
