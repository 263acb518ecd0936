-- In each case of `kind` the importer that is called fills lists with room for any
-- sample (`lines-imported`, `records-imported`). Assumes nothing.
use Rattle.std.proofs.Common.{refl}
use Rattle.cmd_import.specs.declared.convert.Kind.TheVariants.{Log, Log8, Log10}
use Rattle.cmd_import.proofs.Sampled.{lines-imported, records-imported}
use Rattle.cmd_import.proofs.convert.import_lists.Goals as goal

pub returns-in-Log : goal.returns-in-Log
returns-in-Log c =
    rw c.in-Log.is (lines-imported _ _ c.import.ensures.log_imported_from c.requires Log _ refl refl)

pub returns-in-Log8 : goal.returns-in-Log8
returns-in-Log8 c =
    rw c.in-Log8.is (lines-imported _ _ c.import_8.ensures.short_log_imported_from c.requires Log8 _ refl refl)

pub returns-in-Log10 : goal.returns-in-Log10
returns-in-Log10 c =
    rw c.in-Log10.is (lines-imported _ _ c.import_10.ensures.short_log_imported_from c.requires Log10 _ refl refl)

pub returns-in-Records : goal.returns-in-Records
returns-in-Records c =
    rw c.in-Records.is (records-imported _ _ c.import-records.ensures.records_imported_from c.requires)
