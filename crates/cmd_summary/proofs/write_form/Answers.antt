-- `cmd_summary::write_form` meets its contract: it is that of the call for the form. Assumes nothing.
use Rattle.cmd_summary.proofs.write_form.Goals as goal

pub returns-in-Text : goal.returns-in-Text
returns-in-Text c = rw c.in-Text.is c.write.ensures.summary_to

pub returns-in-Json : goal.returns-in-Json
returns-in-Json c = rw c.in-Json.is c.write_json.ensures.summary_json_to

pub returns-in-All : goal.returns-in-All
returns-in-All c = rw c.in-All.is c.write_all.ensures.all_to
