-- The text that the program prints for an input. Assumes nothing.
use Rattle.std.specs.Prelude.{List, ℕ}
use Rattle.listing.specs.Lines.{refused_line}
use Rattle.sample.specs.Decode.{Decoded, refused, accepted}
use Rattle.summary.specs.Text.{summary_text}
use Rattle.summary.specs.Json.{summary_json}
use Rattle.summary.specs.All.{all_text}
use Rattle.cmd_summary.specs.declared.Form.{Form}

-- a summary in a form
abbrev pub form_text : Form → Decoded → List ℕ
form_text Form.Text d = summary_text d
form_text Form.Json d = summary_json d
form_text Form.All d = all_text d

-- the text of a decoded input: the summary of its sample, or one line if the input is refused
unfoldable pub shown_text : Form → Decoded → List ℕ
shown_text form (refused r) = refused_line r
shown_text form (accepted s) = form_text form (accepted s)
