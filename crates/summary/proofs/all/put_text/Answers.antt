-- `summary::all::put_text` meets its contract: the octets are put. Assumes nothing.
use Rattle.writing.proofs.Put.{put-octets}
use Rattle.summary.proofs.all.put_text.Goals as goal

pub returns : goal.returns
returns c = put-octets c.put_octets.ensures
