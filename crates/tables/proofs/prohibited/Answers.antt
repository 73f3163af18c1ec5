-- `prohibited`: block 0 is the front of the sheet.
use Rattle.tables.proofs.Reading.{switches_read}
use Rattle.tables.proofs.prohibited.Goals as goal

pub returns : goal.returns
returns c = search switches_read
