-- `note_bytes`: the fields written one behind the other into zeros.
use Rattle.written.proofs.Stores.{note_stored}
use Rattle.written.proofs.note_bytes.Goals as goal

pub returns : goal.returns
returns c = search note_stored
