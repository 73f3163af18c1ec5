-- `block_bytes`: the fields written one behind the other into zeros.
use Rattle.written.proofs.Stores.{block_stored}
use Rattle.written.proofs.block_bytes.Goals as goal

pub returns : goal.returns
returns c = search block_stored
