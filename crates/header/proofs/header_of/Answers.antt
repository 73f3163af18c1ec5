-- `header_of`: each field is the number that was read.
use Rattle.header.specs.Header.{header_of}
use Rattle.header.proofs.header_of.Goals as goal

pub returns : goal.returns
unfolding header_of
returns c = cc
