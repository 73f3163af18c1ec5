-- `head_of`: what there is of the 36 bytes, over zeros.
use mathlib.Core.Path.{sym}
use lib.Seq.{length-take-le}
use Rattle.input.proofs.Given.{head_there, head_within, head_fits}
use Rattle.input.proofs.head_of.Goals as goal

pub slice_bounds-copy_to-end-2 : goal.slice_bounds-copy_to-end-2
slice_bounds-copy_to-end-2 c = sym (length-take-le _ _ (head_within _ _ c.min-n.ensures).1)

pub copy_to-requires : goal.copy_to-requires
copy_to-requires c = search head_fits

pub returns : goal.returns
returns c = search head_there
