-- `known_blocks`: behind the header all type 4 blocks are left.
use Rattle.message.specs.Blocks.{standard_blocks}
use Rattle.message.proofs.Laws.{all_standards}
use Rattle.reply.specs.Inside.{blocks_left}
use Rattle.reply.proofs.known_blocks.Goals as goal
use Rattle.format.specs.Sizes.{ipv4_sound}

pub returns-clause-left : goal.returns-clause-left
unfolding standard_blocks blocks_left
returns-clause-left c = rw (← all_standards ipv4_sound c.args.reply.now)
