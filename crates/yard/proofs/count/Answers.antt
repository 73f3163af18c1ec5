-- `count`: fewer bytes than a header have no block; else the blocks are walked once.
use Rattle.yard.proofs.Rows.{no_block, count_fits, counted}
use Rattle.format.specs.Sizes.{ipv4_sound}
use Rattle.written.proofs.Laws.{ipv4_writes}
use Rattle.yard.proofs.count.Goals as goal

pub returns-then-sent-lt-HEADER_SIZE : goal.returns-then-sent-lt-HEADER_SIZE
returns-then-sent-lt-HEADER_SIZE c = search (no_block, ipv4_sound, ipv4_writes)

pub overflow_cast-result : goal.overflow_cast-result
overflow_cast-result c = search (count_fits, ipv4_sound, ipv4_writes)

pub returns : goal.returns
returns c = search counted
