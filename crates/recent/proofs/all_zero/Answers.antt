-- `all_zero`: an OR of all bytes.
use Rattle.std.proofs.Common.{rules, ◌≡◌}
use Rattle.std.specs.List.{fold}
use lib.Bits.{bit_or}
use Rattle.recent.proofs.Stores.{none_set}
use Rattle.recent.proofs.all_zero.Goals as goal

pub returns : goal.returns
returns c = let all : c.fold.result ≡ fold bit_or 0 c.args.bytes.now = search rules in rw all (none_set 0 c.args.bytes.now)
