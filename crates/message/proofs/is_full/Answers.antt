-- `is_full`: what passes the smaller of two passes one of them.
use Prim.Native.Nat.{◌+◌}
use native.Mathlib.Omega.{arith}
use Rattle.format.specs.Sizes.{ip_and_udp}
use Rattle.message.proofs.Rows.{past_room}
use Rattle.message.proofs.is_full.Goals as goal

pub returns : goal.returns
returns c =
    let f = c.args.f in
    past_room f.most c.args.mtu ip_and_udp (c.args.size + f.block) (omega (arith, c.requires.sound.moves))
