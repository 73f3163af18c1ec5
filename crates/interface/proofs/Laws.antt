-- What an interface that keeps its rules says of its fields, for the layers above.
use Prim.Native.Nat.{◌≤◌}
use mathlib.Core.Bool.{true}
use mathlib.Core.Path.{◌≡◌}
use borrow.Author.Tests.{leb-true}
use Rattle.rows.proofs.Laws.{parts}
use Rattle.format.specs.declared.Format.{Format}
use Rattle.interface.specs.declared.Interface.{Interface}
use Rattle.prefix.specs.Prefix.{address_bits}
use Rattle.interface.specs.Interface.{interface_ok}

module _ (F : Format) (i : Interface) (ok : interface_ok F i ≡ true) where
  -- its prefix is no longer than an address
  pub interface_short : i.length ≤ address_bits
  unfolding interface_ok
  interface_short = leb-true i.length address_bits (search parts depth 16)

  -- its MTU is no less than the least
  pub mtu_least : F.mtu ≤ i.mtu
  unfolding interface_ok
  mtu_least = leb-true F.mtu i.mtu (search parts depth 16)
