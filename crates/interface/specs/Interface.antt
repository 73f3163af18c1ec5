-- An interface: an entry of an interface block, with 28 bytes of fields.
use Rattle.std.specs.Prelude.{ℕ, ◌+◌, ◌/◌, ◌%◌, Bool, ◌&&◌, List, leb, eqb}
use Rattle.wire.specs.Numbers.{byte_at, be16, be32, be64}
use Rattle.address.specs.Addresses.{unicast}
use Rattle.format.specs.declared.Format.{Format}
use Rattle.prefix.specs.Prefix.{address_bits}
use Rattle.interface.specs.declared.Interface.{Interface}

-- the most interfaces, numbered from 0
abbrev pub most_interfaces : ℕ
most_interfaces = 64

-- the interface whose entry begins at a place
unfoldable pub interface_at : List ℕ → ℕ → Interface
interface_at s at =
    record {
      address = be32 s at;
      length = byte_at s (at + 4);
      flags = byte_at s (at + 5);
      threshold = byte_at s (at + 6);
      zero = byte_at s (at + 7);
      input = be64 s (at + 8);
      output = be64 s (at + 16);
      mtu = be16 s (at + 24);
      zeros = be16 s (at + 26);
    }

-- flag 1: multicast
abbrev pub is_multicast : Interface → Bool
is_multicast i = eqb (i.flags % 2) 1

-- flag 2: boundary
abbrev pub is_boundary : Interface → Bool
is_boundary i = eqb (i.flags / 2 % 2) 1

-- address unicast, prefix length 1 to 32, no undefined flag, MTU no less than the format's least, the zero bytes zero
unfoldable pub interface_ok : Format → Interface → Bool
interface_ok F i =
    unicast i.address && leb 1 i.length && leb i.length address_bits && leb i.flags 3 && eqb i.zero 0 && leb F.mtu i.mtu
    && eqb i.zeros 0
