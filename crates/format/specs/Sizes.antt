-- A format's sizes, the few facts that definitions, laws and code need of them, and the sizes of IPv4. Another family or version is one
-- more value, of which the same facts are computed.
use Rattle.std.specs.Prelude.{ℕ, ◌+◌, ◌-◌, ◌%◌, ◌≤◌, ◌<◌, min, ◌≡◌, refl}
use Rattle.std.proofs.Common.{lit≤}
use Rattle.block.specs.Block.{entries_room}
use Rattle.block.specs.Inside.{word_size}
use Rattle.format.specs.declared.Format.{Format}

-- bytes that the fields of a header, of an interface entry and of a route entry take up
abbrev pub header_fields : ℕ
header_fields = 20

abbrev pub interface_fields : ℕ
interface_fields = 28

abbrev pub route_fields : ℕ
route_fields = 56

-- bytes of a block's type and length, behind which its code stands
abbrev pub block_head : ℕ
block_head = 3

-- an Augmented block, the shortest there is, has at least so many bytes
abbrev pub augmented_least : ℕ
augmented_least = 8

-- what a host lends for a message, whatever its format
abbrev pub output_size : ℕ
output_size = 1472

-- bytes of the IP and UDP headers
abbrev pub ip_and_udp : ℕ
ip_and_udp = 28

-- room: the smaller of the most that a message has and what a link of an MTU leaves beside the IP and UDP headers
abbrev pub room_of : Format → ℕ → ℕ
room_of F mtu = min F.most (mtu - ip_and_udp)

-- the least room: that of the least MTU
abbrev pub least_room : Format → ℕ
least_room F = room_of F F.mtu

-- what is asked of sizes
pub record Sound (F : Format) : Type 0 where
  -- fields lie within what holds them
  pub header : header_fields ≤ F.header
  pub interface : interface_fields ≤ F.interface
  pub route : route_fields ≤ F.route
  pub code_low : block_head ≤ F.code
  pub code_high : F.code < F.block
  -- the walk from block to block moves on
  pub moves : augmented_least ≤ F.block
  -- a Query has room for a block on every link, and a host lends enough for every message
  pub room : F.header + F.block ≤ least_room F
  pub short : F.most ≤ output_size
  -- a sheet's block holds some entries of either kind, in whole words
  pub interface-most : F.interface ≤ entries_room
  pub interface_unit : F.interface % word_size ≡ 0
  pub route-most : F.route ≤ entries_room
  pub route_unit : F.route % word_size ≡ 0

-- IPv4, version 2: header and Standard Response Block, its code, no message over 1472 bytes; entries of 28 and 56 bytes; MTU at least 576
abbrev pub ipv4 : Format
ipv4 = record { header = 20; block = 52; code = 51; most = 1472; interface = 28; route = 56; mtu = 576 }

pub ipv4_sound : Sound ipv4
ipv4_sound =
    record {
      header = lit≤ tt;
      interface = lit≤ tt;
      route = lit≤ tt;
      code_low = lit≤ tt;
      code_high = lit≤ tt;
      moves = lit≤ tt;
      room = lit≤ tt;
      short = lit≤ tt;
      interface-most = lit≤ tt;
      interface_unit = refl;
      route-most = lit≤ tt;
      route_unit = refl;
    }
