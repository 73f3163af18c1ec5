-- The header of a message (document 01, "Messages"), and what the drop table asks of it (rows 6 to 12).
use Rattle.std.specs.Prelude.{ℕ, Bool, not, ◌&&◌, ◌||◌, List, eqb}
use Rattle.wire.specs.Numbers.{byte_at, be16, be32}
use Rattle.address.specs.Addresses.{unicast, multicast, all_ones}
use Rattle.header.specs.declared.Header.{Header}
use Rattle.header.specs.Format.{query, request}
use Rattle.format.specs.declared.Format.{Format}

-- the header that a list of bytes begins with: type, length, hops, multicast address, source address, client address,
-- query id, client port
unfoldable pub header_of : List ℕ → Header
header_of s =
    record {
      kind = byte_at s 0;
      length = be16 s 1;
      hops = byte_at s 3;
      group = be32 s 4;
      source = be32 s 8;
      client = be32 s 12;
      id = be16 s 16;
      port = be16 s 18;
    }

-- a header with another type
abbrev pub retyped : ℕ → Header → Header
retyped v h =
    record { kind = v; length = h.length; hops = h.hops; group = h.group; source = h.source; client = h.client; id = h.id; port = h.port }

-- a Query or a Request, which are what a router takes
abbrev pub query_or_request : Header → Bool
query_or_request h = eqb h.kind query || eqb h.kind request

-- the length that the header gives for itself
abbrev pub right_length : Format → Header → Bool
right_length F h = eqb h.length F.header

-- a multicast group, or all ones for no group
abbrev pub right_group : Header → Bool
right_group h = multicast h.group || all_ones h.group

-- a unicast source, or all ones for no source
abbrev pub right_source : Header → Bool
right_source h = unicast h.source || all_ones h.source

-- neither a group nor a source
abbrev pub names_nothing : Header → Bool
names_nothing h = all_ones h.group && all_ones h.source

-- a client to which a Reply can go: unicast, with a port
abbrev pub right_client : Header → Bool
right_client h = unicast h.client && not (eqb h.port 0)
