-- A route: an entry of a route block, with 56 bytes of fields.
use Rattle.std.specs.Prelude.{ℕ, ◌+◌, ◌/◌, ◌%◌, ◌^◌, Bool, List, eqb}
use Rattle.wire.specs.Numbers.{byte_at, be16, be32, be64}
use Rattle.route_entry.specs.declared.Route.{Route}

-- the route whose entry begins at a place
unfoldable pub route_at : List ℕ → ℕ → Route
route_at s at =
    record {
      kind = byte_at s at;
      length = byte_at s (at + 1);
      flags = byte_at s (at + 2);
      zero = byte_at s (at + 3);
      source = be32 s (at + 4);
      group = be32 s (at + 8);
      upstream = be32 s (at + 12);
      incoming = be16 s (at + 16);
      protocol = be16 s (at + 18);
      multicast = be16 s (at + 20);
      zeros = be16 s (at + 22);
      packets = be64 s (at + 24);
      forward = be64 s (at + 32);
      pruned = be64 s (at + 40);
      stopped = be64 s (at + 48);
    }

-- kind 1: source and group
abbrev pub source_and_group : ℕ
source_and_group = 1

-- kind 2: group
abbrev pub group_only : ℕ
group_only = 2

-- kind 3: source only
abbrev pub source_only : ℕ
source_only = 3

-- flag 1: RP
abbrev pub is_rp : Route → Bool
is_rp r = eqb (r.flags % 2) 1

-- flag 2: prune sent
abbrev pub prune_sent : Route → Bool
prune_sent r = eqb (r.flags / 2 % 2) 1

-- 65535: the incoming interface is unknown
abbrev pub unknown : ℕ
unknown = 65535

-- bit i of a map, least first, is interface i
abbrev pub in_map : ℕ → ℕ → Bool
in_map map i = eqb (map / 2 ^ i % 2) 1
