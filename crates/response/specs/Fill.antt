-- What the block is filled with, and what ends a trace. Neither looks at the other: the code decides nothing.
use Rattle.std.specs.Prelude.{ℕ, ◌+◌, Bool, true, ◌&&◌, ◌||◌, cond, ltb, eqb, Option, Some, None}
use Rattle.address.specs.Addresses.{all_ones}
use Rattle.prefix.specs.Prefix.{address_bits}
use Rattle.route_entry.specs.Route.{source_and_group, group_only, source_only, is_rp}
use Rattle.route_entry.specs.declared.Route.{Route}
use Rattle.forwarding.specs.declared.View.{View}
use Rattle.written.specs.declared.Filled.{Filled}
use Rattle.written.specs.declared.Block.{Block}
use Rattle.forwarding.specs.View.{not_counted, address_of, input_of}
use Rattle.forwarding.specs.Code.{code_of}
use Rattle.interface.specs.declared.Interface.{Interface}

-- 224.0.0.2, all routers of the link: where upstream is not known
abbrev pub all_routers : ℕ
all_routers = 3758096386

-- all ones becomes 224.0.0.2
abbrev pub upstream_of : Route → ℕ
upstream_of r = cond (all_ones r.upstream) all_routers r.upstream

-- the packets counted by the route; all ones for kind 3
abbrev pub total_of : Route → ℕ
total_of r = cond (eqb r.kind source_only) not_counted r.packets

-- the mask of a route without a source
abbrev pub no_source_mask : ℕ
no_source_mask = 127

-- the source length; 127 for kind 2
abbrev pub mask_of : Route → ℕ
mask_of r = cond (eqb r.kind group_only) no_source_mask r.length

-- S: 1 for kind 2, and for kind 1 under length 32
abbrev pub s_of : Route → Bool
s_of r = eqb r.kind group_only || (eqb r.kind source_and_group && ltb r.length address_bits)

-- S stands before the 7 bits of the mask
abbrev pub s_bit : ℕ
s_bit = 128

-- S and the mask, as one byte
abbrev pub s_and_mask : Route → ℕ
s_and_mask r = cond (s_of r) (s_bit + mask_of r) (mask_of r)

-- filled from the route
unfoldable pub filled_of : Route → Option Interface → Filled
filled_of r i =
    record {
      incoming = address_of i;
      upstream = upstream_of r;
      input = input_of i;
      total = total_of r;
      protocol = r.protocol;
      multicast = r.multicast;
      mask = s_and_mask r;
    }

-- all of it 0
abbrev pub unfilled : Filled
unfilled = record { incoming = 0; upstream = 0; input = 0; total = 0; protocol = 0; multicast = 0; mask = 0 }

-- with no route or with tracing prohibited all these are 0
abbrev pub fill_for : View → Option Route → Filled
fill_for v None = unfilled
fill_for v (Some r) = cond v.prohibited unfilled (filled_of r v.incoming)

-- the whole block: time, outgoing address, output count and TTL of the receiving interface; the code; the rest as filled
unfoldable pub block_of : View → Block
block_of v =
    record {
      time = v.time;
      outgoing = v.here.address;
      output = v.here.output;
      threshold = v.here.threshold;
      code = code_of v;
      filled = fill_for v v.chosen;
    }

-- a Reply if there is no route, tracing is prohibited, the route is RP, upstream is 0, or the hops used now equal the hops
abbrev pub ends_for : Bool → ℕ → ℕ → Option Route → Bool
ends_for prohibited used hops None = true
ends_for prohibited used hops (Some r) = prohibited || is_rp r || eqb r.upstream 0 || eqb used hops

-- by the route that the router chose
unfoldable pub ends_trace : View → ℕ → ℕ → Bool
ends_trace v used hops = ends_for v.prohibited used hops v.chosen
