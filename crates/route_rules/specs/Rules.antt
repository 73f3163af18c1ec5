-- The rules on a route by itself (document 01, "Sheet").
use Rattle.std.specs.Prelude.{ℕ, ◌%◌, ◌^◌, Bool, ◌&&◌, ◌||◌, not, leb, ltb, eqb}
use Rattle.address.specs.Addresses.{unicast, multicast, all_ones}
use Rattle.prefix.specs.Prefix.{address_bits, zero_past}
use Rattle.route_entry.specs.declared.Route.{Route}
use Rattle.route_entry.specs.Route.{source_and_group, group_only, source_only, unknown}

-- one of the three kinds
abbrev pub kind_ok : ℕ → Bool
kind_ok kind = leb source_and_group kind && leb kind source_only

-- source lengths: kind 1 has 1 to 32 bits, kind 2 none, kind 3 up to 32
abbrev pub length_ok : ℕ → ℕ → Bool
length_ok kind bits = leb bits address_bits && (eqb bits 0 || not (eqb kind group_only)) && (leb 1 bits || not (eqb kind source_and_group))

-- no undefined flag; RP on kind 2 only
abbrev pub flags_ok : ℕ → ℕ → Bool
flags_ok kind flags = leb flags 3 && (eqb (flags % 2) 0 || eqb kind group_only)

-- 0 for kind 3, else multicast
abbrev pub group_ok : ℕ → ℕ → Bool
group_ok kind group = (eqb kind source_only && eqb group 0) || (not (eqb kind source_only) && multicast group)

-- the number of an interface here, or unknown
abbrev pub incoming_ok : ℕ → ℕ → Bool
incoming_ok interfaces incoming = ltb incoming interfaces || eqb incoming unknown

-- unicast, 0 (none) or all ones (not known); 0 where incoming is unknown
abbrev pub upstream_ok : ℕ → ℕ → Bool
upstream_ok incoming upstream = eqb upstream 0 || (not (eqb incoming unknown) && (unicast upstream || all_ones upstream))

-- bits without an interface are zero
abbrev pub map_ok : ℕ → ℕ → Bool
map_ok interfaces map = ltb map (2 ^ interfaces)

-- every rule on a route by itself, where there are so many interfaces
unfoldable pub route_ok : ℕ → Route → Bool
route_ok interfaces r =
    kind_ok r.kind && length_ok r.kind r.length && flags_ok r.kind r.flags && eqb r.zero 0 && eqb r.zeros 0
    && zero_past r.length r.source
    && group_ok r.kind r.group
    && upstream_ok r.incoming r.upstream
    && incoming_ok interfaces r.incoming
    && map_ok interfaces r.forward
    && map_ok interfaces r.pruned
    && map_ok interfaces r.stopped
