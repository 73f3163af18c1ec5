-- The proper last hop: a route is found, and it is RP, or some multicast interface in its would-forward map has the client
-- in its subnet.
use Rattle.std.specs.Prelude.{ℕ, zero, suc, Bool, true, false, ◌&&◌, ◌||◌, cond, Option, Some, None}
use Rattle.prefix.specs.Prefix.{same_prefix}
use Rattle.interface.specs.Interface.{is_multicast}
use Rattle.route_entry.specs.Route.{is_rp, in_map}
use Rattle.interface.specs.declared.Interface.{Interface}
use Rattle.route_entry.specs.declared.Route.{Route}

-- interface k is multicast, in the would-forward map, and has the client in its subnet
unfoldable pub reaches : Route → ℕ → ℕ → Interface → Bool
reaches r client k i = is_multicast i && in_map r.forward k && same_prefix i.length i.address client

-- one of the first n interfaces does so
unfoldable pub some_reaches : (ℕ → Interface) → Route → ℕ → ℕ → Bool
some_reaches interface r client zero = false
some_reaches interface r client (suc n) = cond (reaches r client n (interface n)) true (some_reaches interface r client n)

-- by the route chosen, where the router has so many interfaces
unfoldable pub proper_last_hop : (ℕ → Interface) → ℕ → Option Route → ℕ → Bool
proper_last_hop interface n None client = false
proper_last_hop interface n (Some r) client = is_rp r || some_reaches interface r client n
