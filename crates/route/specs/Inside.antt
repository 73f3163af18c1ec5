-- Inside: what only the contracts of this crate's own functions cite. No entry's promise rests on it, and a reader of the definitions may pass it over.
-- Here: how one pass finds the route. Every route has a rank for a source and a group, and the first of the highest rank is
-- the one; 0 serves not at all.
use Rattle.std.specs.Prelude.{ℕ, zero, suc, ◌+◌, Bool, true, false, not, ◌&&◌, ◌||◌, cond, List, ltb, eqb}
use Rattle.address.specs.Addresses.{all_ones}
use Rattle.format.specs.declared.Format.{Format}
use Rattle.prefix.specs.Prefix.{address_bits, same_prefix}
use Rattle.route_entry.specs.Route.{group_only, source_only, route_at}
use Rattle.route_entry.specs.declared.Route.{Route}
use Rattle.tables.specs.Tables.{route_place}
use Rattle.route.specs.declared.Best.{Best}
use Rattle.route.specs.Choice.{serves_both, serves_group, serves_source}

-- the lowest rank of kind 3; each bit of length is one more
abbrev pub source_rank : ℕ
source_rank = 1

-- the rank of kind 2, above all of kind 3
abbrev pub group_rank : ℕ
group_rank = source_rank + address_bits + 1

-- what kind 1 ranks above
abbrev pub both_rank : ℕ
both_rank = group_rank + 1

-- the rank by three tests, the first of which counts most
unfoldable pub rank_by : (Route → Bool) → (Route → Bool) → (Route → Bool) → Route → ℕ
rank_by both shared sourced r =
    cond (both r) (both_rank + r.length) (cond (shared r) (group_rank + r.length) (cond (sourced r) (source_rank + r.length) 0))

-- kind 1 wants a source and a group
abbrev pub as_both : ℕ → ℕ → Route → Bool
as_both source group r = not (all_ones source) && not (all_ones group) && serves_both source group r

-- kind 2 wants a group, or no source
abbrev pub as_group : ℕ → ℕ → Route → Bool
as_group source group r = (all_ones source || not (all_ones group)) && serves_group group r

-- kind 3 wants a source
abbrev pub as_source : ℕ → Route → Bool
as_source source r = not (all_ones source) && serves_source source r

-- the rank of a route for a source and a group
abbrev pub rank_of : ℕ → ℕ → Route → ℕ
rank_of source group = rank_by (as_both source group) (as_group source group) (as_source source)

-- the rank of the route at a place of a sheet
unfoldable pub rank_at : List ℕ → ℕ → ℕ → ℕ → ℕ
rank_at sheet source group at = rank_of source group (route_at sheet at)

-- there is a source, and the route's source prefix matches it
unfoldable pub of_source : ℕ → Route → Bool
of_source source r = not (all_ones source) && same_prefix r.length r.source source

-- a route that keeps the rules has a rank above 0 where it serves so: of kind 3 the source counts, of kind 2 the group, of kind 1 both
unfoldable pub serves : ℕ → ℕ → Route → Bool
serves source group r =
    cond (eqb r.kind source_only) (of_source source r)
    (cond (not (eqb r.group group)) false (cond (eqb r.kind group_only) true (of_source source r)))

-- its rank is then by its kind and the length of its source prefix
unfoldable pub rank_as : ℕ → ℕ → ℕ
rank_as kind bits = cond (eqb kind group_only) (group_rank + bits) (cond (eqb kind source_only) (source_rank + bits) (both_rank + bits))

-- a rank, and the place of the route that has it
abbrev pub best : ℕ → ℕ → Best
best rank at = record { rank = rank; at = at }

-- the route at a place is the best from then on only if its rank is higher than that of the best so far
unfoldable pub better : Best → ℕ → ℕ → Best
better b rank at = cond (ltb b.rank rank) (best rank at) b

-- the best so far with n routes more, by the rank at a place and by their places
unfoldable pub best_with : (ℕ → ℕ) → (ℕ → ℕ) → Best → ℕ → Best
best_with rank place b zero = b
best_with rank place b (suc n) = better (best_with rank place b n) (rank (place n)) (place n)

-- the best of the first n routes of a sheet
abbrev pub best_of : Format → List ℕ → ℕ → ℕ → ℕ → Best
best_of F sheet source group n = best_with (rank_at sheet source group) (route_place F sheet) (best 0 0) n
