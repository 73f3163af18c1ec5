-- Which route serves a source and a group, said over the list of a sheet's routes in their order.
use Rattle.std.specs.Prelude.{ℕ, Bool, true, ◌&&◌, cond, List, [], ◌∷◌, ltb, eqb, Option, Some, None}
use Rattle.address.specs.Addresses.{all_ones}
use Rattle.prefix.specs.Prefix.{same_prefix}
use Rattle.route_entry.specs.Route.{source_and_group, group_only, source_only}
use Rattle.route_entry.specs.declared.Route.{Route}

-- kind 1 of that group whose source prefix matches
unfoldable pub serves_both : ℕ → ℕ → Route → Bool
serves_both source group r = eqb r.kind source_and_group && eqb r.group group && same_prefix r.length r.source source

-- kind 2 of that group
unfoldable pub serves_group : ℕ → Route → Bool
serves_group group r = eqb r.kind group_only && eqb r.group group

-- kind 3 whose source prefix matches
unfoldable pub serves_source : ℕ → Route → Bool
serves_source source r = eqb r.kind source_only && same_prefix r.length r.source source

-- a later route takes the place of an earlier one only if it is longer: ties go to the earlier entry
unfoldable pub longer : Option Route → Route → Bool
longer None r = true
longer (Some q) r = ltb q.length r.length

-- of the best so far and the routes that pass a test, the longest
unfoldable pub longest_by : (Route → Bool) → Option Route → List Route → Option Route
longest_by test best [] = best
longest_by test best (r ∷ rs) = longest_by test (cond (test r && longer best r) (Some r) best) rs

-- of the routes that pass a test, the longest
abbrev pub longest : (Route → Bool) → List Route → Option Route
longest test rs = longest_by test None rs

-- the first choice, where there is one; else the second
unfoldable pub or_else : Option Route → Option Route → Option Route
or_else (Some r) other = Some r
or_else None other = other

-- with source and group: kind 1, longest first; else kind 2; else kind 3, longest first. Source all ones: kind 2 only.
-- Group all ones: kind 3 only
unfoldable pub which_route : List Route → ℕ → ℕ → Option Route
which_route rs source group =
    let both = longest (serves_both source group) rs in
    let shared = longest (serves_group group) rs in
    let sourced = longest (serves_source source) rs in
    cond (all_ones source) shared (cond (all_ones group) sourced (or_else both (or_else shared sourced)))
