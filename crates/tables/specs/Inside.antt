-- Inside: what only the contracts of inner functions cite, here and in the crates above. No entry's promise rests on it, and a reader of the definitions may pass it over.
use Rattle.std.specs.Prelude.{ℕ, ◌+◌, ◌*◌, ◌-◌, ◌%◌, ◌≤◌, ◌<◌, min, true, List, ◌≡◌, length}
use Rattle.block.specs.Block.{entries_each}
use Rattle.format.specs.declared.Format.{Format}
use Rattle.route_entry.specs.Route.{route_at}
use Rattle.route_rules.specs.Rules.{route_ok}
use Rattle.sheet.specs.Sheet.{layout_of}

-- how many of so many routes stand side by side from route k on: to the end of its block, or of the routes
abbrev pub routes_beside : Format → ℕ → ℕ → ℕ
routes_beside F routes k = min (routes - k) (entries_each F.route - k % entries_each F.route)

-- so many routes stand side by side from a place on, and keep their rules
pub record Beside (F : Format) (s : List ℕ) (at count : ℕ) : Type 0 where
  pub bytes : (j : ℕ) → j < count → at + F.route * j + F.route ≤ length s
  pub kept : (j : ℕ) → j < count → route_ok (layout_of F s).interfaces (route_at s (at + F.route * j)) ≡ true
