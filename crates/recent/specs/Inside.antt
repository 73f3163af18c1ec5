-- Inside: what only the contracts of inner functions cite, here and in the crates above. No entry's promise rests on it, and a reader of the definitions may pass it over.
use Rattle.std.specs.Prelude.{ℕ, ◌≤◌, ◌<◌, List, ◌≡◌, length}
use Rattle.recent.specs.Layout.{entry_count, list_size, used, next}

-- the sizes of a well-formed list, which is all that reading and writing it need
pub record Formed (list : List ℕ) : Type 0 where
  pub whole : length list ≡ list_size
  pub few : used list ≤ entry_count
  pub within : next list < entry_count
