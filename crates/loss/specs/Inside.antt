-- Inside: what only the contracts of inner functions cite, and laws. No entry's promise rests on it, and a reader of the definitions may
-- pass it over.
use Rattle.std.specs.Prelude.{ℕ}

-- the bytes of a link
abbrev pub link_size : ℕ
link_size = 32
