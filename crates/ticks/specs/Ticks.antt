-- The clock as C calls it (document 01, "Papers"): the number is the answer; r, y and the time issued go into 24 lent bytes.
use Rattle.std.specs.Prelude.{ℕ, not, List, [], ◌∷◌, ◌++◌, ◌≡◌, ltb, eqb, length}
use Rattle.rows.specs.Rows.{Row, row, by_first, first_of}
use Rattle.wire.specs.Numbers.{bytes64}
use Rattle.wire.specs.Parts.{splice}
use Rattle.clock.specs.declared.Tick.{Tick}
use Rattle.drops.specs.Drop.{drop_room}

-- the bytes that are lent for the clock's r, y and time
abbrev pub tick_size : ℕ
tick_size = 24

-- the clock's r, y and time, 8 bytes each
unfoldable pub tick_bytes : Tick → List ℕ
tick_bytes k = bytes64 k.clock.r ++ bytes64 k.clock.y ++ bytes64 k.time

-- what refuses, in this order: fewer than 24 bytes lent; the clock, by its own number
abbrev pub tick_rows : Tick → ℕ → List Row
tick_rows k room =
    row drop_room (ltb room tick_size)
    ∷ row k.number (not (eqb k.number 0))
    ∷ []

-- what an entry of the clock promises: the number; unless refused the 24 bytes are written over the first ones lent, and
-- those past them stay
pub record TickMeets (k : Tick) (out : List ℕ) (n : ℕ) (left : List ℕ) : Type 0 where
  pub number : n ≡ first_of (tick_rows k (length out))
  pub bytes : left ≡ by_first (λ _. out) (splice out 0 (tick_bytes k)) (tick_rows k (length out))
