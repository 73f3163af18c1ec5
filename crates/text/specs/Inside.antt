-- Inside: what only the contracts of inner functions cite, and laws.
use Rattle.std.specs.Prelude.{ℕ, ◌+◌, ◌≤◌, List, ◌≡◌, length}
use Rattle.wire.specs.Parts.{splice}
use Rattle.text.specs.declared.Summary.{Summary}
use Rattle.yard.specs.Walk.{Walked}

-- some bytes are written into a text from a place on: they stand there, all others stay, the next place is behind them, and they are
-- not more than were foreseen
pub record Written (xs : List ℕ) (most at : ℕ) (text text' : List ℕ) (next : ℕ) : Type 0 where
  pub bytes : text' ≡ splice text at xs
  pub behind : next ≡ at + length xs
  pub few : length xs ≤ most

-- what is told of a walk, as code has it
abbrev pub told_of : Summary → Walked
told_of t = record { end = t.end; steps = t.steps; blocks = t.blocks; length = t.length }
