-- What a message has left: room for one block more, and hops. The step, the end of a trace and the walk all ask by these names.
use Rattle.std.specs.Prelude.{ℕ, ◌+◌, ◌-◌, ◌≤◌, ◌<◌, Bool, List, ltb, length}
use Rattle.format.specs.declared.Format.{Format}
use Rattle.header.specs.Header.{header_of}
use Rattle.message.specs.Blocks.{standard_count}

-- with one block more it would pass the room
abbrev pub is_full : Format → ℕ → List ℕ → Bool
is_full F room m = ltb room (length m + F.block)

-- the same as a statement, and its opposite
abbrev pub Full : Format → ℕ → List ℕ → Type 0
Full F room m = room < length m + F.block

abbrev pub HasRoom : Format → ℕ → List ℕ → Type 0
HasRoom F room m = length m + F.block ≤ room

-- the hops that it has used, one for each type 4 block, and those that it has not
abbrev pub hops_used : Format → List ℕ → ℕ
hops_used F m = standard_count F m

abbrev pub hops_left : Format → List ℕ → ℕ
hops_left F m = (header_of m).hops - hops_used F m
