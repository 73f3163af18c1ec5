-- The walk as C calls it: its end is the number, and end, steps, blocks and length go into 16 lent bytes where a message was sent.
use Rattle.std.specs.Prelude.{ℕ, cond, List, [], ◌∷◌, ◌++◌, ltb, length}
use Rattle.rows.specs.Rows.{Row, row, by_first}
use Rattle.wire.specs.Numbers.{bytes32}
use Rattle.wire.specs.Parts.{splice}
use Rattle.drops.specs.Drop.{drop_room}
use Rattle.sending.specs.Answer.{sent_home}
use Rattle.yard.specs.Walk.{Walked, Walk, walked_of}
use Rattle.format.specs.Sizes.{ipv4}

-- the bytes that are lent for the answer
abbrev pub answer_size : ℕ
answer_size = 16

-- end, steps, blocks and length, 4 bytes each
unfoldable pub walked_bytes : Walked → List ℕ
walked_bytes w = bytes32 w.end ++ bytes32 w.steps ++ bytes32 w.blocks ++ bytes32 w.length

-- they are written over the first bytes where the end is 101 or more; a refusal or a drop writes nothing
unfoldable pub answer_left : Walked → List ℕ → List ℕ
answer_left w answer = let written = splice answer 0 (walked_bytes w) in cond (ltb w.end sent_home) answer written

-- the number, and the output and the answer as they are left
pub record Handed : Type 0 where
  pub number : ℕ
  pub output : List ℕ
  pub answer : List ℕ

abbrev pub handed : ℕ → List ℕ → List ℕ → Handed
handed number output answer = record { number = number; output = output; answer = answer }

-- what refuses before the walk does: an answer under 16 bytes
abbrev pub answer_rows : ℕ → List Row
answer_rows room = row drop_room (ltb room answer_size) ∷ []

-- refused so, nothing is written; else the number is the walk's end, and the last message sent stands in the output, whose bytes
-- past it stay
unfoldable pub walk_handed : Walk → List ℕ → List ℕ → Handed
walk_handed w output answer =
    by_first (λ number. handed number output answer) (handed w.end (splice output 0 w.last) (answer_left (walked_of ipv4 w) answer))
    (answer_rows (length answer))
