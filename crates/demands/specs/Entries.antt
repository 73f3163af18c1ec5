-- What the entries for C hand over: the demands are of numbers and lists, and these say how a clock's tick and a walk's telling go into
-- the bytes that a host lends. A step hands over its outcome as it is, of the call that its arguments make.
use Rattle.std.specs.Prelude.{ℕ, ◌≤◌, ◌<◌, List, ◌++◌, ◌≡◌, length, take}
use Rattle.wire.specs.Numbers.{be32, bytes32, bytes64}
use Rattle.wire.specs.Parts.{splice}
use Rattle.clock.specs.declared.Tick.{Tick}
use Rattle.message.specs.Blocks.{standard_count}
use Rattle.drops.specs.Arrival.{arrival}
use Rattle.drops.specs.Drop.{drop_room}
use Rattle.sending.specs.Answer.{sent_home}
use Rattle.ticks.specs.Ticks.{tick_size}
use Rattle.servicebough.specs.Answers.{answer_size}
use Rattle.yard.specs.Walk.{Visit}
use Rattle.demands.specs.Engine.{Call}
use Rattle.demands.specs.Walk.{Told, Truth}
use Rattle.format.specs.Sizes.{ipv4}

-- the call that the arguments of a step make: message, destination, receiving interface, TTL, time, sheet, and what is lent
abbrev pub step_call : List ℕ → ℕ → ℕ → ℕ → ℕ → List ℕ → List ℕ → List ℕ → List ℕ → Call
step_call message destination receiving ttl time sheet recent output note =
    record { arrival = arrival message destination receiving ttl; time = time; sheet = sheet; recent = recent; output = output; note = note }

-- a tick: the number, and the lent bytes as they are left
pub record HandsTick (k : Tick) (out : List ℕ) (number : ℕ) (left : List ℕ) : Type 0 where
  -- fewer than 24 bytes: 1, tried first, and nothing is written
  pub room : length out < tick_size → (number ≡ drop_room) × (left ≡ out)
  -- refused: the clock's number, and nothing is written
  pub refused : tick_size ≤ length out → (k.number ≡ 0 → ⊥) → (number ≡ k.number) × (left ≡ out)
  -- accepted: 0, and r, y and the time over the first 24 bytes; those past them stay
  pub accepted : tick_size ≤ length out → k.number ≡ 0
      → (number ≡ 0) × (left ≡ splice out 0 (bytes64 k.clock.r ++ bytes64 k.clock.y ++ bytes64 k.time))

-- a walk's telling: the number, and the output and the answer as they are left
pub record HandsWalk (t : Told) (output answer : List ℕ) (number : ℕ) (output' answer' : List ℕ) : Type 0 where
  -- an answer under 16 bytes: 1, tried first, and nothing is written
  pub room : length answer < answer_size → (number ≡ drop_room) × (output' ≡ output) × (answer' ≡ answer)
  -- else the end and the output are the walk's
  pub ends : answer_size ≤ length answer → (number ≡ t.answer.end) × (output' ≡ t.output)
  -- where it was refused or dropped the answer stays; else its first 16 bytes are end, steps, blocks and length
  pub stays : answer_size ≤ length answer → t.answer.end < sent_home → answer' ≡ answer
  pub answers : answer_size ≤ length answer → sent_home ≤ t.answer.end
      → answer' ≡ splice answer 0 (bytes32 t.answer.end ++ bytes32 t.answer.steps ++ bytes32 t.answer.blocks ++ bytes32 t.answer.length)

-- of a walk that is not refused and that its first router accepts: the 16 bytes say its end, its steps, its blocks and the length of its
-- last message, which stands in the output; and all that demand 3 says of them is true
pub record AnswerTells (yard times : List ℕ) (v : Visit) (visits : List Visit) (end : ℕ) (last output answer : List ℕ) : Type 0 where
  pub says_end : be32 answer 0 ≡ end
  pub says_steps : be32 answer 4 ≡ length visits
  pub says_blocks : be32 answer 8 ≡ standard_count ipv4 last
  pub says_length : be32 answer 12 ≡ length last
  pub sends : take (length last) output ≡ last
  pub truth : Truth yard times v visits end last
