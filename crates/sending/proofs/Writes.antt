-- What is written into the lent bytes, step by step, is what the definitions say.
use Prim.Native.Nat.{ℕ, ◌+◌, ◌≤◌, ◌<◌}
use mathlib.Core.List.{List}
use mathlib.Core.Path.{◌≡◌, ap, ◌∙◌}
use native.Mathlib.Omega.{arith}
use lib.ListN.{length, set, length-set}
use lib.Seq.{set-append_left}
use Rattle.wire.specs.Parts.{splice}
use Rattle.wire.proofs.Laws.{splice_front, splice_join}
use Rattle.written.specs.declared.Block.{Block}
use Rattle.written.specs.declared.Note.{Note}
use Rattle.written.specs.Bytes.{block_bytes, note_bytes}
use Rattle.header.specs.Format.{reply}
use Rattle.forwarding.specs.Code.{code_no_space}
use Rattle.sending.specs.Answer.{longer_message}
use Rattle.format.specs.declared.Format.{Format}
use Rattle.format.specs.Sizes.{Sound}

-- a store within what was written at the front
set_front : (o xs : List ℕ) (i v : ℕ) → i < length xs → set (splice o 0 xs) i v ≡ splice o 0 (set xs i v)
set_front o xs i v h = rw (splice_front, splice_front) (simp (length-set, set-append_left))

-- the message, its type, and a block behind it
pub longer-written : (m o o1 o2 bytes : List ℕ) (kind : ℕ) (b : Block) → 0 < length m → length m + length (block_bytes b) ≤ length o → bytes ≡ block_bytes b
    → o1 ≡ splice o 0 m → o2 ≡ splice (set o1 0 kind) (length m) bytes → o2 ≡ splice o 0 (longer_message kind m b)
unfolding longer_message
longer-written m o o1 o2 bytes kind b some room e f g =
    let M : List ℕ = set m 0 kind in
    let long : length M ≡ length m = length-set m 0 kind in
    let at : length m ≡ 0 + length M = omega arith in
    g
    ∙ rw (e, f, set_front o m 0 kind some, ap (λ (n : ℕ). splice (splice o 0 M) n (block_bytes b)) at)
    (splice_join o 0 M (omega arith) (block_bytes b))

pub note_written : (n : Note) (o o1 bytes : List ℕ) → bytes ≡ note_bytes n → o1 ≡ splice o 0 bytes → o1 ≡ splice o 0 (note_bytes n)
note_written n o o1 bytes e f = rw (f, e)

module _ {F : Format} (sound : Sound F) where
  -- the message, its type and one byte more
  pub full_written : (m o o1 : List ℕ) (last : ℕ) → last + F.block ≤ length m → o1 ≡ splice o 0 m
      → set (set o1 0 reply) (last + F.code) code_no_space ≡ splice o 0 (set (set m 0 reply) (last + F.code) code_no_space)
  full_written m o o1 last h e =
      rw (e, set_front o m 0 reply (omega arith)) (set_front o (set m 0 reply) (last + F.code) code_no_space (simp length-set (omega arith)))
