-- A block, and an answer record, written field by field into an array of zeros.
use Prim.Native.Nat.{ℕ}
use mathlib.Core.List.{List}
use mathlib.Core.Path.{◌≡◌}
use lib.ListN.{set, replicate}
use Rattle.wire.specs.Numbers.{bytes, bytes16, bytes32, bytes64}
use Rattle.wire.specs.Parts.{splice}
use Rattle.header.specs.Format.{standard, standard_size, code_offset, note_size}
use Rattle.written.specs.declared.Block.{Block}
use Rattle.written.specs.declared.Note.{Note}
use Rattle.written.specs.Bytes.{block_bytes, note_bytes}

pub block_stored : (b : Block) (a1 a2 a3 a4 a5 a6 a7 a8 a9 : List ℕ)
    → a1 ≡ splice (set (set (replicate standard_size 0) 0 standard) 2 standard_size) 4 (bytes32 b.time)
    → a2 ≡ splice a1 8 (bytes32 b.filled.incoming)
    → a3 ≡ splice a2 12 (bytes32 b.outgoing)
    → a4 ≡ splice a3 16 (bytes32 b.filled.upstream)
    → a5 ≡ splice a4 20 (bytes64 b.filled.input)
    → a6 ≡ splice a5 28 (bytes64 b.output)
    → a7 ≡ splice a6 36 (bytes64 b.filled.total)
    → a8 ≡ splice a7 44 (bytes16 b.filled.protocol)
    → a9 ≡ splice a8 46 (bytes16 b.filled.multicast)
    → set (set (set a9 48 b.threshold) 50 b.filled.mask) code_offset b.code ≡ block_bytes b
unfolding block_bytes splice bytes
block_stored b a1 a2 a3 a4 a5 a6 a7 a8 a9 e1 e2 e3 e4 e5 e6 e7 e8 e9 = rw (e9, e8, e7, e6, e5, e4, e3, e2, e1)

pub note_stored : (n : Note) (a1 a2 a3 a4 a5 : List ℕ)
    → a1 ≡ splice (replicate note_size 0) 0 (bytes16 n.length)
    → a2 ≡ splice a1 2 (bytes32 n.destination)
    → a3 ≡ splice a2 6 (bytes16 n.port)
    → a4 ≡ splice a3 8 (bytes16 n.interface)
    → a5 ≡ splice a4 10 (bytes32 n.source)
    → a5 ≡ note_bytes n
unfolding note_bytes splice bytes
note_stored n a1 a2 a3 a4 a5 e1 e2 e3 e4 e5 = rw (e5, e4, e3, e2, e1)
