-- The bytes of a Standard Response Block, and of an answer record.
use Rattle.std.specs.Prelude.{ℕ, List, [], ◌∷◌, ◌++◌}
use Rattle.wire.specs.Numbers.{bytes16, bytes32, bytes64}
use Rattle.header.specs.Format.{standard, standard_size}
use Rattle.written.specs.declared.Block.{Block}
use Rattle.written.specs.declared.Note.{Note}

-- type 4, length 52, zero; the fields in their order; a zero before S and mask
unfoldable pub block_bytes : Block → List ℕ
block_bytes b =
    (standard ∷ [])
    ++ bytes16 standard_size
    ++ (0 ∷ [])
    ++ bytes32 b.time
    ++ bytes32 b.filled.incoming
    ++ bytes32 b.outgoing
    ++ bytes32 b.filled.upstream
    ++ bytes64 b.filled.input
    ++ bytes64 b.output
    ++ bytes64 b.filled.total
    ++ bytes16 b.filled.protocol
    ++ bytes16 b.filled.multicast
    ++ (b.threshold ∷ 0 ∷ b.filled.mask ∷ b.code ∷ [])

-- length (2), destination (4), port (2), interface (2), source (4), zero (2)
unfoldable pub note_bytes : Note → List ℕ
note_bytes n =
    bytes16 n.length ++ bytes32 n.destination ++ bytes16 n.port ++ bytes16 n.interface ++ bytes32 n.source ++ (0 ∷ 0 ∷ [])
