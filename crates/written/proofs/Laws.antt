-- The laws that other crates cite: how long a block and a record are, and where a block has its addresses and its code.
use mathlib.Core.Path.{◌≡◌, refl}
use lib.ListN.{length}
use Rattle.format.specs.Sizes.{ipv4}
use Rattle.wire.specs.Numbers.{byte_at, be, bytes, bytes32}
use Rattle.wire.specs.Parts.{part}
use Rattle.header.specs.Format.{standard_size, incoming_offset, outgoing_offset, upstream_offset, code_offset, note_size}
use Rattle.written.specs.declared.Block.{Block}
use Rattle.written.specs.declared.Note.{Note}
use Rattle.written.specs.Bytes.{block_bytes, note_bytes}
use Rattle.written.specs.Inside.{Writes}

pub block_length : (b : Block) → length (block_bytes b) ≡ standard_size
unfolding block_bytes bytes
block_length b = refl

-- the three addresses and the code of a block stand at the format's places
pub block_shows : (b : Block)
    → (part incoming_offset 4 (block_bytes b) ≡ bytes32 b.filled.incoming)
    × (part outgoing_offset 4 (block_bytes b) ≡ bytes32 b.outgoing)
    × (part upstream_offset 4 (block_bytes b) ≡ bytes32 b.filled.upstream)
    × (byte_at (block_bytes b) code_offset ≡ b.code)
unfolding block_bytes bytes
block_shows b = (refl, refl, refl, refl)

pub note_length : (n : Note) → length (note_bytes n) ≡ note_size
unfolding note_bytes bytes
note_length n = refl

-- they are blocks of IPv4
pub ipv4_writes : Writes ipv4
unfolding block_bytes be bytes
ipv4_writes = record { standard = λ b. record { long = refl; kind = refl; size = refl }; code = λ b. refl }
