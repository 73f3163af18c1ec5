-- Inside: what only the contracts of inner functions cite, here and in the crates above. No entry's promise rests on it, and a reader of the definitions may pass it over.
use Rattle.std.specs.Prelude.{◌≡◌}
use Rattle.format.specs.declared.Format.{Format}
use Rattle.wire.specs.Numbers.{byte_at}
use Rattle.message.specs.Inside.{StandardBlock}
use Rattle.written.specs.declared.Block.{Block}
use Rattle.written.specs.Bytes.{block_bytes}

-- the blocks that are written here are type 4 blocks of the format, with the code at its place
pub record Writes (F : Format) : Type 0 where
  pub standard : (b : Block) → StandardBlock F (block_bytes b)
  pub code : (b : Block) → byte_at (block_bytes b) F.code ≡ b.code
