-- `frame_ok`: where all tests before it pass, the sum decides. What is read from a block is bytes.
use Rattle.std.proofs.Common.{ℕ, ◌<◌}
use Rattle.wire.specs.Numbers.{byte_at}
use Rattle.block.proofs.Frames.{framed_full, framed_partly}
use Rattle.block.proofs.frame_ok.Goals as goal

pub returns-then-end-eq-SWITCHES_WORD : goal.returns-then-end-eq-SWITCHES_WORD
returns-then-end-eq-SWITCHES_WORD c =
    let bytes : (i : ℕ) → byte_at c.args.b.now i < 256 = λ i. (c.type_inv.b i).fits in
    search (framed_full, bytes)

pub returns-then-zero_from : goal.returns-then-zero_from
returns-then-zero_from c =
    let bytes : (i : ℕ) → byte_at c.args.b.now i < 256 = λ i. (c.type_inv.b i).fits in
    search (framed_partly, bytes)
