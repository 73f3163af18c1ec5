-- Document 02, M-100, and demand 3: reading a walk's Reply tells the truth. What is handed out of it is, block by block, what demand 3 says
-- of the walk's visits.
use Rattle.std.specs.Prelude.{ℕ, suc, ◌+◌, ◌<◌, ◌^◌, cond, List, ◌≡◌, length, get_or, set}
use Rattle.written.specs.declared.Block.{Block}
use Rattle.forwarding.specs.Code.{code_no_space}
use Rattle.written.specs.Bytes.{block_bytes}
use Rattle.header.specs.Format.{code_offset}
use Rattle.message.specs.Room.{Full, HasRoom}
use Rattle.standard.specs.declared.Standard.{Standard}
use Rattle.standard.specs.Standard.{s_bit, standard_of, no_standard}
use Rattle.yard.specs.Walk.{Visit}
use Rattle.demands.specs.Engine.{BlockOf}
use Rattle.demands.specs.Walk.{call_at, nth, last_received, last_room}
use Rattle.format.specs.Sizes.{ipv4}

-- some blocks tell the truth of a walk's visits
module _ (yard times : List ℕ) (v : Visit) (visits : List Visit) (end : ℕ) (last : List ℕ) (blocks : List Standard) where
  abbrev got : List ℕ
  got = last_received yard times v visits end last

  abbrev room : ℕ
  room = last_room yard times v visits end last

  abbrev gives : ℕ → Block → Type 0
  gives k b = BlockOf (call_at yard times (nth yard times v visits end last k)) b

  pub record ReadTruth : Type 0 where
    -- one for each router, where the last had room; else for each but the last
    pub count : HasRoom ipv4 room got → length blocks ≡ length visits
    pub count_full : Full ipv4 room got → suc (length blocks) ≡ length visits
    -- block k is the one that demand 2 gives for the k-th router and the message that it received
    pub block : (k : ℕ) (b : Block) → gives k b → HasRoom ipv4 room got → k < length blocks → get_or blocks k no_standard ≡ standard_of (block_bytes b)
    -- and so it is where the last had none, but for 0x81 in the last
    pub block_kept : (k : ℕ) (b : Block) → gives k b → Full ipv4 room got → suc k < length blocks → get_or blocks k no_standard ≡ standard_of (block_bytes b)
    pub block_marked : (k : ℕ) (b : Block) → gives k b → Full ipv4 room got → suc k ≡ length blocks
        → get_or blocks k no_standard ≡ standard_of (set (block_bytes b) code_offset code_no_space)

-- a router's block whose numbers fit their fields
pub record BlockFits (b : Block) : Type 0 where
  pub time : b.time < 2 ^ 32
  pub incoming : b.filled.incoming < 2 ^ 32
  pub outgoing : b.outgoing < 2 ^ 32
  pub upstream : b.filled.upstream < 2 ^ 32
  pub input : b.filled.input < 2 ^ 64
  pub output : b.output < 2 ^ 64
  pub total : b.filled.total < 2 ^ 64
  pub protocol : b.filled.protocol < 2 ^ 16
  pub multicast : b.filled.multicast < 2 ^ 16
  pub mask : b.filled.mask < 2 ^ 8

-- a block as it is read says what the router's does: each field of it, S and the mask as one byte
pub record Says (b : Block) (s : Standard) : Type 0 where
  pub time : s.time ≡ b.time
  pub incoming : s.incoming ≡ b.filled.incoming
  pub outgoing : s.outgoing ≡ b.outgoing
  pub upstream : s.upstream ≡ b.filled.upstream
  pub input : s.input ≡ b.filled.input
  pub output : s.output ≡ b.output
  pub total : s.total ≡ b.filled.total
  pub routing : s.routing ≡ b.filled.protocol
  pub multicast : s.multicast ≡ b.filled.multicast
  pub ttl : s.ttl ≡ b.threshold
  pub mask : cond s.s (s_bit + s.mask) s.mask ≡ b.filled.mask
  pub code : s.code ≡ b.code
