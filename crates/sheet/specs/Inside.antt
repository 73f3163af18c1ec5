-- Inside: what only the contracts of inner functions cite, here and in the crates above. No entry's promise rests on it, and a reader of the definitions may pass it over.
use Rattle.std.specs.Prelude.{ℕ, ◌+◌, ◌≤◌, ◌<◌, Bool, List, eqb, ◌≡◌}
use Rattle.block.specs.Block.{kind_of}
use Rattle.sheet_block.specs.Rules.{interface_kind, block_ok}
use Rattle.sheet.specs.Sheet.{sheet_block}

-- the first m of the first n blocks are interface blocks, and the next one, if there is one, is not
pub record Leading (s : List ℕ) (n m : ℕ) : Type 0 where
  pub within : m ≤ n
  pub first : (k : ℕ) → k < m → kind_of (sheet_block s k) ≡ interface_kind
  pub next : m < n → kind_of (sheet_block s m) ≡ interface_kind → ⊥

-- block k is of a kind and keeps its rules, with entries of a size, where block `stop` is the first behind those of its kind: the one before
-- may be partly filled
abbrev pub in_run : ℕ → ℕ → (List ℕ → ℕ → Bool) → List ℕ → ℕ → ℕ → Bool
in_run kind size right s stop k = block_ok kind size right k (eqb (k + 1) stop) (sheet_block s k)
