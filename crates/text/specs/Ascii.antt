-- Quoted texts as bytes.
use Rattle.std.specs.Prelude.{ℕ, List, [], ◌∷◌}
use Prim.Native.Char.{code}
use Prim.Native.String.{String, [] as []ˢ, ◌∷◌ as ◌∷ˢ◌}

-- the code of each character
unfoldable pub ascii : String → List ℕ
ascii []ˢ = []
ascii (c ∷ˢ others) = code c ∷ ascii others
