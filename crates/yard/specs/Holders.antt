-- Who holds an address in a yard, said without a search for it (document 01, "Walk": the lowest router and interface).
use Rattle.std.specs.Prelude.{ℕ, ◌<◌, List, ◌≡◌}
use Rattle.sheet.specs.Sheet.{layout_of}
use Rattle.tables.specs.Tables.{interface_of}
use Rattle.yard.specs.Yard.{routers_in, sheet_at}
use Rattle.format.specs.declared.Format.{Format}

-- none of a router's interfaces holds an address
abbrev pub HoldsNone : Format → List ℕ → ℕ → Type 0
HoldsNone F sheet address = (k : ℕ) → k < (layout_of F sheet).interfaces → (interface_of F sheet k).address ≡ address → ⊥

-- an interface of a router holds it, and neither a lower interface there nor any interface of a lower router does
pub record LowestHolder (F : Format) (yard : List ℕ) (address router interface : ℕ) : Type 0 where
  pub there : router < routers_in yard
  pub here : interface < (layout_of F (sheet_at yard router)).interfaces
  pub holds : (interface_of F (sheet_at yard router) interface).address ≡ address
  pub lowest_here : (k : ℕ) → k < interface → (interface_of F (sheet_at yard router) k).address ≡ address → ⊥
  pub lowest : (i : ℕ) → i < router → HoldsNone F (sheet_at yard i) address

-- nobody holds it
abbrev pub NobodyHolds : Format → List ℕ → ℕ → Type 0
NobodyHolds F yard address = (i : ℕ) → i < routers_in yard → HoldsNone F (sheet_at yard i) address
