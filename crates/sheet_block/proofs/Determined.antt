-- Two answers that meet a function's promise are equal: what each ensures is an equation.
use denote.Struct.Cover.{Cover-one}
use mathlib.Core.Path.{◌≡◌, sym, ap, ◌∙◌}
use Rattle.rows.proofs.Laws.{both_are}
use Rattle.route_rules.specs.Inside.{outside_map}
use Rattle.sheet_block.specs.contracts.Interfaces as interfaces
use Rattle.sheet_block.specs.contracts.InterfacesEntries.TheImpl as of_interfaces
use Rattle.sheet_block.specs.contracts.Routes as routes
use Rattle.sheet_block.specs.contracts.RoutesEntries.TheImpl as of_routes
use Rattle.sheet_block.specs.declared.Routes.{Routes}
use Rattle.sheet_block.proofs.Interfaces.TheLaws as interfaces_laws
use Rattle.sheet_block.proofs.Routes.TheLaws as routes_laws
use Rattle.sheet_block.proofs.Routes.among.Reads as among
use Rattle.sheet_block.proofs.block_ok.Reads as block_ok
use Rattle.std.proofs.prelude.UsizeFromU8.from.Reads as wide

-- a byte as a wider number: the kit's conversion
pub wide_determined : (κs : _) (a : _) (x y : _) (e f : _) → wide.Post κs a x e → wide.Post κs a y f → x ≡ y
wide_determined κs a x y e f p q = both_are p q

-- the routes of a format among so many interfaces: also their bits of a map that none of these has, which follow from the number
one_among : (x y : Routes) → x.f ≡ y.f → x.interfaces ≡ y.interfaces → x ≡ y
one_among x y p q =
    let outside : x.outside ≡ y.outside = x.outside_is ∙ (ap outside_map q ∙ sym y.outside_is) in
    Cover-one routes.the_type.cover routes.the_type.propositions x y (λ i. (p i, (q i, (outside i, tt))))

pub among_determined : (κs : _) (a : _) (x y : _) (e f : _) → among.Post κs a x e → among.Post κs a y f → x ≡ y
among_determined κs a x y e f p q = one_among x y (both_are p.0 q.0) (both_are p.1 q.1)

pub block_ok_determined : (E : _) (laws : _) (entries : _) (dict : _) (κs : _) (a : _) (x y : _) (e f : _) → block_ok.Post E laws entries dict κs a x e
    → block_ok.Post E laws entries dict κs a y f → x ≡ y
block_ok_determined E laws entries dict κs a x y e f p q = both_are p q

-- the same of interface blocks, and of route blocks
pub interface_block_ok_determined : (κs : _) (a : _) (x y : _) (e f : _)
    → block_ok.Post interfaces.the_row interfaces_laws.the_row_laws of_interfaces.ghosts of_interfaces.dict κs a x e
    → block_ok.Post interfaces.the_row interfaces_laws.the_row_laws of_interfaces.ghosts of_interfaces.dict κs a y f → x ≡ y
interface_block_ok_determined = block_ok_determined interfaces.the_row interfaces_laws.the_row_laws of_interfaces.ghosts of_interfaces.dict

pub route_block_ok_determined : (κs : _) (a : _) (x y : _) (e f : _)
    → block_ok.Post routes.the_row routes_laws.the_row_laws of_routes.ghosts of_routes.dict κs a x e
    → block_ok.Post routes.the_row routes_laws.the_row_laws of_routes.ghosts of_routes.dict κs a y f → x ≡ y
route_block_ok_determined = block_ok_determined routes.the_row routes_laws.the_row_laws of_routes.ghosts of_routes.dict
