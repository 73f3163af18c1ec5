-- What swapping two Replies does to their links.
use Rattle.std.specs.Prelude.{◌<◌, List, [], ◌∷◌, ◌≡◌}
use Rattle.link.specs.declared.Link.{Link}
use Rattle.link.specs.declared.Link.TheVariants.{Fallen}
use Rattle.link.specs.Link.{tally_of}

-- a link that is counted, with a rise: received is at most sent, so it is one of sent
abbrev pub Risen : Link → Type 0
Risen l = 0 < (tally_of l).sent

-- each of some links that is counted with a rise has fallen in the place of another list
abbrev pub TurnFallen : List Link → List Link → Type 0
TurnFallen [] [] = Unit {0}
TurnFallen [] (m ∷ ms) = ⊥
TurnFallen (l ∷ ls) [] = ⊥
TurnFallen (l ∷ ls) (m ∷ ms) = (Risen l → m ≡ Fallen) × TurnFallen ls ms
