-- An entry read inside a part of a sheet is the entry read in the sheet.
use Prim.Native.Nat.{ℕ, ◌+◌, ◌^◌, ◌≤◌}
use mathlib.Core.List.{List}
use mathlib.Core.Path.{◌≡◌, sym, ap, ◌∙◌}
use native.Mathlib.Omega.{arith}
use native.Mathlib.Nat.{add_assoc}
use Rattle.wire.specs.Numbers.{be}
use Rattle.wire.specs.Parts.{part}
use Rattle.wire.proofs.Laws.{be-part}
use Rattle.format.specs.Sizes.{interface_fields, route_fields}
use Rattle.interface.specs.Interface.{interface_at}
use Rattle.route_entry.specs.Route.{route_at}

module _ (s : List ℕ) (at n j : ℕ) where
  number_in : (size : ℕ) → j + size ≤ n → (d o : ℕ) → o + 2 ^ d ≤ size → be d (part at n s) (j + o) ≡ be d s (at + j + o)
  number_in size h d o k = be-part d s at n (j + o) (omega arith) ∙ ap (be d s) (sym (add_assoc at j o))

  pub interface_in : j + interface_fields ≤ n → interface_at (part at n s) j ≡ interface_at s (at + j)
  unfolding interface_at be
  interface_in h =
      λ x. record {
        address = be-part 2 s at n j (omega arith) x;
        length = number_in interface_fields h 0 4 (omega arith) x;
        flags = number_in interface_fields h 0 5 (omega arith) x;
        threshold = number_in interface_fields h 0 6 (omega arith) x;
        zero = number_in interface_fields h 0 7 (omega arith) x;
        input = number_in interface_fields h 3 8 (omega arith) x;
        output = number_in interface_fields h 3 16 (omega arith) x;
        mtu = number_in interface_fields h 1 24 (omega arith) x;
        zeros = number_in interface_fields h 1 26 (omega arith) x;
      }

  pub route_in : j + route_fields ≤ n → route_at (part at n s) j ≡ route_at s (at + j)
  unfolding route_at be
  route_in h =
      λ x. record {
        kind = be-part 0 s at n j (omega arith) x;
        length = number_in route_fields h 0 1 (omega arith) x;
        flags = number_in route_fields h 0 2 (omega arith) x;
        zero = number_in route_fields h 0 3 (omega arith) x;
        source = number_in route_fields h 2 4 (omega arith) x;
        group = number_in route_fields h 2 8 (omega arith) x;
        upstream = number_in route_fields h 2 12 (omega arith) x;
        incoming = number_in route_fields h 1 16 (omega arith) x;
        protocol = number_in route_fields h 1 18 (omega arith) x;
        multicast = number_in route_fields h 1 20 (omega arith) x;
        zeros = number_in route_fields h 1 22 (omega arith) x;
        packets = number_in route_fields h 3 24 (omega arith) x;
        forward = number_in route_fields h 3 32 (omega arith) x;
        pruned = number_in route_fields h 3 40 (omega arith) x;
        stopped = number_in route_fields h 3 48 (omega arith) x;
      }
