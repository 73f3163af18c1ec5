-- Prefixes of IPv4 addresses: their first bits.
use Rattle.std.specs.Prelude.{ℕ, ◌-◌, ◌^◌, ◌/◌, ◌%◌, Bool, eqb}

-- bits of an address
abbrev pub address_bits : ℕ
address_bits = 32

-- how many addresses share a prefix of so many bits; more than an address has are not met in a valid sheet
unfoldable pub hosts : ℕ → ℕ
hosts bits = 2 ^ (address_bits - bits)

-- the first bits of two addresses agree, so many of them
unfoldable pub same_prefix : ℕ → ℕ → ℕ → Bool
same_prefix bits a b = eqb (a / hosts bits) (b / hosts bits)

-- the bits past the first are zero
unfoldable pub zero_past : ℕ → ℕ → Bool
zero_past bits a = eqb (a % hosts bits) 0
