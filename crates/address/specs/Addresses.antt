-- Classes of IPv4 addresses (document 01, "Sheet" and "Drop numbers"). An address is its 32-bit number.
use Rattle.std.specs.Prelude.{ℕ, ◌/◌, Bool, ◌&&◌, not, leb, eqb}

-- the first octet of an address
abbrev pub first_octet : ℕ → ℕ
first_octet a = a / 16777216

-- first octet 1 to 223, not 127
abbrev pub unicast : ℕ → Bool
unicast a = leb 1 (first_octet a) && leb (first_octet a) 223 && not (eqb (first_octet a) 127)

-- first octet 224 to 239
abbrev pub multicast : ℕ → Bool
multicast a = leb 224 (first_octet a) && leb (first_octet a) 239

-- in 224.0.0.0/24: 224.0.0.0 to 224.0.0.255
abbrev pub link_scoped : ℕ → Bool
link_scoped a = eqb (a / 256) 14680064

-- 255.255.255.255: no group, no source, upstream not known
abbrev pub all_ones : ℕ → Bool
all_ones a = eqb a 4294967295
