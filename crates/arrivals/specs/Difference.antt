-- The time between two arrivals (document 02, M-100): the shortest signed difference of the 32-bit fields, from -2^31 to 2^31 - 1.
use Rattle.std.specs.Prelude.{ℕ, suc, ◌+◌, ◌-◌, ◌%◌, ◌<◌, cond, ℤ, pos, negsuc, nat_lt}
use Rattle.clock.specs.Clock.{arrival_times}

-- half of the arrival times: as many differences to either side
abbrev pub half_times : ℕ
half_times = 2147483648

-- later minus earlier, modulo 2^32
abbrev pub apart : ℕ → ℕ → ℕ
apart later earlier = (later + (arrival_times - earlier)) % arrival_times

-- read as a signed number: from 2^31 on it is 2^32 less. `negsuc n` is -(n + 1)
abbrev pub signed : ℕ → ℤ
signed n = cond (nat_lt n half_times) (pos n) (negsuc (arrival_times - 1 - n))

unfoldable pub difference_of : ℕ → ℕ → ℤ
difference_of later earlier = signed (apart later earlier)

-- a number from -2^31 to 2^31 - 1
abbrev pub InRange : ℤ → Type 0
InRange (pos n) = n < half_times
InRange (negsuc n) = n < half_times

-- the time that is so much later than another, modulo 2^32
abbrev pub later_by : ℤ → ℕ → ℕ
later_by (pos n) earlier = (earlier + n) % arrival_times
later_by (negsuc n) earlier = (earlier + (arrival_times - suc n)) % arrival_times
