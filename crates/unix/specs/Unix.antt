-- UNIX time to units.
use Rattle.std.specs.Prelude.{ℕ, ◌+◌, ◌*◌, ◌/◌, ◌||◌, List, [], ◌∷◌, leb, ltb, Result, Ok, Err}
use Rattle.rows.specs.Rows.{Row, row, by_first}
use Rattle.refusal.specs.declared.Refusal.{Refusal}
use Rattle.refusal.specs.Refusal.{number}

-- refused for the UNIX time
abbrev pub clock_unix : ℕ
clock_unix = 32

-- the seconds from the start of NTP era 0 to 1970
abbrev pub unix_epoch : ℕ
unix_epoch = 2208988800

-- the last second of UNIX time in era 0
abbrev pub last_second : ℕ
last_second = 2085978495

-- a second in units
abbrev pub second_units : ℕ
second_units = 65536

-- a second in nanoseconds
abbrev pub second_nanos : ℕ
second_nanos = 1000000000

-- units to nanoseconds in lowest terms: 128 units are ..
abbrev pub ratio_units : ℕ
ratio_units = 128

-- .. 1953125 nanoseconds
abbrev pub ratio_nanos : ℕ
ratio_nanos = 1953125

-- whole seconds since NTP era 0, and the parts of a second rounded down
abbrev pub units_for : ℕ → ℕ → ℕ
units_for seconds nanoseconds = (seconds + unix_epoch) * second_units + nanoseconds * ratio_units / ratio_nanos

-- what is refused: seconds over 2085978495, nanoseconds not below 10^9
abbrev pub unix_rows : ℕ → ℕ → List Row
unix_rows seconds nanoseconds = row clock_unix (ltb last_second seconds || leb second_nanos nanoseconds) ∷ []

-- a UNIX time in units, or 0 beside the number of why it was refused
pub record Units : Type 0 where
  pub number : ℕ
  pub units : ℕ

-- accepted: the number is 0
abbrev pub converted : ℕ → Units
converted units = record { number = 0; units = units }

-- refused by a number: 0 units
abbrev pub refused_units : ℕ → Units
refused_units number = record { number = number; units = 0 }

-- what an answer says: the units, or the number of the refusal
abbrev pub units_of : Result ℕ Refusal → Units
units_of (Ok units) = converted units
units_of (Err refusal) = refused_units (number refusal)

-- a UNIX time in units, or refused
unfoldable pub unix_of : ℕ → ℕ → Units
unix_of seconds nanoseconds = by_first refused_units (converted (units_for seconds nanoseconds)) (unix_rows seconds nanoseconds)
