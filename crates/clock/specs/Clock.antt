-- The clock: what starting it and each new reading give. Units are 1/65536 s since NTP era 0, from 0 to 2^48 - 1.
use Rattle.std.specs.Prelude.{ℕ, ◌+◌, ◌-◌, ◌/◌, ◌%◌, min, max, Bool, cond, ◌||◌, List, [], ◌∷◌, ltb, eqb, Result, Ok, Err}
use Rattle.rows.specs.Rows.{Row, row, by_first}
use Rattle.refusal.specs.declared.Refusal.{Refusal}
use Rattle.refusal.specs.Refusal.{number}
use Rattle.clock.specs.declared.Clock.{Clock}
use Rattle.clock.specs.declared.Tick.{Tick}

-- the last time there is: 2^48 - 1
abbrev pub last_time : ℕ
last_time = 281474976710655

-- a time or a reading over it
abbrev pub out_of_range : ℕ → Bool
out_of_range t = ltb last_time t

-- refused for the reading, or since no time is left to issue
abbrev pub clock_reading : ℕ
clock_reading = 31

-- refused for the clock that was given
abbrev pub clock_state : ℕ
clock_state = 33

-- a clock whose last reading is r and whose last issued time is y
abbrev pub clock_of : ℕ → ℕ → Clock
clock_of r y = record { r = r; y = y }

-- accepted: the number is 0, and the time issued is the new clock's y
abbrev pub issued : ℕ → ℕ → Tick
issued r y = record { number = 0; clock = clock_of r y; time = y }

-- refused by a number: a clock to go on with, and time 0
abbrev pub refused_tick : ℕ → Clock → Tick
refused_tick n c = record { number = n; clock = c; time = 0 }

-- what an answer to a reading says: a clock has issued its y; an error refuses by its number, and the clock is the one given
abbrev pub tick_of : Clock → Result Clock Refusal → Tick
tick_of c (Ok k) = issued k.r k.y
tick_of c (Err refusal) = refused_tick (number refusal) c

-- a time above the last one. A reading below the last: y + 1. Else, d = t - r: the largest of t, y + floor(d/2) and y + 1, but at
-- most 2^48 - 1
unfoldable pub time_for : Clock → ℕ → ℕ
time_for c t =
    let half = c.y + (t - c.r) / 2 in
    let next = c.y + 1 in
    cond (ltb t c.r) next (min last_time (max t (max half next)))

-- what a start refuses: a reading over 2^48 - 1
abbrev pub start_rows : ℕ → List Row
start_rows t = row clock_reading (out_of_range t) ∷ []

-- a clock that has issued the last time: none is above it
abbrev pub spent : Clock → Bool
spent c = eqb c.y last_time

-- what an advance refuses, in this order: y below r, or y over 2^48 - 1; a reading over 2^48 - 1, or y 2^48 - 1
abbrev pub advance_rows : Clock → ℕ → List Row
advance_rows c t =
    row clock_state (ltb c.y c.r || out_of_range c.y)
    ∷ row clock_reading (out_of_range t || spent c)
    ∷ []

-- a clock starts from a reading t, and issues t; where that is refused it is the clock of reading 0
unfoldable pub start_of : ℕ → Tick
start_of t = by_first (λ n. refused_tick n (clock_of 0 0)) (issued t t) (start_rows t)

-- a new reading t; where it is refused the clock is the one given
unfoldable pub advance_of : Clock → ℕ → Tick
advance_of c t = by_first (λ n. refused_tick n c) (issued t (time_for c t)) (advance_rows c t)

-- how many arrival times there are: 2^32
abbrev pub arrival_times : ℕ
arrival_times = 4294967296

-- the Query Arrival Time: y modulo 2^32
abbrev pub arrival_of : ℕ → ℕ
arrival_of y = y % arrival_times
