-- A clock over a list of readings: the clock it comes to, the times it issues, and what the laws say of both.
use Rattle.std.specs.Prelude.{ℕ, ◌+◌, ◌*◌, ◌-◌, ◌≤◌, ◌<◌, cond, List, [], ◌∷◌, map, ◌≡◌, eqb, length, get_or}
use Rattle.clock.specs.declared.Clock.{Clock}
use Rattle.clock.specs.declared.Tick.{Tick}
use Rattle.clock.specs.Clock.{last_time, start_of, advance_of}

-- the clock after a list of readings, each taken by `advance`; a refused reading leaves it as it was
unfoldable pub after_by : (Clock → ℕ → Tick) → Clock → List ℕ → Clock
after_by advance c [] = c
after_by advance c (t ∷ ts) = after_by advance (advance c t).clock ts

abbrev pub after : Clock → List ℕ → Clock
after = after_by advance_of

-- an accepted reading and the time issued for it
pub record Issue : Type 0 where
  pub reading : ℕ
  pub time : ℕ

-- what a reading t gave, and what was issued later; a refused reading issues nothing
abbrev pub issue_then : ℕ → Tick → List Issue → List Issue
issue_then t k later = let here : List Issue = record { reading = t; time = k.time } ∷ later in cond (eqb k.number 0) here later

-- what it issues over the readings, in order
unfoldable pub issues_by : (Clock → ℕ → Tick) → Clock → List ℕ → List Issue
issues_by advance c [] = []
issues_by advance c (t ∷ ts) = issue_then t (advance c t) (issues_by advance (advance c t).clock ts)

abbrev pub issues : Clock → List ℕ → List Issue
issues = issues_by advance_of

-- and with what its start issued: all of a clock that starts from t and goes on by the readings
abbrev pub all_issues_by : (ℕ → Tick) → (Clock → ℕ → Tick) → ℕ → List ℕ → List Issue
all_issues_by start advance t ts = issue_then t (start t) (issues_by advance (start t).clock ts)

abbrev pub all_issues : ℕ → List ℕ → List Issue
all_issues = all_issues_by start_of advance_of

-- the times alone
abbrev pub times : List Issue → List ℕ
times = map (λ (i : Issue). i.time)

-- a clock as starting and advancing make it: the last issued time is at least the last reading, and in range
pub record Sound (c : Clock) : Type 0 where
  pub leads : c.r ≤ c.y
  pub within : c.y ≤ last_time

-- times above y and above one another, each at least its reading
abbrev pub RiseAbove : ℕ → List Issue → Type 0
RiseAbove y [] = Unit {0}
RiseAbove y (i ∷ is) = (y < i.time) × (i.reading ≤ i.time) × RiseAbove i.time is

-- no time twice: none stands at a place and at a later one
abbrev pub NeverTwice : List Issue → Type 0
NeverTwice is = (j k : ℕ) → j < k → k < length (times is) → get_or (times is) j 0 ≡ get_or (times is) k 0 → ⊥

-- by how much it is ahead of its last reading
abbrev pub lead : Clock → ℕ
lead c = c.y - c.r

-- calls whose reading rose by at least 2 each; a refused one is no call
abbrev pub RoseByTwo : (Clock → ℕ → Tick) → Clock → List ℕ → Type 0
RoseByTwo advance c [] = Unit {0}
RoseByTwo advance c (t ∷ ts) = ((advance c t).number ≡ 0 → c.r + 2 ≤ t) × RoseByTwo advance (advance c t).clock ts

-- a clock and a later one, between which readings advanced by D in all: a lead e has shrunk to at most the larger of 0 and
-- e - D/2, said of twice the lead
abbrev pub Shrunk : Clock → Clock → Type 0
Shrunk c later = (c.r ≤ later.r) × (2 * lead later ≤ 2 * lead c - (later.r - c.r))
