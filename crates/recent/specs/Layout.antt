-- The recent list as it is lent (document 01, below the drop table): 196 bytes of used, next, two zeros, and 32 entries
-- of client and id, the unused ones zero.
use Rattle.std.specs.Prelude.{ℕ, ◌+◌, ◌*◌, Bool, ◌&&◌, ◌||◌, List, leb, ltb, eqb, length, drop}
use Rattle.wire.specs.Numbers.{byte_at}
use Rattle.wire.specs.Parts.{all_zero}

-- the bytes before the entries: used, next, two zeros
abbrev pub head_size : ℕ
head_size = 4

-- the bytes of an entry's client
abbrev pub client_size : ℕ
client_size = 4

-- the bytes of an entry: client and id
abbrev pub entry_size : ℕ
entry_size = 6

-- how many entries there is room for
abbrev pub entry_count : ℕ
entry_count = 32

-- the bytes of the whole list
abbrev pub list_size : ℕ
list_size = head_size + entry_size * entry_count

-- how many entries are in use
abbrev pub used : List ℕ → ℕ
used list = byte_at list 0

-- the entry that is written next
abbrev pub next : List ℕ → ℕ
next list = byte_at list 1

-- where entry k begins
abbrev pub recent_place : ℕ → ℕ
recent_place k = head_size + entry_size * k

-- a list that is not malformed: exactly 196 bytes; used 0 to 32; next 0 to 31, equal to used while used < 32; two zeros;
-- the bytes past the used entries zero. The used entries may hold anything.
unfoldable pub well_formed : List ℕ → Bool
well_formed list =
    eqb (length list) list_size
    && leb (used list) entry_count
    && ltb (next list) entry_count
    && (eqb (used list) entry_count || eqb (next list) (used list))
    && eqb (byte_at list 2) 0
    && eqb (byte_at list 3) 0
    && all_zero (drop (recent_place (used list)) list)
