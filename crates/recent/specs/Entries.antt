-- What is in the recent list: which Queries it holds, and how one more is written (document 01, below the drop table).
use Rattle.std.specs.Prelude.{ℕ, zero, suc, ◌+◌, ◌%◌, min, Bool, false, ◌&&◌, ◌||◌, List, [], ◌∷◌, ◌++◌, eqb, replicate}
use Rattle.wire.specs.Numbers.{be16, be32, bytes16, bytes32}
use Rattle.wire.specs.Parts.{splice}
use Rattle.recent.specs.Layout.{client_size, entry_count, list_size, used, next, recent_place}

-- a Query that was accepted, by the client's address and the query id
pub record Entry : Type 0 where
  pub client : ℕ
  pub id : ℕ

-- entry k of a list
abbrev pub recent_entry : List ℕ → ℕ → Entry
recent_entry list k =
    record { client = be32 list (recent_place k); id = be16 list (recent_place k + client_size) }

-- the first n entries of a list, the last of them in front
unfoldable pub first_entries : List ℕ → ℕ → List Entry
first_entries list zero = []
first_entries list (suc k) = recent_entry list k ∷ first_entries list k

-- the entries in use
abbrev pub entries : List ℕ → List Entry
entries list = first_entries list (used list)

-- an entry is of this client and this id
abbrev pub is_of : Entry → ℕ → ℕ → Bool
is_of entry client id = eqb entry.client client && eqb entry.id id

-- some entry is
unfoldable pub some_is_of : List Entry → ℕ → ℕ → Bool
some_is_of [] client id = false
some_is_of (entry ∷ rest) client id = is_of entry client id || some_is_of rest client id

-- client and id are in the recent list
unfoldable pub seen_in : List ℕ → ℕ → ℕ → Bool
seen_in list client id = some_is_of (entries list) client id

-- used grows by one, to 32 at most
abbrev pub grown : ℕ → ℕ
grown n = min (n + 1) entry_count

-- next moves on by one, and wraps at 32
abbrev pub moved_on : ℕ → ℕ
moved_on k = (k + 1) % entry_count

-- the list after a Query is accepted: its client and id are written at next, which moves on, and used grows
unfoldable pub entered_in : List ℕ → ℕ → ℕ → List ℕ
entered_in list client id =
    splice (splice list (recent_place (next list)) (bytes32 client ++ bytes16 id)) 0
    (grown (used list) ∷ moved_on (next list) ∷ [])

-- a list with no entry
unfoldable pub empty : List ℕ
empty = replicate list_size 0
