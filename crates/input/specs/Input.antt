-- What the program `walk` reads (document 01, "Worked through"): where the Query arrives, the Query, and then the yard.
use Rattle.std.specs.Prelude.{ℕ, zero, suc, ◌+◌, ◌*◌, List, [], ◌∷◌, ◌++◌, take, drop, replicate}
use Rattle.wire.specs.Numbers.{byte_at, be16, be32}
use Rattle.wire.specs.Parts.{splice}
use Rattle.header.specs.Format.{header_size}
use Rattle.drops.specs.Arrival.{arrival}
use Rattle.yard.specs.Yard.{sheet_size, most_routers}
use Rattle.yard.specs.Walk.{Visit, visit, Walk, walk_of}
use Rattle.format.specs.Sizes.{ipv4, output_size}

-- the bytes that say where the Query arrives
abbrev pub start_size : ℕ
start_size = 16

-- the bytes before the yard: those, and the Query, which is a header
abbrev pub head_size : ℕ
head_size = start_size + header_size

-- they are the first of the input; those that are missing are 0
unfoldable pub head_of : List ℕ → List ℕ
head_of input = splice (replicate head_size 0) 0 (take head_size input)

-- router (2), interface (2), destination (4), TTL (1), seven ignored; then the Query
unfoldable pub visit_of : List ℕ → Visit
visit_of head = visit (be16 head 0) (arrival (drop start_size head) (be32 head 4) (be16 head 2) (byte_at head 8))

-- the times of so many routers: router i has 65536 * i
unfoldable pub times_of : ℕ → List ℕ
times_of zero = []
times_of (suc i) = times_of i ++ (65536 * i ∷ [])

-- no more is read: one byte more than the longest yard
abbrev pub input_size : ℕ
input_size = head_size + sheet_size * most_routers + 1

-- the walk through a yard from where the first bytes say, with as many bytes lent as a message may take
unfoldable pub walk_in : List ℕ → List ℕ → Walk
walk_in head yard = walk_of ipv4 yard (times_of most_routers) (visit_of head) output_size

-- the walk that an input asks for: all bytes behind the first 36 are the yard
unfoldable pub walk_for : List ℕ → Walk
walk_for input = walk_in (head_of input) (drop head_size input)
