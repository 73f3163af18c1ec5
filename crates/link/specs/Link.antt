-- The loss of one link (document 02, M-100). Link k lies between block k and block k + 1, which is nearer to the source.
use Rattle.std.specs.Prelude.{ℕ, ◌-◌, Bool, cond, ◌||◌, List, [], ◌∷◌, ◌++◌, ltb, eqb, replicate}
use Rattle.rows.specs.Rows.{Row, row, by_first}
use Rattle.wire.specs.Numbers.{bytes64}
use Rattle.standard.specs.declared.Standard.{Standard}
use Rattle.link.specs.declared.Count.{Count}
use Rattle.link.specs.declared.Tally.{Tally}
use Rattle.link.specs.declared.Link.{Link}
use Rattle.link.specs.declared.Link.TheVariants.{Counted, NotCounted, Fallen, Surplus}

-- by one Reply: what was sent into it is the output count of block k + 1, what came out of it the input count of block k
abbrev pub count_of : Standard → Standard → Count
count_of near far = record { sent = far.output; received = near.input }

-- all ones in a count: not counted
abbrev pub all_ones : ℕ → Bool
all_ones n = eqb n 18446744073709551615

module _ (first second : Count) where
  -- the rise of a count from the first Reply to the second
  abbrev pub sent_of : ℕ
  sent_of = second.sent - first.sent

  abbrev pub received_of : ℕ
  received_of = second.received - first.received

  -- any of the four counts is all ones
  abbrev pub not_counted : Bool
  not_counted = all_ones first.sent || all_ones first.received || all_ones second.sent || all_ones second.received

  -- either count is lower in the second Reply
  abbrev pub fallen : Bool
  fallen = ltb second.sent first.sent || ltb second.received first.received

  -- more was received than sent
  abbrev pub surplus : Bool
  surplus = ltb sent_of received_of

-- the names, by their numbers
abbrev pub name_not_counted : ℕ
name_not_counted = 1

abbrev pub name_fallen : ℕ
name_fallen = 2

abbrev pub name_surplus : ℕ
name_surplus = 3

-- a link by its name
abbrev pub named : ℕ → Link
named name = cond (eqb name name_not_counted) NotCounted (cond (eqb name name_fallen) Fallen Surplus)

-- one that is counted: sent, received, and lost of sent
abbrev pub counted : ℕ → ℕ → Link
counted sent received = Counted (record { sent = sent; received = received; lost = sent - received })

module _ (first second : Count) where
  -- the names are tried in this order, each on all counts
  unfoldable pub names : List Row
  names =
      row name_not_counted (not_counted first second)
      ∷ row name_fallen (fallen first second)
      ∷ row name_surplus (surplus first second)
      ∷ []

  -- the first that applies; where none does the link is counted
  unfoldable pub link_of : Link
  link_of = by_first named (counted (sent_of first second) (received_of first second)) names

-- its number and its values; those of a link that is not counted are 0
abbrev pub no_tally : Tally
no_tally = record { sent = 0; received = 0; lost = 0 }

abbrev pub verdict_of : Link → ℕ
verdict_of (Counted t) = 0
verdict_of NotCounted = name_not_counted
verdict_of Fallen = name_fallen
verdict_of Surplus = name_surplus

abbrev pub tally_of : Link → Tally
tally_of (Counted t) = t
tally_of NotCounted = no_tally
tally_of Fallen = no_tally
tally_of Surplus = no_tally

-- verdict (1 byte), zeros (7), sent, received and lost (8 each)
unfoldable pub link_bytes : Link → List ℕ
link_bytes l =
    (verdict_of l ∷ replicate 7 0) ++ bytes64 (tally_of l).sent ++ bytes64 (tally_of l).received ++ bytes64 (tally_of l).lost
