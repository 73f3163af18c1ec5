-- Laws of a call of the engine, by its promise alone: what it answers and sends, and what is read from its record.
use Prim.Native.Nat.{ℕ, ◌+◌, ◌≤◌, ◌<◌}
use mathlib.Core.Bool.{true, not, ◌&&◌}
use mathlib.Core.List.{List}
use mathlib.Core.Logic.{◌⊎◌, inl, inr, ⊎_elim}
use mathlib.Core.Path.{◌≡◌, ap, ◌∙◌}
use native.Mathlib.Omega.{arith}
use borrow.Author.Tests.{leb-true}
use lib.Dec.{leb, eqb}
use lib.ListN.{length, replicate}
use Rattle.wire.specs.Numbers.{be, be16, be32, bytes}
use Rattle.wire.specs.Parts.{splice}
use Rattle.address.specs.Addresses.{first_octet, unicast}
use Rattle.rows.proofs.Laws.{both_of, first_or_none, none_is, first_is}
use Rattle.wire.proofs.Laws.{be_within}
use Rattle.recent.specs.Entries.{empty}
use Rattle.recent.proofs.Laws.{empty-well_formed}
use Rattle.written.specs.declared.Note.{Note}
use Rattle.response.specs.Fill.{all_routers}
use Rattle.written.specs.Bytes.{note_bytes}
use Rattle.written.proofs.Laws.{note_length}
use Rattle.header.specs.Format.{note_size}
use Rattle.header.specs.Header.{header_of}
use Rattle.drops.specs.Arrival.{Arrival}
use Rattle.drops.specs.Drop.{lending_rows}
use Rattle.drops.specs.Inside.{lent_rows}
use Rattle.rows.specs.Rows.{by_first, first_of, NoneApplies, IsFirst}
use Rattle.sending.specs.Answer.{sent_by}
use Rattle.engine.specs.Step.{Outcome, outcome, answered_by, step_of}
use Rattle.drops.proofs.Laws.{taken}
use Rattle.engine.proofs.Laws.{drop_changes_nothing, taken_is_sent}
use Rattle.sending.proofs.Laws.{sent_fits, sent-to, sent_noted}
use Rattle.yard.specs.Walk.{not_sent, rows_for, sent_for}
use Rattle.yard.specs.Inside.{CalledBy}
use Rattle.format.specs.declared.Format.{Format}
use Rattle.format.specs.Sizes.{Sound, output_size}
use Rattle.written.specs.Inside.{Writes}

-- the walk lends what is right: room enough, and an empty recent list
pub lent_right : (o n : List ℕ) → length o ≡ output_size → length n ≡ note_size → first_of (lent_rows (length o) (length n) empty) ≡ 0
unfolding lending_rows by_first
lent_right o n e f = rw (e, f, empty-well_formed)

-- the record's length and destination are read back
module _ (n : Note) where
  length-read : n.length < 65536 → be16 (note_bytes n) 0 ≡ n.length
  unfolding note_bytes be bytes
  length-read h = omega arith

  destination_read : n.destination < 4294967296 → be32 (note_bytes n) 2 ≡ n.destination
  unfolding note_bytes be bytes
  destination_read h = omega arith

-- a destination fits 32 bits
to_fits : (a : ℕ) → (unicast a ≡ true) ⊎ (a ≡ all_routers) → a < 4294967296
to_fits a (inl e) =
    let p = both_of (leb 1 (first_octet a) && leb (first_octet a) 223) (not (eqb (first_octet a) 127)) e in
    omega (arith, leb-true (first_octet a) 223 (both_of (leb 1 (first_octet a)) (leb (first_octet a) 223) p.0).1)
to_fits a (inr e) = omega arith

-- an empty list and an empty record, as they are lent
abbrev blank : List ℕ
blank = replicate note_size 0

module _ {F : Format} (sound : Sound F) (writes : Writes F) where
  -- what is sent for what arrives: a drop's number, or the answer
  module _ (sheet : List ℕ) (time : ℕ) (a : Arrival) where
    pub sent-dropped : (n : ℕ) → IsFirst (rows_for F sheet a) n → sent_for F sheet time a ≡ not_sent n
    unfolding sent_for
    sent-dropped n f = first_is not_sent (sent_by F a time sheet) (rows_for F sheet a) n f

    pub sent_taken : NoneApplies (rows_for F sheet a) → sent_for F sheet time a ≡ sent_by F a time sheet
    unfolding sent_for
    sent_taken none = none_is not_sent (sent_by F a time sheet) (rows_for F sheet a) none

  module _ (sheet : List ℕ) (time : ℕ) (a : Arrival) (sent recent s1 n1 : List ℕ) (answer : ℕ) (long : length sent ≡ output_size)
      (meets : outcome answer recent s1 n1 ≡ step_of F a time sheet empty sent blank) where
    called_dropped : (n : ℕ) → IsFirst (rows_for F sheet a) n → (x y : ℕ) → x ≡ be16 n1 0 → y ≡ be32 n1 2
        → CalledBy (sent_for F sheet time a) sent answer x y s1
    unfolding be splice
    called_dropped n first x y e f =
        let is : outcome answer recent s1 n1 ≡ outcome n empty sent blank = meets ∙ drop_changes_nothing F a time sheet empty sent blank n (rw long first) in
        let note : n1 ≡ blank = ap (λ (o : Outcome). o.note) is in
        rw (sent-dropped sheet time a n first)
        (record {
          answer = ap (λ (o : Outcome). o.answer) is;
          long = e ∙ rw note;
          to = f ∙ rw note;
          sends = ap (λ (o : Outcome). o.output) is;
        })

    called_answered : NoneApplies (rows_for F sheet a) → (x y : ℕ) → x ≡ be16 n1 0 → y ≡ be32 n1 2
        → CalledBy (sent_for F sheet time a) sent answer x y s1
    called_answered none x y e f =
        let k = sent_by F a time sheet in
        let t = taken sound a sheet empty output_size note_size none in
        let is : outcome answer recent s1 n1 ≡ answered_by k (header_of a.message) empty sent blank =
        meets ∙ taken_is_sent F a time sheet empty sent blank (rw long none) in
        let note : n1 ≡ splice blank 0 (note_bytes k.note) = ap (λ (o : Outcome). o.note) is in
        let fits : 0 + length (note_bytes k.note) ≤ length blank = omega (arith, note_length k.note) in
        let room : k.note.length < 65536 = omega (arith, sent_noted F a time sheet, sent_fits writes a time sheet t.message) in
        rw (sent_taken sheet time a none)
        (record {
          answer = ap (λ (o : Outcome). o.answer) is;
          long =
              e
              ∙ rw note (be_within blank 0 (note_bytes k.note) fits 1 0 (omega (arith, note_length k.note)))
              ∙ length-read k.note room
              ∙ sent_noted F a time sheet;
          to =
              f
              ∙ rw note (be_within blank 0 (note_bytes k.note) fits 2 2 (omega (arith, note_length k.note)))
              ∙ destination_read k.note (to_fits k.note.destination (sent-to sound writes a time sheet empty output_size note_size t));
          sends = ap (λ (o : Outcome). o.output) is;
        })

    -- the call of the engine
    pub called : (x y : ℕ) → x ≡ be16 n1 0 → y ≡ be32 n1 2 → CalledBy (sent_for F sheet time a) sent answer x y s1
    called x y e f =
        ⊎_elim (λ first. called_dropped (first_of (rows_for F sheet a)) first x y e f) (λ none. called_answered none x y e f)
        (first_or_none (rows_for F sheet a))
