-- One router's step as a whole: the answer, and every lent byte as it is left.
use Rattle.std.specs.Prelude.{ℕ, cond, List, ◌≡◌, length, Result, Ok, Err}
use Rattle.rows.specs.Rows.{by_first}
use Rattle.wire.specs.Parts.{splice}
use Rattle.recent.specs.Entries.{entered_in}
use Rattle.written.specs.Bytes.{note_bytes}
use Rattle.header.specs.declared.Header.{Header}
use Rattle.header.specs.Header.{header_of}
use Rattle.drops.specs.Arrival.{Arrival, is_query}
use Rattle.drops.specs.Drop.{table}
use Rattle.sending.specs.Answer.{Sent, sent_by, number_of}
use Rattle.format.specs.declared.Format.{Format}
use Rattle.refusal.specs.declared.Refusal.{Refusal}
use Rattle.refusal.specs.Refusal.{number}
use Rattle.sending.specs.declared.Answer.{Answer}

-- the answer, and the recent list, the output and the answer record as they are left
pub record Outcome : Type 0 where
  pub answer : ℕ
  pub recent : List ℕ
  pub output : List ℕ
  pub note : List ℕ

abbrev pub outcome : ℕ → List ℕ → List ℕ → List ℕ → Outcome
outcome answer recent output note = record { answer = answer; recent = recent; output = output; note = note }

-- the answer of what code makes of a message: what it sends, or the number that drops it
abbrev pub answer_of : Result Answer Refusal → ℕ
answer_of (Ok answer) = number_of answer
answer_of (Err refusal) = number refusal

-- an accepted Query is written into the recent list; nothing else changes it
unfoldable pub recent_after : Header → List ℕ → List ℕ
recent_after h recent = let entered = entered_in recent h.client h.id in cond (is_query h) entered recent

-- an accepted message is answered by what is sent and its record, over the first bytes of output and record: those past them
-- stay. A Query is entered
abbrev pub answered_by : Sent → Header → List ℕ → List ℕ → List ℕ → Outcome
answered_by sent h recent output note =
    outcome sent.answer (recent_after h recent) (splice output 0 sent.message) (splice note 0 (note_bytes sent.note))

-- where a row of the drop table applies, the first one's number, and nothing lent is changed; else the answer
unfoldable pub step_of : Format → Arrival → ℕ → List ℕ → List ℕ → List ℕ → List ℕ → Outcome
step_of F a time sheet recent output note =
    by_first (λ number. outcome number recent output note)
    (answered_by (sent_by F a time sheet) (header_of a.message) recent output note)
    (table F a sheet recent (length output) (length note))

-- what the step promises: its outcome is that one
abbrev pub StepMeets : Format → Arrival → ℕ → List ℕ → List ℕ → List ℕ → List ℕ → Outcome → Type 0
StepMeets F a time sheet recent output note o = o ≡ step_of F a time sheet recent output note
