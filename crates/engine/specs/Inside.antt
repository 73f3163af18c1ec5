-- Inside: what only the contracts of this crate's own functions cite. No entry's promise rests on it, and a reader of the definitions may pass it over.
use Rattle.std.specs.Prelude.{ℕ, ◌+◌, ◌≤◌, ◌<◌, cond, List, ◌≡◌, length}
use Rattle.recent.specs.Inside.{Formed}
use Rattle.sheet.specs.Sheet.{layout_of}
use Rattle.tables.specs.Tables.{interface_of}
use Rattle.response.specs.Inside.{RouteFits}
use Rattle.header.specs.Format.{note_size}
use Rattle.header.specs.Header.{header_of}
use Rattle.message.specs.Blocks.{last_standard}
use Rattle.message.specs.Inside.{blocks_seen}
use Rattle.view.specs.Inside.{RouteThere}
use Rattle.message.specs.Room.{is_full, Full}
use Rattle.drops.specs.Inside.{Verdict, pass_verdict}
use Rattle.view.specs.View.{view_with}
use Rattle.view.specs.Room.{room_with}
use Rattle.sending.specs.Answer.{Sent, goes_home, full_message, longer_answer}
use Rattle.engine.specs.Step.{Outcome, answered_by}
use Rattle.format.specs.declared.Format.{Format}
use Rattle.format.specs.Sizes.{output_size}

-- what an accepted message brings, once the drop table has been tried
pub record Ready (F : Format) (m : List ℕ) (receiving : ℕ) (v : Verdict) (sheet recent : List ℕ) (output note : ℕ) : Type 0 where
  pub verdict : v ≡ pass_verdict F (header_of m) (blocks_seen F m) sheet
  pub low : F.header ≤ length m
  pub high : length m ≤ F.most
  pub receives : receiving < (layout_of F sheet).interfaces
  pub there : RouteThere (layout_of F sheet).interfaces v.chosen
  pub fits : RouteFits v.chosen
  pub formed : Formed recent
  pub last : Full F (room_with F sheet v.chosen receiving) m → last_standard F m + F.block ≤ length m
  pub output_room : output_size ≤ output
  pub note_room : note_size ≤ note

-- the outcome of an accepted message, by the verdict on it
unfoldable pub answered : Format → List ℕ → ℕ → ℕ → Verdict → List ℕ → List ℕ → List ℕ → List ℕ → Outcome
answered F m receiving time v sheet recent output note =
    let full : Sent = goes_home v.header (interface_of F sheet receiving).address (full_message F m) in
    let longer : Sent = longer_answer F m (view_with F sheet v.header v.chosen v.proper receiving time) in
    answered_by (cond (is_full F (room_with F sheet v.chosen receiving) m) full longer) v.header recent output note
