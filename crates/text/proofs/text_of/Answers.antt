-- `text_of`: the first line, and the lines of the last message sent.
use mathlib.Core.Path.{◌≡◌}
use Rattle.text.proofs.Told.{last_count, text_told}
use Rattle.text.specs.Text.{text_of}
use Rattle.text.proofs.text_of.Goals as goal

pub slice_bounds-lines-end : goal.slice_bounds-lines-end
slice_bounds-lines-end c = last_count _ _ _ _ _ c.summary_of-w.ensures c.walk.ensures.told

-- what is written is the text
written : (c : goal.After-len) → c.lines.new.out.items ≡ text_of c.args.input.now
written c =
    text_told _ _ _ _ _ _ _ _ c.summary_of-w.ensures c.walk.ensures.told c.new-out.ensures c.first_line.ensures.text c.lines.ensures

pub returns-clause-value : goal.returns-clause-value
returns-clause-value c = rw (← written c) (c.len.ensures.value, c.len.ensures.fits)

pub returns-clause-text_after : goal.returns-clause-text_after
returns-clause-text_after c = rw (← written c, ← c.as_slice.ensures.value) c.copy_to.ensures
