-- Which messages the reader refuses (document 02, M-100): the rows of the drop table that a Reply can meet, and one of the reader's own.
use Rattle.std.specs.Prelude.{ℕ, Bool, not, List, [], ◌∷◌, eqb, length}
use Rattle.rows.specs.Rows.{Row, row, NoneApplies}
use Rattle.header.specs.declared.Header.{Header}
use Rattle.header.specs.Format.{reply}
use Rattle.header.specs.Header.{header_of, right_length}
use Rattle.message.specs.Blocks.{right_form}
use Rattle.message.specs.Check.{drop_size, drop_blocks, wrong_size}
use Rattle.header.specs.Rows.{drop_header}
use Rattle.format.specs.Sizes.{ipv4}

-- 41: not a Reply
abbrev pub not_reply : ℕ
not_reply = 41

-- of type 3
abbrev pub is_reply : Header → Bool
is_reply h = eqb h.kind reply

-- the rows, in their order: 5, 41, 7, 13. Nothing else of the header is looked at
unfoldable pub reply_rows : List ℕ → List Row
reply_rows s =
    row drop_size (wrong_size ipv4 (length s))
    ∷ row not_reply (not (is_reply (header_of s)))
    ∷ row drop_header (not (right_length ipv4 (header_of s)))
    ∷ row drop_blocks (not (right_form ipv4 s))
    ∷ []

-- a Reply that can be read
abbrev pub Readable : List ℕ → Type 0
Readable s = NoneApplies (reply_rows s)
