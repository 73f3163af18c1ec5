-- What the program `walk` prints (document 01, "Worked through"): `reply` or the end's number, steps and blocks; then a line for each
-- type 4 block of the last message sent.
use Rattle.std.specs.Prelude.{ℕ, zero, suc, ◌+◌, ◌*◌, ◌-◌, ◌/◌, ◌%◌, cond, List, [], ◌∷◌, ◌++◌, ltb, eqb}
use Rattle.wire.specs.Numbers.{byte_at}
use Rattle.header.specs.Format.{header_size, most, standard_size, incoming_offset, outgoing_offset, upstream_offset, code_offset}
use Rattle.message.specs.Blocks.{standard_blocks}
use Rattle.sending.specs.Answer.{sent_home}
use Rattle.yard.specs.Walk.{Walked, Walk, walked_of}
use Rattle.text.specs.Ascii.{ascii}
use Rattle.input.specs.Input.{walk_for}
use Rattle.format.specs.Sizes.{ipv4}

-- the character 0
abbrev pub zero_digit : ℕ
zero_digit = 48

-- a number below 10 ^ digits in decimal, without zeros in front
unfoldable pub decimal : ℕ → ℕ → List ℕ
decimal zero n = []
decimal (suc digits) n = cond (ltb n 10) ((zero_digit + n) ∷ []) (decimal digits (n / 10) ++ ((zero_digit + n % 10) ∷ []))

-- a number of 32 bits has at most ten digits, a byte three
abbrev pub number : ℕ → List ℕ
number n = decimal 10 n

abbrev pub octet : ℕ → List ℕ
octet n = decimal 3 n

-- the address whose four bytes begin at a place
unfoldable pub dotted : List ℕ → ℕ → List ℕ
dotted s at =
    (octet (byte_at s at) ++ ascii ".")
    ++ (octet (byte_at s (at + 1)) ++ ascii ".")
    ++ (octet (byte_at s (at + 2)) ++ ascii ".")
    ++ octet (byte_at s (at + 3))

-- where a block's message came in, where the source is, and who is next
unfoldable pub addresses : List ℕ → List ℕ
addresses block =
    (ascii " out " ++ dotted block outgoing_offset)
    ++ (ascii " in " ++ dotted block incoming_offset)
    ++ (ascii " up " ++ dotted block upstream_offset)

-- a block's code, and the end of its line
unfoldable pub code_text : List ℕ → List ℕ
code_text block = octet (byte_at block code_offset) ++ ascii "\n"

-- a block's line: its place, its addresses, its code
unfoldable pub line_of : ℕ → List ℕ → List ℕ
line_of place block = number place ++ addresses block ++ (ascii " code " ++ code_text block)

-- the lines of some blocks, the first of which has this place
unfoldable pub lines_of : ℕ → List (List ℕ) → List ℕ
lines_of place [] = []
lines_of place (block ∷ others) = line_of place block ++ lines_of (suc place) others

-- how a walk ended
unfoldable pub end_text : ℕ → List ℕ
end_text end = cond (eqb end sent_home) (ascii "reply") (number end)

-- the first line
unfoldable pub first_line : Walked → List ℕ
first_line w =
    end_text w.end ++ (ascii " steps " ++ number w.steps) ++ (ascii " blocks " ++ number w.blocks) ++ ascii "\n"

-- the text of a walk
unfoldable pub walk_text : Walk → List ℕ
walk_text w = first_line (walked_of ipv4 w) ++ lines_of 1 (standard_blocks ipv4 w.last)

-- what is printed for an input
unfoldable pub text_of : List ℕ → List ℕ
text_of input = walk_text (walk_for input)

-- the longest first line; the longest line of a block; the lines of as many blocks as a message has room for
abbrev pub most_first : ℕ
most_first = 46

abbrev pub most_line : ℕ
most_line = 78

abbrev pub most_lines : ℕ
most_lines = most_line * ((most - header_size) / standard_size)

-- no text is longer
abbrev pub text_size : ℕ
text_size = most_first + most_lines
