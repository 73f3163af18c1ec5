-- The numbers of the message format (document 01, "Messages"), each under one name. Sizes are those of a format; here stand their
-- names for IPv4, for what reads IPv4 alone.
use Rattle.std.specs.Prelude.{ℕ}
use Rattle.format.specs.Sizes.{ipv4}

-- bytes of the header
abbrev pub header_size : ℕ
header_size = ipv4.header

-- no message passes this length
abbrev pub most : ℕ
most = ipv4.most

-- type of a Query
abbrev pub query : ℕ
query = 1

-- type of a Request
abbrev pub request : ℕ
request = 2

-- type of a Reply
abbrev pub reply : ℕ
reply = 3

-- type of a Standard Response Block
abbrev pub standard : ℕ
standard = 4

-- type of an Augmented block
abbrev pub augmented : ℕ
augmented = 5

-- bytes of a Standard Response Block
abbrev pub standard_size : ℕ
standard_size = ipv4.block

-- the places of the incoming, the outgoing and the upstream address in it
abbrev pub incoming_offset : ℕ
incoming_offset = 8

abbrev pub outgoing_offset : ℕ
outgoing_offset = 12

abbrev pub upstream_offset : ℕ
upstream_offset = 16

-- the place of the forwarding code in it
abbrev pub code_offset : ℕ
code_offset = ipv4.code

-- the length of an Augmented block is a multiple of so many bytes
abbrev pub augmented_unit : ℕ
augmented_unit = 4

-- bytes of the answer record that goes with a message sent
abbrev pub note_size : ℕ
note_size = 16
