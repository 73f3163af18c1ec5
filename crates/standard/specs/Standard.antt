-- A Standard Response Block as it is handed out (document 01, "Messages"): its fields by their names, beside its 52 bytes as they came.
use Rattle.std.specs.Prelude.{ℕ, ◌%◌, List, leb, replicate}
use Rattle.wire.specs.Numbers.{byte_at, be16, be32, be64}
use Rattle.wire.specs.Parts.{part}
use Rattle.header.specs.Format.{standard_size, incoming_offset, outgoing_offset, upstream_offset, code_offset}
use Rattle.standard.specs.declared.Standard.{Standard}

-- the places of the counts in it
abbrev pub input_offset : ℕ
input_offset = 20

abbrev pub output_offset : ℕ
output_offset = 28

-- the place of S and the mask in it, and the value of S, which stands before the 7 bits of the mask
abbrev pub mask_offset : ℕ
mask_offset = 50

abbrev pub s_bit : ℕ
s_bit = 128

-- Query Arrival Time; incoming, outgoing and upstream address; input, output and total count; routing and multicast routing protocol;
-- forwarding TTL; S and mask; forwarding code
unfoldable pub standard_of : List ℕ → Standard
standard_of bytes =
    record {
      bytes = bytes;
      time = be32 bytes 4;
      incoming = be32 bytes incoming_offset;
      outgoing = be32 bytes outgoing_offset;
      upstream = be32 bytes upstream_offset;
      input = be64 bytes input_offset;
      output = be64 bytes output_offset;
      total = be64 bytes 36;
      routing = be16 bytes 44;
      multicast = be16 bytes 46;
      ttl = byte_at bytes 48;
      s = leb s_bit (byte_at bytes mask_offset);
      mask = byte_at bytes mask_offset % s_bit;
      code = byte_at bytes code_offset;
    }

-- the one at a place of a message
abbrev pub standard_in : List ℕ → ℕ → Standard
standard_in s at = standard_of (part at standard_size s)

-- one of zeros
abbrev pub no_standard : Standard
no_standard = standard_of (replicate standard_size 0)
