-- The yard and the Query of document 01, "Worked through", in bytes; and links of other MTUs (document 02, M-102).
use Rattle.std.specs.Prelude.{ℕ, zero, suc, ◌+◌, ◌*◌, ◌-◌, List, [], ◌∷◌, ◌++◌, length, set}
use Rattle.wire.specs.Numbers.{bytes16, bytes32, bytes64}
use Rattle.block.specs.Sum.{sum_from}
use Rattle.drops.specs.Arrival.{arrival}
use Rattle.yard.specs.Walk.{Visit, visit, Walk, walk_of}
use Rattle.text.specs.Ascii.{ascii}
use Rattle.wire.specs.Parts.{blank}
use Rattle.format.specs.Sizes.{ipv4, output_size}

-- an address by its four octets
abbrev pub address : ℕ → ℕ → ℕ → ℕ → ℕ
address a b c d = ((a * 256 + b) * 256 + c) * 256 + d

-- a multicast interface of prefix length 24, with its MTU; its counts and its threshold are 0
abbrev pub interface_bytes : ℕ → ℕ → List ℕ
interface_bytes mtu at = bytes32 at ++ (24 ∷ 1 ∷ 0 ∷ 0 ∷ []) ++ blank 16 ++ bytes16 mtu ++ bytes16 0

-- the kind 1 route, 203.0.113.0/24 to 232.1.1.1, incoming 1, forwarding to 0, with an upstream
abbrev pub route_bytes : ℕ → List ℕ
route_bytes upstream =
    (1 ∷ 24 ∷ 0 ∷ 0 ∷ []) ++ bytes32 (address 203 0 113 0) ++ bytes32 (address 232 1 1 1) ++ bytes32 upstream ++ bytes16 1
    ++ blank 14
    ++ bytes64 1
    ++ blank 16

-- a block of a sheet with its check: what is missing from the sum
unfoldable pub sheet_block_bytes : ℕ → ℕ → ℕ → List ℕ → List ℕ
sheet_block_bytes kind inUse number entries =
    let front = (kind ∷ inUse ∷ 0 ∷ number ∷ []) ++ entries ++ blank (506 - length entries) in
    front ++ bytes16 (65535 - sum_from 0 front)

-- a router: two interfaces, each with its MTU, and the route, whose incoming interface is the second
abbrev pub router_sheet : ℕ → ℕ → ℕ → ℕ → ℕ → List ℕ
router_sheet near far first second upstream =
    sheet_block_bytes 1 2 0 (interface_bytes near first ++ interface_bytes far second) ++ sheet_block_bytes 2 1 1 (route_bytes upstream)

-- routers 0 and 1, both with the same two MTUs, the second with an upstream
unfoldable pub linked_routers : ℕ → ℕ → ℕ → List ℕ
linked_routers near far upstream =
    router_sheet near far (address 192 0 2 1) (address 198 51 100 1) (address 198 51 100 2)
    ++ router_sheet near far (address 198 51 100 2) (address 203 0 113 1) upstream

-- the paper's yard: MTU 1500
unfoldable pub two_routers : ℕ → List ℕ
two_routers upstream = linked_routers 1500 1500 upstream

-- router i has time 65536 * i
abbrev pub two_times : List ℕ
two_times = 0 ∷ 65536 ∷ []

-- a Query with so many hops for 232.1.1.1, from a source and for a client with port 40000
unfoldable pub query_for : ℕ → ℕ → ℕ → List ℕ
query_for hops source client =
    (1 ∷ 0 ∷ 20 ∷ hops ∷ []) ++ bytes32 (address 232 1 1 1) ++ bytes32 source ++ bytes32 client ++ bytes16 0 ++ bytes16 40000

-- the Query of the paper: source 203.0.113.9, client 192.0.2.50
abbrev pub paper_query : ℕ → List ℕ
paper_query hops = query_for hops (address 203 0 113 9) (address 192 0 2 50)

-- it is sent to 192.0.2.1 on interface 0 of router 0
abbrev pub start_with : List ℕ → Visit
start_with m = visit 0 (arrival m (address 192 0 2 1) 0 0)

-- a Request of so many blocks that say no more than that they are of type 4, with 255 hops, from a neighbour on interface 0 of router 0
unfoldable pub standards_of : ℕ → List ℕ
standards_of zero = []
standards_of (suc n) = (4 ∷ 0 ∷ 52 ∷ []) ++ blank 49 ++ standards_of n

unfoldable pub request_with : ℕ → Visit
request_with blocks = visit 0 (arrival (set (paper_query 255) 0 2 ++ standards_of blocks) (address 192 0 2 1) 0 255)

-- the Query's walk through a yard, and through the paper's
unfoldable pub traced_in : List ℕ → ℕ → Walk
traced_in yard hops = walk_of ipv4 yard two_times (start_with (paper_query hops)) output_size

unfoldable pub traced : ℕ → ℕ → Walk
traced upstream hops = traced_in (two_routers upstream) hops

-- what the program `walk` reads: router 0, interface 0, 192.0.2.1, TTL 0, seven bytes; the Query with 10 hops; the yard
unfoldable pub paper_input : List ℕ
paper_input = bytes16 0 ++ bytes16 0 ++ bytes32 (address 192 0 2 1) ++ blank 8 ++ paper_query 10 ++ two_routers 0

-- and what it prints
unfoldable pub paper_text : List ℕ
paper_text =
    ascii "reply steps 2 blocks 2\n"
    ++ ascii "1 out 192.0.2.1 in 198.51.100.1 up 198.51.100.2 code 0\n"
    ++ ascii "2 out 198.51.100.2 in 203.0.113.1 up 0.0.0.0 code 0\n"
