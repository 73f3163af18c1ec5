-- The forwarding code: one list of rows in the order in which codes are noted, of which the first that applies is shown.
use Rattle.std.specs.Prelude.{ℕ, Bool, true, false, not, ◌&&◌, ◌||◌, List, [], ◌∷◌, eqb, Option, Some, None}
use Rattle.rows.specs.Rows.{Row, row, by_first}
use Rattle.address.specs.Addresses.{first_octet}
use Rattle.route_entry.specs.declared.Route.{Route}
use Rattle.interface.specs.Interface.{is_multicast, is_boundary}
use Rattle.route_entry.specs.Route.{is_rp, prune_sent, in_map}
use Rattle.forwarding.specs.declared.View.{View}
use Rattle.forwarding.specs.declared.Code.{Code}
use Rattle.forwarding.specs.declared.Code.TheVariants.{NoError, WrongIf, PruneSent, PruneRcvd, Scoped, NoRoute, WrongLastHop, NotForwarding, ReachedRp, RpfIf, NoMulticast, NoSpace, AdminProhib}
use Rattle.forwarding.specs.View.{boundary_on}

-- the codes, by their names in RFC 8487
abbrev pub code_no_error : ℕ
code_no_error = 0

abbrev pub code_wrong_if : ℕ
code_wrong_if = 1

abbrev pub code_prune_sent : ℕ
code_prune_sent = 2

abbrev pub code_prune_rcvd : ℕ
code_prune_rcvd = 3

abbrev pub code_scoped : ℕ
code_scoped = 4

abbrev pub code_no_route : ℕ
code_no_route = 5

abbrev pub code_wrong_last_hop : ℕ
code_wrong_last_hop = 6

abbrev pub code_not_forwarding : ℕ
code_not_forwarding = 7

abbrev pub code_reached_rp : ℕ
code_reached_rp = 8

abbrev pub code_rpf_if : ℕ
code_rpf_if = 9

abbrev pub code_no_multicast : ℕ
code_no_multicast = 10

abbrev pub code_no_space : ℕ
code_no_space = 129

abbrev pub code_admin_prohib : ℕ
code_admin_prohib = 131

-- the byte of each
abbrev pub byte_of : Code → ℕ
byte_of NoError = code_no_error
byte_of WrongIf = code_wrong_if
byte_of PruneSent = code_prune_sent
byte_of PruneRcvd = code_prune_rcvd
byte_of Scoped = code_scoped
byte_of NoRoute = code_no_route
byte_of WrongLastHop = code_wrong_last_hop
byte_of NotForwarding = code_not_forwarding
byte_of ReachedRp = code_reached_rp
byte_of RpfIf = code_rpf_if
byte_of NoMulticast = code_no_multicast
byte_of NoSpace = code_no_space
byte_of AdminProhib = code_admin_prohib

-- a Query, and this is not the proper last hop
abbrev pub wrong_last_hop : View → Bool
wrong_last_hop v = v.query && not v.proper

-- the first octet of the groups that a boundary keeps in: 239.0.0.0/8
abbrev pub scoped_octet : ℕ
scoped_octet = 239

-- the group is in 239.0.0.0/8, and there is a boundary on the receiving or the incoming interface
abbrev pub scoped : View → Bool
scoped v = eqb (first_octet v.group) scoped_octet && (is_boundary v.here || boundary_on v.incoming)

-- there is no route
abbrev pub missing : Option Route → Bool
missing None = true
missing (Some r) = false

-- there is one, and it passes a test
abbrev pub of_route : Option Route → (Route → Bool) → Bool
of_route None test = false
of_route (Some r) test = test r

-- each code with its test, by the route chosen; all after NO_ROUTE need a route
abbrev pub codes_for : View → Option Route → List Row
codes_for v chosen =
    row code_wrong_last_hop (wrong_last_hop v)
    ∷ row code_reached_rp (of_route chosen is_rp)
    ∷ row code_no_route (missing chosen)
    ∷ row code_admin_prohib (of_route chosen (λ r. v.prohibited))
    ∷ row code_no_multicast (of_route chosen (λ r. not (is_multicast v.here)))
    ∷ row code_rpf_if (of_route chosen (λ r. eqb v.number r.incoming))
    ∷ row code_wrong_if (of_route chosen (λ r. not (in_map r.forward v.number)))
    ∷ row code_scoped (of_route chosen (λ r. scoped v))
    ∷ row code_prune_sent (of_route chosen prune_sent)
    ∷ row code_prune_rcvd (of_route chosen (λ r. in_map r.pruned v.number))
    ∷ row code_not_forwarding (of_route chosen (λ r. in_map r.stopped v.number))
    ∷ []

-- the codes in what a router looks at
unfoldable pub codes : View → List Row
codes v = codes_for v v.chosen

-- each code is noted only if none is noted yet: the first that applies, else NO_ERROR
abbrev pub code_of : View → ℕ
code_of v = by_first (λ code. code) code_no_error (codes v)
