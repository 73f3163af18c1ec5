-- What a route that keeps its rules says of its fields, for the layers above.
use Prim.Native.Nat.{ℕ, ◌≤◌, ◌<◌}
use mathlib.Core.Bool.{true, not, ◌&&◌, ◌||◌}
use mathlib.Core.Logic.{◌⊎◌, inl, inr, ⊎_elim}
use mathlib.Core.Path.{◌≡◌}
use lib.Dec.{ltb, eqb}
use borrow.Author.Tests.{leb-true, ltb-true, eqb-true, eqb-false, not-true}
use Rattle.address.specs.Addresses.{unicast, multicast, all_ones}
use Rattle.rows.proofs.Laws.{both_of, one_of, parts}
use Rattle.route_entry.specs.declared.Route.{Route}
use Rattle.prefix.specs.Prefix.{address_bits}
use Rattle.route_entry.specs.Route.{source_and_group, group_only, source_only, unknown}
use Rattle.route_rules.specs.Rules.{group_ok, incoming_ok, upstream_ok, route_ok}

-- a route among so many interfaces
pub record RouteKept (interfaces : ℕ) (r : Route) : Type 0 where
  pub kind : (source_and_group ≤ r.kind) × (r.kind ≤ source_only)
  pub short : r.length ≤ address_bits
  pub whole : r.kind ≡ group_only → r.length ≡ 0
  pub group : (r.kind ≡ source_only) ⊎ (multicast r.group ≡ true)
  pub incoming : (r.incoming < interfaces) ⊎ (r.incoming ≡ unknown)
  pub upstream : (r.upstream ≡ 0) ⊎ ((r.incoming ≡ unknown → ⊥) × ((unicast r.upstream ≡ true) ⊎ (all_ones r.upstream ≡ true)))

pub route_kept : (interfaces : ℕ) (r : Route) → route_ok interfaces r ≡ true → RouteKept interfaces r
unfolding route_ok
route_kept interfaces r e =
    let group : group_ok r.kind r.group ≡ true = search parts depth 16 in
    let incoming : incoming_ok interfaces r.incoming ≡ true = search parts depth 16 in
    let upstream : upstream_ok r.incoming r.upstream ≡ true = search parts depth 16 in
    record {
      kind = (leb-true source_and_group r.kind (search parts depth 16), leb-true r.kind source_only (search parts depth 16));
      short = leb-true r.length address_bits (search parts depth 16);
      whole =
          λ k.
          ⊎_elim (λ h. eqb-true r.length 0 h) (λ h. absurd (eqb-false r.kind group_only (not-true (eqb r.kind group_only) h) k))
          (one_of (eqb r.length 0) (not (eqb r.kind group_only)) (search parts depth 16));
      group =
          ⊎_elim (λ h. inl (eqb-true _ _ (both_of (eqb r.kind source_only) _ h).0)) (λ h. inr (both_of (not (eqb r.kind source_only)) _ h).1)
          (one_of (eqb r.kind source_only && eqb r.group 0) _ group);
      incoming = ⊎_elim (λ h. inl (ltb-true _ _ h)) (λ h. inr (eqb-true _ _ h)) (one_of (ltb r.incoming interfaces) _ incoming);
      upstream =
          ⊎_elim (λ h. inl (eqb-true r.upstream 0 h))
          (λ h.
          let p = both_of (not (eqb r.incoming unknown)) (unicast r.upstream || all_ones r.upstream) h in
          inr (λ k. eqb-false r.incoming unknown (not-true (eqb r.incoming unknown) p.0) k, one_of (unicast r.upstream) (all_ones r.upstream) p.1))
          (one_of (eqb r.upstream 0) _ upstream);
    }
