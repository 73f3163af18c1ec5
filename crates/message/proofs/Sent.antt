-- Laws of an accepted message with a type 4 block appended and a type written: what a router sends. It has one type 4 block
-- more and the same header but for the type; sent on as a Request it is accepted by the next router.
use Prim.Native.Nat.{ℕ, ◌+◌, ◌≤◌, ◌<◌}
use mathlib.Core.Path.{◌≡◌, sym, ap, ◌∙◌}
use mathlib.Core.Bool.{true}
use mathlib.Core.List.{List, [], ◌∷◌, ◌++◌}
use native.Mathlib.Omega.{arith}
use lib.ListN.{length, set, length-append, length-set}
use lib.Seq.{get_or-set_same, get_or-set_other}
use borrow.Author.Tests.{ne_eqb}
use Rattle.wire.specs.Numbers.{byte_at}
use Rattle.header.specs.Format.{query, request}
use Rattle.header.specs.Header.{header_of, retyped}
use Rattle.message.specs.Inside.{StandardBlock}
use Rattle.message.specs.Blocks.{blocks_of, last_or, standards, standard_count, last_standard, right_form}
use Rattle.message.proofs.Append.{append-standards, append-count, right_form_fills, append-right_form, append-header, query_alone, request_formed}
use Rattle.message.proofs.Fields.{same_header}
use Rattle.message.proofs.Standards.{last_low, standards_few}
use Rattle.message.proofs.Write.{same_request_form, typed_blocks, typed_standards, typed_form, typed_header, coded_blocks}
use Rattle.message.proofs.Accept.{Accepted}
use Rattle.format.specs.declared.Format.{Format}
use Rattle.format.specs.Sizes.{Sound, header_fields}

module _ {F : Format} (sound : Sound F) where
  module _ (s : List ℕ) (a : Accepted F s) (block : List ℕ) (b : StandardBlock F block) where
    some : 0 < length (s ++ block)
    some = rw (length-append s block) (omega (arith, b.long))

    module _ (v : ℕ) where
      pub sent-length : length (set (s ++ block) 0 v) ≡ length s + F.block
      sent-length = rw (length-set (s ++ block) 0 v, length-append s block, b.long)

      pub sent-header : header_of (set (s ++ block) 0 v) ≡ retyped v (header_of s)
      sent-header = typed_header sound (s ++ block) v some ∙ ap (retyped v) (append-header sound s block a.low)

      pub sent-standards : standards F (set (s ++ block) 0 v) ≡ standards F s ++ (length s ∷ [])
      sent-standards = typed_standards sound (s ++ block) v ∙ append-standards sound s block a.low (right_form_fills sound s a.form) b

      pub sent-count : standard_count F (set (s ++ block) 0 v) ≡ standard_count F s + 1
      sent-count = rw (typed_standards sound (s ++ block) v) (append-count sound s block a.low (right_form_fills sound s a.form) b)

    -- it has the form of a Request, and of a Reply
    pub sent_form : (v : ℕ) → (v ≡ query → ⊥) → right_form F (set (s ++ block) 0 v) ≡ true
    sent_form v k = typed_form sound (s ++ block) v some k ∙ append-right_form sound s a.form block a.low b

    pub sent_accepted : length s + F.block ≤ F.most → Accepted F (set (s ++ block) 0 request)
    sent_accepted room =
        let fields = sent-header request in
        let long = sent-length request in
        record {
          low = rw long (omega (arith, a.low));
          high = rw long room;
          kind = rw fields;
          header = rw fields a.header;
          hops = rw fields a.hops;
          group = rw fields a.group;
          source = rw fields a.source;
          pair = rw fields a.pair;
          client = rw fields a.client;
          port = rw fields a.port;
          form = sent_form request (λ e. omega arith);
        }

  -- a type written, and a code into the last type 4 block: what a router without room sends
  module _ (s : List ℕ) (a : Accepted F s) (there : 0 < standard_count F s) (v code : ℕ) where
    abbrev typed : List ℕ
    typed = set s 0 v

    abbrev coded : List ℕ
    coded = set typed (last_standard F s + F.code) code

    not_first : (j : ℕ) → j < header_fields → last_standard F s + F.code ≡ j → ⊥
    not_first j h e = omega (arith, last_low sound s there)

    pub coded_length : length coded ≡ length s
    coded_length = length-set typed (last_standard F s + F.code) code ∙ length-set s 0 v

    pub coded_header : header_of coded ≡ retyped v (header_of s)
    coded_header =
        same_header typed coded (λ j h. get_or-set_other typed (last_standard F s + F.code) j code 0 (λ e. not_first j h (sym e)))
        ∙ typed_header sound s v (omega (arith, a.low))

    blocks_same : blocks_of F coded ≡ blocks_of F typed
    blocks_same =
        let same : last_standard F typed ≡ last_standard F s = ap (last_or 0) (typed_standards sound s v) in
        rw same at (coded_blocks sound typed code (rw (typed_standards sound s v) there))

    pub coded_form : (v ≡ query → ⊥) → right_form F coded ≡ true
    unfolding right_form
    coded_form k =
        let first : byte_at coded 0 ≡ v =
        get_or-set_other typed (last_standard F s + F.code) 0 code 0 (λ e. not_first 0 (omega arith) (sym e)) ∙ get_or-set_same s 0 v 0 (omega (arith, a.low)) in
        let query_none : byte_at s 0 ≡ query → ⊥ = λ q. omega (arith, query_alone sound s a.form q, standards_few sound s a.low) in
        rw (first, ne_eqb _ _ k)
        (same_request_form sound typed coded blocks_same (length-set typed (last_standard F s + F.code) code)
        ∙ same_request_form sound s typed (typed_blocks sound s v) (length-set s 0 v)
        ∙ request_formed sound s a.form query_none)
