-- What a walk sends home can be read, and what is read of it is the truth.
use Prim.Native.Nat.{ℕ, suc, ◌+◌, ◌%◌, ◌^◌, ◌≤◌, ◌<◌}
use mathlib.Core.Bool.{true, cond}
use mathlib.Core.List.{List, [], ◌∷◌}
use mathlib.Core.Logic.{⊎_elim}
use mathlib.Core.Path.{◌≡◌, refl, sym, ap, ◌∙◌}
use native.Mathlib.Omega.{arith}
use borrow.Author.Tests.{leb-true, leb-false, eqb-true, eqb-false}
use denote.Ref.{Bor}
use lib.Dec.{leb, eqb}
use lib.ListN.{length, get_or, take, length-map}
use lib.Seq.{take_all}
use Rattle.rows.specs.Rows.{NoneApplies}
use Rattle.rows.proofs.Laws.{decided, none_is}
use Rattle.wire.specs.Numbers.{be, bytes}
use Rattle.wire.proofs.Laws.{be-bytes}
use Rattle.recent.specs.Entries.{empty}
use Rattle.written.specs.declared.Block.{Block}
use Rattle.forwarding.specs.Code.{code_no_space}
use Rattle.response.specs.Fill.{block_of}
use Rattle.written.specs.Bytes.{block_bytes}
use Rattle.header.specs.Format.{most, reply, standard_size, note_size}
use Rattle.header.specs.Header.{header_of, retyped}
use Rattle.message.specs.Blocks.{standard_blocks, right_form}
use Rattle.message.specs.Room.{Full, HasRoom}
use Rattle.message.proofs.Laws.{Accepted, no_room_has_standard, sent-length, sent-header, sent_form, coded_length, coded_header, coded_form}
use Rattle.drops.specs.Arrival.{Arrival}
use Rattle.drops.proofs.Laws.{taken}
use Rattle.sending.specs.Answer.{Sent, sent_home, full_message, longer_message, sent_by}
use Rattle.engine.specs.Step.{step_of}
use Rattle.sending.proofs.Laws.{sent_cases, longer_as, room_most}
use Rattle.engine.proofs.Laws.{taken_room}
use Rattle.standard.specs.declared.Standard.{Standard}
use Rattle.reply.specs.Reader.{Handed}
use Rattle.reply.specs.declared.Reader.{Reader}
use Rattle.reply.specs.Check.{Readable}
use Rattle.standard.specs.Standard.{s_bit, standard_of, no_standard}
use Rattle.reply.specs.Reader.{standards_in, blocks_in, Opens, Calls, blocks_out}
use Rattle.reply.proofs.Laws.{Known, known_readable, readable_blocks, reads_all}
use Rattle.yard.specs.Walk.{Visit, not_sent, rows_for, sent_for, sent_at, walk_rows}
use Rattle.yard.specs.Yard.{sheet_at}
use Rattle.demands.specs.Engine.{Call, view, rows}
use Rattle.demands.specs.Walk.{call_at, sent, did, Run, stays, group, nobody, goes, nth, last_received, last_room, Truth}
use Rattle.demands.specs.Read.{ReadTruth, BlockFits, Says}
use Rattle.demands.proofs.EngineMet.{product_block}
use Rattle.demands.proofs.WalkMet.{blank-length, mapped_at, as_sent, walk_meets}
use Rattle.format.specs.Sizes.{ipv4, ipv4_sound, least_room, output_size}
use Rattle.written.proofs.Laws.{ipv4_writes}
use Rattle.view.specs.Room.{room_for}

-- a Reply by an accepted message's header
reply_known : (m s : List ℕ) → Accepted ipv4 m → header_of s ≡ retyped reply (header_of m) → length m ≤ length s → length s ≤ most → right_form ipv4 s ≡ true → Known s
reply_known m s a h low high form = record { low = omega (arith, a.low); high = high; kind = rw h; header = rw h a.header; form = form }

-- what is sent home for an accepted message can be read
module _ (a : Arrival) (time : ℕ) (sheet : List ℕ) (accepts : Accepted ipv4 a.message) (link : least_room ipv4 ≤ room_for ipv4 a sheet) where
  abbrev m : List ℕ
  m = a.message

  abbrev room : ℕ
  room = room_for ipv4 a sheet

  full_readable : Full ipv4 room m → Readable (full_message ipv4 m)
  full_readable h =
      let some = no_room_has_standard ipv4_sound m accepts room link h in
      let long = coded_length ipv4_sound m accepts some reply code_no_space in
      known_readable (full_message ipv4 m)
      (reply_known m (full_message ipv4 m) accepts (coded_header ipv4_sound m accepts some reply code_no_space) (omega (arith, long)) (omega (arith, long, accepts.high))
      (coded_form ipv4_sound m accepts some reply code_no_space (λ e. omega arith)))

  longer_readable : (b : Block) → HasRoom ipv4 room m → Readable (longer_message reply m b)
  longer_readable b fits =
      let same = longer_as reply m b (omega (arith, accepts.low)) in
      let s = ipv4_writes.standard b in
      let long = sent-length ipv4_sound m accepts (block_bytes b) s reply in
      rw same
      (known_readable _
      (reply_known m _ accepts (sent-header ipv4_sound m accepts (block_bytes b) s reply) (omega (arith, long)) (omega (arith, long, room_most ipv4 a sheet))
      (sent_form ipv4_sound m accepts (block_bytes b) s reply (λ e. omega arith))))

  pub home_readable : (sent_by ipv4 a time sheet).answer ≡ sent_home → Readable (sent_by ipv4 a time sheet).message
  home_readable =
      sent_cases ipv4 a time sheet (λ (s : Sent). s.answer ≡ sent_home → Readable s.message) (λ h _. full_readable h) (λ fits e _. longer_readable _ fits)
      (λ room e o. absurd (omega arith))

-- so does a walk's last message, where it is a Reply: no router on its way drops what it receives
module _ (yard times : List ℕ) where
  abbrev NoneDrops : Visit → List Visit → Type 0
  NoneDrops w vs = (k : ℕ) → k < length vs → NoneApplies (rows (call_at yard times (get_or vs k w)))

  stays_readable : (v : Visit) → NoneApplies (rows (call_at yard times v)) → (did (step_of ipv4) yard times v).answer ≡ sent_home → Readable (sent (did (step_of ipv4) yard times v))
  unfolding sent_for
  stays_readable v none home =
      let sheet = sheet_at yard v.router in
      let time : ℕ = get_or times v.router 0 in
      let accepts : NoneApplies (rows_for ipv4 sheet v.arrival) = rw (blank-length output_size, blank-length note_size) at none in
      let is : sent_at ipv4 yard times v ≡ sent_by ipv4 v.arrival time sheet = none_is not_sent (sent_by ipv4 v.arrival time sheet) (rows_for ipv4 sheet v.arrival) accepts in
      let s = as_sent yard times v in
      let t = taken ipv4_sound v.arrival sheet empty output_size note_size accepts in
      rw (s.sends, is)
      (home_readable v.arrival time sheet t.message (taken_room ipv4_sound v.arrival sheet empty output_size note_size t)
      (ap (λ (x : Sent). x.answer) (sym is) ∙ sym s.answer ∙ home))

  run_readable : {v : Visit} {vs : List Visit} {end : ℕ} {last : List ℕ} (w : Visit) → Run (step_of ipv4) yard times v vs end last → NoneDrops w vs → end ≡ sent_home
      → Readable last
  run_readable w (stays {v = v} off) none home = stays_readable v (none 0 (omega arith)) home
  run_readable w (group on g) none home = absurd (omega arith)
  run_readable w (nobody on s h) none home = absurd (omega arith)
  run_readable w (goes router interface on s h later) none home = run_readable w later (λ k l. none (suc k) (omega arith)) home

-- what is read of a walk's Reply is the truth
module _ (yard times : List ℕ) (v : Visit) (visits : List Visit) (end : ℕ) (last : List ℕ) (t : Truth yard times v visits end last) where
  long : length (standards_in last) ≡ length (standard_blocks ipv4 last)
  unfolding standards_in
  long = length-map (standard_blocks ipv4 last) standard_of

  at : (k : ℕ) → k < length (standards_in last) → get_or (standards_in last) k no_standard ≡ standard_of (get_or (standard_blocks ipv4 last) k [])
  unfolding standards_in
  at k h = mapped_at standard_of (standard_blocks ipv4 last) k [] no_standard (rw long at h)

  truth_read : ReadTruth yard times v visits end last (standards_in last)
  truth_read =
      record {
        count = λ room. long ∙ t.count room;
        count_full = λ full. ap suc long ∙ t.count_full full;
        block = λ k b is room h. at k h ∙ ap standard_of (t.block k b is room (rw long at h));
        block_kept = λ k b is full h. at k (omega arith) ∙ ap standard_of (t.block_kept k b is full (rw long at h));
        block_marked = λ k b is full h. at k (omega arith) ∙ ap standard_of (t.block_marked k b is full (rw long at h));
      }

-- of the product's walk, and of a reader of its Reply that is called often enough
module _ (yard times : List ℕ) (v : Visit) (output : List ℕ) (visits : List Visit) (last : List ℕ) (none : NoneApplies (walk_rows ipv4 yard times v (length output)))
    (accepts : NoneApplies (rows (call_at yard times v))) (r : Run (step_of ipv4) yard times v visits sent_home last) where
  truth : Truth yard times v visits sent_home last
  truth = (walk_meets yard times v output).tells_truth visits sent_home last none accepts r

  pub walk_readable : Readable last
  walk_readable = run_readable yard times v r truth.none_drops refl

  -- there are no more blocks than visits
  few : length (standards_in last) ≤ length visits
  few =
      let m = last_received yard times v visits sent_home last in
      let t = truth_read yard times v visits sent_home last truth in
      ⊎_elim
      (λ e. omega (arith, t.count (leb-true _ _ e)))
      (λ e. omega (arith, t.count_full (leb-false _ _ e)))
      (decided (leb (length m + standard_size) (last_room yard times v visits sent_home last)))

  pub reading_true : (message : Bor (List ℕ)) (reader left : Reader) (hs : List Handed) → message.now ≡ last → Opens message reader → Calls reader hs left
      → length visits ≤ length hs → ReadTruth yard times v visits sent_home last (blocks_out hs)
  reading_true message reader left hs is opens calls enough =
      let all : blocks_out hs ≡ standards_in last =
      (reads_all message reader left hs opens calls).0 ∙ ap (λ (s : List ℕ). take (length hs) (blocks_in s)) is
      ∙ ap (take (length hs)) (readable_blocks last walk_readable)
      ∙ take_all (length hs) (standards_in last) (omega (arith, few)) in
      rw all (truth_read yard times v visits sent_home last truth)

-- S and the mask are the byte that they were read from
mask_back : (n : ℕ) → n < 2 ^ 8 → cond (leb s_bit n) (s_bit + n % s_bit) (n % s_bit) ≡ n
mask_back n h =
    ⊎_elim
    (λ e. rw e (let high : s_bit ≤ n = leb-true _ _ e in omega arith))
    (λ e. rw e (let low : n < s_bit = leb-false _ _ e in omega arith))
    (decided (leb s_bit n))

-- each field of a router's block is read back, where the numbers fit
pub reads_back : (b : Block) → BlockFits b → Says b (standard_of (block_bytes b))
unfolding standard_of block_bytes be bytes
reads_back b f =
    record {
      time = be-bytes 2 b.time f.time;
      incoming = be-bytes 2 b.filled.incoming f.incoming;
      outgoing = be-bytes 2 b.outgoing f.outgoing;
      upstream = be-bytes 2 b.filled.upstream f.upstream;
      input = be-bytes 3 b.filled.input f.input;
      output = be-bytes 3 b.output f.output;
      total = be-bytes 3 b.filled.total f.total;
      routing = be-bytes 1 b.filled.protocol f.protocol;
      multicast = be-bytes 1 b.filled.multicast f.multicast;
      ttl = refl;
      mask = mask_back b.filled.mask f.mask;
      code = refl;
    }

-- two lists that agree at every place are equal
same_lists : (xs ys : List Standard) → length xs ≡ length ys → ((k : ℕ) → k < length xs → get_or xs k no_standard ≡ get_or ys k no_standard) → xs ≡ ys
same_lists [] [] e f = refl
same_lists [] (y ∷ ys) e f = absurd (omega arith)
same_lists (x ∷ xs) [] e f = absurd (omega arith)
same_lists (x ∷ xs) (y ∷ ys) e f = λ i. f 0 (omega arith) i ∷ same_lists xs ys (omega arith) (λ k h. f (suc k) (omega arith)) i

-- what is said of the blocks read leaves no choice
module _ (yard times : List ℕ) (v : Visit) (visits : List Visit) (end : ℕ) (last : List ℕ) (xs ys : List Standard)
    (x : ReadTruth yard times v visits end last xs) (y : ReadTruth yard times v visits end last ys) where
  abbrev got : List ℕ
  got = last_received yard times v visits end last

  abbrev left : ℕ
  left = last_room yard times v visits end last

  abbrev call : ℕ → Call
  call k = call_at yard times (nth yard times v visits end last k)

  abbrev due : ℕ → Block
  due k = block_of (view (call k))

  same_room : HasRoom ipv4 left got → xs ≡ ys
  same_room fits =
      let long : length xs ≡ length ys = x.count fits ∙ sym (y.count fits) in
      same_lists xs ys long
      (λ k h. let is = product_block (call k) in x.block k (due k) is fits h ∙ sym (y.block k (due k) is fits (omega arith)))

  same_full : Full ipv4 left got → xs ≡ ys
  same_full full =
      let long : length xs ≡ length ys = omega (arith, x.count_full full, y.count_full full) in
      same_lists xs ys long
      (λ k h.
      let is = product_block (call k) in
      ⊎_elim
      (λ e. x.block_marked k (due k) is full (eqb-true _ _ e) ∙ sym (y.block_marked k (due k) is full (eqb-true _ _ e ∙ long)))
      (λ e.
      let n : suc k ≡ length xs → ⊥ = eqb-false _ _ e in
      x.block_kept k (due k) is full (omega (arith, n)) ∙ sym (y.block_kept k (due k) is full (omega (arith, n))))
      (decided (eqb (suc k) (length xs))))

  pub one_reading : xs ≡ ys
  one_reading =
      ⊎_elim (λ e. same_room (leb-true _ _ e)) (λ e. same_full (leb-false _ _ e)) (decided (leb (length got + standard_size) left))
