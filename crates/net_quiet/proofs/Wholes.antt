-- What the actors recorded where nobody is runnable: a beginning that is as long as the whole is the
-- whole.
use Rattle.std.proofs.Common.{◌≡◌, ◌+◌, ◌<◌, ◌≤◌, ℕ, zero, suc, Bool, Some, List, [], ◌∷◌, length, map, slice_get, refl, sym, ap, ◌∙◌, subst, arith}
use Rattle.std.proofs.lemmas.List.{length-map}
use Rattle.cargo_core.specs.Lists.{IsPrefix, Merge, PrefixMerge}
use Rattle.cargo_core.specs.declared.item.Item.{Item}
use Rattle.frame_core.specs.declared.mac.Mac.{Mac}
use Rattle.frame_core.specs.Frames.{turned_round}
use Rattle.wire_core.specs.declared.names.QueueRow.{QueueRow}
use Rattle.wire_core.specs.declared.names.Entry.{Entry}
use Rattle.wire_core.specs.Deeds.{Cargo}
use Rattle.wire_core.specs.Ends.{Role, Consumer, Producer}
use Rattle.wire_core.specs.Fates.{marked}
use Rattle.wire_core.specs.Journal.{History, Hostiles}
use Rattle.wire_core.specs.Lists.{Passed}
use Rattle.wire_core.specs.Queues.{items_of}
use Rattle.wire_core.proofs.Fating.{without_length}
use Rattle.play_core.specs.Moved.{Moved, Seat, gone_at, moved, taken, went}
use Rattle.play_core.specs.Names.{Wild}
use Rattle.play_core.specs.Sheets.{Scene}
use Rattle.play_core.specs.Still.{IsStill}
use Rattle.play_core.specs.Totals.{total}
use Rattle.play_core.specs.Wants.{Needful}
use Rattle.play_core.proofs.Lists.{some_is, there_below, there_is}
use Rattle.play_core.proofs.OneQueue.{whole_prefix}
use Rattle.play_core.proofs.Merges.{prefix_merge_whole}
use Rattle.play_core.specs.Rests.Showing.{HaveItems}
use Rattle.class_expect.specs.NetExpect.Expecting.{Program, Sink, Source, Echo, frames_for}
use Rattle.buffer_kit.specs.Entries.{frame_of, len_of}
use Rattle.client_programs.specs.declared.net.NetClient.{NetClient}
use Rattle.net_copier.specs.declared.NetCopier.{NetCopier}
use Rattle.net_law.specs.Dropped.{Marks, TellsCopier, lease_marks, left_for, sends_upon}
use Rattle.net_law.specs.Owners.Ends.{AreItemsOf, copier_ends, passed_at}
use Rattle.net_law.specs.Owners.Names.{ClientPools}
use Rattle.net_law.specs.Parts.Numbers.{client_first, policy_at}
use Rattle.net_law.specs.Parts.Playing.{AreLeases}
use Rattle.net_law.specs.Parts.Rows.{CopiesOut, answer_len, sent_lens}
use Rattle.net_law.specs.TxParts.Numbers.{NetPlace}
use Rattle.net_law.proofs.DropsLemmas.Numbering.{copier_told, marks_are}
use Rattle.net_law.proofs.DropsLemmas.Telling.{told_copier}
use Rattle.net_quiet.specs.Cast.Casting.{IsClientAt, IsCopierAt}
use Rattle.net_quiet.proofs.CastLemmas.Casting.{cast_leases, cast_records}
use Rattle.net_quiet.specs.TxCast.Casting.{AreClients, CalmSend, IsClientOf, IsSendingClient, IsWholeCast, NoneHostile, net_kept, net_marks, net_used, sends_at}
use Rattle.net_quiet.proofs.TxCast.Numbers.{client_queues, client_rx, device_sends}
use Rattle.net_quiet.proofs.TxCast.Wholes.{client_long, sends_calm, wire_is}
use Rattle.net_quiet.specs.Still.{IsNetwork, copier_gone, lens_from}
use Rattle.net_quiet.proofs.Leases.{leases_all}
use Rattle.net_quiet.proofs.Listing.{total_same}
use Rattle.net_quiet.proofs.Receiving.{arrives_all, sends_all, sends_many, sends_there}

-- entries that have these items have them at these ends
are_items : (passed : Passed) (m : Moved) → HaveItems passed m → (seats : List Seat) → AreItemsOf seats passed m
are_items passed m items seats i s at = by s.role
  where
    by : (r : Role) → went m r s.queue ≡ items_of (passed_at passed r s.queue)
    by Consumer = sym (items.taken s.queue)
    by Producer = sym (items.sent s.queue)

-- a client sends as many frames as it has lengths of them, where it gets as many as came
upon_long : (program : Program) (mac : Mac) (got : List (List ℕ)) (came : List Item) → length got ≡ length came → length (sends_upon program mac got) ≡ length (sent_lens program mac came)
upon_long Sink mac got came same = refl
upon_long (Source script) mac got came same = sym (length-map script (λ (frame : List ℕ). length frame))
upon_long Echo mac got came same = length-map got (λ (frame : List ℕ). turned_round frame mac) ∙ (same ∙ sym (length-map came (λ (item : Item). answer_len mac (len_of item))))

-- what the client of a number sends
module _ (marks : Marks) (frames : List (List ℕ)) where
  record Upon (n k : ℕ) (programs : List Program) (macs : List Mac) (l : List (List ℕ)) : Type 0 where
    program : Program
    mac : Mac
    plays : slice_get programs k ≡ Some program
    address : slice_get macs k ≡ Some mac
    is : sends_upon program mac (left_for (marks n) mac frames) ≡ l

  upon_there : (j : ℕ) (programs : List Program) (macs : List Mac) (k : ℕ) (l : List (List ℕ)) → slice_get (sends_at marks j programs macs frames) k ≡ Some l → Upon (j + k) k programs macs l
  upon_there j [] macs k l at = absurd cc
  upon_there j (p ∷ ps) [] k l at = absurd cc
  upon_there j (p ∷ ps) (mac ∷ ms) zero l at =
      let plus : j ≡ j + 0 = omega arith in
      record { program = p; mac = mac; plays = refl; address = refl; is = subst (λ n. sends_upon p mac (left_for (marks n) mac frames) ≡ l) plus (some_is at) }
  upon_there j (p ∷ ps) (mac ∷ ms) (suc k) l at =
      let rest = upon_there (j + 1) ps ms k l at in
      let shift : j + 1 + k ≡ j + suc k = omega arith in
      record { program = rest.program; mac = rest.mac; plays = rest.plays; address = rest.address; is = subst (λ n. sends_upon rest.program rest.mac (left_for (marks n) rest.mac frames) ≡ l) shift rest.is }

  upon_many : (j : ℕ) (programs : List Program) (macs : List Mac) → length programs ≡ length macs → length (sends_at marks j programs macs frames) ≡ length macs
  upon_many j [] [] e = refl
  upon_many j [] (mac ∷ ms) e = absurd (omega (arith, e))
  upon_many j (p ∷ ps) [] e = absurd (omega (arith, e))
  upon_many j (p ∷ ps) (mac ∷ ms) e = let rest = upon_many (j + 1) ps ms (omega (arith, e)) in omega (arith, rest)

module _ (hostile : Hostiles) (h : History) (rows : List QueueRow) (actors : Needful) (j : List Entry) (scene : Scene) (frames : List (List ℕ)) (net : NetPlace) (passed : Passed) (still : IsStill hostile h rows actors j) (w : IsNetwork hostile scene frames (net_used net passed.calls) rows actors net (moved h j)) (items : HaveItems passed (moved h j)) (whole : IsWholeCast net frames passed) where
  abbrev used : List Bool
  used = net_used net passed.calls

  abbrev marks : Marks
  marks = net_marks net passed.calls

  abbrev m : Moved
  m = moved h j

  -- as many frames were recorded as entries were taken
  shown_long : (shown : List (List ℕ)) (n at : ℕ) → n ≡ at → shown ≡ map frame_of (passed.taken n) → length shown ≡ length (taken h at j)
  shown_long shown n at same is =
      let a = ap length is in
      let b = length-map (passed.taken n) frame_of in
      let c = length-map (passed.taken n) (λ (x : Cargo). x.0) in
      let d = ap length (items.taken n) in
      let e = ap (λ i. length (taken h i j)) same in
      omega (arith, a, b, c, d, e)

  module _ (k : ℕ) (mac : Mac) (at : slice_get net.macs k ≡ Some mac) where
    copier : (c : NetCopier) × IsCopierAt net.first k net.drops c passed
    copier = whole.half.copiers k (there_below net.macs k mac at)

    tells : TellsCopier copier.0 passed m
    tells = record { items = are_items passed m items (copier_ends copier.0); noes = items.noes Consumer copier.0.buffer_input.queue.0 }

    own : (copier.0.lease_input.queue.0 ≡ client_first net.first k) × (copier.0.buffer_input.queue.0 ≡ client_first net.first k + 3) × (copier.0.drops ≡ policy_at net.drops k)
    own = copier_told copier.0 net.first k (policy_at net.drops k) copier.1.part

    leases : AreLeases (passed.taken copier.0.lease_input.queue.0)
    leases = subst (λ n. AreLeases (passed.taken n)) (sym own.0) (cast_leases net.first net.device_drops frames net.pool net.macs net.drops passed whole.half k (there_below net.macs k mac at))

    copies : CopiesOut (lease_marks copier.0 passed.calls) (gone_at copier.0.drops m Consumer copier.0.buffer_input.queue.0) (m.taken copier.0.lease_input.queue.0) (m.taken copier.0.buffer_input.queue.0) (m.sent copier.0.buffer_output.queue.0) (m.sent copier.0.lease_output.queue.0)
    copies = told_copier copier.0 passed m tells leases copier.1.row

    marked_are : lease_marks copier.0 passed.calls ≡ marks k
    marked_are = marks_are copier.0 net.first k net.drops passed.calls copier.1.part

    -- what is left of the frames for it is as long as what came to it
    left_long : length (left_for (marks k) mac scene.frames) ≡ length (taken h (client_first net.first k + 2) j)
    left_long =
        let due = frames_for mac scene.frames in
        let all = arrives_all hostile h rows actors j scene frames used net still w in
        let got = all.got k mac at in
        let leased = ap length (all.leased k mac at) in
        let long = leases_all scene.frames net.pool.base mac (taken h (net.first + 4) j) all.received in
        let came = ap (λ n. length (taken h n j)) own.0 in
        let same = ap length marked_are in
        let settled = copies.settled in
        let left = without_length (marks k) due (omega (arith, leased, long, came, same, settled)) in
        let many = copies.as_many in
        let marked_same = ap marked marked_are in
        let lost : gone_at copier.0.drops m Consumer copier.0.buffer_input.queue.0 ≡ copier_gone net m k = ap (λ n. gone_at copier.0.drops m Consumer n) own.1 ∙ ap (λ b. gone_at b m Consumer (client_first net.first k + 3)) own.2 in
        omega (arith, got, left, many, marked_same, lost)

    pub record_whole : (shown : List (List ℕ)) (n : ℕ) → n ≡ client_first net.first k + 2 → shown ≡ map frame_of (passed.taken n) → IsPrefix shown (left_for (marks k) mac scene.frames) → shown ≡ left_for (marks k) mac scene.frames
    record_whole shown n same is begins =
        let long = shown_long shown n (client_first net.first k + 2) same is in
        whole_prefix shown (left_for (marks k) mac scene.frames) begins (omega (arith, long, left_long))

  -- all that the clients send
  abbrev sends : List (List (List ℕ))
  sends = sends_at marks 0 net.programs net.macs scene.frames

  as_many : total sends ≡ total (lens_from net.first m 0 net.programs net.macs)
  as_many = total_same sends (lens_from net.first m 0 net.programs net.macs) many each
    where
      many : length sends ≡ length (lens_from net.first m 0 net.programs net.macs)
      many = upon_many marks scene.frames 0 net.programs net.macs w.pools.programs_many ∙ sym (sends_many net.first m 0 net.programs net.macs w.pools.programs_many)

      each : (k : ℕ) (x : List (List ℕ)) (y : List ℕ) → slice_get sends k ≡ Some x → slice_get (lens_from net.first m 0 net.programs net.macs) k ≡ Some y → length x ≡ length y
      each k x y x_at y_at =
          let a = upon_there marks scene.frames 0 net.programs net.macs k x x_at in
          let b = sends_there net.first m 0 net.programs net.macs k y y_at in
          let plus : 0 + k ≡ k = omega arith in
          let program : b.program ≡ a.program = some_is (sym b.plays ∙ a.plays) in
          let mac : b.mac ≡ a.mac = some_is (sym b.address ∙ a.address) in
          let sent = ap (λ n. length (sends_upon a.program a.mac (left_for (marks n) a.mac scene.frames))) plus in
          let came = ap (λ n. length (sent_lens b.program b.mac (taken h (client_first net.first n + 2) j))) plus in
          let lens = ap (λ p. length (sent_lens p b.mac (taken h (client_first net.first k + 2) j))) program ∙ ap (λ i. length (sent_lens a.program i (taken h (client_first net.first k + 2) j))) mac in
          let long = upon_long a.program a.mac (left_for (marks k) a.mac scene.frames) (taken h (client_first net.first k + 2) j) (left_long k a.mac a.address) in
          let first = ap length a.is in
          let second = ap length b.is in
          omega (arith, sent, came, lens, long, first, second)

  pub wire_whole : (shown : List (List ℕ)) (n : ℕ) → n ≡ net.first + 2 → shown ≡ map frame_of (passed.taken n) → PrefixMerge sends shown → Merge sends shown
  wire_whole shown n same is begun =
      let long = shown_long shown n (net.first + 2) same is in
      let all = (sends_all hostile h rows actors j scene frames used net still w).wire in
      prefix_merge_whole sends shown begun (omega (arith, long, all, as_many))

  pub cast_record : (k : ℕ) (program : Program) (mac : Mac) (q : ClientPools) → IsClientOf net k program mac q → (c : NetClient) → IsSendingClient net k program mac q c passed → c.frames.tape.shown ≡ left_for (marks k) mac scene.frames
  cast_record k program mac q of c is =
      let rx = client_queues net.first k program mac q c is.part in
      let at : IsClientAt net.first k frames c passed = record { active = rx.0; free = rx.1; long = λ j f f_at. client_long net frames passed whole k q of.pools (client_rx net.first k program mac q c is.part) j f f_at; some = is.some; row = is.row } in
      let begins = cast_records net.first net.device_drops frames net.pool net.macs net.drops passed whole.half k mac of.address c at in
      record_whole k mac of.address c.frames.tape.shown (c.frames.pipe.input.queue.0) rx.0 is.row.got (subst (λ fs. IsPrefix c.frames.tape.shown (left_for (marks k) mac fs)) (sym w.accepted) begins)

  pub cast_wire : (wild : Wild) → NoneHostile wild net → AreClients wild net passed → CalmSend wild net passed → Merge sends whole.half.device.wire.tape.shown
  cast_wire wild none clients send =
      let wire = device_sends net.first frames net.device_drops whole.half.device whole.device_at in
      let begun = wire_is net frames passed whole whole.sender_at.row wild clients send in
      wire_whole whole.half.device.wire.tape.shown _ wire.0 whole.half.device_at.row.wire
      (subst (λ fs. PrefixMerge (sends_at marks 0 net.programs net.macs fs) whole.half.device.wire.tape.shown) (sym w.accepted)
      (subst (λ l. PrefixMerge l whole.half.device.wire.tape.shown) (sends_calm wild net frames passed whole none) begun))
