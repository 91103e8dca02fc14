-- Each actor that isn't hostile put only what was in its hand, of all pools but hostile clients'.
use Rattle.std.proofs.Common.{◌≡◌, ◌==◌, ◌+◌, ◌≤◌, ℕ, suc, Bool, true, false, nat_lt, cond, Option, None, Some, List, [], ◌∷◌, flat_map, map, slice_get, count_by, sum_by, refl, sym, ap, ap₂, ◌∙◌, subst, arith}
use Rattle.std.specs.Option.{option_map_or}
use Rattle.std.proofs.lemmas.Bool.{le-ltb}
use Rattle.std.proofs.lemmas.List.Sums.{sum_by-cons, sum_by-append}
use Rattle.cargo_core.specs.declared.item.Item.{Item}
use Rattle.cargo_core.specs.Lists.{IsPrefix}
use Rattle.wire_core.specs.declared.names.Entry.{Entry}
use Rattle.wire_core.specs.declared.names.QueueRow.{QueueRow}
use Rattle.wire_core.specs.Bells.{bit}
use Rattle.wire_core.specs.Deeds.{Cargo}
use Rattle.wire_core.specs.Ends.{Role, Consumer, Producer}
use Rattle.wire_core.specs.Journal.{History, QueuesFlow}
use Rattle.wire_core.specs.Lists.{Passed}
use Rattle.play_core.specs.Manners.{Calm, Hostile, Manner, is_hostile}
use Rattle.play_core.specs.Moved.{Moved, Seat, moved}
use Rattle.play_core.specs.Names.{Wild, names_at, wild_in}
use Rattle.play_core.specs.Sheets.{AreApart, Scene}
use Rattle.play_core.proofs.Lists.{map_from, map_get}
use Rattle.owner_law.specs.Things.{Answers, Buffer, Buffers, Frames, Leases, Names, Naming, NoBuffers, Returns, Thing, Whole, Window, as_buffer, as_lease, brings_leases, buffer_of, gives_back, lends, requested, requests_of, thing_at, thing_of, things_from, things_sent, things_taken}
use Rattle.owner_law.specs.Keeping.{Keeper, Keeps, all_put, all_taken, at_start, by_role, is_out, things_in, things_out}
use Rattle.owner_law.specs.Pages.{as_page}
use Rattle.owner_law.specs.Pools.Lines.{bodies_in, bodies_out, came, went}
use Rattle.owner_law.specs.Pools.Places.{by_address}
use Rattle.owner_law.proofs.Carrying.{get_first, pages_named}
use Rattle.owner_law.proofs.PoolsLemmas.Casting.{nothing_kept}
use Rattle.buffer_kit.specs.Conserving.{Count, counted, the_page, weighed}
use Rattle.buffer_kit.proofs.Conserving.{counted-append}
use Rattle.net_law.specs.Owners.Names.{ClientPools}
use Rattle.net_law.specs.Parts.Parts.{Way}
use Rattle.net_law.specs.Parts.Playing.{client_part, copier_part, device_part, driver_part, receiver_part}
use Rattle.net_law.specs.Parts.Table.{way_ends}
use Rattle.net_law.proofs.PartsLemmas.Owning.{net_puts}
use Rattle.net_virt_tx.proofs.Rounds.{row_of as sender_row}
use Rattle.net_law.specs.TxParts.Numbers.{NetPlace, sender_at}
use Rattle.net_law.specs.TxParts.Parts.{SendPart, Shipper}
use Rattle.net_law.specs.TxParts.Playing.{send_part}
use Rattle.net_law.specs.TxParts.Table.{send_sheet, shipper_ends}
use Rattle.net_quiet.proofs.TxOwners.Carrying.{pools_apart}
use Rattle.net_quiet.specs.TxOwners.Shipping.{NamesSend, device_windows}
use Rattle.eth_driver.specs.Four.{four_pipes}
use Rattle.pipe_driver.specs.Lengths.{two_pipes}
use Rattle.blk_law.specs.Sheets.Numbers.{BlkPlace, sharers_from}
use Rattle.blk_law.specs.Sheets.Parts.{BlkClient, BlkDriver, BlkPart, BlkVirt, DiskDevice, Sharer}
use Rattle.blk_law.specs.Sheets.Playing.{blk_client_part, blk_driver_part, disk_part, virt_part}
use Rattle.blk_law.specs.Sheets.Table.{blk_sheet, sharer_ends}
use Rattle.blk_law.specs.Owners.Answering.{NamesBlk, NamesWays}
use Rattle.blk_quiet.specs.Pools.Naming.{disk_side}
use Rattle.actor_set.specs.Parts.{Part, SendingPart}
use Rattle.actor_set.specs.Actors.{part_of}
use Rattle.actor_set.specs.declared.actor.Actor.{Actor}
use Rattle.actor_set.specs.declared.actor.Actor.TheVariants as Kinds
use Rattle.actor_set.specs.Laws.Kinds.{hostiles, manner_of, scene_of, sheet}
use Rattle.actor_set.specs.Laws.Scenes.{told_sheet}
use Rattle.actor_set.proofs.LawsLemmas.Starts.{fits_whole}
use Rattle.actor_set.proofs.LawsLemmas.ToldRows.{told_row}
use Rattle.wired_law.proofs.Acting.{sender_actor}
use Rattle.cast_law.specs.Pools.Beside.{CastCarries, is_rogues}
use Rattle.cast_law.specs.Pools.Holders.{NamesAt, NothingAt}
use Rattle.cast_law.specs.Pools.Owning.{IsKeptBeside, keeper_beside, names_beside, owner_naming}
use Rattle.cast_law.specs.Pools.Places.{HasBlkAt, HasNetAt, PoolPlace, cast_naming}
use Rattle.cast_law.proofs.PagesLemmas.Acting.{actor_conserves, start_weighs}
use Rattle.cast_law.proofs.PagesLemmas.Counting.{part_count}
use Rattle.cast_law.proofs.PoolsLemmas.Apart.{ends_apart}
use Rattle.cast_law.proofs.BesideLemmas.Around.{Around, answers_few, part_names}
use Rattle.cast_law.proofs.BesideLemmas.Hands.{weighs_page}
use Rattle.cast_law.proofs.OwningLemmas.Facts.{all_apart, devices_apart, devices_are, disks_apart, disks_are}
use Rattle.cast_law.proofs.OwningLemmas.Hiding.{answered, wild_empty}
use Rattle.cast_law.proofs.OwningLemmas.Windows.{AreNamesApart, AreWindowsApart, IsOf, empty_thing, gone_thing, kept_thing, none_from, of_back, of_brought, of_buffer, of_lease, of_lends, same_from, same_requests}

pages_sum : (b : Buffer) (cs : List Cargo) → sum_by (λ (c : Cargo). as_page b c.1) cs ≡ weighed (the_page (record { 0 = b.pool }) b.no) cs
pages_sum b [] = refl
pages_sum b (c ∷ cs) = omega (arith, sum_by-cons (λ (d : Cargo). as_page b d.1) c cs, weighs_page b c.1, pages_sum b cs)

pub nothing_out : (x y : ℕ) → y ≡ 0 → bit (nat_lt x y) ≡ 0
nothing_out x y none = ap (λ t. bit t) (le-ltb x y (omega (arith, none)))

is_calm_one : (mn : Manner) → is_hostile mn ≡ false → mn ≡ Calm
is_calm_one Calm e = refl
is_calm_one (Hostile done) e = cc

-- nothing is lent on such a queue, and no lease goes there
abbrev pub IsPlain : Names → Type 0
IsPlain NoBuffers = Unit {0}
IsPlain (Buffers ws) = Unit {0}
IsPlain (Frames ws receivers) = ⊥
IsPlain (Leases ws) = ⊥
IsPlain (Returns ws) = ⊥
IsPlain (Answers q ws) = Unit {0}

plain_hidden : (off : ℕ → Bool) (names : Names) → IsPlain names → IsPlain (names_beside off names)
plain_hidden off NoBuffers is = tt
plain_hidden off (Buffers ws) is = tt
plain_hidden off (Frames ws receivers) is = is
plain_hidden off (Leases ws) is = is
plain_hidden off (Returns ws) is = is
plain_hidden off (Answers q ws) is = tt

plain_either : (t : Bool) (names : Names) → IsPlain names → IsPlain (cond t NoBuffers names)
plain_either true names is = tt
plain_either false names is = is

whole_lends : (b : Buffer) (o : Option Buffer) → lends b (thing_of Whole o) ≡ 0
whole_lends b None = refl
whole_lends b (Some c) = refl

whole_lease : (b : Buffer) (o : Option Buffer) → as_lease b (thing_of Whole o) ≡ 0
whole_lease b None = refl
whole_lease b (Some c) = refl

plain_lends : (names : Names) → IsPlain names → (b : Buffer) (rs : List Item) (k : ℕ) (i : Item) → lends b (thing_at names rs k i) ≡ 0
plain_lends NoBuffers is b rs k i = refl
plain_lends (Buffers ws) is b rs k i = whole_lends b (buffer_of ws i)
plain_lends (Frames ws receivers) is b rs k i = absurd is
plain_lends (Leases ws) is b rs k i = absurd is
plain_lends (Returns ws) is b rs k i = absurd is
plain_lends (Answers q ws) is b rs k i = whole_lends b (requested ws rs k)

plain_lease : (names : Names) → IsPlain names → (b : Buffer) (rs : List Item) (k : ℕ) (i : Item) → as_lease b (thing_at names rs k i) ≡ 0
plain_lease NoBuffers is b rs k i = refl
plain_lease (Buffers ws) is b rs k i = whole_lease b (buffer_of ws i)
plain_lease (Frames ws receivers) is b rs k i = absurd is
plain_lease (Leases ws) is b rs k i = absurd is
plain_lease (Returns ws) is b rs k i = absurd is
plain_lease (Answers q ws) is b rs k i = whole_lease b (requested ws rs k)

-- so it is at all of these ends
abbrev pub AllPlain : Naming → List Seat → Type 0
AllPlain naming [] = Unit {0}
AllPlain naming (s ∷ ends) = IsPlain (naming s.queue) × AllPlain naming ends

as_buffers : (naming : Naming) (n : ℕ) (ws : List Window) → naming n ≡ Buffers ws → IsPlain (naming n)
as_buffers naming n ws e = subst IsPlain (sym e) tt

as_answers : (naming : Naming) (n q : ℕ) (ws : List Window) → naming n ≡ Answers q ws → IsPlain (naming n)
as_answers naming n q ws e = subst IsPlain (sym e) tt

plain_shippers : (naming : Naming) (cs : List Shipper) → ((k : ℕ) (c : Shipper) → slice_get cs k ≡ Some c → IsPlain (naming c.active)) → ((k : ℕ) (c : Shipper) → slice_get cs k ≡ Some c → IsPlain (naming c.free)) → AllPlain naming (flat_map shipper_ends cs)
plain_shippers naming [] one two = tt
plain_shippers naming (c ∷ cs) one two = (one 0 c refl, (two 0 c refl, plain_shippers naming cs (λ k d at. one (suc k) d at) (λ k d at. two (suc k) d at)))

plain_sharers : (naming : Naming) (cs : List Sharer) → ((k : ℕ) (c : Sharer) → slice_get cs k ≡ Some c → IsPlain (naming c.req)) → ((k : ℕ) (c : Sharer) → slice_get cs k ≡ Some c → IsPlain (naming c.resp)) → AllPlain naming (flat_map sharer_ends cs)
plain_sharers naming [] one two = tt
plain_sharers naming (c ∷ cs) one two = (one 0 c refl, (two 0 c refl, plain_sharers naming cs (λ k d at. one (suc k) d at) (λ k d at. two (suc k) d at)))

plain_send : (naming : Naming) (p : SendPart) → NamesSend naming p → AllPlain naming (send_sheet p).ends
plain_send naming p names = (as_buffers naming p.free _ names.free, (as_buffers naming p.active _ names.active, plain_shippers naming p.clients (λ k c at. as_buffers naming c.active _ (names.sends k c at)) (λ k c at. as_buffers naming c.free _ (names.returns k c at))))

plain_ways : (naming : Naming) (ws : List Window) (ways : List Way) (names : NamesWays naming ws ways) → AllPlain naming (flat_map way_ends ways)
plain_ways naming ws ways names = subst (λ l. AllPlain naming (flat_map way_ends l)) (sym names.ways_are) (as_buffers naming names.req ws names.asked.0, (as_buffers naming names.disk_req ws names.passed_on.0, (as_answers naming names.disk_resp names.disk_req ws names.passed_on.1, (as_answers naming names.resp names.req ws names.asked.1, tt))))

plain_block : (naming : Naming) (scene : Scene) (p : BlkPart) → NamesBlk naming p → AllPlain naming (blk_sheet scene p).ends
plain_block naming scene (DiskDevice req resp image) names = (as_buffers naming req names.0 names.1.0, (as_answers naming resp req names.0 names.1.1, tt))
plain_block naming scene (BlkDriver ways) names = plain_ways naming names.0 ways names.1
plain_block naming scene (BlkVirt req resp sectors pool clients) names = (as_answers naming resp req _ names.0.1, (as_buffers naming req _ names.0.0, plain_sharers naming clients (λ k c at. as_buffers naming c.req _ (names.1 k c at).0) (λ k c at. as_answers naming c.resp c.req _ (names.1 k c at).1)))
plain_block naming scene (BlkClient req resp asks pool) names = (as_answers naming resp req _ names.1.1, (as_buffers naming req _ names.1.0, tt))

module _ (rows : List QueueRow) (place : PoolPlace) (actors : List Actor) (passed : Passed) (m : Moved) (a : Around rows place actors passed m) (carry : CastCarries rows place actors m passed) where
  abbrev parts : List Part
  parts = map part_of actors

  abbrev scene : Scene
  scene = scene_of parts

  abbrev w : Wild
  w = wild_in (hostiles parts) rows

  abbrev full : Naming
  full = cast_naming scene place

  abbrev off : ℕ → Bool
  off = is_rogues w place

  abbrev nm : Naming
  nm = owner_naming rows place parts

  -- no address names two buffers
  dev_apart : (net : NetPlace) → place.net ≡ Some net → AreWindowsApart (map (λ (c : ClientPools). by_address c.tx) net.pools)
  dev_apart net here =
      let whole = (subst (λ o. HasNetAt rows o parts) here a.placed.net).0 in
      let x = map_from part_of actors whole.sender.0 (SendingPart (sender_at net.first net.most net.pools)) whole.sender.1 in
      let v = sender_actor net.first net.most net.pools x.0 x.2 in
      let row = sender_row v.0 passed (a.work.stands whole.sender.0 (Kinds.NetVirtTx v.0) (x.1 ∙ ap (λ y. Some y) v.1)) in
      subst AreWindowsApart (ap (λ (p : SendPart). device_windows p.clients) v.2 ∙ devices_are net.first net.most 0 net.pools) (devices_apart (send_part v.0).clients (pools_apart v.0 passed row))

  disk_apart : (blk : BlkPlace) → place.blk ≡ Some blk → AreWindowsApart (disk_side blk.pool blk.pools)
  disk_apart blk here =
      let has = subst (λ o. HasBlkAt rows o parts) here a.placed.blk in
      subst AreWindowsApart (disks_are blk.pool blk.first 0 blk.entries blk.pools has.0.pools_many) (disks_apart blk.pool (sharers_from blk.first 0 blk.entries blk.pools) has.1)

  pub names_apart : (q : ℕ) → AreNamesApart (full q)
  names_apart = all_apart scene place.net place.blk dev_apart disk_apart

  -- of one buffer, by one count
  module _ (b : Buffer) (f : Thing → ℕ) (of : IsOf b f) where
    queue_kept : off b.pool ≡ false → (n : ℕ) (is : List Item) → sum_by f (things_from (nm n) (requests_of (nm n) m) 0 is) ≡ sum_by f (things_from (full n) (requests_of (full n) m) 0 is)
    queue_kept free n is = by (w n) refl
      where
        by : (t : Bool) → w n ≡ t → sum_by f (things_from (cond t NoBuffers (names_beside off (full n))) (requests_of (cond t NoBuffers (names_beside off (full n))) m) 0 is) ≡ sum_by f (things_from (full n) (requests_of (full n) m) 0 is)
        by true e = none_from f NoBuffers [] (λ j i. of.nothing) 0 is ∙ sym (none_from f (full n) (requests_of (full n) m) (λ j i. sym (kept_thing b f of off free (full n) (names_apart n) (requests_of (full n) m) j i) ∙ (ap f (empty_thing (names_beside off (full n)) (wild_empty rows place parts a.placed a.seated a.filled n e) (requests_of (full n) m) j i) ∙ of.nothing)) 0 is)
        by false e = ap (λ rs. sum_by f (things_from (names_beside off (full n)) rs 0 is)) (same_requests off (full n) m) ∙ same_from f (names_beside off (full n)) (full n) (requests_of (full n) m) (λ j i. kept_thing b f of off free (full n) (names_apart n) (requests_of (full n) m) j i) 0 is

    queue_gone : off b.pool ≡ true → (n : ℕ) (is : List Item) → sum_by f (things_from (nm n) (requests_of (nm n) m) 0 is) ≡ 0
    queue_gone on n is = by (w n)
      where
        by : (t : Bool) → sum_by f (things_from (cond t NoBuffers (names_beside off (full n))) (requests_of (cond t NoBuffers (names_beside off (full n))) m) 0 is) ≡ 0
        by true = none_from f NoBuffers [] (λ j i. of.nothing) 0 is
        by false = none_from f (names_beside off (full n)) (requests_of (names_beside off (full n)) m) (λ j i. gone_thing b f of off on (full n) (requests_of (names_beside off (full n)) m) j i) 0 is

    put_kept : off b.pool ≡ false → (ends : List Seat) → sum_by f (all_put nm m ends) ≡ sum_by f (all_put full m ends)
    put_kept free [] = refl
    put_kept free (s ∷ ends) = omega (arith, sum_by-append f (things_out nm m s) (all_put nm m ends), sum_by-append f (things_out full m s) (all_put full m ends), here s.role s.queue, put_kept free ends)
      where
        here : (r : Role) (n : ℕ) → sum_by f (by_role r [] (things_sent nm m n)) ≡ sum_by f (by_role r [] (things_sent full m n))
        here Consumer n = refl
        here Producer n = queue_kept free n (m.sent n)

    pub took_kept : off b.pool ≡ false → (ends : List Seat) → sum_by f (all_taken nm m ends) ≡ sum_by f (all_taken full m ends)
    took_kept free [] = refl
    took_kept free (s ∷ ends) = omega (arith, sum_by-append f (things_in nm m s) (all_taken nm m ends), sum_by-append f (things_in full m s) (all_taken full m ends), here s.role s.queue, took_kept free ends)
      where
        here : (r : Role) (n : ℕ) → sum_by f (by_role r (things_taken nm m n) []) ≡ sum_by f (by_role r (things_taken full m n) [])
        here Consumer n = queue_kept free n (m.taken n)
        here Producer n = refl

    put_gone : off b.pool ≡ true → (ends : List Seat) → sum_by f (all_put nm m ends) ≡ 0
    put_gone on [] = refl
    put_gone on (s ∷ ends) = omega (arith, sum_by-append f (things_out nm m s) (all_put nm m ends), here s.role s.queue, put_gone on ends)
      where
        here : (r : Role) (n : ℕ) → sum_by f (by_role r [] (things_sent nm m n)) ≡ 0
        here Consumer n = refl
        here Producer n = queue_gone on n (m.sent n)

    pub took_gone : off b.pool ≡ true → (ends : List Seat) → sum_by f (all_taken nm m ends) ≡ 0
    took_gone on [] = refl
    took_gone on (s ∷ ends) = omega (arith, sum_by-append f (things_in nm m s) (all_taken nm m ends), here s.role s.queue, took_gone on ends)
      where
        here : (r : Role) (n : ℕ) → sum_by f (by_role r (things_taken nm m n) []) ≡ 0
        here Consumer n = queue_gone on n (m.taken n)
        here Producer n = refl

  -- who put only what was in its hand did so of these pools
  transfer : (hand : ℕ → List ℕ) (ends : List Seat) → Keeps hand (all_taken full m ends) (all_put full m ends) → Keeps (λ pool. cond (off pool) [] (hand pool)) (all_taken nm m ends) (all_put nm m ends)
  transfer hand ends keeps = record { buffers = λ b. by b (off b.pool) refl; leases = λ b. lease b (off b.pool) refl }
    where
      by : (b : Buffer) (t : Bool) → off b.pool ≡ t → sum_by (as_buffer b) (all_put nm m ends) + bit (is_out b (all_taken nm m ends)) ≤ at_start (λ pool. cond (off pool) [] (hand pool)) b + sum_by (as_buffer b) (all_taken nm m ends)
      by b true on = omega (arith, put_gone b (as_buffer b) (of_buffer b) on ends, nothing_out (sum_by (gives_back b) (all_taken nm m ends)) (sum_by (lends b) (all_taken nm m ends)) (took_gone b (lends b) (of_lends b) on ends))
      by b false free =
          let out : bit (is_out b (all_taken nm m ends)) ≡ bit (is_out b (all_taken full m ends)) = ap₂ (λ x y. bit (nat_lt x y)) (took_kept b (gives_back b) (of_back b) free ends) (took_kept b (lends b) (of_lends b) free ends) in
          let mine : at_start (λ pool. cond (off pool) [] (hand pool)) b ≡ at_start hand b = ap (λ t. count_by (λ no. no == b.no) (cond t [] (hand b.pool))) free in
          omega (arith, keeps.buffers b, put_kept b (as_buffer b) (of_buffer b) free ends, took_kept b (as_buffer b) (of_buffer b) free ends, out, mine)

      lease : (b : Buffer) (t : Bool) → off b.pool ≡ t → sum_by (as_lease b) (all_put nm m ends) ≤ sum_by (brings_leases b) (all_taken nm m ends)
      lease b true on = omega (arith, put_gone b (as_lease b) (of_lease b) on ends)
      lease b false free = omega (arith, keeps.leases b, put_kept b (as_lease b) (of_lease b) free ends, took_kept b (brings_leases b) (of_brought b) free ends)

  begins : (n : ℕ) → IsPrefix (passed.taken n) (passed.sent n)
  begins = a.work.hands_over

  -- by the pages that passed
  module _ (b : Buffer) (free : off b.pool ≡ false) where
    abbrev page : Count
    page = the_page (record { 0 = b.pool }) b.no

    none_weigh : (cs : List Cargo) → ((k : ℕ) (c : Cargo) → slice_get cs k ≡ Some c → as_page b c.1 ≡ 0) → weighed page cs ≡ 0
    none_weigh [] none = refl
    none_weigh (c ∷ cs) none = omega (arith, weighs_page b c.1, none 0 c refl, none_weigh cs (λ k d at. none (suc k) d at))

    sent_is : (n : ℕ) → sum_by (as_buffer b) (things_sent nm m n) ≤ weighed page (passed.sent n)
    sent_is n = by (w n) refl
      where
        by : (t : Bool) → w n ≡ t → sum_by (as_buffer b) (things_from (nm n) (requests_of (nm n) m) 0 (m.sent n)) ≤ weighed page (passed.sent n)
        by true e =
            let same = ap (λ t. sum_by (as_buffer b) (things_from (cond t NoBuffers (names_beside off (full n))) (requests_of (cond t NoBuffers (names_beside off (full n))) m) 0 (m.sent n))) e in
            omega (arith, same, none_from (as_buffer b) NoBuffers [] (λ j i. refl) 0 (m.sent n))
        by false e =
            let plus : (k : ℕ) → k ≡ 0 + k = λ k. omega arith in
            let all = pages_named b (full n) (requests_of (full n) m) 0 (passed.sent n) (λ k c at. carry.bodies n e k c at b ∙ ap (λ j. as_buffer b (thing_at (full n) (requests_of (full n) m) j c.0)) (plus k)) in
            let items = ap (λ is. sum_by (as_buffer b) (things_from (full n) (requests_of (full n) m) 0 is)) (carry.sent n) in
            omega (arith, queue_kept b (as_buffer b) (of_buffer b) free n (m.sent n), all, items, pages_sum b (passed.sent n))

    taken_is : (n : ℕ) → sum_by (as_buffer b) (things_taken nm m n) ≡ weighed page (passed.taken n)
    taken_is n = by (w n) refl
      where
        first : (k : ℕ) (c : Cargo) → slice_get (passed.taken n) k ≡ Some c → slice_get (passed.sent n) k ≡ Some c
        first k c at = let pre = begins n in ap (λ l. slice_get l k) (sym pre.1) ∙ get_first (passed.taken n) pre.0 k c at

        by : (t : Bool) → w n ≡ t → sum_by (as_buffer b) (things_from (nm n) (requests_of (nm n) m) 0 (m.taken n)) ≡ weighed page (passed.taken n)
        by true e =
            let same = ap (λ t. sum_by (as_buffer b) (things_from (cond t NoBuffers (names_beside off (full n))) (requests_of (cond t NoBuffers (names_beside off (full n))) m) 0 (m.taken n))) e in
            omega (arith, same, none_from (as_buffer b) NoBuffers [] (λ j i. refl) 0 (m.taken n), none_weigh (passed.taken n) (λ k c at. carry.others n e k c (first k c at) b free))
        by false e =
            let plus : (k : ℕ) → k ≡ 0 + k = λ k. omega arith in
            let all = pages_named b (full n) (requests_of (full n) m) 0 (passed.taken n) (λ k c at. carry.bodies n e k c (first k c at) b ∙ ap (λ j. as_buffer b (thing_at (full n) (requests_of (full n) m) j c.0)) (plus k)) in
            let items = ap (λ is. sum_by (as_buffer b) (things_from (full n) (requests_of (full n) m) 0 is)) (carry.taken n) in
            omega (arith, queue_kept b (as_buffer b) (of_buffer b) free n (m.taken n), all, items, pages_sum b (passed.taken n))

    puts_are : (ends : List Seat) → sum_by (as_buffer b) (all_put nm m ends) ≤ counted page (went passed ends)
    puts_are [] = omega arith
    puts_are (s ∷ ends) = omega (arith, sum_by-append (as_buffer b) (things_out nm m s) (all_put nm m ends), counted-append page (bodies_out passed s.role s.queue) (went passed ends), here s.role s.queue, puts_are ends)
      where
        here : (r : Role) (n : ℕ) → sum_by (as_buffer b) (by_role r [] (things_sent nm m n)) ≤ counted page (bodies_out passed r n)
        here Consumer n = omega arith
        here Producer n = sent_is n

    takes_are : (ends : List Seat) → sum_by (as_buffer b) (all_taken nm m ends) ≡ counted page (came passed ends)
    takes_are [] = refl
    takes_are (s ∷ ends) = omega (arith, sum_by-append (as_buffer b) (things_in nm m s) (all_taken nm m ends), counted-append page (bodies_in passed s.role s.queue) (came passed ends), here s.role s.queue, takes_are ends)
      where
        here : (r : Role) (n : ℕ) → sum_by (as_buffer b) (by_role r (things_taken nm m n) []) ≡ counted page (bodies_in passed r n)
        here Consumer n = taken_is n
        here Producer n = refl

  -- at plain ends nothing is lent, and no lease goes
  plain_at : (n : ℕ) → IsPlain (full n) → IsPlain (nm n)
  plain_at n is = plain_either (w n) (names_beside off (full n)) (plain_hidden off (full n) is)

  out_none : (b : Buffer) (ends : List Seat) → AllPlain full ends → sum_by (lends b) (all_taken nm m ends) ≡ 0
  out_none b [] plain = refl
  out_none b (s ∷ ends) plain = omega (arith, sum_by-append (lends b) (things_in nm m s) (all_taken nm m ends), here s.role s.queue (plain_at s.queue plain.0), out_none b ends plain.1)
    where
      here : (r : Role) (n : ℕ) → IsPlain (nm n) → sum_by (lends b) (by_role r (things_taken nm m n) []) ≡ 0
      here Consumer n is = none_from (lends b) (nm n) (requests_of (nm n) m) (λ j i. plain_lends (nm n) is b (requests_of (nm n) m) j i) 0 (m.taken n)
      here Producer n is = refl

  lease_none : (b : Buffer) (ends : List Seat) → AllPlain full ends → sum_by (as_lease b) (all_put nm m ends) ≡ 0
  lease_none b [] plain = refl
  lease_none b (s ∷ ends) plain = omega (arith, sum_by-append (as_lease b) (things_out nm m s) (all_put nm m ends), here s.role s.queue (plain_at s.queue plain.0), lease_none b ends plain.1)
    where
      here : (r : Role) (n : ℕ) → IsPlain (nm n) → sum_by (as_lease b) (by_role r [] (things_sent nm m n)) ≡ 0
      here Consumer n is = refl
      here Producer n is = none_from (as_lease b) (nm n) (requests_of (nm n) m) (λ j i. plain_lease (nm n) is b (requests_of (nm n) m) j i) 0 (m.sent n)

  abbrev hand_of : Part → ℕ → List ℕ
  hand_of p pool = cond (off pool) [] ((sheet scene p).hand pool)

  abbrev KeepsIts : Part → Type 0
  KeepsIts p = Keeps (hand_of p) (all_taken nm m (sheet scene p).ends) (all_put nm m (sheet scene p).ends)

  by_pages : (k : ℕ) (x : Actor) → slice_get actors k ≡ Some x → AllPlain full (sheet scene (part_of x)).ends → KeepsIts (part_of x)
  by_pages k x at plain = record { buffers = λ b. by b (off b.pool) refl; leases = λ b. omega (arith, lease_none b (sheet scene (part_of x)).ends plain) }
    where
      by : (b : Buffer) (t : Bool) → off b.pool ≡ t → sum_by (as_buffer b) (all_put nm m (sheet scene (part_of x)).ends) + bit (is_out b (all_taken nm m (sheet scene (part_of x)).ends)) ≤ at_start (hand_of (part_of x)) b + sum_by (as_buffer b) (all_taken nm m (sheet scene (part_of x)).ends)
      by b true on =
          let es = (sheet scene (part_of x)).ends in
          let none = nothing_out (sum_by (gives_back b) (all_taken nm m es)) (sum_by (lends b) (all_taken nm m es)) (out_none b es plain) in
          omega (arith, put_gone b (as_buffer b) (of_buffer b) on es, none)
      by b false free =
          let es = (sheet scene (part_of x)).ends in
          let whole = fits_whole a.ends x (a.work.fits k x at) in
          let st = a.work.stands k x at in
          let none = nothing_out (sum_by (gives_back b) (all_taken nm m es)) (sum_by (lends b) (all_taken nm m es)) (out_none b es plain) in
          let all = actor_conserves scene passed x whole st (the_page (record { 0 = b.pool }) b.no) in
          let start = start_weighs passed (the_page (record { 0 = b.pool }) b.no) x whole st in
          let told = part_count b.pool b.no scene (part_of x) in
          let mine : at_start (hand_of (part_of x)) b ≡ at_start (sheet scene (part_of x)).hand b = ap (λ t. count_by (λ no. no == b.no) (cond t [] ((sheet scene (part_of x)).hand b.pool))) free in
          omega (arith, puts_are b free es, takes_are b free es, none, all, start, told, mine)

  plain_serial : (p : Part) → NothingAt full scene p → KeepsIts p
  plain_serial p names = transfer (sheet scene p).hand (sheet scene p).ends (nothing_kept full (sheet scene p).hand (sheet scene p).ends names m)

  keeps_actor : (k : ℕ) (x : Actor) → slice_get actors k ≡ Some x → manner_of (part_of x) ≡ Calm → NamesAt full scene (part_of x) → AreApart (sheet scene (part_of x)).ends → (told_sheet scene w (names_at passed) (part_of x)).row m → KeepsIts (part_of x)
  keeps_actor k (Kinds.UartDevice x) at calm names apart row = plain_serial (part_of (Kinds.UartDevice x)) names
  keeps_actor k (Kinds.UartDriver x) at calm names apart row = plain_serial (part_of (Kinds.UartDriver x)) names
  keeps_actor k (Kinds.SerialVirtRx x) at calm names apart row = plain_serial (part_of (Kinds.SerialVirtRx x)) names
  keeps_actor k (Kinds.SerialVirtTx x) at calm names apart row = plain_serial (part_of (Kinds.SerialVirtTx x)) names
  keeps_actor k (Kinds.SerialClient x) at calm names apart row = plain_serial (part_of (Kinds.SerialClient x)) names
  keeps_actor k (Kinds.EthDevice x) at calm names apart row = transfer (sheet scene (part_of (Kinds.EthDevice x))).hand (sheet scene (part_of (Kinds.EthDevice x))).ends (net_puts full scene (device_part x) names m apart row)
  keeps_actor k (Kinds.EthDriver x) at calm names apart row = transfer (sheet scene (part_of (Kinds.EthDriver x))).hand (sheet scene (part_of (Kinds.EthDriver x))).ends (net_puts full scene (driver_part (four_pipes x.driver.pipes)) names m apart row)
  keeps_actor k (Kinds.NetVirtRx x) at calm names apart row = transfer (sheet scene (part_of (Kinds.NetVirtRx x))).hand (sheet scene (part_of (Kinds.NetVirtRx x))).ends (net_puts full scene (receiver_part x) names m apart row)
  keeps_actor k (Kinds.NetCopier x) at calm names apart row = transfer (sheet scene (part_of (Kinds.NetCopier x))).hand (sheet scene (part_of (Kinds.NetCopier x))).ends (net_puts full scene (copier_part x) names m apart row)
  keeps_actor k (Kinds.NetClient x) at calm names apart row = transfer (sheet scene (part_of (Kinds.NetClient x))).hand (sheet scene (part_of (Kinds.NetClient x))).ends (net_puts full scene (client_part x) names m apart row)
  keeps_actor k (Kinds.NetVirtTx x) at calm names apart row = by_pages k (Kinds.NetVirtTx x) at (plain_send full (send_part x) names)
  keeps_actor k (Kinds.DiskDevice x) at calm names apart row = by_pages k (Kinds.DiskDevice x) at (plain_block full scene (disk_part x.start.value x.device) names.0)
  keeps_actor k (Kinds.BlkDriver x) at calm names apart row = by_pages k (Kinds.BlkDriver x) at (plain_block full scene (blk_driver_part (two_pipes x.driver.pipes)) names.0)
  keeps_actor k (Kinds.BlkVirt x) at calm names apart row = by_pages k (Kinds.BlkVirt x) at (plain_block full scene (virt_part x) names.0)
  keeps_actor k (Kinds.BlkClient x) at calm names apart row = by_pages k (Kinds.BlkClient x) at (plain_block full scene (blk_client_part x) names.0)
  keeps_actor k (Kinds.Rogue x) at calm names apart row = absurd cc

  pub keeps_part : (k : ℕ) (p : Part) → slice_get parts k ≡ Some p → hostiles parts k ≡ false → KeepsIts p
  keeps_part k p at calm =
      let x = map_from part_of actors k p at in
      let is : manner_of p ≡ Calm = is_calm_one (manner_of p) (ap (λ (o : Option Part). is_hostile (option_map_or manner_of o Calm)) (sym at) ∙ calm) in
      let mine : manner_of (part_of x.0) ≡ Calm = ap manner_of x.2 ∙ is in
      subst KeepsIts x.2 (keeps_actor k x.0 x.1 mine (part_names rows place actors passed m a k (part_of x.0) (map_get part_of actors k x.0 x.1) mine) (ends_apart a.ends scene x.0 (a.work.fits k x.0 x.1)) (told_row scene w (names_at passed) passed m a.items x.0 (a.told k x.0 x.1) (a.work.stands k x.0 x.1)))

-- so it is at a moment
pub kept_at : (history : History) (rows : List QueueRow) (place : PoolPlace) (actors : List Actor) (journal : List Entry) (passed : Passed) (a : Around rows place actors passed (moved history journal)) → CastCarries rows place actors (moved history journal) passed → QueuesFlow history rows journal → IsKeptBeside history rows place (map part_of actors) journal
kept_at history rows place actors journal passed a carry flows = record {
  keeps = λ k p calm at.
      let x = map_from (λ y. keeper_beside (is_rogues (wild_in (hostiles (map part_of actors)) rows) place) (sheet (scene_of (map part_of actors)) y)) (map part_of actors) k p at in
      subst (λ (q : Keeper). Keeps q.hand (all_taken (owner_naming rows place (map part_of actors)) (moved history journal) q.ends) (all_put (owner_naming rows place (map part_of actors)) (moved history journal) q.ends)) x.2 (keeps_part rows place actors passed (moved history journal) a carry k x.0 x.1 calm);
  flows = flows;
  answers = λ n q ws is. (let x = answered rows place (map part_of actors) a.placed a.seated a.filled n q ws is in answers_few rows place actors passed (moved history journal) a place.blk a.placed.blk n q x.0 x.1);
}
