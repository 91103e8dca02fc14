-- A cast that has the whole network, of whose queues none has a hostile end, has it among its actors;
-- and where nobody else is runnable these recorded all.
use Rattle.std.proofs.Common.{◌≡◌, ◌+◌, ◌*◌, ◌<◌, ◌≤◌, ℕ, Bool, false, Some, inl, inr, List, [], length, map, slice_get, refl, sym, ap, ◌∙◌, subst, arith}
use Rattle.cargo_core.specs.Lists.{IsPrefix, Merge, PrefixMerge}
use Rattle.frame_core.specs.declared.mac.Mac.{Mac}
use Rattle.wire_core.specs.declared.names.QueueRow.{QueueRow}
use Rattle.wire_core.specs.declared.names.Entry.{Entry}
use Rattle.wire_core.specs.Ends.{Role, Consumer, End}
use Rattle.wire_core.specs.Journal.{History, Hostiles}
use Rattle.wire_core.specs.Lists.{Passed}
use Rattle.play_core.specs.Manners.{Calm}
use Rattle.play_core.specs.Moved.{Moved, moved, gone_at}
use Rattle.play_core.specs.Names.{Names, Wild, wild_in}
use Rattle.play_core.specs.Sheets.{Scene, RowsHold, needful}
use Rattle.play_core.specs.Still.{IsStill, Plays}
use Rattle.play_core.specs.Wants.{Needful}
use Rattle.play_core.specs.Rests.Showing.{HaveItems}
use Rattle.play_core.proofs.Lists.{there_below}
use Rattle.class_expect.specs.NetExpect.Expecting.{Program}
use Rattle.net_law.specs.Dropped.{left_for, told_used}
use Rattle.net_law.specs.Parts.Rows.{FillsOut, FillsSome, accepted_by, sized_items}
use Rattle.net_law.specs.Owners.Names.{ClientPools}
use Rattle.net_law.specs.Parts.Numbers.{client_first, device_at, driver_at, receiver_at, copier_at, client_at, policy_at}
use Rattle.net_law.specs.TxParts.Numbers.{NetPlace, own_pools, sender_at}
use Rattle.net_quiet.specs.TxCast.Casting.{IsClientOf, NoneHostile, net_marks, net_used, sends_at}
use Rattle.net_quiet.specs.Still.{HasPools, HasRooms, IsNetwork, device_gone}
use Rattle.net_quiet.proofs.Wholes.{record_whole, wire_whole}
use Rattle.actor_set.specs.Parts.{Part, NetworkPart, SendingPart}
use Rattle.actor_set.specs.Actors.{part_of}
use Rattle.actor_set.specs.declared.actor.Actor.{Actor}
use Rattle.actor_set.specs.Laws.Kinds.{hostiles, manner_of, sheet}
use Rattle.actor_set.specs.Laws.Records.{frames_got, frames_by}
use Rattle.actor_set.specs.Laws.Scenes.{NoneWild}
use Rattle.actor_set.proofs.LawsLemmas.Rows.{frames_here}
use Rattle.wired_law.specs.Wiring.{HasPart, HasWholeIn, IsOfNetwork, ClientsSendIn, AreAtWork, told_in}
use Rattle.wired_law.proofs.Wiring.{net_turns, recorded, sends_calm_here, sent_beside, shipper_is, whole_there, kept_all}
use Rattle.wired_law.proofs.QuietLemmas.Rows.{calm_queue, plain_row, plays_plain, row_there}

-- where none of the network's queues has a hostile end, no client of it is hostile
pub none_wild : (hostile : Hostiles) (rows : List QueueRow) (net : NetPlace) → HasPools net → HasRooms hostile rows net → NoneHostile (wild_in hostile rows) net
none_wild hostile rows net pools rooms k below =
    let many = pools.pools_many in
    let n : net.first + (12 + 6 * k) ≡ client_first net.first k + 4 = omega arith in
    subst (λ i. wild_in hostile rows i ≡ false) n (calm_queue hostile rows (net.first + (12 + 6 * k)) 1 (rooms.each (12 + 6 * k) (omega (arith, below, many))))

-- the network among a cast's actors, of which each has its row
module _ (scene : Scene) (rows : List QueueRow) (cast : List Part) (names : Names) (m : Moved) (net : NetPlace) (whole : HasWholeIn scene rows net cast) (pools : HasPools net) (rooms : HasRooms (hostiles cast) rows net) where
  abbrev wild : Wild
  wild = wild_in (hostiles cast) rows

  none_here : NoneHostile wild net
  none_here = none_wild (hostiles cast) rows net pools rooms

  sender_none : NoneWild wild (SendingPart (sender_at net.first net.most net.pools))
  sender_none j c at =
      let is = shipper_is net.first net.most 0 net.pools j c at in
      let plus : 0 + j ≡ j = omega arith in
      ap wild (is.0 ∙ ap (λ n. client_first net.first n + 4) plus) ∙ none_here j is.2

  module _ (row : (k : ℕ) (p : Part) → IsOfNetwork net scene.frames p → manner_of p ≡ Calm → NoneWild wild p → slice_get cast k ≡ Some p → (sheet scene p).row m) where
    plays : (p : Part) → IsOfNetwork net scene.frames p → manner_of p ≡ Calm → NoneWild wild p → HasPart cast p → Plays (hostiles cast) (needful (told_in scene rows cast names) cast m) m (sheet scene p)
    plays p of calm none has = plays_plain scene rows cast names m p calm none has (row has.0 p of calm none has.1)

    accepted_all : (marks : List Bool) (frames : List (List ℕ)) → accepted_by net.device_drops marks frames ≡ frames
    accepted_all marks frames = ap (λ b. accepted_by b marks frames) whole.waits

    -- a device that waits filled what it took, with no frame marked
    fills_all : FillsOut [] net.device_drops (device_gone net m) scene.frames (m.taken net.first) (m.sent (net.first + 1)) (m.taken (net.first + 2)) (m.sent (net.first + 3))
    fills_all =
        let some : FillsSome net.device_drops (device_gone net m) scene.frames (m.taken net.first) (m.sent (net.first + 1)) (m.taken (net.first + 2)) (m.sent (net.first + 3)) = row whole.device.0 (NetworkPart (device_at net.first scene.frames net.device_drops)) (inl refl) refl tt whole.device.1 in
        let out = some.out in
        let all : accepted_by net.device_drops some.marks scene.frames ≡ accepted_by net.device_drops [] scene.frames = accepted_all some.marks scene.frames ∙ sym (accepted_all [] scene.frames) in
        record {
          filled = subst (λ (fs : List (List ℕ)). IsPrefix (m.sent (net.first + 1)) (sized_items (map (λ frame. length frame) fs) (m.taken net.first))) all out.filled;
          takes = subst (λ (fs : List (List ℕ)). length (m.taken net.first) ≤ length fs) all out.takes;
          used = out.used;
          settled = omega arith;
          as_many = sym (ap (λ b. gone_at b m Consumer net.first) whole.waits);
          returns = out.returns;
        }

    pub network_in : IsNetwork (hostiles cast) scene scene.frames [] rows (needful (told_in scene rows cast names) cast m) net m
    network_in = record {
      pools = pools;
      rooms = rooms;
      device = plays (NetworkPart (device_at net.first scene.frames net.device_drops)) (inl refl) refl tt whole.device;
      fills = fills_all;
      accepted = sym (accepted_all [] scene.frames);
      driver = plays (NetworkPart (driver_at net.first)) (inr (inl refl)) refl tt whole.driver;
      receiver = plays (NetworkPart (receiver_at net.first net.pool net.macs)) (inr (inr (inl refl))) refl tt whole.receiver;
      sender = plays (SendingPart (sender_at net.first net.most net.pools)) (inr (inr (inr (inl refl)))) refl sender_none whole.sender;
      copier = λ k lt. plays (NetworkPart (copier_at net.first k (policy_at net.drops k))) (inr (inr (inr (inr (inl (k, lt, refl)))))) refl tt (whole.copier k lt);
      client = λ k program mac q of. (
          let below : k < length net.pools = there_below net.pools k q of.pools in
          plays (NetworkPart (client_at net.first k program mac (own_pools q))) (inr (inr (inr (inr (inr (k, program, mac, q, of, refl)))))) refl tt (whole.client k program mac q of (none_here k below))
          );
    }

pub network_there : (scene : Scene) (rows : List QueueRow) (cast : List Part) (names : Names) (m : Moved) (net : NetPlace) → HasWholeIn scene rows net cast → HasPools net → HasRooms (hostiles cast) rows net → RowsHold (told_in scene rows cast names) (hostiles cast) cast m → IsNetwork (hostiles cast) scene scene.frames [] rows (needful (told_in scene rows cast names) cast m) net m
network_there scene rows cast names m net whole pools rooms holds = network_in scene rows cast names m net whole pools rooms (λ k p of calm none at. plain_row scene rows cast names m holds k p calm none at)

-- actors that stand for what passed
module _ (scene : Scene) (ends : Role → ℕ → End) (history : History) (rows : List QueueRow) (actors : List Actor) (journal : List Entry) (passed : Passed) (names : Names) (net : NetPlace) (whole : HasWholeIn scene rows net (map part_of actors)) (pools : HasPools net) (rooms : HasRooms (hostiles (map part_of actors)) rows net) (work : AreAtWork ends rows actors passed) (send : ClientsSendIn scene rows (map part_of actors) passed) (items : HaveItems passed (moved history journal)) where
  abbrev cast : List Part
  cast = map part_of actors

  abbrev frames : List (List ℕ)
  frames = scene.frames

  abbrev needs : Needful
  needs = needful (told_in scene rows cast names) cast (moved history journal)

  none : NoneHostile (wild_in (hostiles cast) rows) net
  none = none_wild (hostiles cast) rows net pools rooms

  -- no frame is marked by calls, as the device waits
  none_used : net_used net passed.calls ≡ []
  none_used = ap (λ b. told_used b net.first passed.calls) whole.waits

  there : IsNetwork (hostiles cast) scene frames (net_used net passed.calls) rows needs net (moved history journal)
  there = subst (λ marks. IsNetwork (hostiles cast) scene frames marks rows needs net (moved history journal)) (sym none_used) (network_in scene rows cast names (moved history journal) net whole pools rooms (λ k p of calm plain at.
      row_there scene ends rows actors passed (moved history journal) work items k p
      (λ x x_at part. net_turns scene ends rows actors passed work net whole (send.frames net whole) none x (work.fits k x x_at) (work.stands k x x_at) (subst (IsOfNetwork net frames) (sym part) of)) at))

  module _ (still : IsStill (hostiles cast) history rows needs journal) where
    pub recorded_whole : (k c : ℕ) (x : Actor) (program : Program) (mac : Mac) (q : ClientPools) → slice_get actors k ≡ Some x → IsClientOf net c program mac q → part_of x ≡ NetworkPart (client_at net.first c program mac (own_pools q)) → frames_got x ≡ left_for (net_marks net passed.calls c) mac frames
    recorded_whole k c x program mac q at of part =
        let begun = recorded ends rows actors passed net whole work k c x program mac (own_pools q) at part (whole.some c q of.pools) (whole.fits_client c q of.pools).0 of.address in
        let got = frames_here passed x (work.stands k x at) ∙ ap (frames_by passed) part in
        record_whole (hostiles cast) history rows needs journal scene frames net passed still there items (whole_there scene ends rows actors passed work net whole) c mac of.address (frames_got x) (client_first net.first c + 2) refl got (subst (λ fs. IsPrefix (frames_got x) (left_for (net_marks net passed.calls c) mac fs)) (kept_all scene ends rows actors passed work net whole) begun)

    pub sent_whole : (k : ℕ) (x : Actor) → slice_get actors k ≡ Some x → part_of x ≡ NetworkPart (device_at net.first frames net.device_drops) → Merge (sends_at (net_marks net passed.calls) 0 net.programs net.macs frames) (frames_got x)
    sent_whole k x at part =
        let begun = subst (λ l. PrefixMerge l (frames_got x)) (sends_calm_here scene ends rows actors passed work net whole none ∙ ap (sends_at (net_marks net passed.calls) 0 net.programs net.macs) (kept_all scene ends rows actors passed work net whole)) (sent_beside ends rows actors passed net whole work send k x at part) in
        let got = frames_here passed x (work.stands k x at) ∙ ap (frames_by passed) part in
        wire_whole (hostiles cast) history rows needs journal scene frames net passed still there items (whole_there scene ends rows actors passed work net whole) (frames_got x) (net.first + 2) refl got begun
