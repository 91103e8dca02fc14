-- What a port gets, and what is lost, by the frames that the switch took.
use Rattle.std.proofs.Common.{◌≡◌, ◌+◌, ◌*◌, ◌<◌, ◌≤◌, ◌^◌, ◌-◌, ℕ, Some, List, [], length, map, min, slice_get, sum_by, sym, ap, ◌∙◌, subst, arith}
use Rattle.std.specs.List.{count_by}
use Rattle.std.proofs.lemmas.List.{length-map}
use Rattle.std.proofs.lemmas.List.Sums.{count_by-le-length}
use Rattle.cargo_core.specs.Lists.{IsPrefix, PrefixMerge}
use Rattle.frame_core.specs.declared.mac.Mac.{Mac}
use Rattle.line_text.specs.declared.ports_text.ports.Ports.{Ports}
use Rattle.wire_core.specs.Deeds.{Cargo}
use Rattle.wire_core.specs.Ends.{Role, End}
use Rattle.wire_core.specs.Lists.{Passed}
use Rattle.wire_core.specs.Marks.{sum_below}
use Rattle.play_core.proofs.Lists.{some_is, map_get, map_from, prefix_trans, there_below}
use Rattle.play_core.proofs.Walks.{begins_few}
use Rattle.play_core.proofs.Merges.{prefix_merge, prefix_merge_wider}
use Rattle.owner_law.proofs.PoolsLemmas.Merging.{kept_is}
use Rattle.buffer_kit.specs.Clients.{capped}
use Rattle.buffer_kit.specs.Entries.{all_filled, frame_of}
use Rattle.client_programs.specs.declared.net.NetClient.{NetClient}
use Rattle.client_programs.specs.Net.Clients.{ClientStandsFor}
use Rattle.net_switch.specs.SwitchDesk.Frames as desk
use Rattle.net_switch.specs.SwitchDesk.Frames.{Sent, frames_to, entries_from, sent_to}
use Rattle.switched_law.specs.SwitchLaw.Ports.{AreFirst, all_to}
use Rattle.net_switch.specs.declared.switch.NetSwitch.{NetSwitch}
use Rattle.net_switch.specs.Ends.{come_queues}
use Rattle.switched_law.specs.SwitchMoment.Scene.{buffer_size, IsClientOf, IsSwitched}
use Rattle.switched_law.specs.SwitchMoment.Takes.{FromPort, told, frames_taken, reaches_none, reaching, frames_in, sent_by}
use Rattle.net_law.proofs.Filled.{frames_are}
use Rattle.net_law.proofs.Beginnings.{begins_map}
use Rattle.switched_law.proofs.SwitchMoment.Taking.{taken_same}
use Rattle.switched_law.proofs.SwitchMoment.Sized.{AreShort, roomy}
use Rattle.switched_law.proofs.SwitchMoment.Sums.{sum_lengths}
use Rattle.switched_law.proofs.SwitchMoment.Telling.{each_at, frames_each, reaching_told, frames_told, sent_told, lost_count}
use Rattle.switched_law.proofs.SwitchMoment.Counting.{AreWithin, all_parts}
use Rattle.switched_law.proofs.SwitchMoment.Ports.{log, came, called, flow, holds, filled, used_long, copies, room_long, ports_many}

module _ (ports : Ports) (ends : Role → ℕ → End) (v : NetSwitch) (passed : Passed) (h : IsSwitched ports ends v passed) where
  abbrev taken : List Sent
  taken = log ports ends v passed h

  module _ (port : ℕ) (less : port < length ports.macs) where
    abbrev frames : List (List ℕ)
    frames = (h.clients port less).is.frames

    short : AreShort buffer_size frames
    short k f at = h.playable.short port frames (h.clients port less).is.sends k f at

    -- what the client put are the first of its frames
    pub puts_first : IsPrefix (map frame_of (passed.sent (4 * port))) frames
    puts_first =
        let used = (holds ports ends v passed h port less).sends.used in
        prefix_trans (map frame_of (passed.sent (4 * port))) (map frame_of (all_filled frames used)) frames
        (begins_map frame_of (passed.sent (4 * port)) (all_filled frames used) (filled ports ends v passed h port less))
        (frames_are frames used (roomy buffer_size frames used short (used_long ports ends v passed h port less)))

    -- and so is what the switch took from it
    pub takes_first : IsPrefix (map frame_of (passed.taken (4 * port))) frames
    takes_first = prefix_trans (map frame_of (passed.taken (4 * port))) (map frame_of (passed.sent (4 * port))) frames
        (begins_map frame_of (passed.taken (4 * port)) (passed.sent (4 * port)) (flow ports ends v passed h 0 port)) puts_first

  pub below : (port : ℕ) (fs : List (List ℕ)) → slice_get ports.sends port ≡ Some fs → port < length ports.macs
  below port fs at = let a = there_below ports.sends port fs at in let b = h.playable.as_many in omega (arith, a, b)

  pub first : (port : ℕ) (fs : List (List ℕ)) → slice_get ports.sends port ≡ Some fs → IsPrefix (map (λ (c : Cargo). frame_of c) (passed.taken (4 * port))) fs
  first port fs at =
      let less = below port fs at in
      subst (IsPrefix (map frame_of (passed.taken (4 * port)))) (some_is (sym (h.clients port less).is.sends ∙ at)) (takes_first port less)

  -- what the switch took, by its calls
  pub log_told : map told taken ≡ frames_taken ports.sends passed.calls
  log_told = taken_same (come_queues v.ends) ports.sends passed.taken (ports_many ports ends v passed h ∙ sym h.playable.as_many)
      (λ port less. h.switch.come.each port (let b = h.playable.as_many in omega (arith, less, b)))
      h.fits.ends_fit.come.apart first [] passed.calls
      (λ port less. let e = called ports ends v passed h port (let b = h.playable.as_many in omega (arith, less, b)) in omega (arith, e))

  abbrev IsFit : FromPort → Type 0
  IsFit x = (x.0 < length ports.macs) × (length x.1 ≤ buffer_size)

  log_fits : (k : ℕ) (x : Sent) → slice_get taken k ≡ Some x → IsFit (told x)
  log_fits k x at =
      each_at IsFit (frames_taken ports.sends passed.calls)
      (frames_each IsFit ports.sends (λ port fs j f there got. (below port fs there, h.playable.short port fs there j f got)) [] passed.calls)
      k (told x) (ap (λ l. slice_get l k) (sym log_told) ∙ map_get told taken k x at)

  pub within : AreWithin (length ports.macs) taken
  within k x at = (log_fits k x at).0

  pub are_first : AreFirst ports.sends taken
  are_first = record {
    ports = λ k x at. (let a = within k x at in let b = h.playable.as_many in omega (arith, a, b));
    firsts = λ port fs at. subst (λ l. IsPrefix (map (λ (c : Cargo). frame_of c) l) fs) (sym (came ports ends v passed h port (below port fs at))) (first port fs at);
  }

  -- it took no more than all that is sent
  pub few_taken : length taken ≤ sum_by length ports.sends
  few_taken =
      let parts = all_parts (length ports.macs) taken within in
      let f : ℕ → ℕ = λ p. length (entries_from p taken) in
      let sum = sum_lengths ports.sends f (λ p fs at.
      let less = below p fs at in
      let e = ap (λ l. length l) (came ports ends v passed h p less) in
      let few = begins_few (map (λ (c : Cargo). frame_of c) (passed.taken (4 * p))) fs (first p fs at) in
      let long = length-map (passed.taken (4 * p)) (λ (c : Cargo). frame_of c) in
      omega (arith, e, few, long)) in
      let many : sum_below f (length ports.sends) ≡ sum_below f (length ports.macs) = ap (sum_below f) h.playable.as_many in
      omega (arith, parts, sum, many)

  short_to : (port : ℕ) → AreShort buffer_size (frames_to v.desk.macs.items port taken)
  short_to port k f at =
      let x = map_from (λ (y : Sent). frame_of y.1) (sent_to v.desk.macs.items port taken) k f at in
      let kept = kept_is (desk.goes_to v.desk.macs.items port) taken k x.0 x.1 in
      subst (λ l. length l ≤ buffer_size) x.2 (log_fits kept.1.0 x.0 kept.1.1).1

  -- what comes to a port are the first of the frames that go there
  pub comes_first : (port : ℕ) → port < length ports.macs → IsPrefix (map frame_of (passed.taken (4 * port + 2))) (frames_to ports.macs port taken)
  comes_first port less =
      let all = frames_to v.desk.macs.items port taken in
      let room = passed.taken (4 * port + 3) in
      subst (λ macs. IsPrefix (map frame_of (passed.taken (4 * port + 2))) (frames_to macs port taken)) h.switch.macs_are
      (prefix_trans (map frame_of (passed.taken (4 * port + 2))) (map frame_of (all_filled all room)) all
      (begins_map frame_of (passed.taken (4 * port + 2)) (all_filled all room)
      (prefix_trans (passed.taken (4 * port + 2)) (passed.sent (4 * port + 2)) (all_filled all room) (flow ports ends v passed h 2 port) (copies ports ends v passed h port less)))
      (frames_are all room (roomy buffer_size all room (short_to port) (room_long ports ends v passed h port less))))

  -- those that go there, by the calls
  pub frames_there : (port : ℕ) (mac : Mac) → slice_get ports.macs port ≡ Some mac → frames_to ports.macs port taken ≡ frames_in (reaching ports.macs port (frames_taken ports.sends passed.calls))
  frames_there port mac at =
      sym (frames_told (sent_to ports.macs port taken))
      ∙ ap frames_in (sym (reaching_told ports.macs port mac at taken) ∙ ap (reaching ports.macs port) log_told)

  -- what it took of a port
  pub sent_is : (port : ℕ) → port < length ports.macs → sent_by port (frames_taken ports.sends passed.calls) ≡ map frame_of (passed.taken (4 * port))
  sent_is port less = ap (sent_by port) (sym log_told) ∙ (sent_told port taken ∙ ap (map frame_of) (came ports ends v passed h port less))

  pub sent_first : (port : ℕ) (fs : List (List ℕ)) → slice_get ports.sends port ≡ Some fs → IsPrefix (sent_by port (frames_taken ports.sends passed.calls)) fs
  sent_first port fs at = subst (λ l. IsPrefix l fs) (sym (sent_is port (below port fs at))) (first port fs at)

  pub frames_few : length (frames_taken ports.sends passed.calls) ≤ sum_by length ports.sends
  frames_few = let few = few_taken in let e = ap (λ l. length l) log_told in let m = length-map taken told in omega (arith, few, e, m)

  -- a client at the port records what comes
  pub recorded : (port : ℕ) (c : NetClient) → IsClientOf ports port c → ClientStandsFor c passed → c.frames.tape.shown ≡ map frame_of (passed.taken (4 * port + 2))
  recorded port c is st = st.got ∙ ap (λ n. map frame_of (passed.taken n)) is.rx_active_is

  pub there : (port : ℕ) (c : NetClient) → IsClientOf ports port c → port < length ports.macs
  there port c is = there_below ports.macs port is.mac is.address

  pub record_first : (port : ℕ) (c : NetClient) → IsClientOf ports port c → ClientStandsFor c passed → IsPrefix c.frames.tape.shown (frames_in (reaching ports.macs port (frames_taken ports.sends passed.calls)))
  record_first port c is st =
      subst (λ l. IsPrefix l (frames_in (reaching ports.macs port (frames_taken ports.sends passed.calls)))) (sym (recorded port c is st))
      (subst (IsPrefix (map frame_of (passed.taken (4 * port + 2)))) (frames_there port is.mac is.address) (comes_first port (there port c is)))

  -- the record is a merge of beginnings
  module _ (merges : (macs : List Mac) (receiver : ℕ) (mac : Mac) (sends : List (List (List ℕ))) (sent : List Sent) → length macs ≡ length sends → slice_get macs receiver ≡ Some mac → AreFirst sends sent → PrefixMerge (all_to 0 receiver mac sends) (frames_to macs receiver sent)) where
    pub record_merges : (port : ℕ) (mac : Mac) → slice_get ports.macs port ≡ Some mac → (c : NetClient) → IsClientOf ports port c → ClientStandsFor c passed → PrefixMerge (all_to 0 port mac ports.sends) c.frames.tape.shown
    record_merges port mac at c is st =
        let all = merges ports.macs port mac ports.sends taken (sym h.playable.as_many) at are_first in
        let some = prefix_merge all.parts (frames_to ports.macs port taken) all.merged (map frame_of (passed.taken (4 * port + 2))) (comes_first port (there port c is)) in
        subst (PrefixMerge (all_to 0 port mac ports.sends)) (sym (recorded port c is st))
        (prefix_merge_wider all.parts (all_to 0 port mac ports.sends) (map frame_of (passed.taken (4 * port + 2))) all.as_many all.begins some)

  -- what is lost
  pub lost_is : v.desk.lost ≡ count_by (reaches_none ports.macs) (frames_taken ports.sends passed.calls)
  lost_is =
      let n = count_by (desk.is_lost ports.macs) taken in
      let few = count_by-le-length (desk.is_lost ports.macs) taken in
      let all = few_taken in
      let most = h.playable.few in
      let cap : capped n ≡ n = least n (2 ^ 64 - 1) (below_end n (2 ^ 64) (omega (arith, few, all, most))) in
      h.stands.desk.lost ∙ (ap (λ macs. capped (count_by (desk.is_lost macs) taken)) h.switch.macs_are
      ∙ (cap ∙ (lost_count ports.macs taken ∙ ap (count_by (reaches_none ports.macs)) log_told)))
    where
      least : (a b : ℕ) → a ≤ b → min a b ≡ a
      least a b le = omega (arith, le)

      below_end : (a b : ℕ) → a < b → a ≤ b - 1
      below_end a b less = omega (arith, less)
