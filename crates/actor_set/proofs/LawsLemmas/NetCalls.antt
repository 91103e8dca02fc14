-- A device and a copier by their own calls: those of others are nothing to them.
use Rattle.std.proofs.Common.{◌≡◌, ◌+◌, ℕ, Option, Some, None, Bool, true, false, cond, List, [], ◌∷◌, ◌++◌, length, map, refl, sym, ap, ◌∙◌, subst, All, inl, inr}
use Rattle.std.specs.List.{filter}
use Rattle.std.specs.Option.{option_to_list}
use Rattle.wire_core.specs.declared.names.Event.{Event}
use Rattle.wire_core.specs.Bells.{bit}
use Rattle.wire_core.specs.Deeds.{Cargo}
use Rattle.wire_core.specs.Ends.{Role, Consumer, Producer, role_of}
use Rattle.wire_core.specs.Fates.{Reading, Other, Fate, noes_at, without, marked}
use Rattle.wire_core.specs.Lists.{Passed, nothing_passed}
use Rattle.wire_core.specs.Queues.{is_store}
use Rattle.wire_core.proofs.Reasons.{fate_own}
use Rattle.buffer_kit.specs.Entries.{all_filled}
use Rattle.device_model.specs.Ethernet.Devices.{DeviceStandsFor, TellsFrames, DeviceEnd, frame_mark, frames_dropped, rx_free, rx_active, tx_active, tx_free}
use Rattle.device_model.specs.declared.ethernet.EthDevice.{EthDevice}
use Rattle.device_model.proofs.EthernetLemmas.Dropping as eth
use Rattle.net_copier.specs.Copying.{CopierStandsFor, CopierEnd, TellsLeases, copier_word, lease_fate, leased_bytes, is_returning, is_waiting, is_stray}
use Rattle.net_copier.specs.declared.NetCopier.{NetCopier}
use Rattle.actor_set.specs.Actors.{ActsAlike}
use Rattle.actor_set.specs.declared.actor.Actor.TheVariants as Kinds
use Rattle.actor_set.proofs.LawsLemmas.NetBeside.{stands_pipe, stays_device}
use Rattle.actor_set.proofs.LawsLemmas.OthersCalls.{and_no, other_take, other_look, looks_own}

-- what became of the frames is by the device's own calls
module _ (d : EthDevice) (own : Event → Bool) (others : (e : Event) → own e ≡ false → DeviceEnd d (role_of e.op) e.queue.0 → is_store e.op ≡ true) where
  no_mark : (e : Event) → own e ≡ false → frame_mark d.drops (rx_free d) e ≡ []
  no_mark e not_own = rw (other_take (DeviceEnd d) own others (rx_free d) (inl refl) e not_own, other_look (DeviceEnd d) own others Consumer (rx_free d) (inl refl) e not_own, and_no d.drops) refl

  dropped_own : (es : List Event) → frames_dropped d es ≡ frames_dropped d (filter own es)
  dropped_own [] = refl
  dropped_own (e ∷ es) = by (own e) refl (dropped_own es)
    where
      by : (b : Bool) → own e ≡ b → frames_dropped d es ≡ frames_dropped d (filter own es) → frames_dropped d (e ∷ es) ≡ frames_dropped d (filter own (e ∷ es))
      by true o h = ap (λ bs. frame_mark d.drops (rx_free d) e ++ bs) h ∙ ap (λ b. frames_dropped d (cond b (e ∷ filter own es) (filter own es))) (sym o)
      by false o h = ap (λ bs. bs ++ frames_dropped d es) (no_mark e o) ∙ (h ∙ ap (λ b. frames_dropped d (cond b (e ∷ filter own es) (filter own es))) (sym o))

-- and what became of the leases by the copier's
module _ (c : NetCopier) (own : Event → Bool) (others : (e : Event) → own e ≡ false → CopierEnd c (role_of e.op) e.queue.0 → is_store e.op ≡ true) where
  abbrev la : ℕ
  la = c.lease_input.queue.0

  abbrev rf : ℕ
  rf = c.buffer_input.queue.0

  abbrev word : Reading
  word = copier_word c.drops la rf

  silent : (before : List Event) (e : Event) → own e ≡ false → word before e ≡ Other
  silent before e not_own = rw (other_take (CopierEnd c) own others la (inl refl) e not_own, other_take (CopierEnd c) own others rf (inr refl) e not_own, other_look (CopierEnd c) own others Consumer rf (inr refl) e not_own, and_no c.drops) refl

  fate_is : (es : List Event) → lease_fate c es ≡ lease_fate c (filter own es)
  fate_is es = fate_own word own silent (λ before e. refl) es

-- where its ends have the same lists, and it did the same by its calls, it stands for them
module _ (passed passed' : Passed) where
  pub stands_device : (d : EthDevice) → ActsAlike (Kinds.EthDevice d) passed.calls passed'.calls → ((n : ℕ) → DeviceEnd d Consumer n → passed'.taken n ≡ passed.taken n) → ((n : ℕ) → DeviceEnd d Producer n → passed'.sent n ≡ passed.sent n) → DeviceStandsFor d passed → DeviceStandsFor d passed'
  stands_device d same ins outs f =
      let gone : frames_dropped d passed'.calls ≡ frames_dropped d passed.calls = dropped_own d same.own same.others passed'.calls ∙ (ap (frames_dropped d) same.same ∙ sym (dropped_own d same.own same.others passed.calls)) in
      let noes : noes_at Consumer (rx_free d) passed'.calls ≡ noes_at Consumer (rx_free d) passed.calls =
      looks_own (DeviceEnd d) same.own same.others Consumer (rx_free d) (inl refl) passed'.calls ∙ (ap (noes_at Consumer (rx_free d)) same.same ∙ sym (looks_own (DeviceEnd d) same.own same.others Consumer (rx_free d) (inl refl) passed.calls)) in
      let free : passed'.taken (rx_free d) ≡ passed.taken (rx_free d) = ins (rx_free d) (inl refl) in
      record {
        filled = subst (λ (bs : List Bool). passed'.sent (rx_active d) ++ option_to_list d.load ≡ all_filled (without bs d.frames) (passed'.taken (rx_free d))) (sym gone) (rw (free, outs (rx_active d) (inl refl)) f.filled);
        takes = subst (λ (bs : List Bool). length (passed'.taken (rx_free d)) + marked bs ≡ d.next) (sym gone) (rw free f.takes);
        next = f.next;
        sends = record {
          moved = stands_pipe passed passed' d.wire.pipe (ins (tx_active d) (inr refl)) (outs (tx_free d) (inr refl)) f.sends.moved;
          recorded = rw (ins (tx_active d) (inr refl)) f.sends.recorded;
        };
        tells = λ on. let t = f.tells on in record { used = ap length gone ∙ t.used; each = noes ∙ (t.each ∙ ap marked (sym gone)) };
      }

  pub stands_copier : (c : NetCopier) → ActsAlike (Kinds.NetCopier c) passed.calls passed'.calls → ((n : ℕ) → CopierEnd c Consumer n → passed'.taken n ≡ passed.taken n) → ((n : ℕ) → CopierEnd c Producer n → passed'.sent n ≡ passed.sent n) → CopierStandsFor c passed → CopierStandsFor c passed'
  stands_copier c same ins outs f =
      let fate : lease_fate c passed'.calls ≡ lease_fate c passed.calls = fate_is c same.own same.others passed'.calls ∙ (ap (lease_fate c) same.same ∙ sym (fate_is c same.own same.others passed.calls)) in
      let noes : noes_at Consumer c.buffer_input.queue.0 passed'.calls ≡ noes_at Consumer c.buffer_input.queue.0 passed.calls =
      looks_own (CopierEnd c) same.own same.others Consumer c.buffer_input.queue.0 (inr refl) passed'.calls ∙ (ap (noes_at Consumer c.buffer_input.queue.0) same.same ∙ sym (looks_own (CopierEnd c) same.own same.others Consumer c.buffer_input.queue.0 (inr refl) passed.calls)) in
      let li : passed'.taken c.lease_input.queue.0 ≡ passed.taken c.lease_input.queue.0 = ins c.lease_input.queue.0 (inl refl) in
      let bi : passed'.taken c.buffer_input.queue.0 ≡ passed.taken c.buffer_input.queue.0 = ins c.buffer_input.queue.0 (inr refl) in
      let bo : passed'.sent c.buffer_output.queue.0 ≡ passed.sent c.buffer_output.queue.0 = outs c.buffer_output.queue.0 (inl refl) in
      let lo : passed'.sent c.lease_output.queue.0 ≡ passed.sent c.lease_output.queue.0 = outs c.lease_output.queue.0 (inr refl) in
      let gone : (lease_fate c passed'.calls).dropped ≡ (lease_fate c passed.calls).dropped = ap (λ (x : Fate). x.dropped) fate in
      record {
        leases = rw (li, lo) f.leases;
        copies = subst (λ (bs : List Bool). passed'.sent c.buffer_output.queue.0 ++ option_to_list c.buffer ≡ all_filled (map leased_bytes (without bs (passed'.taken c.lease_input.queue.0))) (passed'.taken c.buffer_input.queue.0)) (sym gone) (rw (li, bi, bo) f.copies);
        takes = rw (bi, bo) f.takes;
        puts = subst (λ (bs : List Bool). length (passed'.sent c.buffer_output.queue.0) + marked bs ≡ length (passed'.sent c.lease_output.queue.0) + bit (is_returning c)) (sym gone) (rw (bo, lo) f.puts);
        in_turn = rw lo f.in_turn;
        work = f.work;
        tells = λ on. let t = f.tells on in record {
          came = subst (λ (bs : List Bool). length bs + bit (is_waiting c) ≡ length (passed'.taken c.lease_input.queue.0)) (sym gone) (rw li t.came);
          waits = ap (λ (x : Fate). x.waits) fate ∙ t.waits;
          each = noes ∙ (t.each ∙ ap marked (sym gone));
        };
      }

none_of : (o : Option Cargo) → option_to_list o ≡ [] → o ≡ None
none_of None h = refl
none_of (Some x) h = cc

none_left : (bs : List Bool) (xs : List Cargo) → xs ≡ [] → without bs xs ≡ []
none_left bs [] e = nothing_left bs
  where
    nothing_left : (bs : List Bool) → without {X = Cargo} bs [] ≡ []
    nothing_left [] = refl
    nothing_left (b ∷ bs) = refl
none_left bs (x ∷ xs) e = cc

-- where nothing passed at its ends, it stands for nothing, by whichever calls; so does a device that
-- waits
module _ (passed : Passed) where
  pub device_anew : (d : EthDevice) → d.drops ≡ false → ((n : ℕ) → DeviceEnd d Consumer n → passed.taken n ≡ []) → ((n : ℕ) → DeviceEnd d Producer n → passed.sent n ≡ []) → DeviceStandsFor d passed → DeviceStandsFor d nothing_passed
  device_anew d waits ins outs f = eth.held_stands d nothing_passed waits (stays_device passed nothing_passed d (λ n e. sym (ins n e)) (λ n e. sym (outs n e)) (eth.stands_held d passed waits f))

  pub copier_anew : (c : NetCopier) → ((n : ℕ) → CopierEnd c Consumer n → passed.taken n ≡ []) → ((n : ℕ) → CopierEnd c Producer n → passed.sent n ≡ []) → CopierStandsFor c passed → CopierStandsFor c nothing_passed
  copier_anew c ins outs f =
      let li : passed.taken c.lease_input.queue.0 ≡ [] = ins c.lease_input.queue.0 (inl refl) in
      let bi : passed.taken c.buffer_input.queue.0 ≡ [] = ins c.buffer_input.queue.0 (inr refl) in
      let bo : passed.sent c.buffer_output.queue.0 ≡ [] = outs c.buffer_output.queue.0 (inl refl) in
      let lo : passed.sent c.lease_output.queue.0 ≡ [] = outs c.lease_output.queue.0 (inr refl) in
      let lease : c.lease ≡ None = none_of c.lease (ap (λ (xs : List Cargo). xs ++ option_to_list c.lease) (sym lo) ∙ (sym f.leases ∙ li)) in
      let gone : List Bool = (lease_fate c passed.calls).dropped in
      let left : without gone (passed.taken c.lease_input.queue.0) ≡ [] = none_left gone (passed.taken c.lease_input.queue.0) li in
      let buffer : option_to_list c.buffer ≡ [] = ap (λ (xs : List Cargo). xs ++ option_to_list c.buffer) (sym bo) ∙ (f.copies ∙ (ap (λ (xs : List Cargo). all_filled (map leased_bytes xs) (passed.taken c.buffer_input.queue.0)) left ∙ ap (all_filled []) bi)) in
      record {
        leases = sym (ap option_to_list lease);
        copies = buffer;
        takes = sym (ap length buffer);
        puts = rw lease refl;
        in_turn = subst (λ (xs : List Cargo). All (λ (x : Cargo). is_stray x ≡ false) xs) lo f.in_turn;
        work = f.work;
        tells = λ on. record { came = rw lease refl; waits = rw lease refl; each = refl };
      }
