-- What was dropped of the bytes for serial clients, and of the frames for network clients, is what the
-- calls tell.
use Rattle.std.proofs.Common.{◌≡◌, ◌≤◌, ◌+◌, ◌++◌, ℕ, Bool, true, false, cond, Some, List, [], ◌∷◌, length, map, slice_get, refl, sym, ap, ◌∙◌, subst, append_assoc, arith}
use Rattle.std.proofs.lemmas.List.{append-nil, length-map, map-append}
use Rattle.wire_core.specs.declared.names.Entry.{Entry}
use Rattle.wire_core.specs.declared.names.Event.{Event}
use Rattle.wire_core.specs.Bells.{bit}
use Rattle.wire_core.specs.Ends.{Role, Consumer, Producer}
use Rattle.wire_core.specs.Fates.{Fate, fate_of, marked, noes_at}
use Rattle.wire_core.specs.Journal.{EachMoment, History, history_at}
use Rattle.wire_core.specs.Deeds.{Cargo}
use Rattle.wire_core.specs.Lists.{Passed}
use Rattle.wire_core.specs.Queues.{items_of}
use Rattle.class_expect.specs.SerialSwitch.Carried.{byte_of, bytes_carried}
use Rattle.serial_virt.specs.Shares.{heard, policy_at}
use Rattle.wire_core.proofs.Tracks.{EachFrom-append}
use Rattle.serial_virt.specs.declared.rx.SerialVirtRx.{SerialVirtRx}
use Rattle.serial_virt.specs.Receiving.{RxStandsFor}
use Rattle.serial_virt.proofs.Sharing.{rx_row}
use Rattle.play_core.specs.Looks.{events_of}
use Rattle.play_core.specs.Moved.{Moved, moved, noes_of}
use Rattle.play_core.proofs.Looking.{track_looks}
use Rattle.play_core.specs.Rests.Showing.{HaveItems}
use Rattle.play_core.proofs.Lists.{map_from}
use Rattle.serial_law.specs.Bytes.{bytes_in}
use Rattle.serial_law.specs.Table.{SharesOut}
use Rattle.serial_law.specs.Dropped.{client_queues, told_marks}
use Rattle.serial_law.proofs.Telling.{told_shares}
use Rattle.net_copier.specs.Copying.{CopierStandsFor, copier_word, is_waiting, leases_dropped}
use Rattle.net_copier.specs.declared.NetCopier.{NetCopier}
use Rattle.net_law.specs.Dropped.{told_leases}
use Rattle.net_law.specs.Parts.Parts.{NetPart, NetDevice, NetDriver, NetReceiver, NetClient}
use Rattle.net_law.specs.Parts.Parts as parts
use Rattle.actor_set.specs.Actors.{ActorStandsFor, part_of}
use Rattle.actor_set.specs.Parts.{Part, UartPart, DriverPart, RxPart, TxPart, ClientPart, NetworkPart, SendingPart, BlockPart, HostilePart}
use Rattle.actor_set.specs.declared.actor.Actor.{Actor}
use Rattle.actor_set.specs.declared.actor.Actor.TheVariants as Kinds
use Rattle.system_core.specs.Shows.{Shown}
use Rattle.system_core.specs.Lawful.{StandsLawful}
use Rattle.system_core.specs.Dropped.{HaveTold, LeasesStand, MarksStand, SettlesLeases, calls_by}

-- a receiving virtualiser shares out by the marks that its calls tell
shares_told : (v : SerialVirtRx) (passed : Passed) (m : Moved) → HaveItems passed m → RxStandsFor v passed
    → SharesOut (told_marks v.input.queue.0 (client_queues v) v.drops.items passed.calls) v.drops.items v.input.queue.0 (client_queues v) m
shares_told v passed m items st = told_shares v passed m (record { taken = items.taken v.input.queue.0; sent = λ k q at. items.sent q; noes = λ k q at. items.noes Producer q }) (rx_row v passed st)

-- the queues and the policies of a part that is a receiving virtualiser
abbrev RxIs : Type 0
RxIs = ℕ × List ℕ × List Bool

abbrev rx_is : Part → RxIs
rx_is (RxPart rx clients drops) = (rx, clients, drops)
rx_is (UartPart rx tx input) = (0, [], [])
rx_is (DriverPart device_rx device_tx rx tx) = (0, [], [])
rx_is (TxPart tx clients) = (0, [], [])
rx_is (ClientPart rx tx script) = (0, [], [])
rx_is (NetworkPart p) = (0, [], [])
rx_is (SendingPart p) = (0, [], [])
rx_is (BlockPart p) = (0, [], [])
rx_is (HostilePart p) = (0, [], [])

module _ (passed : Passed) (m : Moved) (items : HaveItems passed m) where
  abbrev Shares : RxIs → Type 0
  Shares z = SharesOut (told_marks z.0 z.1 z.2 passed.calls) z.2 z.0 z.1 m

  by_part : (rx : ℕ) (clients : List ℕ) (drops : List Bool) (x : Actor) → ActorStandsFor x passed → part_of x ≡ RxPart rx clients drops → Shares (rx, clients, drops)
  by_part rx clients drops (Kinds.SerialVirtRx v) st is = subst Shares (ap rx_is is) (shares_told v passed m items st)
  by_part rx clients drops (Kinds.UartDevice x) st is = cc
  by_part rx clients drops (Kinds.UartDriver x) st is = cc
  by_part rx clients drops (Kinds.SerialVirtTx x) st is = cc
  by_part rx clients drops (Kinds.SerialClient x) st is = cc
  by_part rx clients drops (Kinds.EthDevice x) st is = cc
  by_part rx clients drops (Kinds.EthDriver x) st is = cc
  by_part rx clients drops (Kinds.NetVirtRx x) st is = cc
  by_part rx clients drops (Kinds.NetCopier x) st is = cc
  by_part rx clients drops (Kinds.NetClient x) st is = cc
  by_part rx clients drops (Kinds.NetVirtTx x) st is = cc
  by_part rx clients drops (Kinds.DiskDevice x) st is = cc
  by_part rx clients drops (Kinds.BlkDriver x) st is = cc
  by_part rx clients drops (Kinds.BlkVirt x) st is = cc
  by_part rx clients drops (Kinds.BlkClient x) st is = cc
  by_part rx clients drops (Kinds.Rogue x) st is = cc

  pub marks_at : (actors : List Actor) → ((k : ℕ) (x : Actor) → slice_get actors k ≡ Some x → ActorStandsFor x passed) → (k rx : ℕ) (clients : List ℕ) (drops : List Bool) → slice_get (map part_of actors) k ≡ Some (RxPart rx clients drops) → SharesOut (told_marks rx clients drops passed.calls) drops rx clients m
  marks_at actors stands k rx clients drops at = let y = map_from part_of actors k (RxPart rx clients drops) at in by_part rx clients drops y.0 (stands k y.0 y.1) y.2

-- the bytes that entries carry are those of their items
carried : (cs : List Cargo) → bytes_carried cs ≡ bytes_in (items_of cs)
carried [] = refl
carried (c ∷ cs) = ap (λ bs. byte_of c.0 ++ bs) (carried cs)

-- what was taken at a virtualiser's input the calls tell, where it may drop
hears_at : (passed : Passed) (m : Moved) → HaveItems passed m → (rx : ℕ) (clients : List ℕ) (drops : List Bool) (x : Actor) → ActorStandsFor x passed → part_of x ≡ RxPart rx clients drops → (c : ℕ) → policy_at drops c ≡ true → heard rx passed.calls ≡ bytes_in (m.taken rx)
hears_at passed m items rx clients drops (Kinds.SerialVirtRx v) st is c on =
    subst (λ (z : RxIs). policy_at z.2 c ≡ true → heard z.0 passed.calls ≡ bytes_in (m.taken z.0)) (ap rx_is is)
    (λ drops_it. st.told c drops_it ∙ (carried (passed.taken v.input.queue.0) ∙ ap bytes_in (items.taken v.input.queue.0))) on
hears_at passed m items rx clients drops (Kinds.UartDevice x) st is c on = cc
hears_at passed m items rx clients drops (Kinds.UartDriver x) st is c on = cc
hears_at passed m items rx clients drops (Kinds.SerialVirtTx x) st is c on = cc
hears_at passed m items rx clients drops (Kinds.SerialClient x) st is c on = cc
hears_at passed m items rx clients drops (Kinds.EthDevice x) st is c on = cc
hears_at passed m items rx clients drops (Kinds.EthDriver x) st is c on = cc
hears_at passed m items rx clients drops (Kinds.NetVirtRx x) st is c on = cc
hears_at passed m items rx clients drops (Kinds.NetCopier x) st is c on = cc
hears_at passed m items rx clients drops (Kinds.NetClient x) st is c on = cc
hears_at passed m items rx clients drops (Kinds.NetVirtTx x) st is c on = cc
hears_at passed m items rx clients drops (Kinds.DiskDevice x) st is c on = cc
hears_at passed m items rx clients drops (Kinds.BlkDriver x) st is c on = cc
hears_at passed m items rx clients drops (Kinds.BlkVirt x) st is c on = cc
hears_at passed m items rx clients drops (Kinds.BlkClient x) st is c on = cc
hears_at passed m items rx clients drops (Kinds.Rogue x) st is c on = cc

-- a copier settles its leases so as its calls tell
settles_told : (c : NetCopier) (passed : Passed) (m : Moved) → HaveItems passed m → CopierStandsFor c passed → SettlesLeases c.lease_input.queue.0 c.buffer_input.queue.0 c.drops passed.calls m
settles_told c passed m items st = record { as_many = many c.drops refl; few = fits c.drops refl; all = counted }
  where
    long : length (passed.taken c.lease_input.queue.0) ≡ length (m.taken c.lease_input.queue.0)
    long = sym (length-map (passed.taken c.lease_input.queue.0) (λ (e : Cargo). e.0)) ∙ ap length (items.taken c.lease_input.queue.0)

    many : (b : Bool) → c.drops ≡ b → marked (cond b (leases_dropped c passed.calls) []) ≡ cond b (m.noes Consumer c.buffer_input.queue.0) 0
    many true on = sym (st.tells on).each ∙ items.noes Consumer c.buffer_input.queue.0
    many false waits = refl

    fits : (b : Bool) → c.drops ≡ b → length (cond b (leases_dropped c passed.calls) []) ≤ length (m.taken c.lease_input.queue.0)
    fits true on = let came = (st.tells on).came in let same = long in omega (arith, came, same)
    fits false waits = omega arith

    counted : c.drops ≡ true → length (told_leases c.drops c.lease_input.queue.0 c.buffer_input.queue.0 passed.calls) + bit (fate_of (copier_word c.drops c.lease_input.queue.0 c.buffer_input.queue.0) passed.calls).waits ≡ length (m.taken c.lease_input.queue.0)
    counted on =
        let t = st.tells on in
        let came = t.came in
        let same = long in
        let waits : bit (fate_of (copier_word c.drops c.lease_input.queue.0 c.buffer_input.queue.0) passed.calls).waits ≡ bit (is_waiting c) = ap bit t.waits in
        let told : length (told_leases c.drops c.lease_input.queue.0 c.buffer_input.queue.0 passed.calls) ≡ length (leases_dropped c passed.calls) = ap (λ b. length (cond b (leases_dropped c passed.calls) [])) on in
        omega (arith, came, same, waits, told)

-- the queues of leases and of buffers, and the policy, of a part that is a copier
abbrev CopierIs : Type 0
CopierIs = ℕ × ℕ × Bool

abbrev net_copier_is : NetPart → CopierIs
net_copier_is (parts.NetCopier la lf ra rf drops) = (la, rf, drops)
net_copier_is (NetDevice rf ra ta tf frames drops) = (0, 0, false)
net_copier_is (NetDriver ways) = (0, 0, false)
net_copier_is (NetReceiver active free pool clients) = (0, 0, false)
net_copier_is (NetClient program mac ra rf ta tf rx tx) = (0, 0, false)

abbrev copier_is : Part → CopierIs
copier_is (NetworkPart p) = net_copier_is p
copier_is (RxPart rx clients drops) = (0, 0, false)
copier_is (UartPart rx tx input) = (0, 0, false)
copier_is (DriverPart device_rx device_tx rx tx) = (0, 0, false)
copier_is (TxPart tx clients) = (0, 0, false)
copier_is (ClientPart rx tx script) = (0, 0, false)
copier_is (SendingPart p) = (0, 0, false)
copier_is (BlockPart p) = (0, 0, false)
copier_is (HostilePart p) = (0, 0, false)

module _ (passed : Passed) (m : Moved) (items : HaveItems passed m) where
  abbrev Settles : CopierIs → Type 0
  Settles z = SettlesLeases z.0 z.1 z.2 passed.calls m

  by_copier : (la lf ra rf : ℕ) (drops : Bool) (x : Actor) → ActorStandsFor x passed → part_of x ≡ NetworkPart (parts.NetCopier la lf ra rf drops) → Settles (la, rf, drops)
  by_copier la lf ra rf drops (Kinds.NetCopier c) st is = subst Settles (ap copier_is is) (settles_told c passed m items st)
  by_copier la lf ra rf drops (Kinds.UartDevice x) st is = cc
  by_copier la lf ra rf drops (Kinds.UartDriver x) st is = cc
  by_copier la lf ra rf drops (Kinds.SerialVirtRx x) st is = cc
  by_copier la lf ra rf drops (Kinds.SerialVirtTx x) st is = cc
  by_copier la lf ra rf drops (Kinds.SerialClient x) st is = cc
  by_copier la lf ra rf drops (Kinds.EthDevice x) st is = cc
  by_copier la lf ra rf drops (Kinds.EthDriver x) st is = cc
  by_copier la lf ra rf drops (Kinds.NetVirtRx x) st is = cc
  by_copier la lf ra rf drops (Kinds.NetClient x) st is = cc
  by_copier la lf ra rf drops (Kinds.NetVirtTx x) st is = cc
  by_copier la lf ra rf drops (Kinds.DiskDevice x) st is = cc
  by_copier la lf ra rf drops (Kinds.BlkDriver x) st is = cc
  by_copier la lf ra rf drops (Kinds.BlkVirt x) st is = cc
  by_copier la lf ra rf drops (Kinds.BlkClient x) st is = cc
  by_copier la lf ra rf drops (Kinds.Rogue x) st is = cc

  pub leases_at : (actors : List Actor) → ((k : ℕ) (x : Actor) → slice_get actors k ≡ Some x → ActorStandsFor x passed) → (k la lf ra rf : ℕ) (drops : Bool) → slice_get (map part_of actors) k ≡ Some (NetworkPart (parts.NetCopier la lf ra rf drops)) → SettlesLeases la rf drops passed.calls m
  leases_at actors stands k la lf ra rf drops at = let y = map_from part_of actors k (NetworkPart (parts.NetCopier la lf ra rf drops)) at in by_copier la lf ra rf drops y.0 (stands k y.0 y.1) y.2

-- where a journal begins all calls were made before it
pub told_anew : (history : History) (actors : List Actor) (passed : Passed) → HaveItems passed (moved history []) → ((k : ℕ) (x : Actor) → slice_get actors k ≡ Some x → ActorStandsFor x passed) → HaveTold history (map part_of actors) [] passed.calls
told_anew history actors passed items stands =
    let all : passed.calls ≡ calls_by passed.calls [] = sym (append-nil passed.calls) in record {
      past = passed.calls;
      calls_are = all;
      marks = (λ k rx clients drops at. subst (λ (es : List Event). SharesOut (told_marks rx clients drops es) drops rx clients (moved history [])) all (marks_at passed (moved history []) items actors stands k rx clients drops at), tt);
      leases = (λ k la lf ra rf drops at. subst (λ (es : List Event). SettlesLeases la rf drops es (moved history [])) all (leases_at passed (moved history []) items actors stands k la lf ra rf drops at), tt);
      hears = λ k rx clients drops at. let y = map_from part_of actors k (RxPart rx clients drops) at in hears_at passed (moved history []) items rx clients drops y.0 (stands k y.0 y.1) y.2;
    }

-- and each call is one of its own
pub told_more : (history : History) (cast : List Part) (journal : List Entry) (calls : List Event) (e : Entry) → HaveTold history cast journal calls → (actors : List Actor) → map part_of actors ≡ cast → (passed : Passed) → passed.calls ≡ calls ++ e.event ∷ []
    → HaveItems passed (moved history (journal ++ e ∷ [])) → ((k : ℕ) (x : Actor) → slice_get actors k ≡ Some x → ActorStandsFor x passed) → HaveTold history (map part_of actors) (journal ++ e ∷ []) passed.calls
told_more history cast journal calls e told actors same passed more items stands =
    let all : passed.calls ≡ calls_by told.past (journal ++ e ∷ []) = more ∙ (ap (λ (es : List Event). es ++ e.event ∷ []) told.calls_are
    ∙ (append_assoc told.past (events_of journal) (e.event ∷ []) ∙ ap (λ (es : List Event). told.past ++ es) (sym (map-append (λ (d : Entry). d.event) journal (e ∷ []))))) in record {
      past = told.past;
      calls_are = all;
      marks = subst (λ (c : List Part). EachMoment (MarksStand history c told.past) (journal ++ e ∷ [])) (sym same) (
        told.marks.0,
        EachFrom-append (λ b d. MarksStand history cast told.past (b ++ d ∷ [])) [] journal e told.marks.1 (λ k rx clients drops at.
            subst (λ (es : List Event). SharesOut (told_marks rx clients drops es) drops rx clients (moved history (journal ++ e ∷ []))) all
            (marks_at passed (moved history (journal ++ e ∷ [])) items actors stands k rx clients drops (ap (λ (c : List Part). slice_get c k) same ∙ at))),
      );
      leases = subst (λ (c : List Part). EachMoment (LeasesStand history c told.past) (journal ++ e ∷ [])) (sym same) (
        told.leases.0,
        EachFrom-append (λ b d. LeasesStand history cast told.past (b ++ d ∷ [])) [] journal e told.leases.1 (λ k la lf ra rf drops at.
            subst (λ (es : List Event). SettlesLeases la rf drops es (moved history (journal ++ e ∷ []))) all
            (leases_at passed (moved history (journal ++ e ∷ [])) items actors stands k la lf ra rf drops (ap (λ (c : List Part). slice_get c k) same ∙ at))),
      );
      hears = λ k rx clients drops at. told.hears k rx clients drops (ap (λ (c : List Part). slice_get c k) (sym same) ∙ at);
    }

-- two lists of calls looked in vain as often as each of them
noes_both : (r : Role) (n : ℕ) (xs ys : List Event) → noes_at r n (xs ++ ys) ≡ noes_at r n xs + noes_at r n ys
noes_both r n [] ys = omega arith
noes_both r n (x ∷ xs) ys = let h = noes_both r n xs ys in omega (arith, h)

-- so the calls before the journal begins did as often as its history tells
pub past_looks : (s : Shown) → (stands : StandsLawful s) → (r : Role) (n : ℕ) → noes_at r n stands.calls.past ≡ noes_of r (history_at s.setting.history n)
past_looks s stands r n =
    let all = stands.told.items.noes r n in
    let calls = ap (noes_at r n) stands.calls.calls_are in
    let both = noes_both r n stands.calls.past (events_of s.journal) in
    let told = track_looks r n s.setting.history s.journal in
    omega (arith, all, calls, both, told)
