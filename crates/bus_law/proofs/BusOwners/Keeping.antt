-- The actors of a bus keep its buffers.
use Rattle.std.proofs.Common.{◌≡◌, ◌+◌, ◌*◌, ◌<◌, ◌≤◌, ◌⊎◌, inl, inr, ℕ, true, false, Some, List, [], ◌∷◌, length, slice_get, refl, sym, ap, ◌∙◌, subst, arith}
use Rattle.std.proofs.lemmas.Bool.{cases_lt}
use Rattle.cargo_core.specs.Lists.{IsPrefix}
use Rattle.cargo_core.specs.declared.item.PoolId.{PoolId}
use Rattle.wire_core.specs.declared.names.QueueId.{QueueId}
use Rattle.wire_core.specs.declared.names.QueueRow.{QueueRow}
use Rattle.wire_core.specs.Journal.{nobody}
use Rattle.wire_core.specs.Lists.{Passed}
use Rattle.play_core.specs.Moved.{Moved, Seat}
use Rattle.play_core.specs.Still.{Holds}
use Rattle.play_core.specs.Rests.Showing.{HaveItems}
use Rattle.play_core.proofs.Lists.{some_is, there_is}
use Rattle.buffer_kit.specs.Virtualising.{from_queues, to_queues}
use Rattle.owner_law.specs.Things.{Window, NoBuffers, Buffers, Answers}
use Rattle.owner_law.specs.Keeping.{Keeper, Keeps, all_taken, all_put, AreDealt, is_lending}
use Rattle.owner_law.specs.Pools.Spread.{share_of, AreSpread}
use Rattle.small_system.specs.Tales.{Turn}
use Rattle.small_system.specs.SmallLaw.Keepers.{HaveKeepers}
use Rattle.i2c_text.specs.declared.bus.Bus.{Bus}
use Rattle.i2c_text.specs.declared.bus.BusAsk.{BusAsk}
use Rattle.i2c_text.specs.declared.report.BusReply.{BusReply}
use Rattle.i2c_virt.specs.declared.i2c_client.client.BusClient.{BusClient}
use Rattle.i2c_virt.specs.I2cClient.Clients.{ClientStandsFor, ClientRow}
use Rattle.i2c_virt.specs.declared.virtualiser.I2cVirt.{I2cVirt}
use Rattle.i2c_virt.specs.declared.driver.BusDriver.{BusDriver}
use Rattle.i2c_virt.specs.declared.bus_device.BusDevice.{BusDevice}
use Rattle.i2c_virt.specs.Virtualising.{I2cVirtStandsFor, VirtRow}
use Rattle.i2c_virt.specs.Drivers.{DriverStandsFor, DriverRow}
use Rattle.i2c_virt.specs.BusDevices.{BusStandsFor, BusRow}
use Rattle.bus_law.specs.declared.i2c_actors.member.Member.{Member}
use Rattle.bus_law.specs.I2cActors.Members.{Made, Asks, made_of, member_means, MemberStandsFor}
use Rattle.bus_law.specs.I2cActors.Casting.{StandsAt, AreMade}
use Rattle.bus_law.specs.Plays.{IsBusTale}
use Rattle.bus_law.proofs.Staging.{client_of, virt_of, driver_of, bus_of}
use Rattle.bus_law.specs.BusOwners.Naming.{bus_naming}
use Rattle.bus_law.specs.BusOwners.Keepers.{pool_size, pool_owner, client_ends, virt_ends, driver_ends, device_ends, bus_keepers}
use Rattle.bus_law.proofs.BusOwners.Names.{no_names}
use Rattle.bus_law.proofs.BusOwners.Plainly.{named_plainly}
use Rattle.bus_law.proofs.BusOwners.Actors.{client_keeps, virt_keeps, driver_keeps, device_keeps}
use Rattle.bus_law.proofs.BusOwners.Seating.{WhoKeeps, Client, Virt, Driver, Device, who_keeps, keepers_many, keeper_apart, end_seat, seat_end}

-- the rows of the actors
pub record Rows : Type 0 where
  pub client : (c : BusClient) (passed : Passed) → ClientStandsFor c passed → ClientRow c.asking.pool c.asking.script c.requests.queue.0 c.responses.queue.0 c.asking.replies.shown passed
  pub virt : (v : I2cVirt) (passed : Passed) → I2cVirtStandsFor v passed → VirtRow (length v.work.desks.items) v.ends.output.queue.0 v.ends.input.queue.0 (from_queues v.ends) (to_queues v.ends) passed
  pub driver : (d : BusDriver) (passed : Passed) → DriverStandsFor d passed → DriverRow d passed
  pub device : (b : BusDevice) (passed : Passed) → BusStandsFor b passed → BusRow b.addresses b.input.queue.0 b.output.queue.0 passed

-- each hand is its share
hand_is : (n k : ℕ) (p : Keeper) → WhoKeeps n k p → (pool : ℕ) → p.hand pool ≡ share_of (pool_size n) pool_owner k pool
hand_is n k p (Client lt e) pool = ap (λ (x : Keeper). x.hand pool) (sym e)
hand_is n k p (Virt k_is e) pool = ap (λ (x : Keeper). x.hand pool) (sym e) ∙ ap (λ j. share_of (pool_size n) pool_owner j pool) (sym k_is)
hand_is n k p (Driver k_is e) pool = ap (λ (x : Keeper). x.hand pool) (sym e) ∙ ap (λ j. share_of (pool_size n) pool_owner j pool) (sym k_is)
hand_is n k p (Device k_is e) pool = ap (λ (x : Keeper). x.hand pool) (sym e) ∙ ap (λ j. share_of (pool_size n) pool_owner j pool) (sym k_is)

pub are_spread : (n : ℕ) → AreSpread (pool_size n) pool_owner (bus_keepers n)
are_spread n k p at pool = hand_is n k p (who_keeps n k p at) pool

-- no queue lends or answers
not_lending : (n q : ℕ) → is_lending (bus_naming n q) ≡ false
not_lending n q = by (named_plainly n q)
  where
    by : (bus_naming n q ≡ NoBuffers) ⊎ ((ws : List Window) × (bus_naming n q ≡ Buffers ws)) → is_lending (bus_naming n q) ≡ false
    by (inl h) = ap is_lending h
    by (inr h) = ap is_lending h.1

no_answers : (n q r : ℕ) (ws : List Window) → bus_naming n q ≡ Answers r ws → ⊥
no_answers n q r ws e = by (named_plainly n q)
  where
    by : (bus_naming n q ≡ NoBuffers) ⊎ ((vs : List Window) × (bus_naming n q ≡ Buffers vs)) → ⊥
    by (inl h) = let no : NoBuffers ≡ Answers r ws = sym h ∙ e in cc
    by (inr h) = let no : Buffers h.0 ≡ Answers r ws = sym h.1 ∙ e in cc

module _ (bus : Bus) (rows : List QueueRow) (start : List Member) (made_are : AreMade bus start) where
  abbrev n : ℕ
  n = bus.clients

  -- what stands at a place
  at_place : (place : ℕ) (parts : Made) → StandsAt start place parts → (x : Member) → slice_get start place ≡ Some x → made_of x ≡ parts
  at_place place parts s x at = ap made_of (some_is (sym at ∙ s.there)) ∙ s.made_is

  module _ (law : Rows) (m : Moved) (passed : Passed) (items : HaveItems passed m) where
    abbrev KeepsAt : ℕ → List Seat → Type 0
    KeepsAt k ends = Keeps (share_of (pool_size n) pool_owner k) (all_taken (bus_naming n) m ends) (all_put (bus_naming n) m ends)

    client_row : (c : ℕ) (script : List BusAsk) (y : Member) → made_of y ≡ Asks (2 * c) (2 * c + 1) (record { 0 = c }) script → MemberStandsFor y passed → (replies : List BusReply) × ClientRow (record { 0 = c }) script (2 * c) (2 * c + 1) replies passed
    client_row c script y e st =
        let a = client_of y (2 * c) (2 * c + 1) (record { 0 = c }) script e in
        let x = a.0 in
        let row = law.client x passed (subst (λ z. MemberStandsFor z passed) a.1 st) in (
          x.asking.replies.shown,
          subst (λ s. ClientRow (record { 0 = c }) s (2 * c) (2 * c + 1) x.asking.replies.shown passed) a.5
              (subst (λ (p : PoolId). ClientRow p x.asking.script (2 * c) (2 * c + 1) x.asking.replies.shown passed) a.4
              (subst (λ r. ClientRow x.asking.pool x.asking.script (2 * c) r x.asking.replies.shown passed) a.3
              (subst (λ q. ClientRow x.asking.pool x.asking.script q x.responses.queue.0 x.asking.replies.shown passed) a.2 row))),
        )

    client_case : (c : ℕ) → c < n → (x y : Member) → slice_get start c ≡ Some x → made_of y ≡ made_of x → MemberStandsFor y passed → KeepsAt c (client_ends c)
    client_case c lt x y at same st =
        let many : length bus.asks ≡ n = made_are.each in
        let asks = there_is bus.asks c (omega (arith, lt, many)) in
        let row = client_row c asks.0 y (same ∙ at_place c _ (made_are.clients c asks.0 asks.1) x at) st in
        client_keeps n m passed items c lt asks.0 row.0 row.1

    virt_case : (x y : Member) → slice_get start n ≡ Some x → made_of y ≡ made_of x → MemberStandsFor y passed → KeepsAt n (virt_ends n)
    virt_case x y at same st =
        let a = virt_of y (2 * n) (2 * n + 1) made_are.reqs made_are.resps n (same ∙ at_place n _ made_are.virt x at) in
        let v = a.0 in
        let row = law.virt v passed (subst (λ z. MemberStandsFor z passed) a.1 st) in
        virt_keeps n m passed items made_are.reqs made_are.resps made_are.reqs_are made_are.resps_are
        (subst (λ k. VirtRow k (2 * n) (2 * n + 1) made_are.reqs made_are.resps passed) a.6
        (subst (λ (t : List QueueId). VirtRow (length v.work.desks.items) (2 * n) (2 * n + 1) made_are.reqs t passed) a.5
        (subst (λ (f : List QueueId). VirtRow (length v.work.desks.items) (2 * n) (2 * n + 1) f (to_queues v.ends) passed) a.4
        (subst (λ i. VirtRow (length v.work.desks.items) (2 * n) i (from_queues v.ends) (to_queues v.ends) passed) a.3
        (subst (λ o. VirtRow (length v.work.desks.items) o v.ends.input.queue.0 (from_queues v.ends) (to_queues v.ends) passed) a.2 row))))) n

    driver_case : (x y : Member) → slice_get start (n + 1) ≡ Some x → made_of y ≡ made_of x → MemberStandsFor y passed → KeepsAt (n + 1) (driver_ends n)
    driver_case x y at same st =
        let a = driver_of y ((2 * n) ∷ (2 * n + 3) ∷ []) ((2 * n + 2) ∷ (2 * n + 1) ∷ []) (same ∙ at_place (n + 1) _ made_are.driver x at) in
        let d = a.0 in
        let row = law.driver d passed (subst (λ z. MemberStandsFor z passed) a.1 st) in
        let p = d.driver.pipes.first in
        let q = d.driver.pipes.rest in
        let pi : p.input.queue.0 ≡ 2 * n = first_is a.2 in
        let qi : q.input.queue.0 ≡ 2 * n + 3 = second_is a.2 in
        let po : p.output.queue.0 ≡ 2 * n + 2 = first_is a.3 in
        let qo : q.output.queue.0 ≡ 2 * n + 1 = second_is a.3 in
        driver_keeps n m passed items (n + 1)
        (subst (λ i. IsPrefix (passed.sent (2 * n + 2)) (passed.taken i)) pi (subst (λ o. IsPrefix (passed.sent o) (passed.taken p.input.queue.0)) po row.0))
        (subst (λ i. IsPrefix (passed.sent (2 * n + 1)) (passed.taken i)) qi (subst (λ o. IsPrefix (passed.sent o) (passed.taken q.input.queue.0)) qo row.1.0))
      where
        first_is : {a b c d : ℕ} → (a ∷ b ∷ []) ≡ (c ∷ d ∷ []) → a ≡ c
        first_is h = cc

        second_is : {a b c d : ℕ} → (a ∷ b ∷ []) ≡ (c ∷ d ∷ []) → b ≡ d
        second_is h = cc

    device_case : (x y : Member) → slice_get start (n + 2) ≡ Some x → made_of y ≡ made_of x → MemberStandsFor y passed → KeepsAt (n + 2) (device_ends n)
    device_case x y at same st =
        let a = bus_of y (2 * n + 2) (2 * n + 3) bus.devices (same ∙ at_place (n + 2) _ made_are.bus_itself x at) in
        let b = a.0 in
        let row = law.device b passed (subst (λ z. MemberStandsFor z passed) a.1 st) in
        device_keeps n m passed items (n + 2) bus.devices
        (subst (λ l. BusRow l (2 * n + 2) (2 * n + 3) passed) a.4
        (subst (λ r. BusRow b.addresses (2 * n + 2) r passed) a.3
        (subst (λ q. BusRow b.addresses q b.output.queue.0 passed) a.2 row)))

    keeps : (k : ℕ) (x y : Member) (p : Keeper) → slice_get start k ≡ Some x → WhoKeeps n k p → made_of y ≡ made_of x → MemberStandsFor y passed → Keeps p.hand (all_taken (bus_naming n) m p.ends) (all_put (bus_naming n) m p.ends)
    keeps k x y p at (Client lt e) same st = subst (λ (z : Keeper). Keeps z.hand (all_taken (bus_naming n) m z.ends) (all_put (bus_naming n) m z.ends)) e (client_case k lt x y at same st)
    keeps k x y p at (Virt k_is e) same st = subst (λ (z : Keeper). Keeps z.hand (all_taken (bus_naming n) m z.ends) (all_put (bus_naming n) m z.ends)) e (virt_case x y (ap (slice_get start) (sym k_is) ∙ at) same st)
    keeps k x y p at (Driver k_is e) same st = subst (λ (z : Keeper). Keeps z.hand (all_taken (bus_naming n) m z.ends) (all_put (bus_naming n) m z.ends)) e (driver_case x y (ap (slice_get start) (sym k_is) ∙ at) same st)
    keeps k x y p at (Device k_is e) same st = subst (λ (z : Keeper). Keeps z.hand (all_taken (bus_naming n) m z.ends) (all_put (bus_naming n) m z.ends)) e (device_case x y (ap (slice_get start) (sym k_is) ∙ at) same st)

-- all of them
pub have_keepers : Rows → (bus : Bus) (rows : List QueueRow) (start : List Member) (turns : List (Turn Member)) → IsBusTale bus rows start turns → AreDealt (bus_keepers bus.clients) → HaveKeepers member_means (bus_naming bus.clients) bus.clients rows start (bus_keepers bus.clients)
have_keepers law bus rows start turns t dealt = record {
  naming_is = record {
    calm = λ q. calm q (cases_lt q (2 * bus.clients + 4));
    lends = λ q row at h. let no : false ≡ true = sym (not_lending bus.clients q) ∙ h in cc;
    answers = λ q r ws e same. no_answers bus.clients q r ws e;
  };
  unanswered = no_answers bus.clients;
  many = keepers_many bus.clients ∙ sym t.made.many;
  each = λ k x p at there. let who = who_keeps bus.clients k p there in record {
    given = λ i s end. t.begins.seated.all k x at s.role s.queue (end_seat bus.clients rows t.queues k p who i s end);
    all = λ s own. seat_end bus.clients rows t.queues k p who s (t.begins.seated.given k x at s.role s.queue own);
    apart = keeper_apart bus.clients k p who;
    keeps = λ y same fit passed st moves items. keeps bus rows start t.made law moves passed items k x y p at who same st;
  };
  dealt = dealt;
}
  where
    calm : (q : ℕ) → (q < 2 * bus.clients + 4) ⊎ (2 * bus.clients + 4 ≤ q) → (bus_naming bus.clients q ≡ NoBuffers) ⊎ Holds nobody rows q 0
    calm q (inl lt) =
        let m : length rows ≡ 2 * bus.clients + 4 = t.queues.many in
        let row = there_is rows q (omega (arith, lt, m)) in
        inr (record { row = row.0; there = row.1; calm = refl; enough = omega arith })
    calm q (inr le) = inl (no_names bus.clients q le)
