use Rattle.std.proofs.Common.{◌≡◌, ◌+◌, ◌*◌, ◌<◌, ℕ, Some, List, slice_get, sym, ap, ◌∙◌, subst}
use Rattle.cargo_core.specs.Lists.{IsPrefix}
use Rattle.cargo_core.specs.declared.item.PoolId.{PoolId}
use Rattle.wire_core.specs.declared.names.QueueRow.{QueueRow}
use Rattle.wire_core.specs.Deeds.{Cargo}
use Rattle.play_core.proofs.Lists.{some_is}
use Rattle.small_system.specs.Tales.{Turn, start_of, after_tale, journal_of, passed_by}
use Rattle.i2c_text.specs.declared.bus.Bus.{Bus}
use Rattle.i2c_text.specs.declared.bus.BusAsk.{BusAsk}
use Rattle.i2c_text.specs.declared.report.BusReply.{BusReply}
use Rattle.i2c_virt.specs.I2cKit.Grants.{granted_to}
use Rattle.i2c_virt.specs.I2cKit.Replies.{replies_alone}
use Rattle.i2c_virt.specs.declared.i2c_client.client.BusClient.{BusClient}
use Rattle.i2c_virt.specs.Works.{Took, requests_in}
use Rattle.bus_law.specs.I2cLaw.Moments.{AreServed, IsServed}
use Rattle.bus_law.specs.declared.i2c_actors.member.Member.{Member}
use Rattle.bus_law.specs.declared.i2c_actors.member.Member.TheVariants as Members
use Rattle.bus_law.specs.Takes.{script_of, requests_by, requests_taken, granted_replies}
use Rattle.bus_law.specs.Plays.{IsBusTale}
use Rattle.bus_law.proofs.Staging.{Laws, holds_now, stage_now}
use Rattle.bus_law.proofs.Serving.{served, client_served, requests_are, log_now, back_now}

-- What each client recorded, by the law on one moment.

-- the clause of that law
abbrev pub MomentLaw : Type 0
MomentLaw = (clients : ℕ) (addresses : List ℕ) (log : List Took) (sent back : List Cargo) → AreServed clients addresses log sent back → (client : ℕ) → client < clients → (pool : PoolId) (script : List BusAsk) (put given came : List Cargo) (replies : List BusReply) → IsServed client pool script log back put given came replies → IsPrefix replies (replies_alone (granted_to client (requests_in log)) addresses script)

client_is : {x y : BusClient} → Members.Client x ≡ Members.Client y → x ≡ y
client_is h = cc

module _ (laws : Laws) where
  pub client_there : (bus : Bus) (rows : List QueueRow) (start : List Member) (turns : List (Turn Member)) → IsBusTale bus rows start turns → (c : ℕ) → c < bus.clients → (x : BusClient) × (slice_get (after_tale (start_of rows start) turns).actors c ≡ Some (Members.Client x))
  client_there bus rows start turns play c lt =
      let cl = (stage_now laws bus rows start turns play).clients c lt in
      (cl.client, cl.there)

  module _ (moment_law : MomentLaw) (bus : Bus) (rows : List QueueRow) (start : List Member) (turns : List (Turn Member)) (play : IsBusTale bus rows start turns) where
    -- the requests that the journal shows are those that the virtualiser took
    pub taken_are : requests_taken bus (journal_of turns) ≡ requests_in (log_now bus (after_tale (start_of rows start) turns) (passed_by turns) (stage_now laws bus rows start turns play))
    taken_are =
        ap (requests_by bus) (sym (holds_now laws bus rows start turns play).calls)
        ∙ requests_are bus (after_tale (start_of rows start) turns) (passed_by turns) (stage_now laws bus rows start turns play)

    pub replies_begin : (c : ℕ) → c < bus.clients → (x : BusClient) → slice_get (after_tale (start_of rows start) turns).actors c ≡ Some (Members.Client x) → IsPrefix x.asking.replies.shown (granted_replies bus (journal_of turns) c)
    replies_begin c lt x at =
        let mo = after_tale (start_of rows start) turns in
        let passed = passed_by turns in
        let st = stage_now laws bus rows start turns play in
        let cl = st.clients c lt in
        let same : cl.client ≡ x = client_is (some_is (sym cl.there ∙ at)) in
        subst (λ (y : BusClient). IsPrefix y.asking.replies.shown (granted_replies bus (journal_of turns) c)) same
        (subst (λ rs. IsPrefix cl.client.asking.replies.shown (replies_alone (granted_to c rs) bus.devices (script_of bus c))) (sym taken_are)
        (moment_law bus.clients bus.devices (log_now bus mo passed st) (passed.sent (2 * bus.clients)) (back_now bus mo passed st) (served bus mo passed st) c lt (record { 0 = c }) (script_of bus c) (passed.sent (2 * c)) (passed.sent (2 * c + 1)) cl.stands.came cl.client.asking.replies.shown (client_served bus mo passed st c lt)))
