use Rattle.std.proofs.Common.{ap, ◌≡◌, ℕ, [], refl, sym, ◌∙◌, subst}
use Rattle.wire_core.specs.Ends.{Role, Consumer, Producer, End}
use Rattle.wire_core.specs.Lists.{Passed, nothing_passed}
use Rattle.turn_kit.specs.Table.{Agrees}
use Rattle.pipe_driver.specs.Lengths.{two_pipes}
use Rattle.eth_driver.specs.Four.{four_pipes}
use Rattle.device_model.specs.SerialTerminal.Terminals.{FitsTerminal, TerminalStandsFor}
use Rattle.device_model.specs.declared.serial_terminal.Terminal.{Terminal}
use Rattle.wire_core.specs.declared.names.QueueId.{QueueId}
use Rattle.turn_kit.specs.ManyEnds.{intake_queues}
use Rattle.turn_kit.specs.declared.ends.Intake.{Intake}
use Rattle.turn_kit.specs.declared.ends.Outlet.{Outlet}
use Rattle.serial_virt.specs.Receiving.{FitsRx, RxStandsFor, RxEnd}
use Rattle.serial_virt.specs.declared.rx.SerialVirtRx.{SerialVirtRx}
use Rattle.serial_virt.specs.Sending.{FitsTx, TxStandsFor, TxEnd}
use Rattle.serial_virt.specs.declared.tx.SerialVirtTx.{SerialVirtTx}
use Rattle.play_core.proofs.Lists.{map_get, map_alike}
use Rattle.actor_set.specs.Actors.{FitsActor, ActorStandsFor, ActorEnd, ActsAlike, IsWhole}
use Rattle.actor_set.specs.declared.actor.Actor.{Actor}
use Rattle.actor_set.specs.declared.actor.Actor.TheVariants as Kinds
use Rattle.actor_set.proofs.LawsLemmas.NetBeside.{fits_pipes, fits_device, fits_receiver, fits_copier, fits_client, stands_pipes, stands_receiver, stands_client}
use Rattle.actor_set.proofs.LawsLemmas.NetCalls.{stands_device, stands_copier, device_anew, copier_anew}
use Rattle.device_model.specs.Ethernet.Devices.{DeviceStandsFor}
use Rattle.net_copier.specs.Copying.{CopierStandsFor}
use Rattle.actor_set.proofs.LawsLemmas.RxBeside.{stands_rx, rx_anew}
use Rattle.actor_set.proofs.LawsLemmas.TxBeside.{fits_sender, stands_sender}
use Rattle.actor_set.proofs.RogueLemmas.Ends.{fits_rogue, stands_rogue}
use Rattle.actor_set.proofs.LawsLemmas.BlkBeside.{fits_disk, fits_server, fits_asker, stands_disk, stands_server, stands_asker}

-- where an actor's ends stay, it fits as before
module _ (ends ends' : Role → ℕ → End) where
  fits_terminal : (t : Terminal) → ends' Consumer t.input.queue.0 ≡ ends Consumer t.input.queue.0 → ends' Producer t.output.queue.0 ≡ ends Producer t.output.queue.0 → FitsTerminal ends t → FitsTerminal ends' t
  fits_terminal t i o f = record {
    input = subst (λ e. Agrees e t.input.state) (sym i) f.input;
    output = subst (λ e. Agrees e t.output.state) (sym o) f.output;
    hears = ap (λ (e : End). e.kind) i ∙ f.hears;
    says = ap (λ (e : End). e.kind) o ∙ f.says;
    next = f.next;
  }

  fits_rx : (v : SerialVirtRx) → ((r : Role) (n : ℕ) → RxEnd v r n → ends' r n ≡ ends r n) → FitsRx ends v → FitsRx ends' v
  fits_rx v same f = record {
    input = subst (λ e. Agrees e v.input.state) (sym (same Consumer v.input.queue.0 refl)) f.input;
    outputs = record {
      agrees = λ k i at. subst (λ e. Agrees e i.state) (sym (same Producer i.queue.0 (k, i.queue, map_get (λ (o : Outlet). o.queue) v.outputs.ends.items k i at, refl))) (f.outputs.agrees k i at);
      apart = f.outputs.apart;
    };
    hears = ap (λ (e : End). e.kind) (same Consumer v.input.queue.0 refl) ∙ f.hears;
    says = λ k q at. ap (λ (e : End). e.kind) (same Producer q.0 (k, q, at, refl)) ∙ f.says k q at;
    load = f.load;
    policies = f.policies;
  }

  fits_tx : (v : SerialVirtTx) → ((r : Role) (n : ℕ) → TxEnd v r n → ends' r n ≡ ends r n) → FitsTx ends v → FitsTx ends' v
  fits_tx v same f = record {
    inputs = record {
      agrees = λ k i at. subst (λ e. Agrees e i.state) (sym (same Consumer i.queue.0 (k, i.queue, map_get (λ (o : Intake). o.queue) v.inputs.ends.items k i at, refl))) (f.inputs.agrees k i at);
      apart = f.inputs.apart;
    };
    output = subst (λ e. Agrees e v.output.state) (sym (same Producer v.output.queue.0 refl)) f.output;
    hears = λ k q at. ap (λ (e : End). e.kind) (same Consumer q.0 (k, q, at, refl)) ∙ f.hears k q at;
    says = ap (λ (e : End). e.kind) (same Producer v.output.queue.0 refl) ∙ f.says;
    load = f.load;
  }

  pub fits_beside : (x : Actor) → ((r : Role) (n : ℕ) → ActorEnd x r n → ends' r n ≡ ends r n) → FitsActor ends x → FitsActor ends' x
  fits_beside (Kinds.UartDevice x) same f = fits_terminal x.terminal (same Consumer x.terminal.input.queue.0 refl) (same Producer x.terminal.output.queue.0 refl) f
  fits_beside (Kinds.SerialClient x) same f = fits_terminal x.terminal (same Consumer x.terminal.input.queue.0 refl) (same Producer x.terminal.output.queue.0 refl) f
  fits_beside (Kinds.SerialVirtRx x) same f = fits_rx x same f
  fits_beside (Kinds.SerialVirtTx x) same f = fits_tx x same f
  fits_beside (Kinds.UartDriver x) same f = fits_pipes ends ends' (two_pipes x.driver.pipes) same f
  fits_beside (Kinds.EthDevice x) same f = (fits_device ends ends' x same f.0, f.1)
  fits_beside (Kinds.EthDriver x) same f = fits_pipes ends ends' (four_pipes x.driver.pipes) same f
  fits_beside (Kinds.NetVirtRx x) same f = fits_receiver ends ends' x same f
  fits_beside (Kinds.NetCopier x) same f = fits_copier ends ends' x same f
  fits_beside (Kinds.NetClient x) same f = (fits_client ends ends' x same f.0, f.1)
  fits_beside (Kinds.NetVirtTx x) same f = fits_sender ends ends' x same f
  fits_beside (Kinds.DiskDevice x) same f = fits_disk ends ends' x.device same f
  fits_beside (Kinds.BlkDriver x) same f = fits_pipes ends ends' (two_pipes x.driver.pipes) same f
  fits_beside (Kinds.BlkVirt x) same f = (fits_server ends ends' x same f.0, f.1, f.2)
  fits_beside (Kinds.BlkClient x) same f = fits_asker ends ends' x same f
  fits_beside (Kinds.Rogue x) same f = fits_rogue ends ends' x same f

-- where nothing moved at an actor's ends, it stands for the same lists
module _ (passed passed' : Passed) where
  stands_terminal : (t : Terminal) → passed'.taken t.input.queue.0 ≡ passed.taken t.input.queue.0 → passed'.sent t.output.queue.0 ≡ passed.sent t.output.queue.0 → TerminalStandsFor t passed → TerminalStandsFor t passed'
  stands_terminal t i o f = record { sent_is = o ∙ f.sent_is; record_is = rw i f.record_is }

  stands_tx : (v : SerialVirtTx) → ((n : ℕ) → TxEnd v Consumer n → passed'.taken n ≡ passed.taken n) → ((n : ℕ) → TxEnd v Producer n → passed'.sent n ≡ passed.sent n) → TxStandsFor v passed → TxStandsFor v passed'
  stands_tx v ins outs f = rw (outs v.output.queue.0 refl, map_alike (λ (q : QueueId). passed'.taken q.0) (λ (q : QueueId). passed.taken q.0) (intake_queues v.inputs) (λ k q at. ins q.0 (k, q, at, refl))) f

  -- those that tell their calls by themselves: a receiving virtualiser of the serial class, an
  -- Ethernet device and a copier
  abbrev Telling : Actor → Type 0
  Telling (Kinds.SerialVirtRx v) = RxStandsFor v passed → RxStandsFor v passed'
  Telling (Kinds.EthDevice d) = DeviceStandsFor d passed → DeviceStandsFor d passed'
  Telling (Kinds.NetCopier c) = CopierStandsFor c passed → CopierStandsFor c passed'
  Telling x = Unit {0}

  stands_by : (x : Actor) → IsWhole x → Telling x → ((n : ℕ) → ActorEnd x Consumer n → passed'.taken n ≡ passed.taken n) → ((n : ℕ) → ActorEnd x Producer n → passed'.sent n ≡ passed.sent n) → ActorStandsFor x passed → ActorStandsFor x passed'
  stands_by (Kinds.UartDevice x) whole told ins outs f = stands_terminal x.terminal (ins x.terminal.input.queue.0 refl) (outs x.terminal.output.queue.0 refl) f
  stands_by (Kinds.SerialClient x) whole told ins outs f = stands_terminal x.terminal (ins x.terminal.input.queue.0 refl) (outs x.terminal.output.queue.0 refl) f
  stands_by (Kinds.SerialVirtRx x) whole told ins outs f = told f
  stands_by (Kinds.SerialVirtTx x) whole told ins outs f = stands_tx x ins outs f
  stands_by (Kinds.UartDriver x) whole told ins outs f = stands_pipes passed passed' (two_pipes x.driver.pipes) ins outs f
  stands_by (Kinds.EthDevice x) whole told ins outs f = told f
  stands_by (Kinds.EthDriver x) whole told ins outs f = stands_pipes passed passed' (four_pipes x.driver.pipes) ins outs f
  stands_by (Kinds.NetVirtRx x) whole told ins outs f = stands_receiver passed passed' x whole.from_each whole.to_each ins outs f
  stands_by (Kinds.NetCopier x) whole told ins outs f = told f
  stands_by (Kinds.NetClient x) whole told ins outs f = stands_client passed passed' x ins outs f
  stands_by (Kinds.NetVirtTx x) whole told ins outs f = stands_sender passed passed' x whole.from_each whole.to_each ins outs f
  stands_by (Kinds.DiskDevice x) whole told ins outs f = stands_disk passed passed' x.start.value x.device ins outs f
  stands_by (Kinds.BlkDriver x) whole told ins outs f = stands_pipes passed passed' (two_pipes x.driver.pipes) ins outs f
  stands_by (Kinds.BlkVirt x) whole told ins outs f = stands_server passed passed' x whole.from_each whole.to_each ins outs f
  stands_by (Kinds.BlkClient x) whole told ins outs f = stands_asker passed passed' x ins outs f
  stands_by (Kinds.Rogue x) whole told ins outs f = stands_rogue passed passed' x ins outs f

  told_beside : (x : Actor) → ActsAlike x passed.calls passed'.calls → ((n : ℕ) → ActorEnd x Consumer n → passed'.taken n ≡ passed.taken n) → ((n : ℕ) → ActorEnd x Producer n → passed'.sent n ≡ passed.sent n) → Telling x
  told_beside (Kinds.SerialVirtRx v) same ins outs = stands_rx passed passed' v same ins outs
  told_beside (Kinds.EthDevice d) same ins outs = stands_device passed passed' d same ins outs
  told_beside (Kinds.NetCopier c) same ins outs = stands_copier passed passed' c same ins outs
  told_beside (Kinds.UartDevice x) same ins outs = tt
  told_beside (Kinds.SerialClient x) same ins outs = tt
  told_beside (Kinds.SerialVirtTx x) same ins outs = tt
  told_beside (Kinds.UartDriver x) same ins outs = tt
  told_beside (Kinds.EthDriver x) same ins outs = tt
  told_beside (Kinds.NetVirtRx x) same ins outs = tt
  told_beside (Kinds.NetClient x) same ins outs = tt
  told_beside (Kinds.NetVirtTx x) same ins outs = tt
  told_beside (Kinds.DiskDevice x) same ins outs = tt
  told_beside (Kinds.BlkDriver x) same ins outs = tt
  told_beside (Kinds.BlkVirt x) same ins outs = tt
  told_beside (Kinds.BlkClient x) same ins outs = tt
  told_beside (Kinds.Rogue x) same ins outs = tt

  pub stands_beside : (x : Actor) → IsWhole x → ActsAlike x passed.calls passed'.calls → ((n : ℕ) → ActorEnd x Consumer n → passed'.taken n ≡ passed.taken n) → ((n : ℕ) → ActorEnd x Producer n → passed'.sent n ≡ passed.sent n) → ActorStandsFor x passed → ActorStandsFor x passed'
  stands_beside x whole same ins outs f = stands_by x whole (told_beside x same ins outs) ins outs f

-- where nothing passed at an actor's ends, by whichever calls, it stands for nothing
pub stands_anew : (passed : Passed) (x : Actor) → IsWhole x → ((n : ℕ) → ActorEnd x Consumer n → passed.taken n ≡ []) → ((n : ℕ) → ActorEnd x Producer n → passed.sent n ≡ []) → ActorStandsFor x passed → ActorStandsFor x nothing_passed
stands_anew passed x whole ins outs f = stands_by passed nothing_passed x whole (told_anew x whole ins outs) (λ n own. sym (ins n own)) (λ n own. sym (outs n own)) f
  where
    told_anew : (x : Actor) → IsWhole x → ((n : ℕ) → ActorEnd x Consumer n → passed.taken n ≡ []) → ((n : ℕ) → ActorEnd x Producer n → passed.sent n ≡ []) → Telling passed nothing_passed x
    told_anew (Kinds.SerialVirtRx v) whole ins outs = rx_anew passed v ins outs
    told_anew (Kinds.EthDevice d) whole ins outs = device_anew passed d whole ins outs
    told_anew (Kinds.NetCopier c) whole ins outs = copier_anew passed c ins outs
    told_anew (Kinds.UartDevice x) whole ins outs = tt
    told_anew (Kinds.SerialClient x) whole ins outs = tt
    told_anew (Kinds.SerialVirtTx x) whole ins outs = tt
    told_anew (Kinds.UartDriver x) whole ins outs = tt
    told_anew (Kinds.EthDriver x) whole ins outs = tt
    told_anew (Kinds.NetVirtRx x) whole ins outs = tt
    told_anew (Kinds.NetClient x) whole ins outs = tt
    told_anew (Kinds.NetVirtTx x) whole ins outs = tt
    told_anew (Kinds.DiskDevice x) whole ins outs = tt
    told_anew (Kinds.BlkDriver x) whole ins outs = tt
    told_anew (Kinds.BlkVirt x) whole ins outs = tt
    told_anew (Kinds.BlkClient x) whole ins outs = tt
    told_anew (Kinds.Rogue x) whole ins outs = tt
