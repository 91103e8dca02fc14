-- What the hand does at queues of a copier or a device leaves the actor's ends.
use Rattle.std.proofs.Common.{◌≡◌, ◌<◌, ℕ, List, length, refl, sym, subst, ◌∙◌, inl, inr, arith}
use Rattle.std.specs.Option.{ForSome}
use Rattle.cargo_core.specs.Items.{kind_of}
use Rattle.wire_core.specs.Ends.{Role, Consumer, Producer}
use Rattle.wire_core.specs.Queues.{Queue, end_at}
use Rattle.turn_kit.specs.Table.{Agrees}
use Rattle.turn_kit.specs.Pipes.{FitsPipe}
use Rattle.turn_kit.specs.declared.pipe.Pipe.{Pipe}
use Rattle.net_copier.specs.Copying.{CopierEnd}
use Rattle.net_copier.specs.declared.NetCopier.{NetCopier}
use Rattle.device_model.specs.Ethernet.Devices.{DeviceEnd}
use Rattle.device_model.specs.declared.ethernet.EthDevice.{EthDevice}
use Rattle.base_rows.specs.Hands.{OnlyAt}
use Rattle.actor_rows.specs.Sizes.{IsInput, IsOutput, DeviceStands, CopierStands}
use Rattle.actor_rows.proofs.Sizing.{others}

-- an end that isn't the hand's
abbrev Away : (Role → ℕ → Type 0) → Role → ℕ → Type 0
Away ends role place = (r : Role) (n : ℕ) → ends r n → r ≡ role → n ≡ place → ⊥

module _ (w u : List Queue) (role : Role) (place : ℕ) (only : OnlyAt role place w u) where
  pipe_beside : (p : Pipe) → (Consumer ≡ role → p.input.queue.0 ≡ place → ⊥) → (Producer ≡ role → p.output.queue.0 ≡ place → ⊥) → FitsPipe (end_at w) p → FitsPipe (end_at u) p
  pipe_beside p input output f = record {
    input = subst (λ e. Agrees e p.input.state) (sym (only.rest Consumer p.input.queue.0 input)) f.input;
    output = subst (λ e. Agrees e p.output.state) (sym (only.rest Producer p.output.queue.0 output)) f.output;
    kinds = only.kinds Consumer p.input.queue.0 ∙ (f.kinds ∙ sym (only.kinds Producer p.output.queue.0));
    load = subst (λ k. ForSome p.load (λ c. kind_of c.0 ≡ k)) (sym (only.kinds Producer p.output.queue.0)) f.load;
  }

  copier_beside : (c : NetCopier) → Away (CopierEnd c) role place → CopierStands w c → CopierStands u c
  copier_beside c away s = record {
    fits = record {
      lease_input = subst (λ e. Agrees e c.lease_input.state) (sym (only.rest Consumer c.lease_input.queue.0 (away Consumer _ (inl refl)))) s.fits.lease_input;
      buffer_input = subst (λ e. Agrees e c.buffer_input.state) (sym (only.rest Consumer c.buffer_input.queue.0 (away Consumer _ (inr refl)))) s.fits.buffer_input;
      buffer_output = subst (λ e. Agrees e c.buffer_output.state) (sym (only.rest Producer c.buffer_output.queue.0 (away Producer _ (inl refl)))) s.fits.buffer_output;
      lease_output = subst (λ e. Agrees e c.lease_output.state) (sym (only.rest Producer c.lease_output.queue.0 (away Producer _ (inr refl)))) s.fits.lease_output;
      leases_come = only.kinds Consumer _ ∙ s.fits.leases_come;
      buffers_come = only.kinds Consumer _ ∙ s.fits.buffers_come;
      buffers_go = only.kinds Producer _ ∙ s.fits.buffers_go;
      leases_go = only.kinds Producer _ ∙ s.fits.leases_go;
      inputs_apart = s.fits.inputs_apart;
      outputs_apart = s.fits.outputs_apart;
      lease = s.fits.lease;
      buffer = s.fits.buffer;
      work = s.fits.work;
    };
    long = only.long ∙ s.long;
    hands = λ n input. only.kinds Producer n ∙ s.hands n input;
    leases = s.leases;
    leases_back = s.leases_back;
    buffers = s.buffers;
    filled = s.filled;
  }

  device_beside : (d : EthDevice) → Away (DeviceEnd d) role place → DeviceStands w d → DeviceStands u d
  device_beside d away s = record {
    fits = record {
      free = subst (λ e. Agrees e d.free.state) (sym (only.rest Consumer d.free.queue.0 (away Consumer _ (inl refl)))) s.fits.free;
      active = subst (λ e. Agrees e d.active.state) (sym (only.rest Producer d.active.queue.0 (away Producer _ (inl refl)))) s.fits.active;
      wire = pipe_beside d.wire.pipe (away Consumer _ (inr refl)) (away Producer _ (inr refl)) s.fits.wire;
      comes = only.kinds Consumer _ ∙ s.fits.comes;
      goes = only.kinds Producer _ ∙ s.fits.goes;
      load = s.fits.load;
      inputs_apart = s.fits.inputs_apart;
      outputs_apart = s.fits.outputs_apart;
      next = s.fits.next;
      frames = s.fits.frames;
    };
    long = only.long ∙ s.long;
    hands = λ n input. only.kinds Producer n ∙ s.hands n input;
    free = s.free;
    active = s.active;
    input = s.input;
    output = s.output;
  }

-- the hand takes at a queue that is there
pub out_there : (w : List Queue) (q : ℕ) → IsOutput q → length w ≡ 4 → q < length w
out_there w q (inl e) long = omega (arith, e, long)
out_there w q (inr e) long = omega (arith, e, long)

-- the queues where a copier takes, and where it puts
copier_takes : (w : List Queue) (c : NetCopier) → CopierStands w c → (n : ℕ) → CopierEnd c Consumer n → IsInput n
copier_takes w c s n (inl e) = inl (e ∙ s.leases)
copier_takes w c s n (inr e) = inr (e ∙ s.buffers)

copier_puts : (w : List Queue) (c : NetCopier) → CopierStands w c → (n : ℕ) → CopierEnd c Producer n → IsOutput n
copier_puts w c s n (inl e) = inr (e ∙ s.filled)
copier_puts w c s n (inr e) = inl (e ∙ s.leases_back)

device_takes : (w : List Queue) (d : EthDevice) → DeviceStands w d → (n : ℕ) → DeviceEnd d Consumer n → IsInput n
device_takes w d s n (inl e) = inl (e ∙ s.free)
device_takes w d s n (inr e) = inr (e ∙ s.input)

device_puts : (w : List Queue) (d : EthDevice) → DeviceStands w d → (n : ℕ) → DeviceEnd d Producer n → IsOutput n
device_puts w d s n (inl e) = inl (e ∙ s.active)
device_puts w d s n (inr e) = inr (e ∙ s.output)

-- the hand puts where the actor takes, and takes where it puts
pub copier_given : (w u : List Queue) (c : NetCopier) (q : ℕ) → IsInput q → CopierStands w c → OnlyAt Producer q w u → CopierStands u c
copier_given w u c q input s only = copier_beside w u Producer q only c away s
  where
    away : Away (CopierEnd c) Producer q
    away Consumer n e role place = cc
    away Producer n e role place = others q n input (copier_puts w c s n e) place

pub copier_left : (w u : List Queue) (c : NetCopier) (q : ℕ) → IsOutput q → CopierStands w c → OnlyAt Consumer q w u → CopierStands u c
copier_left w u c q output s only = copier_beside w u Consumer q only c away s
  where
    away : Away (CopierEnd c) Consumer q
    away Producer n e role place = cc
    away Consumer n e role place = others n q (copier_takes w c s n e) output (sym place)

pub device_given : (w u : List Queue) (d : EthDevice) (q : ℕ) → IsInput q → DeviceStands w d → OnlyAt Producer q w u → DeviceStands u d
device_given w u d q input s only = device_beside w u Producer q only d away s
  where
    away : Away (DeviceEnd d) Producer q
    away Consumer n e role place = cc
    away Producer n e role place = others q n input (device_puts w d s n e) place

pub device_left : (w u : List Queue) (d : EthDevice) (q : ℕ) → IsOutput q → DeviceStands w d → OnlyAt Consumer q w u → DeviceStands u d
device_left w u d q output s only = device_beside w u Consumer q only d away s
  where
    away : Away (DeviceEnd d) Consumer q
    away Producer n e role place = cc
    away Consumer n e role place = others n q (device_takes w d s n e) output (sym place)
