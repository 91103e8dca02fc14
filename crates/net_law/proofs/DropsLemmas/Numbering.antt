use Rattle.std.proofs.Common.{◌≡◌, ◌+◌, ℕ, Bool, List, refl, sym, ap, ◌∙◌}
use Rattle.wire_core.specs.declared.names.Event.{Event}
use Rattle.device_model.specs.Ethernet.Devices.{accepted, rx_free}
use Rattle.device_model.specs.declared.ethernet.EthDevice.{EthDevice}
use Rattle.net_copier.specs.declared.NetCopier.{NetCopier}
use Rattle.net_law.specs.Dropped.{lease_marks, told_leases, told_marks, told_used}
use Rattle.net_law.specs.Parts.Numbers.{client_first, copier_at, device_at, policy_at}
use Rattle.net_law.specs.Parts.Playing.{copier_part, device_part}
use Rattle.net_law.specs.Parts.Rows.{accepted_by}
use Rattle.net_law.proofs.DropsLemmas.Telling.{accepted_is}

device_told : (d : EthDevice) (first : ℕ) (frames : List (List ℕ)) (drops : Bool) → device_part d ≡ device_at first frames drops → (rx_free d ≡ first) × (d.frames ≡ frames) × (d.drops ≡ drops)
device_told d first frames drops e = (cc, cc, cc)

pub used_is : (d : EthDevice) (first : ℕ) (frames : List (List ℕ)) (drops : Bool) (calls : List Event) → device_part d ≡ device_at first frames drops → accepted d calls ≡ accepted_by drops (told_used drops first calls) frames
used_is d first frames drops calls e =
    let own = device_told d first frames drops e in
    sym (accepted_is d calls)
    ∙ (ap (λ n. accepted_by d.drops (told_used d.drops n calls) d.frames) own.0
    ∙ (ap (λ fs. accepted_by d.drops (told_used d.drops first calls) fs) own.1
    ∙ ap (λ b. accepted_by b (told_used b first calls) frames) own.2))

pub copier_told : (c : NetCopier) (first k : ℕ) (drops : Bool) → copier_part c ≡ copier_at first k drops → (c.lease_input.queue.0 ≡ client_first first k) × (c.buffer_input.queue.0 ≡ client_first first k + 3) × (c.drops ≡ drops)
copier_told c first k drops e = (cc, cc, cc)

pub marks_are : (c : NetCopier) (first k : ℕ) (drops : List Bool) (calls : List Event) → copier_part c ≡ copier_at first k (policy_at drops k) → lease_marks c calls ≡ told_marks first drops calls k
marks_are c first k drops calls e =
    let own = copier_told c first k (policy_at drops k) e in
    ap (λ n. told_leases c.drops n c.buffer_input.queue.0 calls) own.0
    ∙ (ap (λ n. told_leases c.drops (client_first first k) n calls) own.1
    ∙ ap (λ b. told_leases b (client_first first k) (client_first first k + 3) calls) own.2)
