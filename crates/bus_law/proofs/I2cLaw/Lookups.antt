use Rattle.std.proofs.Common.{◌≡◌, ◌==◌, ℕ, Bool, true, false, cond, Option, Some, None, List, [], ◌∷◌, refl, sym, ap, ◌∙◌, eqb-true}
use Rattle.i2c_text.specs.declared.bus.BusAsk.{BusAsk}
use Rattle.i2c_text.specs.declared.bus.BusAsk.TheVariants as Asks
use Rattle.i2c_text.specs.declared.report.BusReply.{BusReply}
use Rattle.i2c_text.specs.declared.report.BusStatus.TheVariants as Ended
use Rattle.i2c_virt.specs.declared.i2c_kit.device.Device.{Device}
use Rattle.i2c_virt.specs.I2cKit.Devices.{address_of, answer_of, device_after, devices_answer, devices_after}

-- What the devices do for a request, by the one device of its address.

-- the device of an address
abbrev pub at_device : List Device → ℕ → Option Device
at_device [] a = None
at_device (d ∷ ds) a = cond (d.address == a) (Some d) (at_device ds a)

-- what it answers
abbrev pub answer_by : Option Device → BusAsk → BusReply
answer_by None ask = record { status = Ended.NoAck; bytes = [] }
answer_by (Some d) ask = record { status = Ended.Ok; bytes = answer_of d ask }

-- and what it is then
abbrev pub after_by : BusAsk → Option Device → Option Device
after_by ask None = None
after_by ask (Some d) = Some (device_after d ask)

pub answer_at : (ds : List Device) (ask : BusAsk) → devices_answer ds ask ≡ answer_by (at_device ds (address_of ask)) ask
answer_at [] ask = refl
answer_at (d ∷ ds) ask = by (d.address == address_of ask) refl (answer_at ds ask)
  where
    by : (t : Bool) → (d.address == address_of ask) ≡ t → devices_answer ds ask ≡ answer_by (at_device ds (address_of ask)) ask → devices_answer (d ∷ ds) ask ≡ answer_by (at_device (d ∷ ds) (address_of ask)) ask
    by true e more = ap (λ t. cond t (record { status = Ended.Ok; bytes = answer_of d ask }) (devices_answer ds ask)) e ∙ sym (ap (λ t. answer_by (cond t (Some d) (at_device ds (address_of ask))) ask) e)
    by false e more = ap (λ t. cond t (record { status = Ended.Ok; bytes = answer_of d ask }) (devices_answer ds ask)) e ∙ (more ∙ sym (ap (λ t. answer_by (cond t (Some d) (at_device ds (address_of ask))) ask) e))

-- a device keeps its address
keeps_address : (d : Device) (ask : BusAsk) → (device_after d ask).address ≡ d.address
keeps_address d (Asks.Read a n) = refl
keeps_address d (Asks.Claim a) = refl
keeps_address d (Asks.Write a []) = refl
keeps_address d (Asks.Write a (p ∷ more)) = refl

pub after_here : (ds : List Device) (ask : BusAsk) → at_device (devices_after ds ask) (address_of ask) ≡ after_by ask (at_device ds (address_of ask))
after_here [] ask = refl
after_here (d ∷ ds) ask = by (d.address == address_of ask) refl (after_here ds ask)
  where
    by : (t : Bool) → (d.address == address_of ask) ≡ t → at_device (devices_after ds ask) (address_of ask) ≡ after_by ask (at_device ds (address_of ask)) → at_device (devices_after (d ∷ ds) ask) (address_of ask) ≡ after_by ask (at_device (d ∷ ds) (address_of ask))
    by true e more =
        let h : ((device_after d ask).address == address_of ask) ≡ true = ap (λ x. x == address_of ask) (keeps_address d ask) ∙ e in
        ap (λ t. at_device (cond t (device_after d ask ∷ ds) (d ∷ devices_after ds ask)) (address_of ask)) e
        ∙ (ap (λ t. cond t (Some (device_after d ask)) (at_device ds (address_of ask))) h
        ∙ sym (ap (λ t. after_by ask (cond t (Some d) (at_device ds (address_of ask)))) e))
    by false e more =
        ap (λ t. at_device (cond t (device_after d ask ∷ ds) (d ∷ devices_after ds ask)) (address_of ask)) e
        ∙ (ap (λ t. cond t (Some d) (at_device (devices_after ds ask) (address_of ask))) e
        ∙ (more
        ∙ sym (ap (λ t. after_by ask (cond t (Some d) (at_device ds (address_of ask)))) e)))

pub after_off : (ds : List Device) (ask : BusAsk) (a : ℕ) → (address_of ask == a) ≡ false → at_device (devices_after ds ask) a ≡ at_device ds a
after_off [] ask a off = refl
after_off (d ∷ ds) ask a off = by (d.address == address_of ask) refl (after_off ds ask a off)
  where
    by : (t : Bool) → (d.address == address_of ask) ≡ t → at_device (devices_after ds ask) a ≡ at_device ds a → at_device (devices_after (d ∷ ds) ask) a ≡ at_device (d ∷ ds) a
    by true e more =
        let is : d.address ≡ address_of ask = eqb-true d.address (address_of ask) e in
        let h : ((device_after d ask).address == a) ≡ false = ap (λ x. x == a) (keeps_address d ask ∙ is) ∙ off in
        let k : (d.address == a) ≡ false = ap (λ x. x == a) is ∙ off in
        ap (λ t. at_device (cond t (device_after d ask ∷ ds) (d ∷ devices_after ds ask)) a) e
        ∙ (ap (λ t. cond t (Some (device_after d ask)) (at_device ds a)) h
        ∙ sym (ap (λ t. cond t (Some d) (at_device ds a)) k))
    by false e more =
        ap (λ t. at_device (cond t (device_after d ask ∷ ds) (d ∷ devices_after ds ask)) a) e
        ∙ ap (λ o. cond (d.address == a) (Some d) o) more
