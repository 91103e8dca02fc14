use Rattle.std.proofs.Common.{◌≡◌, ◌==◌, ℕ, zero, suc, Bool, true, false, cond, Option, Some, List, [], ◌∷◌, refl, sym, ap, ◌∙◌, subst, eq-eqb, eqb-true}
use Rattle.i2c_text.specs.declared.bus.BusAsk.{BusAsk}
use Rattle.i2c_virt.specs.declared.i2c_kit.alone.Request.{Request}
use Rattle.i2c_virt.specs.declared.i2c_kit.device.Device.{Device}
use Rattle.i2c_virt.specs.I2cKit.Devices.{address_of, devices_answer, devices_after}
use Rattle.bus_law.specs.I2cLaw.Shares.{asks_of, replies_for, served_by, asks_in, AtTheirOwn}
use Rattle.bus_law.proofs.I2cLaw.Lookups.{at_device, answer_by, after_by, answer_at, after_here, after_off}

-- Transfers of all clients and those of one, side by side.

front : {T : Type 0} {x y : T} {xs ys : List T} → x ≡ y → xs ≡ ys → x ∷ xs ≡ y ∷ ys
front e f = cc

some_of : {x y : ℕ} → Some x ≡ Some y → x ≡ y
some_of h = cc

-- two sets of devices with the same device of an address have the same there afterwards
both_after : (D D' : List Device) (ask : BusAsk) (a : ℕ) → at_device D a ≡ at_device D' a → at_device (devices_after D ask) a ≡ at_device (devices_after D' ask) a
both_after D D' ask a same = by (address_of ask == a) refl
  where
    by : (t : Bool) → (address_of ask == a) ≡ t → at_device (devices_after D ask) a ≡ at_device (devices_after D' ask) a
    by false off = after_off D ask a off ∙ (same ∙ sym (after_off D' ask a off))
    by true on = subst (λ z. at_device D z ≡ at_device D' z → at_device (devices_after D ask) z ≡ at_device (devices_after D' ask) z) (eqb-true (address_of ask) a on) (λ e. after_here D ask ∙ (ap (after_by ask) e ∙ sym (after_here D' ask))) same

module _ (owner : ℕ → Option ℕ) (c : ℕ) where
  -- the client's devices are the same
  abbrev Agree : List Device → List Device → Type 0
  Agree D D' = (a : ℕ) → owner a ≡ Some c → at_device D a ≡ at_device D' a

  serve : (ts : List Request) → AtTheirOwn owner ts → (D D' : List Device) → Agree D D' → replies_for c ts (served_by D (asks_in ts)) ≡ served_by D' (asks_of c ts)
  serve [] own D D' agree = refl
  serve (r ∷ ts) own D D' agree = by (r.client == c) refl (serve ts (λ k x at. own (suc k) x at))
    where
      by : (t : Bool) → (r.client == c) ≡ t → ((E E' : List Device) → Agree E E' → replies_for c ts (served_by E (asks_in ts)) ≡ served_by E' (asks_of c ts)) → replies_for c (r ∷ ts) (served_by D (asks_in (r ∷ ts))) ≡ served_by D' (asks_of c (r ∷ ts))
      by true mine rest =
          let its : owner (address_of r.ask) ≡ Some c = own zero r refl ∙ ap (λ n. Some n) (eqb-true r.client c mine) in
          let head : devices_answer D r.ask ≡ devices_answer D' r.ask = answer_at D r.ask ∙ (ap (λ o. answer_by o r.ask) (agree (address_of r.ask) its) ∙ sym (answer_at D' r.ask)) in
          let tail = rest (devices_after D r.ask) (devices_after D' r.ask) (λ a h. both_after D D' r.ask a (agree a h)) in
          ap (λ t. cond t (devices_answer D r.ask ∷ replies_for c ts (served_by (devices_after D r.ask) (asks_in ts))) (replies_for c ts (served_by (devices_after D r.ask) (asks_in ts)))) mine
          ∙ (front head tail ∙ sym (ap (λ t. served_by D' (cond t (r.ask ∷ asks_of c ts) (asks_of c ts))) mine))
      by false other rest =
          let tail = rest (devices_after D r.ask) D' (λ a h. after_off D r.ask a (off a h) ∙ agree a h) in
          ap (λ t. cond t (devices_answer D r.ask ∷ replies_for c ts (served_by (devices_after D r.ask) (asks_in ts))) (replies_for c ts (served_by (devices_after D r.ask) (asks_in ts)))) other
          ∙ (tail ∙ sym (ap (λ t. served_by D' (cond t (r.ask ∷ asks_of c ts) (asks_of c ts))) other))
        where
          off : (a : ℕ) → owner a ≡ Some c → (address_of r.ask == a) ≡ false
          off a h = go (address_of r.ask == a) refl
            where
              go : (t : Bool) → (address_of r.ask == a) ≡ t → (address_of r.ask == a) ≡ false
              go false e = e
              go true e =
                  let same : r.client ≡ c = some_of (sym (own zero r refl) ∙ (ap owner (eqb-true (address_of r.ask) a e) ∙ h)) in
                  let bad : true ≡ false = sym (eq-eqb r.client c same) ∙ other in
                  cc

pub served_alone : (owner : ℕ → Option ℕ) (devices : List Device) (transfers : List Request) (c : ℕ) → AtTheirOwn owner transfers → replies_for c transfers (served_by devices (asks_in transfers)) ≡ served_by devices (asks_of c transfers)
served_alone owner devices transfers c own = serve owner c transfers own devices devices (λ a h. refl)
