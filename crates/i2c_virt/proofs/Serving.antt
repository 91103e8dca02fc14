use Rattle.std.proofs.Common.{◌≡◌, ◌==◌, ◌&&◌, ℕ, Bool, true, false, Option, Some, None, is_none, IsSome, List, [], ◌∷◌, ◌++◌, length, refl, sym, ap, ◌∙◌, subst}
use Rattle.std.specs.Option.{option_to_list}
use Rattle.std.proofs.lemmas.List.{append-nil}
use Rattle.std.proofs.lemmas.List.Elements.{All-push}
use Rattle.wire_core.specs.declared.names.Event.{Event}
use Rattle.wire_core.specs.declared.names.QueueId.{QueueId}
use Rattle.wire_core.specs.Deeds.{Cargo}
use Rattle.wire_core.specs.Lists.{Lists, Passed, with, if_there}
use Rattle.wire_core.proofs.Places.{if_there_here}
use Rattle.turn_kit.specs.declared.ends.Intake.{Intake}
use Rattle.turn_kit.specs.declared.ends.Outlet.{Outlet}
use Rattle.i2c_virt.specs.declared.i2c_kit.device.Device.{Device}
use Rattle.i2c_virt.specs.I2cKit.Devices.{new_devices}
use Rattle.i2c_virt.specs.I2cKit.Entries.{is_bus_request}
use Rattle.i2c_virt.specs.I2cKit.Serving.{answer_to, answers_to, done, all_done}
use Rattle.i2c_virt.specs.declared.bus_device.BusDevice.{BusDevice}
use Rattle.i2c_virt.specs.BusDevices.{BusStandsFor, Accepted, AcceptedIf, is_serving}

-- What the bus stands for goes on with a request that came.

-- one entry more is answered on the devices that those before it left
answers_more : (ds : List Device) (xs : List Cargo) (x : Cargo) → answers_to ds (xs ++ x ∷ []) ≡ answers_to ds xs ++ answer_to (all_done ds xs) x ∷ []
answers_more ds [] x = refl
answers_more ds (y ∷ xs) x = ap (λ cs. answer_to ds y ∷ cs) (answers_more (done ds y) xs x)

done_more : (ds : List Device) (xs : List Cargo) (x : Cargo) → all_done ds (xs ++ x ∷ []) ≡ done (all_done ds xs) x
done_more ds [] x = refl
done_more ds (y ∷ xs) x = done_more (done ds y) xs x

-- a request came, which was done, or is kept where it is out of turn
module _ (b n : BusDevice) (i : Intake) (x : Cargo) (passed : Passed) (took put : Lists) (calls : List Event)
    (queue : i.queue ≡ b.input.queue) (input : n.input ≡ i) (output : n.output ≡ b.output) (addresses : n.addresses ≡ b.addresses)
    (no_load : b.load ≡ None) (no_stray : b.stray ≡ None)
    (takes : (m : ℕ) → took m ≡ if_there (b.input.queue.0 == m) (x ∷ [])) (puts : (m : ℕ) → put m ≡ []) (h : BusStandsFor b passed) where
  abbrev req : ℕ
  req = b.input.queue.0

  abbrev resp : ℕ
  resp = b.output.queue.0

  abbrev fresh : List Device
  fresh = new_devices b.addresses

  same_req : n.input.queue.0 ≡ req
  same_req = ap (λ (y : Intake). y.queue.0) input ∙ ap (λ (q : QueueId). q.0) queue

  same_resp : n.output.queue.0 ≡ resp
  same_resp = ap (λ (y : Outlet). y.queue.0) output

  came : took req ≡ x ∷ []
  came = takes req ∙ if_there_here req (x ∷ [])

  -- what passed now
  abbrev after : Passed
  after = record { taken = with passed.taken took; sent = with passed.sent put; calls = calls }

  took_all : passed.taken req ≡ h.requests
  took_all = h.taken ∙ (ap (λ (s : Option Cargo). h.requests ++ option_to_list s) no_stray ∙ append-nil h.requests)

  taken_now : after.taken n.input.queue.0 ≡ h.requests ++ x ∷ []
  taken_now = ap (λ m. after.taken m) same_req ∙ (ap (λ ys. passed.taken req ++ ys) came ∙ ap (λ ys. ys ++ x ∷ []) took_all)

  sent_now : after.sent n.output.queue.0 ≡ passed.sent resp
  sent_now = ap (λ m. after.sent m) same_resp ∙ (ap (λ ys. passed.sent resp ++ ys) (puts resp) ∙ append-nil (passed.sent resp))

  all_put : passed.sent resp ≡ answers_to fresh h.requests
  all_put = sym (append-nil (passed.sent resp)) ∙ (ap (λ (l : Option Cargo). passed.sent resp ++ option_to_list l) (sym no_load) ∙ h.answered)

  by_turn : (t : Bool) → is_bus_request x ≡ t → AcceptedIf t (record b { input = i }) x n → BusStandsFor n after
  by_turn false stray a = record {
    requests = h.requests;
    taken = taken_now ∙ ap (λ (s : Option Cargo). h.requests ++ option_to_list s) (sym a.stray);
    answered = ap (λ ys. ys ++ option_to_list n.load) sent_now
        ∙ (ap (λ (l : Option Cargo). passed.sent resp ++ option_to_list l) a.load
        ∙ (h.answered ∙ ap (λ a. answers_to (new_devices a) h.requests) (sym addresses)));
    devices = ap (λ ds. ds.items) a.devices ∙ (h.devices ∙ ap (λ a. all_done (new_devices a) h.requests) (sym addresses));
    in_turn = h.in_turn;
    out_of_turn = λ y e. let same : x ≡ y = cc in subst (λ (z : Cargo). is_bus_request z ≡ false) same stray;
  }
  by_turn true good a = record {
    requests = h.requests ++ x ∷ [];
    taken = taken_now ∙ (sym (append-nil (h.requests ++ x ∷ [])) ∙ ap (λ (s : Option Cargo). (h.requests ++ x ∷ []) ++ option_to_list s) (sym (a.stray ∙ no_stray)));
    answered = ap (λ ys. ys ++ option_to_list n.load) (sent_now ∙ all_put)
        ∙ (ap (λ (l : Option Cargo). answers_to fresh h.requests ++ option_to_list l) a.load
        ∙ (ap (λ ds. answers_to fresh h.requests ++ answer_to ds x ∷ []) h.devices
        ∙ (sym (answers_more fresh h.requests x) ∙ ap (λ a. answers_to (new_devices a) (h.requests ++ x ∷ [])) (sym addresses))));
    devices = a.devices ∙ (ap (λ ds. done ds x) h.devices ∙ (sym (done_more fresh h.requests x) ∙ ap (λ a. all_done (new_devices a) (h.requests ++ x ∷ [])) (sym addresses)));
    in_turn = All-push (λ (y : Cargo). is_bus_request y ≡ true) h.requests x h.in_turn good;
    out_of_turn = λ y e. let no : None ≡ Some y = sym (a.stray ∙ no_stray) ∙ e in cc;
  }

  pub request_came : Accepted (record b { input = i }) x n → BusStandsFor n after
  request_came a = by_turn (is_bus_request x) refl a

-- a request comes only where none is in the hand
serving_as : (l s : Option Cargo) → (is_none l && is_none s) ≡ true → (l ≡ None) × (s ≡ None)
serving_as None None h = (refl, refl)
serving_as None (Some y) h = cc
serving_as (Some y) s h = cc

pub serving : (b : BusDevice) (got : Option Cargo) (need : Bool) → need ≡ is_serving b → (IsSome got → need ≡ true) → (x : Cargo) → got ≡ Some x → (b.load ≡ None) × (b.stray ≡ None)
serving b None need is f x at = cc
serving b (Some z) need is f x at = serving_as b.load b.stray (sym is ∙ f refl)
