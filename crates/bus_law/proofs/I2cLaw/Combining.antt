use Rattle.std.proofs.Common.{◌≡◌, ◌==◌, ◌++◌, ℕ, Bool, true, false, cond, Option, Some, None, List, [], ◌∷◌, refl, sym, ap, ◌∙◌, append_assoc, append-nil, eqb-true}
use Rattle.std.specs.List.{list_any}
use Rattle.i2c_text.specs.declared.bus.BusAsk.{BusAsk}
use Rattle.i2c_text.specs.declared.report.BusReply.{BusReply}
use Rattle.i2c_text.specs.declared.report.BusStatus.{BusStatus}
use Rattle.i2c_text.specs.declared.report.BusStatus.TheVariants as Ended
use Rattle.i2c_virt.specs.declared.i2c_kit.alone.Request.{Request}
use Rattle.i2c_virt.specs.declared.i2c_kit.device.Device.{Device}
use Rattle.i2c_virt.specs.I2cKit.Devices.{address_of, devices_answer, devices_after, new_devices}
use Rattle.i2c_virt.specs.I2cKit.Grants.{is_claim, owner_after, is_free_for, is_owner, granted_to}
use Rattle.i2c_virt.specs.I2cKit.Replies.{bare_reply, reply_to, reached_after, has_it, may_have_it, is_claimed, alone_from, replies_alone}
use Rattle.i2c_virt.proofs.I2cKit.Replying.{alone_begin}
use Rattle.i2c_virt.specs.Owners.{verdict}
use Rattle.bus_law.specs.I2cLaw.Shares.{asks_of, served_by}
use Rattle.bus_law.specs.I2cLaw.Judging.{verdicts_of, sent_on, transfers_of, combined}
use Rattle.bus_law.proofs.I2cLaw.Owning.{asks_append, may_is, has_is}
use Rattle.bus_law.proofs.I2cLaw.Walking.{front, reply_same}

-- The virtualiser's own answers and those of the devices, one after another.

abbrev verdict_by : (claim may has : Bool) → Option BusStatus
verdict_by claim may has = cond claim (Some (cond may Ended.Ok Ended.Taken)) (cond has None (Some Ended.Unclaimed))

-- one request of the client
one : (claim may has : Bool) (D : List Device) (ask : BusAsk) (vs : List (Option BusStatus)) (ts : List BusAsk) (tail : List Device → List BusReply) → ((E : List Device) → combined vs (served_by E ts) ≡ tail E)
    → combined (verdict_by claim may has ∷ vs) (served_by D (sent_on (verdict_by claim may has) ask ++ ts))
    ≡ cond claim (bare_reply (cond may Ended.Ok Ended.Taken)) (cond has (devices_answer D ask) (bare_reply Ended.Unclaimed)) ∷ tail (cond claim D (cond has (devices_after D ask) D))
one true may has D ask vs ts tail rest = ap (λ l. bare_reply (cond may Ended.Ok Ended.Taken) ∷ l) (rest D)
one false may true D ask vs ts tail rest = ap (λ l. devices_answer D ask ∷ l) (rest (devices_after D ask))
one false may false D ask vs ts tail rest = ap (λ l. bare_reply Ended.Unclaimed ∷ l) (rest D)

module _ (c : ℕ) (log : List Request) where
  abbrev granted : List ℕ
  granted = granted_to c log

  module _ (before more : List Request) (r : Request) (is : before ++ r ∷ more ≡ log) (D : List Device) where
    abbrev a : ℕ
    a = address_of r.ask

    abbrev with_it : List Request
    with_it = before ++ r ∷ []

    abbrev vs : List (Option BusStatus)
    vs = verdicts_of c with_it more

    abbrev ts : List BusAsk
    ts = transfers_of c with_it more

    abbrev claimed : Bool
    claimed = is_claimed granted (asks_of c before) a

    abbrev Rest : Type 0
    Rest = (E : List Device) → combined vs (served_by E ts) ≡ alone_from granted (asks_of c with_it) E (asks_of c more)

    abbrev Whole : Type 0
    Whole = combined (verdicts_of c before (r ∷ more)) (served_by D (transfers_of c before (r ∷ more))) ≡ alone_from granted (asks_of c before) D (asks_of c (r ∷ more))

    module _ (mine : (r.client == c) ≡ true) (rest : Rest) where
      same : r.client ≡ c
      same = eqb-true r.client c mine

      has_same : has_it before r ≡ claimed
      has_same = ap (is_owner (owner_after before a)) same ∙ has_is c log before more r is

      asked : asks_of c with_it ≡ asks_of c before ++ r.ask ∷ []
      asked = asks_append c before (r ∷ []) ∙ ap (λ t. asks_of c before ++ cond t (r.ask ∷ []) []) mine

      -- what the client alone is answered further on, on these devices
      abbrev tail : List Device → List BusReply
      tail E = alone_from granted (asks_of c before ++ r.ask ∷ []) E (asks_of c more)

      step_mine : Whole
      step_mine =
          ap (λ t. combined (cond t (verdict before r ∷ []) [] ++ vs) (served_by D (cond t (sent_on (verdict before r) r.ask) [] ++ ts))) mine
          ∙ (one (is_claim r.ask) (may_have_it before r) (has_it before r) D r.ask vs ts tail (λ E. rest E ∙ ap (λ b. alone_from granted b E (asks_of c more)) asked)
          ∙ (front (reply_same (may_have_it before r) (list_any (λ g. g == a) granted) (has_it before r) claimed D D r.ask (λ claim. ap (is_free_for (owner_after before a)) same ∙ may_is c log before more r is same claim) has_same (λ h. refl)) (ap (λ h. tail (reached_after h D r.ask)) has_same)
          ∙ sym (ap (λ t. alone_from granted (asks_of c before) D (cond t (r.ask ∷ asks_of c more) (asks_of c more))) mine)))

    module _ (other : (r.client == c) ≡ false) (rest : Rest) where
      unasked : asks_of c with_it ≡ asks_of c before
      unasked = asks_append c before (r ∷ []) ∙ (ap (λ t. asks_of c before ++ cond t (r.ask ∷ []) []) other ∙ append-nil (asks_of c before))

      step_other : Whole
      step_other =
          ap (λ t. combined (cond t (verdict before r ∷ []) [] ++ vs) (served_by D (cond t (sent_on (verdict before r) r.ask) [] ++ ts))) other
          ∙ (rest D ∙ (ap (λ b. alone_from granted b D (asks_of c more)) unasked
          ∙ sym (ap (λ t. alone_from granted (asks_of c before) D (cond t (r.ask ∷ asks_of c more) (asks_of c more))) other)))

  judge : (before more : List Request) → before ++ more ≡ log → (D : List Device) → combined (verdicts_of c before more) (served_by D (transfers_of c before more)) ≡ alone_from granted (asks_of c before) D (asks_of c more)
  judge before [] is D = refl
  judge before (r ∷ more) is D = by (r.client == c) refl (judge (before ++ r ∷ []) more (append_assoc before (r ∷ []) more ∙ is))
    where
      by : (t : Bool) → (r.client == c) ≡ t → ((E : List Device) → combined (verdicts_of c (before ++ r ∷ []) more) (served_by E (transfers_of c (before ++ r ∷ []) more)) ≡ alone_from granted (asks_of c (before ++ r ∷ [])) E (asks_of c more)) → combined (verdicts_of c before (r ∷ more)) (served_by D (transfers_of c before (r ∷ more))) ≡ alone_from granted (asks_of c before) D (asks_of c (r ∷ more))
      by true mine rest = step_mine before more r is D mine rest
      by false other rest = step_other before more r is D other rest

pub judged_alone : (addresses : List ℕ) (taken : List Request) (c : ℕ) → combined (verdicts_of c [] taken) (served_by (new_devices addresses) (transfers_of c [] taken)) ≡ replies_alone (granted_to c taken) addresses (asks_of c taken)
judged_alone addresses taken c = judge c taken [] taken refl (new_devices addresses) ∙ alone_begin (granted_to c taken) addresses (asks_of c taken)
