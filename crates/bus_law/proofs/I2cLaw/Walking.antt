use Rattle.std.proofs.Common.{◌≡◌, ◌==◌, ◌++◌, ℕ, Bool, true, false, cond, Option, Some, None, List, [], ◌∷◌, refl, sym, ap, ◌∙◌, subst, append_assoc, append-nil, eq-eqb, eqb-true}
use Rattle.std.specs.List.{list_any}
use Rattle.cargo_core.specs.Lists.{IsPrefix}
use Rattle.i2c_text.specs.declared.bus.BusAsk.{BusAsk}
use Rattle.i2c_text.specs.declared.report.BusStatus.TheVariants as Ended
use Rattle.i2c_virt.specs.declared.i2c_kit.alone.Request.{Request}
use Rattle.i2c_virt.specs.declared.i2c_kit.device.Device.{Device}
use Rattle.i2c_virt.specs.I2cKit.Devices.{address_of, devices_answer, devices_after, new_devices}
use Rattle.i2c_virt.specs.I2cKit.Grants.{is_claim, owner_after, is_free_for, is_owner, granted_to}
use Rattle.i2c_virt.specs.I2cKit.Replies.{bare_reply, reply_to, reached_after, has_it, may_have_it, replies_from, replies_by, is_claimed, alone_from, replies_alone}
use Rattle.i2c_virt.proofs.I2cKit.Replying.{replies_begin, alone_begin}
use Rattle.bus_law.specs.I2cLaw.Shares.{asks_of, replies_for}
use Rattle.bus_law.proofs.I2cLaw.Lookups.{at_device, answer_by, after_by, answer_at, after_here, after_off}
use Rattle.bus_law.proofs.I2cLaw.Owning.{owner_or, owner_append, asks_append, may_is, has_is}

-- All requests and those of one client, side by side.

pub front : {T : Type 0} {x y : T} {xs ys : List T} → x ≡ y → xs ≡ ys → x ∷ xs ≡ y ∷ ys
front e f = cc

free_owner : (o : Option ℕ) (c : ℕ) → is_owner o c ≡ true → is_free_for o c ≡ true
free_owner None c h = cc
free_owner (Some d) c h = h

free_before : (o w : Option ℕ) (c : ℕ) → is_free_for (owner_or o w) c ≡ true → is_free_for o c ≡ true
free_before None w c h = refl
free_before (Some d) w c h = h

-- an address of another's isn't free
not_free : (o w : Option ℕ) (c d : ℕ) → (d == c) ≡ false → is_owner o d ≡ true → is_free_for (owner_or o w) c ≡ true → ⊥
not_free None w c d off owner free = cc
not_free (Some e) w c d off owner free =
    let same : e ≡ d = eqb-true e d owner in
    let mine : e ≡ c = eqb-true e c free in
    let bad : true ≡ false = sym (eq-eqb d c (sym same ∙ mine)) ∙ off in
    cc

-- what a reply is by
pub reply_same : (m m' h h' : Bool) (D D' : List Device) (ask : BusAsk) → (is_claim ask ≡ true → m ≡ m') → h ≡ h' → (h ≡ true → devices_answer D ask ≡ devices_answer D' ask) → reply_to m h D ask ≡ reply_to m' h' D' ask
reply_same m m' h h' D D' ask may has answer = by (is_claim ask) refl
  where
    second : (t : Bool) → h ≡ t → cond h (devices_answer D ask) (bare_reply Ended.Unclaimed) ≡ cond h' (devices_answer D' ask) (bare_reply Ended.Unclaimed)
    second true e = ap (λ t. cond t (devices_answer D ask) (bare_reply Ended.Unclaimed)) e ∙ (answer e ∙ sym (ap (λ t. cond t (devices_answer D' ask) (bare_reply Ended.Unclaimed)) (sym has ∙ e)))
    second false e = ap (λ t. cond t (devices_answer D ask) (bare_reply Ended.Unclaimed)) e ∙ sym (ap (λ t. cond t (devices_answer D' ask) (bare_reply Ended.Unclaimed)) (sym has ∙ e))

    by : (t : Bool) → is_claim ask ≡ t → reply_to m h D ask ≡ reply_to m' h' D' ask
    by true e =
        ap (λ t. cond t (bare_reply (cond m Ended.Ok Ended.Taken)) (cond h (devices_answer D ask) (bare_reply Ended.Unclaimed))) e
        ∙ (ap (λ x. bare_reply (cond x Ended.Ok Ended.Taken)) (may e)
        ∙ sym (ap (λ t. cond t (bare_reply (cond m' Ended.Ok Ended.Taken)) (cond h' (devices_answer D' ask) (bare_reply Ended.Unclaimed))) e))
    by false e =
        ap (λ t. cond t (bare_reply (cond m Ended.Ok Ended.Taken)) (cond h (devices_answer D ask) (bare_reply Ended.Unclaimed))) e
        ∙ (second h refl
        ∙ sym (ap (λ t. cond t (bare_reply (cond m' Ended.Ok Ended.Taken)) (cond h' (devices_answer D' ask) (bare_reply Ended.Unclaimed))) e))

-- the device of an address after a request that reaches the devices, or doesn't
reached_at : (h : Bool) (D : List Device) (ask : BusAsk) (a : ℕ) → (h ≡ true → (address_of ask == a) ≡ false) → at_device (reached_after h D ask) a ≡ at_device D a
reached_at h D ask a off = by (is_claim ask) refl h refl
  where
    by : (t : Bool) → is_claim ask ≡ t → (s : Bool) → h ≡ s → at_device (reached_after h D ask) a ≡ at_device D a
    by true e s f = ap (λ t. at_device (cond t D (cond h (devices_after D ask) D)) a) e
    by false e true f = ap (λ t. at_device (cond t D (cond h (devices_after D ask) D)) a) e ∙ (ap (λ t. at_device (cond t (devices_after D ask) D) a) f ∙ after_off D ask a (off f))
    by false e false f = ap (λ t. at_device (cond t D (cond h (devices_after D ask) D)) a) e ∙ ap (λ t. at_device (cond t (devices_after D ask) D) a) f

-- two sets of devices with the same device of an address have the same there afterwards
reached_same : (h h' : Bool) (D D' : List Device) (ask : BusAsk) (a : ℕ) → h ≡ h' → at_device D a ≡ at_device D' a → at_device (reached_after h D ask) a ≡ at_device (reached_after h' D' ask) a
reached_same h h' D D' ask a has same = by (address_of ask == a) refl
  where
    by : (t : Bool) → (address_of ask == a) ≡ t → at_device (reached_after h D ask) a ≡ at_device (reached_after h' D' ask) a
    by false off = reached_at h D ask a (λ f. off) ∙ (same ∙ sym (reached_at h' D' ask a (λ f. off)))
    by true on = cases (is_claim ask) refl h refl
      where
        is : address_of ask ≡ a
        is = eqb-true (address_of ask) a on

        moved : at_device (devices_after D ask) a ≡ at_device (devices_after D' ask) a
        moved = subst (λ z. at_device D z ≡ at_device D' z → at_device (devices_after D ask) z ≡ at_device (devices_after D' ask) z) is (λ e. after_here D ask ∙ (ap (after_by ask) e ∙ sym (after_here D' ask))) same

        cases : (t : Bool) → is_claim ask ≡ t → (s : Bool) → h ≡ s → at_device (reached_after h D ask) a ≡ at_device (reached_after h' D' ask) a
        cases true e s f = ap (λ t. at_device (cond t D (cond h (devices_after D ask) D)) a) e ∙ (same ∙ sym (ap (λ t. at_device (cond t D' (cond h' (devices_after D' ask) D')) a) e))
        cases false e true f =
            ap (λ t. at_device (cond t D (cond h (devices_after D ask) D)) a) e ∙ (ap (λ t. at_device (cond t (devices_after D ask) D) a) f
            ∙ (moved
            ∙ sym (ap (λ t. at_device (cond t D' (cond h' (devices_after D' ask) D')) a) e ∙ ap (λ t. at_device (cond t (devices_after D' ask) D') a) (sym has ∙ f))))
        cases false e false f =
            ap (λ t. at_device (cond t D (cond h (devices_after D ask) D)) a) e ∙ (ap (λ t. at_device (cond t (devices_after D ask) D) a) f
            ∙ (same
            ∙ sym (ap (λ t. at_device (cond t D' (cond h' (devices_after D' ask) D')) a) e ∙ ap (λ t. at_device (cond t (devices_after D' ask) D') a) (sym has ∙ f))))

module _ (c : ℕ) (log : List Request) where
  abbrev granted : List ℕ
  granted = granted_to c log

  -- the devices of all addresses that no other client has are the same
  abbrev Agree : List Request → List Device → List Device → Type 0
  Agree before D D' = (a : ℕ) → is_free_for (owner_after before a) c ≡ true → at_device D a ≡ at_device D' a

  module _ (before more : List Request) (r : Request) (is : before ++ r ∷ more ≡ log) (D D' : List Device) (agree : Agree before D D') where
    abbrev a : ℕ
    a = address_of r.ask

    abbrev has : Bool
    has = has_it before r

    abbrev all_then : List Device
    all_then = reached_after has D r.ask

    abbrev claimed : Bool
    claimed = is_claimed granted (asks_of c before) a

    abbrev own_then : List Device
    own_then = reached_after claimed D' r.ask

    abbrev with_it : List Request
    with_it = before ++ r ∷ []

    free_then : (z : ℕ) → is_free_for (owner_after with_it z) c ≡ true → is_free_for (owner_or (owner_after before z) (owner_after (r ∷ []) z)) c ≡ true
    free_then z free = ap (λ o. is_free_for o c) (sym (owner_append before (r ∷ []) z)) ∙ free

    still_free : (z : ℕ) → is_free_for (owner_after with_it z) c ≡ true → is_free_for (owner_after before z) c ≡ true
    still_free z free = free_before (owner_after before z) (owner_after (r ∷ []) z) c (free_then z free)

    -- a request of the client
    module _ (mine : (r.client == c) ≡ true) where
      same : r.client ≡ c
      same = eqb-true r.client c mine

      has_same : has ≡ claimed
      has_same = ap (is_owner (owner_after before a)) same ∙ has_is c log before more r is

      head : reply_to (may_have_it before r) has D r.ask ≡ reply_to (list_any (λ g. g == a) granted) claimed D' r.ask
      head = reply_same (may_have_it before r) (list_any (λ g. g == a) granted) has claimed D D' r.ask
          (λ claim. ap (is_free_for (owner_after before a)) same ∙ may_is c log before more r is same claim) has_same
          (λ h. answer_at D r.ask ∙ (ap (λ o. answer_by o r.ask) (agree a (free_owner (owner_after before a) c (sym (ap (is_owner (owner_after before a)) same) ∙ h))) ∙ sym (answer_at D' r.ask)))

      agree_mine : Agree with_it all_then own_then
      agree_mine z free = reached_same has claimed D D' r.ask z has_same (agree z (still_free z free))

      asked : asks_of c with_it ≡ asks_of c before ++ r.ask ∷ []
      asked = asks_append c before (r ∷ []) ∙ ap (λ t. asks_of c before ++ cond t (r.ask ∷ []) []) mine

      step_mine : replies_for c more (replies_from with_it all_then more) ≡ alone_from granted (asks_of c with_it) own_then (asks_of c more) → replies_for c (r ∷ more) (replies_from before D (r ∷ more)) ≡ alone_from granted (asks_of c before) D' (asks_of c (r ∷ more))
      step_mine tail =
          ap (λ t. cond t (reply_to (may_have_it before r) has D r.ask ∷ replies_for c more (replies_from with_it all_then more)) (replies_for c more (replies_from with_it all_then more))) mine
          ∙ (front head (tail ∙ ap (λ b. alone_from granted b own_then (asks_of c more)) asked)
          ∙ sym (ap (λ t. alone_from granted (asks_of c before) D' (cond t (r.ask ∷ asks_of c more) (asks_of c more))) mine))

    -- a request of another
    module _ (other : (r.client == c) ≡ false) where
      off : (z : ℕ) → is_free_for (owner_after with_it z) c ≡ true → has ≡ true → (a == z) ≡ false
      off z free h = go (a == z) refl
        where
          go : (t : Bool) → (a == z) ≡ t → (a == z) ≡ false
          go false e = e
          go true e =
              let at_z : a ≡ z = eqb-true a z e in
              let owner : is_owner (owner_after before z) r.client ≡ true = subst (λ y. is_owner (owner_after before y) r.client ≡ true) at_z h in
              absurd (not_free (owner_after before z) (owner_after (r ∷ []) z) c r.client other owner (free_then z free))

      agree_other : Agree with_it all_then D'
      agree_other z free = reached_at has D r.ask z (λ h. off z free h) ∙ agree z (still_free z free)

      unasked : asks_of c with_it ≡ asks_of c before
      unasked = asks_append c before (r ∷ []) ∙ (ap (λ t. asks_of c before ++ cond t (r.ask ∷ []) []) other ∙ append-nil (asks_of c before))

      step_other : replies_for c more (replies_from with_it all_then more) ≡ alone_from granted (asks_of c with_it) D' (asks_of c more) → replies_for c (r ∷ more) (replies_from before D (r ∷ more)) ≡ alone_from granted (asks_of c before) D' (asks_of c (r ∷ more))
      step_other tail =
          ap (λ t. cond t (reply_to (may_have_it before r) has D r.ask ∷ replies_for c more (replies_from with_it all_then more)) (replies_for c more (replies_from with_it all_then more))) other
          ∙ (tail ∙ (ap (λ b. alone_from granted b D' (asks_of c more)) unasked
          ∙ sym (ap (λ t. alone_from granted (asks_of c before) D' (cond t (r.ask ∷ asks_of c more) (asks_of c more))) other)))

  pub walk : (before more : List Request) → before ++ more ≡ log → (D D' : List Device) → Agree before D D' → replies_for c more (replies_from before D more) ≡ alone_from granted (asks_of c before) D' (asks_of c more)
  walk before [] is D D' agree = refl
  walk before (r ∷ more) is D D' agree = by (r.client == c) refl (walk (before ++ r ∷ []) more (append_assoc before (r ∷ []) more ∙ is))
    where
      by : (t : Bool) → (r.client == c) ≡ t → ((E E' : List Device) → Agree (before ++ r ∷ []) E E' → replies_for c more (replies_from (before ++ r ∷ []) E more) ≡ alone_from granted (asks_of c (before ++ r ∷ [])) E' (asks_of c more)) → replies_for c (r ∷ more) (replies_from before D (r ∷ more)) ≡ alone_from granted (asks_of c before) D' (asks_of c (r ∷ more))
      by true mine rest = step_mine before more r is D D' agree mine (rest (reached_after (has_it before r) D r.ask) (reached_after (is_claimed granted (asks_of c before) (address_of r.ask)) D' r.ask) (agree_mine before more r is D D' agree mine))
      by false other rest = step_other before more r is D D' agree other (rest (reached_after (has_it before r) D r.ask) D' (agree_other before more r is D D' agree other))

pub alone_is : (addresses : List ℕ) (taken : List Request) (c : ℕ) → replies_for c taken (replies_by addresses taken) ≡ replies_alone (granted_to c taken) addresses (asks_of c taken)
alone_is addresses taken c =
    ap (replies_for c taken) (sym (replies_begin addresses taken))
    ∙ (walk c taken [] taken refl (new_devices addresses) (new_devices addresses) (λ a free. refl)
    ∙ alone_begin (granted_to c taken) addresses (asks_of c taken))

-- replies to the first requests are the first replies
alone_first : (granted : List ℕ) (before : List BusAsk) (D : List Device) (xs ys : List BusAsk) → IsPrefix (alone_from granted before D xs) (alone_from granted before D (xs ++ ys))
alone_first granted before D [] ys = (alone_from granted before D ys, refl)
alone_first granted before D (x ∷ xs) ys =
    let claimed = is_claimed granted before (address_of x) in
    let rest = alone_first granted (before ++ x ∷ []) (reached_after claimed D x) xs ys in
    (rest.0, ap (λ l. reply_to (list_any (λ g. g == address_of x) granted) claimed D x ∷ l) rest.1)

pub alone_begins : (granted addresses : List ℕ) (some all : List BusAsk) → IsPrefix some all → IsPrefix (replies_alone granted addresses some) (replies_alone granted addresses all)
alone_begins granted addresses some all pre =
    subst (λ l. IsPrefix l (replies_alone granted addresses all)) (alone_begin granted addresses some)
    (subst (IsPrefix (alone_from granted [] (new_devices addresses) some)) (ap (alone_from granted [] (new_devices addresses)) pre.1 ∙ alone_begin granted addresses all)
    (alone_first granted [] (new_devices addresses) some pre.0))
