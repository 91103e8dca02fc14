use Rattle.std.proofs.Common.{◌≡◌, ◌==◌, ◌&&◌, ◌+◌, ◌++◌, ◌<◌, ◌≤◌, ℕ, zero, suc, Bool, true, false, cond, Option, Some, None, List, [], ◌∷◌, All, length, map, slice_get, refl, sym, ap, ◌∙◌, subst, arith, append_assoc, eqb-true}
use Rattle.cargo_core.specs.Lists.{IsPrefix}
use Rattle.cargo_core.specs.Pages.{Paged}
use Rattle.cargo_core.specs.declared.item.Body.TheVariants as Bodies
use Rattle.cargo_core.specs.declared.item.PoolId.{PoolId}
use Rattle.wire_core.specs.Deeds.{Cargo}
use Rattle.i2c_text.specs.declared.bus.BusAsk.{BusAsk}
use Rattle.i2c_text.specs.declared.bus.BusAsk.TheVariants as Asks
use Rattle.i2c_text.specs.declared.report.BusStatus.{BusStatus}
use Rattle.i2c_text.specs.declared.report.BusStatus.TheVariants as Ended
use Rattle.i2c_virt.specs.declared.i2c_kit.alone.Request.{Request}
use Rattle.i2c_virt.specs.I2cKit.Devices.{address_of}
use Rattle.i2c_virt.specs.I2cKit.Grants.{is_claim, owner_after, is_owner}
use Rattle.i2c_virt.specs.I2cKit.Pages.{SpellsRequest, bytes_due, request_in}
use Rattle.i2c_virt.specs.I2cKit.Replies.{has_it, may_have_it}
use Rattle.i2c_virt.specs.Desks.{Judged, own_entry}
use Rattle.i2c_virt.specs.Owners.{verdict}
use Rattle.i2c_virt.specs.Works.{Took, IsTook, requests_in, judged_from}
use Rattle.i2c_virt.specs.I2cClient.Asking.{AreAsked, IsAsked}
use Rattle.bus_law.specs.I2cLaw.Shares.{asks_of}
use Rattle.bus_law.specs.I2cLaw.Judging.{verdicts_of, sent_on, transfers_of}
use Rattle.bus_law.proofs.I2cLaw.Owning.{owner_or, owner_append}

-- The requests of one client that were taken, beside what their pages spell and how they were judged.

-- an answer of the virtualiser itself has no bytes
abbrev pub Bare : Option BusStatus → BusAsk → Type 0
Bare None ask = Unit {0}
Bare (Some status) ask = 0 ≡ bytes_due status ask

bare_of : (ask : BusAsk) (may has : Bool) → Bare (cond (is_claim ask) (Some (cond may Ended.Ok Ended.Taken)) (cond has None (Some Ended.Unclaimed))) ask
bare_of (Asks.Claim a) true has = refl
bare_of (Asks.Claim a) false has = refl
bare_of (Asks.Read a n) may true = tt
bare_of (Asks.Read a n) may false = refl
bare_of (Asks.Write a bytes) may true = tt
bare_of (Asks.Write a bytes) may false = refl

-- a transfer that goes to the driver is at an address that its client has
has_owner : (o : Option ℕ) (c : ℕ) → is_owner o c ≡ true → o ≡ Some c
has_owner None c h = cc
has_owner (Some d) c h = ap (λ n. Some n) (eqb-true d c h)

sent_has : (ask : BusAsk) (may has : Bool) → cond (is_claim ask) (Some (cond may Ended.Ok Ended.Taken)) (cond has None (Some Ended.Unclaimed)) ≡ None → has ≡ true
sent_has (Asks.Claim a) true has h = cc
sent_has (Asks.Claim a) false has h = cc
sent_has (Asks.Read a n) may true h = refl
sent_has (Asks.Read a n) may false h = cc
sent_has (Asks.Write a bytes) may true h = refl
sent_has (Asks.Write a bytes) may false h = cc

-- what is known of one of them, where each address has this owner in the end
pub record IsOf (owner : ℕ → Option ℕ) (c : ℕ) (j : Judged) (ask : BusAsk) (v : Option BusStatus) : Type 0 where
  pub judged : j.1 ≡ v
  pub spelled : SpellsRequest j.0.bytes ask
  pub bare : Bare v ask
  pub pool : j.0.pool.0 ≡ c
  pub its_own : v ≡ None → owner (address_of ask) ≡ Some c

-- of each of them, in their order
abbrev pub AreOf : (owner : ℕ → Option ℕ) → (c : ℕ) → List Judged → List BusAsk → List (Option BusStatus) → Type 0
AreOf owner c [] [] [] = Unit {0}
AreOf owner c [] [] (v ∷ vs) = ⊥
AreOf owner c [] (a ∷ asks) vs = ⊥
AreOf owner c (j ∷ js) [] vs = ⊥
AreOf owner c (j ∷ js) (a ∷ asks) [] = ⊥
AreOf owner c (j ∷ js) (a ∷ asks) (v ∷ vs) = IsOf owner c j a v × AreOf owner c js asks vs

all_tail : {T : Type 0} (P : T → Type 0) (x : T) (xs : List T) → All P (x ∷ xs) → All P xs
all_tail P x xs all = λ k d lt. all (suc k) d (omega (arith, lt))

all_head : {T : Type 0} (P : T → Type 0) (x : T) (xs : List T) → All P (x ∷ xs) → P x
all_head P x xs all = all 0 x (omega arith)

module _ (clients c : ℕ) (all : List Took) where
  abbrev owner : ℕ → Option ℕ
  owner a = owner_after (requests_in all) a

  one_of : (before more : List Request) (t : Took) → before ++ t.request ∷ more ≡ requests_in all → t.request.client ≡ c → IsTook clients t → IsOf owner c (t.page, verdict before t.request) t.request.ask (verdict before t.request)
  one_of before more t is mine took = record {
    judged = refl;
    spelled = took.spelled;
    bare = bare_of t.request.ask (may_have_it before t.request) (has_it before t.request);
    pool = took.own ∙ mine;
    its_own = λ none.
        let a = address_of t.request.ask in
        let had : owner_after before a ≡ Some t.request.client = has_owner (owner_after before a) t.request.client (sent_has t.request.ask (may_have_it before t.request) (has_it before t.request) none) in
        ap (λ l. owner_after l a) (sym is) ∙ (owner_append before (t.request ∷ more) a ∙ (ap (λ o. owner_or o (owner_after (t.request ∷ more) a)) had ∙ ap (λ n. Some n) mine));
  }

  pub judged_are : (before : List Request) (log : List Took) → before ++ requests_in log ≡ requests_in all → All (IsTook clients) log → AreOf owner c (judged_from c before log) (asks_of c (requests_in log)) (verdicts_of c before (requests_in log))
  judged_are before [] is took = tt
  judged_are before (t ∷ log) is took = by (t.request.client == c) refl (judged_are (before ++ t.request ∷ []) log (append_assoc before (t.request ∷ []) (requests_in log) ∙ is) (all_tail (IsTook clients) t log took)) (all_head (IsTook clients) t log took)
    where
      by : (s : Bool) → (t.request.client == c) ≡ s → AreOf owner c (judged_from c (before ++ t.request ∷ []) log) (asks_of c (requests_in log)) (verdicts_of c (before ++ t.request ∷ []) (requests_in log)) → IsTook clients t → AreOf owner c (judged_from c before (t ∷ log)) (asks_of c (requests_in (t ∷ log))) (verdicts_of c before (requests_in (t ∷ log)))
      by true e rest one =
          subst (λ (b : Bool). AreOf owner c (cond b ((t.page, verdict before t.request) ∷ []) [] ++ judged_from c (before ++ t.request ∷ []) log) (cond b (t.request.ask ∷ asks_of c (requests_in log)) (asks_of c (requests_in log))) (cond b (verdict before t.request ∷ []) [] ++ verdicts_of c (before ++ t.request ∷ []) (requests_in log)))
          (sym e) (one_of before (requests_in log) t is (eqb-true t.request.client c e) one, rest)
      by false e rest one =
          subst (λ (b : Bool). AreOf owner c (cond b ((t.page, verdict before t.request) ∷ []) [] ++ judged_from c (before ++ t.request ∷ []) log) (cond b (t.request.ask ∷ asks_of c (requests_in log)) (asks_of c (requests_in log))) (cond b (verdict before t.request ∷ []) [] ++ verdicts_of c (before ++ t.request ∷ []) (requests_in log)))
          (sym e) rest

-- those that went to the driver
abbrev pub only_sent : List (Option BusStatus) → List BusAsk → List BusAsk
only_sent [] asks = []
only_sent (v ∷ vs) [] = []
only_sent (v ∷ vs) (a ∷ asks) = sent_on v a ++ only_sent vs asks

pub sent_is : (c : ℕ) (before : List Request) (log : List Request) → transfers_of c before log ≡ only_sent (verdicts_of c before log) (asks_of c log)
sent_is c before [] = refl
sent_is c before (r ∷ more) = by (r.client == c) refl (sent_is c (before ++ r ∷ []) more)
  where
    by : (s : Bool) → (r.client == c) ≡ s → transfers_of c (before ++ r ∷ []) more ≡ only_sent (verdicts_of c (before ++ r ∷ []) more) (asks_of c more) → transfers_of c before (r ∷ more) ≡ only_sent (verdicts_of c before (r ∷ more)) (asks_of c (r ∷ more))
    by true e rest =
        subst (λ (b : Bool). cond b (sent_on (verdict before r) r.ask) [] ++ transfers_of c (before ++ r ∷ []) more ≡ only_sent (cond b (verdict before r ∷ []) [] ++ verdicts_of c (before ++ r ∷ []) more) (cond b (r.ask ∷ asks_of c more) (asks_of c more)))
        (sym e) (ap (λ l. sent_on (verdict before r) r.ask ++ l) rest)
    by false e rest =
        subst (λ (b : Bool). cond b (sent_on (verdict before r) r.ask) [] ++ transfers_of c (before ++ r ∷ []) more ≡ only_sent (cond b (verdict before r ∷ []) [] ++ verdicts_of c (before ++ r ∷ []) more) (cond b (r.ask ∷ asks_of c more) (asks_of c more)))
        (sym e) rest

page_of : {p q : Paged} → Bodies.Page p ≡ Bodies.Page q → p ≡ q
page_of h = cc

ask_of : {a b : BusAsk} → Some a ≡ Some b → a ≡ b
ask_of h = cc

body_of : (x y : Cargo) → x ≡ y → x.1 ≡ y.1
body_of x y e = ap (λ (z : Cargo). z.1) e

-- what was taken of a client are the first of its requests
pub script_begins : (owner : ℕ → Option ℕ) (c : ℕ) (pool : PoolId) (k : ℕ) (js : List Judged) (asks : List BusAsk) (vs : List (Option BusStatus)) → AreOf owner c js asks vs → (script : List BusAsk) (rest : List Cargo) → AreAsked pool k script (map (λ (j : Judged). own_entry j.0) js ++ rest) → IsPrefix asks script
script_begins owner c pool k [] [] [] are script rest asked = (script, refl)
script_begins owner c pool k [] [] (v ∷ vs) are script rest asked = absurd are
script_begins owner c pool k [] (a ∷ asks) vs are script rest asked = absurd are
script_begins owner c pool k (j ∷ js) [] vs are script rest asked = absurd are
script_begins owner c pool k (j ∷ js) (a ∷ asks) [] are script rest asked = absurd are
script_begins owner c pool k (j ∷ js) (a ∷ asks) (v ∷ vs) are [] rest asked = absurd asked
script_begins owner c pool k (j ∷ js) (a ∷ asks) (v ∷ vs) are (s ∷ script) rest asked =
    let more = script_begins owner c pool (k + 1) js asks vs are.1 script rest asked.1 in
    let here : IsAsked pool k s (own_entry j.0) = asked.0 in
    let page : j.0 ≡ here.page = page_of (body_of (own_entry j.0) _ here.carried) in
    let same : a ≡ s = ask_of (sym are.0.spelled ∙ (ap (λ (p : Paged). request_in p.bytes) page ∙ here.spelled)) in
    (more.0, ap (λ l. a ∷ l) more.1 ∙ ap (λ z. z ∷ script) same)
