use Rattle.std.proofs.Common.{◌≡◌, ◌==◌, ◌+◌, ◌++◌, ◌<◌, ◌≤◌, ℕ, zero, suc, Bool, true, false, cond, Option, Some, None, List, [], ◌∷◌, All, length, map, slice_get, refl, sym, ap, ◌∙◌, subst, arith, append_assoc, eqb-true}
use Rattle.std.specs.List.{filter}
use Rattle.cargo_core.specs.Lists.{IsPrefix}
use Rattle.cargo_core.specs.Pages.{Paged}
use Rattle.cargo_core.specs.declared.item.Body.TheVariants as Bodies
use Rattle.cargo_core.specs.declared.item.PoolId.{PoolId}
use Rattle.wire_core.specs.Deeds.{Cargo}
use Rattle.i2c_text.specs.declared.bus.BusAsk.{BusAsk}
use Rattle.i2c_text.specs.declared.report.BusReply.{BusReply}
use Rattle.i2c_text.specs.declared.report.BusStatus.{BusStatus}
use Rattle.i2c_virt.specs.declared.i2c_kit.alone.Request.{Request}
use Rattle.i2c_virt.specs.declared.i2c_kit.device.Device.{Device}
use Rattle.i2c_virt.specs.I2cKit.Devices.{address_of, devices_after, new_devices}
use Rattle.i2c_virt.specs.I2cKit.Grants.{granted_to, owner_after}
use Rattle.i2c_virt.specs.I2cKit.Pages.{SpellsRequest}
use Rattle.i2c_virt.specs.I2cKit.Replies.{replies_alone}
use Rattle.i2c_virt.specs.I2cKit.Serving.{answers_to}
use Rattle.i2c_virt.specs.Desks.{Judged, forwarded, shared_entry}
use Rattle.i2c_virt.specs.Works.{Took, IsTook, IsSomeones, requests_in, judged_of, is_of, of_client}
use Rattle.bus_law.specs.I2cLaw.Shares.{asks_of, replies_for, served_by, asks_in, AtTheirOwn}
use Rattle.bus_law.specs.I2cLaw.Judging.{verdicts_of, transfers_of, combined}
use Rattle.bus_law.specs.I2cLaw.Moments.{AreServed, IsServed}
use Rattle.bus_law.proofs.I2cLaw.Serving.{served_alone}
use Rattle.bus_law.proofs.I2cLaw.Combining.{judged_alone}
use Rattle.bus_law.proofs.I2cLaw.Walking.{alone_begins}
use Rattle.bus_law.proofs.I2cLaw.Requests.{AreOf, IsOf, judged_are, only_sent, sent_is, script_begins}
use Rattle.bus_law.proofs.I2cLaw.Saying.{Say, given_say, record_begins, say_more, say_first}
use Rattle.bus_law.proofs.I2cLaw.Answering.{IsTransfer, AreTransfers, AreBy, answers_say, answers_by, by_first, say_share}

-- The rows of all actors at one moment, met.

-- an entry spells a request
abbrev SpellsIn : Cargo → BusAsk → Type 0
SpellsIn (item, Bodies.Page p) a = SpellsRequest p.bytes a
SpellsIn (item, Bodies.Empty) a = ⊥
SpellsIn (item, Bodies.Lease l) a = ⊥

abbrev Spell : List Cargo → List BusAsk → Type 0
Spell [] [] = Unit {0}
Spell [] (a ∷ asks) = ⊥
Spell (x ∷ xs) [] = ⊥
Spell (x ∷ xs) (a ∷ asks) = SpellsIn x a × Spell xs asks

ask_of : {a b : BusAsk} → Some a ≡ Some b → a ≡ b
ask_of h = cc

spells_once : (x : Cargo) (a b : BusAsk) → SpellsIn x a → SpellsIn x b → a ≡ b
spells_once (item, Bodies.Page p) a b h k = ask_of (sym h ∙ k)
spells_once (item, Bodies.Empty) a b h k = absurd h
spells_once (item, Bodies.Lease l) a b h k = absurd h

-- what goes to the driver of one client
spell_forwarded : (owner : ℕ → Option ℕ) (c : ℕ) (js : List Judged) (asks : List BusAsk) (vs : List (Option BusStatus)) → AreOf owner c js asks vs → Spell (forwarded js) (only_sent vs asks)
spell_forwarded owner c [] [] [] are = tt
spell_forwarded owner c [] [] (v ∷ vs) are = absurd are
spell_forwarded owner c [] (a ∷ asks) vs are = absurd are
spell_forwarded owner c (j ∷ js) [] vs are = absurd are
spell_forwarded owner c (j ∷ js) (a ∷ asks) [] are = absurd are
spell_forwarded owner c ((p, Some s) ∷ js) (a ∷ asks) (Some t ∷ vs) are = spell_forwarded owner c js asks vs are.1
spell_forwarded owner c ((p, Some s) ∷ js) (a ∷ asks) (None ∷ vs) are = let bad : Some s ≡ None = are.0.judged in cc
spell_forwarded owner c ((p, None) ∷ js) (a ∷ asks) (Some t ∷ vs) are = let bad : None ≡ Some t = are.0.judged in cc
spell_forwarded owner c ((p, None) ∷ js) (a ∷ asks) (None ∷ vs) are = (are.0.spelled, spell_forwarded owner c js asks vs are.1)

spell_share : (c : ℕ) (xs : List Cargo) (ts : List Request) → AreTransfers xs ts → Spell (of_client c xs) (asks_of c ts)
spell_share c [] [] are = tt
spell_share c [] (r ∷ ts) are = absurd are
spell_share c (x ∷ xs) [] are = absurd are
spell_share c (x ∷ xs) (r ∷ ts) are = by (r.client == c) refl (spell_share c xs ts are.1)
  where
    own : is_of c x ≡ (r.client == c)
    own = let t : IsTransfer x r = are.0 in ap (is_of c) t.is ∙ ap (λ n. n == c) t.pool

    says : SpellsIn x r.ask
    says = let t : IsTransfer x r = are.0 in subst (λ y. SpellsIn y r.ask) (sym t.is) t.spelled

    by : (t : Bool) → (r.client == c) ≡ t → Spell (of_client c xs) (asks_of c ts) → Spell (of_client c (x ∷ xs)) (asks_of c (r ∷ ts))
    by true e rest =
        subst (λ (b : Bool). Spell (cond (is_of c x) (x ∷ of_client c xs) (of_client c xs)) (cond b (r.ask ∷ asks_of c ts) (asks_of c ts))) (sym e)
        (subst (λ (b : Bool). Spell (cond b (x ∷ of_client c xs) (of_client c xs)) (r.ask ∷ asks_of c ts)) (sym (own ∙ e)) (says, rest))
    by false e rest =
        subst (λ (b : Bool). Spell (cond (is_of c x) (x ∷ of_client c xs) (of_client c xs)) (cond b (r.ask ∷ asks_of c ts) (asks_of c ts))) (sym e)
        (subst (λ (b : Bool). Spell (cond b (x ∷ of_client c xs) (of_client c xs)) (asks_of c ts)) (sym (own ∙ e)) rest)

spell_begins : (xs rest : List Cargo) (asks all : List BusAsk) → Spell xs asks → Spell (xs ++ rest) all → IsPrefix asks all
spell_begins [] rest [] all one other = (all, refl)
spell_begins [] rest (a ∷ asks) all one other = absurd one
spell_begins (x ∷ xs) rest [] all one other = absurd one
spell_begins (x ∷ xs) rest (a ∷ asks) [] one other = absurd other
spell_begins (x ∷ xs) rest (a ∷ asks) (b ∷ all) one other =
    let more = spell_begins xs rest asks all one.1 other.1 in
    (more.0, ap (λ l. a ∷ l) more.1 ∙ ap (λ z. z ∷ all) (spells_once x a b one.0 other.0))

-- each entry that went to the driver is a transfer at an address that its client has
pub record Found (has : ℕ → Option ℕ) (x : Cargo) : Type 0 where
  pub request : Request
  pub transfer : IsTransfer x request
  pub its_own : has (address_of request.ask) ≡ Some request.client

some_of : {T : Type 0} {x y : T} → Some x ≡ Some y → x ≡ y
some_of h = cc

found_in : (has : ℕ → Option ℕ) (c : ℕ) (js : List Judged) (asks : List BusAsk) (vs : List (Option BusStatus)) → AreOf has c js asks vs → (k : ℕ) (x : Cargo) → slice_get (forwarded js) k ≡ Some x → Found has x
found_in has c [] asks vs are k x at = cc
found_in has c (j ∷ js) [] vs are k x at = absurd are
found_in has c (j ∷ js) (a ∷ asks) [] are k x at = absurd are
found_in has c ((p, Some s) ∷ js) (a ∷ asks) (v ∷ vs) are k x at = found_in has c js asks vs are.1 k x at
found_in has c ((p, None) ∷ js) (a ∷ asks) (v ∷ vs) are zero x at = record {
  request = record { client = c; ask = a };
  transfer = record { page = p; is = sym (some_of at); pool = are.0.pool; spelled = are.0.spelled };
  its_own = are.0.its_own (sym are.0.judged);
}
found_in has c ((p, None) ∷ js) (a ∷ asks) (v ∷ vs) are (suc k) x at = found_in has c js asks vs are.1 k x at

pub in_filter : (f : Cargo → Bool) (xs : List Cargo) (k : ℕ) (x : Cargo) → slice_get xs k ≡ Some x → f x ≡ true → (j : ℕ) × (slice_get (filter f xs) j ≡ Some x)
in_filter f [] k x at h = cc
in_filter f (y ∷ xs) zero x at h =
    let is : f y ≡ true = ap f (some_of at) ∙ h in
    (0, ap (λ (t : Bool). slice_get (cond t (y ∷ filter f xs) (filter f xs)) 0) is ∙ at)
in_filter f (y ∷ xs) (suc k) x at h = by (f y) refl (in_filter f xs k x at h)
  where
    by : (t : Bool) → f y ≡ t → (j : ℕ) × (slice_get (filter f xs) j ≡ Some x) → (j : ℕ) × (slice_get (filter f (y ∷ xs)) j ≡ Some x)
    by true e rest = (suc rest.0, ap (λ (t : Bool). slice_get (cond t (y ∷ filter f xs) (filter f xs)) (suc rest.0)) e ∙ rest.1)
    by false e rest = (rest.0, ap (λ (t : Bool). slice_get (cond t (y ∷ filter f xs) (filter f xs)) rest.0) e ∙ rest.1)

get_first : (xs ys : List Cargo) (k : ℕ) (x : Cargo) → slice_get xs k ≡ Some x → slice_get (xs ++ ys) k ≡ Some x
get_first [] ys k x at = cc
get_first (y ∷ xs) ys zero x at = at
get_first (y ∷ xs) ys (suc k) x at = get_first xs ys k x at

all_at : (P : Cargo → Type 0) (xs : List Cargo) → All P xs → (k : ℕ) (x : Cargo) → slice_get xs k ≡ Some x → P x
all_at P [] h k x at = cc
all_at P (y ∷ xs) h zero x at = subst P (some_of at) (h 0 y (omega arith))
all_at P (y ∷ xs) h (suc k) x at = all_at P xs (λ i d lt. h (suc i) d (omega (arith, lt))) k x at

pub record Transfers (has : ℕ → Option ℕ) (xs : List Cargo) : Type 0 where
  pub list : List Request
  pub are : AreTransfers xs list
  pub its_own : AtTheirOwn has list

all_found : (has : ℕ → Option ℕ) (xs : List Cargo) → ((k : ℕ) (x : Cargo) → slice_get xs k ≡ Some x → Found has x) → Transfers has xs
all_found has [] each = record { list = []; are = tt; its_own = λ k r at. cc }
all_found has (x ∷ xs) each =
    let f = each 0 x refl in
    let more = all_found has xs (λ k y at. each (suc k) y at) in
    record {
      list = f.request ∷ more.list;
      are = (f.transfer, more.are);
      its_own = λ k r at. own f more k r at;
    }
  where
    own : (f : Found has x) (more : Transfers has xs) (k : ℕ) (r : Request) → slice_get (f.request ∷ more.list) k ≡ Some r → has (address_of r.ask) ≡ Some r.client
    own f more zero r at = subst (λ (q : Request). has (address_of q.ask) ≡ Some q.client) (some_of at) f.its_own
    own f more (suc k) r at = more.its_own k r at

-- the devices' answers to the first transfers are the first of their answers to all
served_more : (ds : List Device) (xs ys : List BusAsk) → IsPrefix (served_by ds xs) (served_by ds (xs ++ ys))
served_more ds [] ys = (served_by ds ys, refl)
served_more ds (x ∷ xs) ys =
    let more = served_more (devices_after ds x) xs ys in
    (more.0, ap (λ l. Rattle.i2c_virt.specs.I2cKit.Devices.devices_answer ds x ∷ l) more.1)

prefix_then : {T : Type 0} (xs ys zs : List T) → IsPrefix xs ys → IsPrefix ys zs → IsPrefix xs zs
prefix_then xs ys zs a b = (a.0 ++ b.0, sym (append_assoc xs a.0 b.0) ∙ (ap (λ l. l ++ b.0) a.1 ∙ b.1))

module _ (clients : ℕ) (addresses : List ℕ) (log : List Took) (sent back : List Cargo) (all : AreServed clients addresses log sent back) where
  abbrev requests : List Request
  requests = requests_in log

  abbrev has : ℕ → Option ℕ
  has a = owner_after requests a

  abbrev ds : List Device
  ds = new_devices addresses

  are_of : (c : ℕ) → AreOf has c (judged_of c log) (asks_of c requests) (verdicts_of c [] requests)
  are_of c = judged_are clients c log [] log refl all.took

  pub transfers : Transfers has sent
  transfers = all_found has sent (λ k x at.
      let s = all_at (IsSomeones clients) sent all.someones k x at in
      let pre = all.sends s.client s.there in
      let j = in_filter (is_of s.client) sent k x at s.is in
      found_in has s.client (judged_of s.client log) (asks_of s.client requests) (verdicts_of s.client [] requests) (are_of s.client) j.0 x
      (ap (λ l. slice_get l j.0) (sym pre.1) ∙ get_first (of_client s.client sent) pre.0 j.0 x j.1))

  module _ (c : ℕ) (there : c < clients) (pool : PoolId) (script : List BusAsk) (put given came : List Cargo) (replies : List BusReply) (mine : IsServed c pool script log back put given came replies) where
    abbrev asks : List BusAsk
    asks = asks_of c requests

    abbrev vs : List (Option BusStatus)
    vs = verdicts_of c [] requests

    abbrev ts : List Request
    ts = transfers.list

    -- what came back for the client says what the devices answer to its own transfers
    back_says : Say (asks_of c ts) (of_client c back) (served_by ds (asks_of c ts))
    back_says =
        let pre = all.answers in
        let whole : Say (asks_in ts) (back ++ pre.0) (served_by ds (asks_in ts)) = subst (λ l. Say (asks_in ts) l (served_by ds (asks_in ts))) (sym pre.1) (answers_say ds sent ts transfers.are) in
        let whose : AreBy c (back ++ pre.0) ts = subst (λ l. AreBy c l ts) (sym pre.1) (answers_by c ds sent ts transfers.are) in
        subst (Say (asks_of c ts) (of_client c back)) (served_alone has ds ts c transfers.its_own)
        (say_share c ts back (served_by ds (asks_in ts)) (by_first c back pre.0 ts whose) (say_first (asks_in ts) back pre.0 (served_by ds (asks_in ts)) whole))

    -- which are the first of those that were to go to the driver
    first_sent : IsPrefix (asks_of c ts) (only_sent vs asks)
    first_sent =
        let pre = all.sends c there in
        spell_begins (of_client c sent) pre.0 (asks_of c ts) (only_sent vs asks) (spell_share c sent ts transfers.are)
        (subst (λ l. Spell l (only_sent vs asks)) (sym pre.1) (spell_forwarded has c (judged_of c log) asks vs (are_of c)))

    back_says_all : Say (only_sent vs asks) (of_client c back) (served_by ds (only_sent vs asks))
    back_says_all =
        let pre = first_sent in
        let more = served_more ds (asks_of c ts) pre.0 in
        subst (λ l. Say l (of_client c back) (served_by ds l)) pre.1
        (subst (Say (asks_of c ts ++ pre.0) (of_client c back)) more.1 (say_more (asks_of c ts) pre.0 (of_client c back) (served_by ds (asks_of c ts)) more.0 back_says))

    abbrev answers : List BusReply
    answers = combined vs (served_by ds (only_sent vs asks))

    pub given_says : Say asks given answers
    given_says = given_say has c (judged_of c log) asks vs (are_of c) (of_client c back) given (served_by ds (only_sent vs asks)) back_says_all mine.answers

    pub script_first : IsPrefix asks script
    script_first = script_begins has c pool 0 (judged_of c log) asks vs (are_of c) script mine.taken.0 (subst (Rattle.i2c_virt.specs.I2cClient.Asking.AreAsked pool 0 script) (sym mine.taken.1) mine.asks)

    pub meets : IsPrefix replies (replies_alone (granted_to c requests) addresses script)
    meets =
        let recorded : IsPrefix replies answers = record_begins pool 0 script came replies mine.recorded asks mine.comes.0 answers script_first (subst (λ l. Say asks l answers) (sym mine.comes.1) given_says) in
        let same : answers ≡ replies_alone (granted_to c requests) addresses asks = ap (λ l. combined vs (served_by ds l)) (sym (sent_is c [] requests)) ∙ judged_alone addresses requests c in
        prefix_then replies (replies_alone (granted_to c requests) addresses asks) (replies_alone (granted_to c requests) addresses script) (subst (IsPrefix replies) same recorded) (alone_begins (granted_to c requests) addresses asks script script_first)
