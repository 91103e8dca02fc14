use Rattle.std.proofs.Common.{◌≡◌, ◌==◌, ◌&&◌, ◌+◌, ◌++◌, ◌<◌, ◌≤◌, ℕ, zero, suc, Bool, true, false, cond, Option, Some, None, List, [], ◌∷◌, length, slice_index, refl, sym, ap, ◌∙◌, subst, arith, eqb-true}
use Rattle.std.specs.Option.{option_map, option_and_then}
use Rattle.cargo_core.specs.Lists.{IsPrefix}
use Rattle.cargo_core.specs.Pages.{Paged}
use Rattle.cargo_core.specs.declared.item.Body.TheVariants as Bodies
use Rattle.cargo_core.specs.declared.item.PoolId.{PoolId}
use Rattle.wire_core.specs.Deeds.{Cargo}
use Rattle.i2c_text.specs.declared.bus.BusAsk.{BusAsk}
use Rattle.i2c_text.specs.declared.report.BusReply.{BusReply}
use Rattle.i2c_text.specs.declared.report.BusStatus.{BusStatus}
use Rattle.i2c_virt.specs.declared.i2c_kit.page.Head.{Head}
use Rattle.i2c_virt.specs.I2cKit.Pages.{SpellsRequest, SpellsReply, request_in, head_in, head_by, is_address, operation_of, asked, with_reply}
use Rattle.i2c_virt.specs.I2cKit.Replies.{bare_reply}
use Rattle.i2c_virt.proofs.I2cKit.Spelling.{page_with_reply}
use Rattle.i2c_virt.specs.Desks.{Judged, AreGiven, IsPassedOn, own_answer, own_entry, shared_entry}
use Rattle.i2c_virt.specs.I2cClient.Asking.{AreAnswered, IsAnswered, Says}
use Rattle.bus_law.specs.I2cLaw.Judging.{combined}
use Rattle.bus_law.proofs.I2cLaw.Requests.{AreOf, IsOf, Bare, only_sent}

-- What entries say to requests.

-- these entries say these replies to these requests, as far as the entries go
abbrev pub Say : List BusAsk → List Cargo → List BusReply → Type 0
Say asks [] replies = Unit {0}
Say [] (z ∷ zs) replies = ⊥
Say (a ∷ asks) (z ∷ zs) [] = ⊥
Say (a ∷ asks) (z ∷ zs) (r ∷ replies) = Says a z r × Say asks zs replies

reply_of : {a b : BusReply} → Some a ≡ Some b → a ≡ b
reply_of h = cc

-- a page that spells a request has 64 bytes
pub request_size : (page : List ℕ) (ask : BusAsk) → SpellsRequest page ask → length page ≡ 64
unfolding request_in head_in
request_size page ask h = by (length page == 64) refl
  where
    by : (t : Bool) → (length page == 64) ≡ t → length page ≡ 64
    by true e = eqb-true (length page) 64 e
    by false e =
        let none : request_in page ≡ None = ap (λ (t : Bool). option_map (λ (h : Head). asked h.operation h.address h.count (Rattle.std.proofs.Common.drop 4 page)) (cond (t && is_address (slice_index page 1)) (option_and_then (head_by (slice_index page 1) (slice_index page 3)) (operation_of (slice_index page 0))) None)) e in
        let bad : None ≡ Some ask = sym none ∙ h in
        cc

-- what a client is given says the virtualiser's own answers and those of the devices
pub given_say : (owner : ℕ → Option ℕ) (c : ℕ) (js : List Judged) (asks : List BusAsk) (vs : List (Option BusStatus)) → AreOf owner c js asks vs → (back given : List Cargo) (served : List BusReply) → Say (only_sent vs asks) back served → AreGiven js back given → Say asks given (combined vs served)
given_say owner c js asks vs are back [] served say given = tt
given_say owner c [] asks vs are back (z ∷ zs) served say given = absurd given
given_say owner c (j ∷ js) [] vs are back (z ∷ zs) served say given = absurd are
given_say owner c (j ∷ js) (a ∷ asks) [] are back (z ∷ zs) served say given = absurd are
given_say owner c ((p, Some status) ∷ js) (a ∷ asks) (None ∷ vs) are back (z ∷ zs) served say given = let bad : Some status ≡ None = are.0.judged in cc
given_say owner c ((p, None) ∷ js) (a ∷ asks) (Some status ∷ vs) are back (z ∷ zs) served say given = let bad : None ≡ Some status = are.0.judged in cc
given_say owner c ((p, Some status) ∷ js) (a ∷ asks) (Some other ∷ vs) are back (z ∷ zs) served say given =
    let same : status ≡ other = status_of are.0.judged in
    let says : Says a (own_answer other p) (bare_reply other) = page_with_reply p.bytes other [] (request_size p.bytes a are.0.spelled) (omega arith) a are.0.bare in
    (subst (λ y. Says a y (bare_reply other)) (sym (given.0 ∙ ap (λ s. own_answer s p) same)) says, given_say owner c js asks vs are.1 back zs served say given.1)
  where
    status_of : {a b : BusStatus} → Some a ≡ Some b → a ≡ b
    status_of h = cc
given_say owner c ((p, None) ∷ js) (a ∷ asks) (None ∷ vs) are [] (z ∷ zs) served say given = absurd given
given_say owner c ((p, None) ∷ js) (a ∷ asks) (None ∷ vs) are (y ∷ back) (z ∷ zs) [] say given = absurd say
given_say owner c ((p, None) ∷ js) (a ∷ asks) (None ∷ vs) are (y ∷ back) (z ∷ zs) (r ∷ served) say given =
    let on : IsPassedOn p y z = given.0 in
    let came : Says a (shared_entry on.page) r = subst (λ x. Says a x r) on.came_is say.0 in
    let says : Says a (own_entry on.page) r = came in
    (subst (λ x. Says a x r) (sym on.given_is) says, given_say owner c js asks vs are.1 back zs served say.1 given.1)

-- a page says one reply to a request
says_once : (a : BusAsk) (z : Cargo) (r q : BusReply) → Says a z r → Says a z q → r ≡ q
says_once a (item, Bodies.Page p) r q h k = reply_of (sym h ∙ k)
says_once a (item, Bodies.Empty) r q h k = absurd h
says_once a (item, Bodies.Lease l) r q h k = absurd h

-- a client records the first of what it is given
pub record_begins : (pool : PoolId) (k : ℕ) (script : List BusAsk) (came : List Cargo) (replies : List BusReply) → AreAnswered pool k script came replies → (asks : List BusAsk) (rest : List Cargo) (all : List BusReply) → IsPrefix asks script → Say asks (came ++ rest) all → IsPrefix replies all
record_begins pool k script [] [] answered asks rest all pre say = (all, refl)
record_begins pool k [] [] (r ∷ replies) answered asks rest all pre say = absurd answered
record_begins pool k (s ∷ script) [] (r ∷ replies) answered asks rest all pre say = absurd answered
record_begins pool k script (y ∷ ys) [] answered asks rest all pre say = absurd answered
record_begins pool k script (y ∷ ys) (r ∷ replies) answered [] rest all pre say = absurd say
record_begins pool k [] (y ∷ ys) (r ∷ replies) answered (a ∷ asks) rest all pre say = absurd answered
record_begins pool k (s ∷ script) (y ∷ ys) (r ∷ replies) answered (a ∷ asks) rest [] pre say = absurd say
record_begins pool k (s ∷ script) (y ∷ ys) (r ∷ replies) answered (a ∷ asks) rest (q ∷ all) pre say =
    let heads : a ≡ s = head_of pre.1 in
    let tails : asks ++ pre.0 ≡ script = tail_of pre.1 in
    let more = record_begins pool (k + 1) script ys replies answered.1 asks rest all (pre.0, tails) say.1 in
    let same : r ≡ q = says_once s y r q answered.0.said (subst (λ b. Says b y q) heads say.0) in
    (more.0, ap (λ l. r ∷ l) more.1 ∙ ap (λ z. z ∷ all) same)
  where
    head_of : {x y : BusAsk} {xs ys : List BusAsk} → x ∷ xs ≡ y ∷ ys → x ≡ y
    head_of h = cc

    tail_of : {x y : BusAsk} {xs ys : List BusAsk} → x ∷ xs ≡ y ∷ ys → xs ≡ ys
    tail_of h = cc

-- more requests and replies take nothing from what is said
pub say_more : (asks asks' : List BusAsk) (zs : List Cargo) (replies replies' : List BusReply) → Say asks zs replies → Say (asks ++ asks') zs (replies ++ replies')
say_more asks asks' [] replies replies' say = tt
say_more [] asks' (z ∷ zs) replies replies' say = absurd say
say_more (a ∷ asks) asks' (z ∷ zs) [] replies' say = absurd say
say_more (a ∷ asks) asks' (z ∷ zs) (r ∷ replies) replies' say = (say.0, say_more asks asks' zs replies replies' say.1)

-- and the first entries alone say the same
pub say_first : (asks : List BusAsk) (zs rest : List Cargo) (replies : List BusReply) → Say asks (zs ++ rest) replies → Say asks zs replies
say_first asks [] rest replies say = tt
say_first [] (z ∷ zs) rest replies say = absurd say
say_first (a ∷ asks) (z ∷ zs) rest [] say = absurd say
say_first (a ∷ asks) (z ∷ zs) rest (r ∷ replies) say = (say.0, say_first asks zs rest replies say.1)
