use Rattle.std.proofs.Common.{◌≡◌, ◌==◌, ◌&&◌, ◌+◌, ◌*◌, ◌<◌, ◌++◌, ℕ, zero, suc, Bool, true, false, cond, nat_lt, is_some, Option, Some, None, List, [], ◌∷◌, length, take, drop, slice_get, refl, sym, ap, ◌∙◌, subst, arith, append_assoc}
use Rattle.std.specs.Option.{option_to_list, option_map}
use Rattle.std.proofs.Math.Nat.{mod-lt}
use Rattle.std.proofs.lemmas.Bool.{eq-eqb, lt-ltb}
use Rattle.cargo_core.specs.Lists.{IsPrefix}
use Rattle.cargo_core.specs.Pages.{Paged}
use Rattle.cargo_core.specs.declared.item.Body.TheVariants as Bodies
use Rattle.cargo_core.specs.declared.item.PoolId.{PoolId}
use Rattle.wire_core.specs.Deeds.{Cargo}
use Rattle.wire_core.specs.Lists.{Passed}
use Rattle.play_core.proofs.Lists.{some_is, map_get, there_below}
use Rattle.small_system.specs.Tales.{Moment}
use Rattle.i2c_text.specs.declared.bus.Bus.{Bus}
use Rattle.i2c_text.specs.declared.bus.BusAsk.{BusAsk}
use Rattle.i2c_text.specs.declared.report.BusReply.{BusReply}
use Rattle.i2c_text.specs.declared.report.BusStatus.{BusStatus}
use Rattle.i2c_virt.specs.declared.i2c_kit.alone.Request.{Request}
use Rattle.i2c_virt.specs.declared.i2c_kit.device.Device.{Device}
use Rattle.i2c_virt.specs.I2cKit.Devices.{new_devices}
use Rattle.i2c_virt.specs.I2cKit.Entries.{item_at, own_place, shared_place, names, is_bus_request, is_reply_in}
use Rattle.i2c_virt.specs.I2cKit.Pages.{SpellsReply, request_in, head_in, status_in, reply_in, bytes_due, with_reply}
use Rattle.i2c_virt.specs.I2cKit.Serving.{answer_to, answers_to, answered, done}
use Rattle.i2c_virt.specs.I2cClient.Hands.{buffer_of}
use Rattle.i2c_virt.specs.I2cClient.Asking.{Says, due_after, is_reply}
use Rattle.i2c_virt.specs.declared.work.From.{From}
use Rattle.i2c_virt.specs.declared.work.From.TheVariants as Source
use Rattle.i2c_virt.specs.declared.work.Stray.{Stray}
use Rattle.i2c_virt.specs.declared.work.Work.{Work}
use Rattle.i2c_virt.specs.Desks.{Judged, AreGiven, forwarded, IsPassedOn, own_entry, shared_entry}
use Rattle.i2c_virt.specs.Works.{IsSomeones, is_of, of_client, judged_of, entries_of}
use Rattle.i2c_virt.specs.Virtualising.{IsAstray, strays_back, if_driver}
use Rattle.bus_law.specs.I2cLaw.Shares.{asks_in, served_by}
use Rattle.bus_law.proofs.I2cLaw.Saying.{Say}
use Rattle.bus_law.proofs.I2cLaw.Answering.{IsTransfer, AreTransfers, answers_say}
use Rattle.bus_law.proofs.I2cLaw.Meeting.{transfers, given_says, in_filter}
use Rattle.bus_law.specs.declared.i2c_actors.member.Member.{Member}
use Rattle.bus_law.specs.Takes.{script_of}
use Rattle.bus_law.proofs.Lists.{prefix_then, prefix_part, prefix_at, get_behind, all_at}
use Rattle.bus_law.proofs.Staging.{ClientAt, Stage}
use Rattle.bus_law.proofs.Serving.{all_three, all_four, asked_at, asked_by, spelled_head, named, flow, came_first, served, client_served, from_no_client, log_now, back_now}

-- In a play nothing comes out of turn.

-- a page that spells a reply has a status
spelled_status : (page : List ℕ) (ask : BusAsk) (r : BusReply) → SpellsReply page ask r → is_some (status_in page) ≡ true
unfolding reply_in
spelled_status page ask r h = by (status_in page) h
  where
    by : (o : Option BusStatus) → option_map (λ s. let q : BusReply = record { status = s; bytes = take (bytes_due s ask) (drop 4 page) } in q) o ≡ Some r → is_some o ≡ true
    by None e = cc
    by (Some s) e = refl

says_status : (ask : BusAsk) (x : Cargo) (p : Paged) (r : BusReply) → x.1 ≡ Bodies.Page p → Says ask x r → is_some (status_in p.bytes) ≡ true
says_status ask (item, Bodies.Page q) p r is h = spelled_status p.bytes ask r (subst (λ (z : Paged). SpellsReply z.bytes ask r) (page_of is) h)
  where
    page_of : {p q : Paged} → Bodies.Page p ≡ Bodies.Page q → p ≡ q
    page_of e = cc
says_status ask (item, Bodies.Empty) p r is h = absurd h
says_status ask (item, Bodies.Lease l) p r is h = absurd h

-- what went to the driver is in turn at the bus
transfer_at : (xs : List Cargo) (ts : List Request) → AreTransfers xs ts → (k : ℕ) (x : Cargo) → slice_get xs k ≡ Some x → (r : Request) × IsTransfer x r
transfer_at [] ts are k x at = cc
transfer_at (y ∷ xs) [] are k x at = absurd are
transfer_at (y ∷ xs) (r ∷ ts) are zero x at = (r, subst (λ z. IsTransfer z r) (some_is at) are.0)
transfer_at (y ∷ xs) (r ∷ ts) are (suc k) x at = transfer_at xs ts are.1 k x at

-- the answer to an entry is in its buffer
pub record AnswerIn (ds : List Device) (p : Paged) : Type 0 where
  pub page : Paged
  pub is : answer_to ds (shared_entry p) ≡ shared_entry page
  pub pool : page.pool ≡ p.pool
  pub number : page.no ≡ p.no

pub answer_in : (ds : List Device) (p : Paged) → AnswerIn ds p
unfolding answer_to
answer_in ds p = by (request_in p.bytes) refl
  where
    by : (o : Option BusAsk) → request_in p.bytes ≡ o → AnswerIn ds p
    by None e = record { page = p; is = ap (λ (o : Option BusAsk). let y : Cargo = (item_at (shared_place p.pool p.no), Bodies.Page (answered ds o p)) in y) e; pool = refl; number = refl }
    by (Some a) e = record { page = answered ds (Some a) p; is = ap (λ (o : Option BusAsk). let y : Cargo = (item_at (shared_place p.pool p.no), Bodies.Page (answered ds o p)) in y) e; pool = refl; number = refl }

-- so it is of the same client
pub answer_of_client : (c : ℕ) (ds : List Device) (x : Cargo) (r : Request) → IsTransfer x r → is_of c (answer_to ds x) ≡ is_of c x
answer_of_client c ds x r t = let a = answer_in ds t.page in ap (is_of c) (ap (answer_to ds) t.is ∙ a.is) ∙ (ap (λ (p : PoolId). p.0 == c) a.pool ∙ ap (is_of c) (sym t.is))

-- an answer of the bus, beside the request that it answers
record AnswerAt (sent back : List Cargo) (y : Cargo) : Type 0 where
  pub request : Paged
  pub page : Paged
  pub next : slice_get (of_client request.pool.0 sent) (length (of_client request.pool.0 back)) ≡ Some (shared_entry request)
  pub is : y ≡ shared_entry page
  pub pool : page.pool ≡ request.pool
  pub number : page.no ≡ request.no
  pub spelled : is_some (status_in page.bytes) ≡ true

heads : {x y : Cargo} {xs ys : List Cargo} → x ∷ xs ≡ y ∷ ys → (x ≡ y) × (xs ≡ ys)
heads h = (cc, cc)

answer_at : (ds : List Device) (xs : List Cargo) (ts : List Request) → AreTransfers xs ts → (replies : List BusReply) → Say (asks_in ts) (answers_to ds xs) replies → (back : List Cargo) (y : Cargo) (rest : List Cargo) → back ++ y ∷ rest ≡ answers_to ds xs → AnswerAt xs back y
answer_at ds [] ts are replies say [] y rest is = cc
answer_at ds [] ts are replies say (b ∷ back) y rest is = cc
answer_at ds (x ∷ xs) [] are replies say back y rest is = absurd are
answer_at ds (x ∷ xs) (r ∷ ts) are [] say back y rest is = absurd say
answer_at ds (x ∷ xs) (r ∷ ts) are (q ∷ replies) say [] y rest is =
    let t : IsTransfer x r = are.0 in
    let a = answer_in ds t.page in
    let here : y ≡ shared_entry a.page = (heads is).0 ∙ (ap (answer_to ds) t.is ∙ a.is) in
    let own : is_of t.page.pool.0 x ≡ true = ap (is_of t.page.pool.0) t.is ∙ eq-eqb t.page.pool.0 t.page.pool.0 refl in
    record {
      request = t.page;
      page = a.page;
      next = ap (λ (b : Bool). slice_get (cond b (x ∷ of_client t.page.pool.0 xs) (of_client t.page.pool.0 xs)) 0) own ∙ ap (λ (z : Cargo). Some z) t.is;
      is = here;
      pool = a.pool;
      number = a.number;
      spelled = says_status r.ask (answer_to ds x) a.page q (ap (λ (z : Cargo). z.1) (ap (answer_to ds) t.is ∙ a.is)) say.0;
    }
answer_at ds (x ∷ xs) (r ∷ ts) are (q ∷ replies) say (b ∷ back) y rest is =
    let t : IsTransfer x r = are.0 in
    let a = answer_in ds t.page in
    let more = answer_at (done ds x) xs ts are.1 replies say.1 back y rest (heads is).1 in
    let c = more.request.pool.0 in
    let same : is_of c b ≡ is_of c x = ap (is_of c) ((heads is).0 ∙ (ap (answer_to ds) t.is ∙ a.is)) ∙ (ap (λ (p : PoolId). p.0 == c) a.pool ∙ ap (is_of c) (sym t.is)) in
    record {
      request = more.request;
      page = more.page;
      next = by c more.request (is_of c x) refl same more.next;
      is = more.is;
      pool = more.pool;
      number = more.number;
      spelled = more.spelled;
    }
  where
    by : (c : ℕ) (p : Paged) (v : Bool) → is_of c x ≡ v → is_of c b ≡ is_of c x → slice_get (of_client c xs) (length (of_client c back)) ≡ Some (shared_entry p) → slice_get (of_client c (x ∷ xs)) (length (of_client c (b ∷ back))) ≡ Some (shared_entry p)
    by c p true e same next =
        subst (λ (v : Bool). slice_get (cond v (x ∷ of_client c xs) (of_client c xs)) (length (cond (is_of c b) (b ∷ of_client c back) (of_client c back))) ≡ Some (shared_entry p)) (sym e)
        (subst (λ (v : Bool). slice_get (x ∷ of_client c xs) (length (cond v (b ∷ of_client c back) (of_client c back))) ≡ Some (shared_entry p)) (sym (same ∙ e)) next)
    by c p false e same next =
        subst (λ (v : Bool). slice_get (cond v (x ∷ of_client c xs) (of_client c xs)) (length (cond (is_of c b) (b ∷ of_client c back) (of_client c back))) ≡ Some (shared_entry p)) (sym e)
        (subst (λ (v : Bool). slice_get (of_client c xs) (length (cond v (b ∷ of_client c back) (of_client c back))) ≡ Some (shared_entry p)) (sym (same ∙ e)) next)

-- what a client is given is in the buffer of its request
record GivenAt (js : List Judged) (k : ℕ) (y : Cargo) : Type 0 where
  pub judged : Judged
  pub page : Paged
  pub there : slice_get js k ≡ Some judged
  pub is : y ≡ own_entry page
  pub pool : page.pool ≡ judged.0.pool
  pub number : page.no ≡ judged.0.no

given_at : (js : List Judged) (back zs : List Cargo) → AreGiven js back zs → (k : ℕ) (y : Cargo) → slice_get zs k ≡ Some y → GivenAt js k y
given_at js back [] are k y at = cc
given_at [] back (z ∷ zs) are k y at = absurd are
given_at ((p, Some s) ∷ js) back (z ∷ zs) are zero y at = record { judged = (p, Some s); page = record p { bytes = with_reply p.bytes s [] }; there = refl; is = sym (some_is at) ∙ are.0; pool = refl; number = refl }
given_at ((p, Some s) ∷ js) back (z ∷ zs) are (suc k) y at = let g = given_at js back zs are.1 k y at in record { judged = g.judged; page = g.page; there = g.there; is = g.is; pool = g.pool; number = g.number }
given_at ((p, None) ∷ js) [] (z ∷ zs) are k y at = absurd are
given_at ((p, None) ∷ js) (x ∷ back) (z ∷ zs) are zero y at = let on : IsPassedOn p x z = are.0 in record { judged = (p, None); page = on.page; there = refl; is = sym (some_is at) ∙ on.given_is; pool = on.same_pool; number = on.same_number }
given_at ((p, None) ∷ js) (x ∷ back) (z ∷ zs) are (suc k) y at = let g = given_at js back zs are.1 k y at in record { judged = g.judged; page = g.page; there = g.there; is = g.is; pool = g.pool; number = g.number }

record SaysAt (y : Cargo) : Type 0 where
  pub ask : BusAsk
  pub reply : BusReply
  pub said : Says ask y reply

says_at : (asks : List BusAsk) (zs : List Cargo) (rs : List BusReply) → Say asks zs rs → (k : ℕ) (y : Cargo) → slice_get zs k ≡ Some y → SaysAt y
says_at asks [] rs say k y at = cc
says_at [] (z ∷ zs) rs say k y at = absurd say
says_at (a ∷ asks) (z ∷ zs) [] say k y at = absurd say
says_at (a ∷ asks) (z ∷ zs) (r ∷ rs) say zero y at = record { ask = a; reply = r; said = subst (λ x. Says a x r) (some_is at) say.0 }
says_at (a ∷ asks) (z ∷ zs) (r ∷ rs) say (suc k) y at = says_at asks zs rs say.1 k y at

pub page_in : (p q : Paged) (x y : Cargo) → x.1 ≡ Bodies.Page p → y.1 ≡ Bodies.Page q → x ≡ y → p ≡ q
page_in p q x y is there same = body (sym is ∙ (ap (λ (z : Cargo). z.1) same ∙ there))
  where
    body : Bodies.Page p ≡ Bodies.Page q → p ≡ q
    body e = cc

reply_in_turn : (pool : PoolId) (k : ℕ) (p : Paged) → p.pool ≡ pool → p.no ≡ buffer_of k → is_some (status_in p.bytes) ≡ true → is_reply pool k (own_entry p) ≡ true
unfolding is_reply_in
reply_in_turn pool k p own number spelled = all_four (p.pool.0 == pool.0) (p.no == buffer_of k) (names (item_at (own_place p.no)) (own_place (buffer_of k))) (is_some (status_in p.bytes))
    (eq-eqb p.pool.0 pool.0 (ap (λ (q : PoolId). q.0) own)) (eq-eqb p.no (buffer_of k) number) (subst (λ m. names (item_at (own_place p.no)) (own_place m) ≡ true) number (named (own_place p.no))) spelled

-- an entry of the driver's queues is a buffer of a client
pub record Placed (x : Cargo) : Type 0 where
  pub page : Paged
  pub is : x ≡ shared_entry page
  pub few : page.no < 2

transfer_in_turn : (x : Cargo) (r : Request) → IsTransfer x r → Placed x → is_bus_request x ≡ true
unfolding is_bus_request
transfer_in_turn x r t p =
    let same : p.page ≡ t.page = page_in p.page t.page x x (ap (λ (z : Cargo). z.1) p.is) (ap (λ (z : Cargo). z.1) t.is) refl in
    let few : t.page.no < 2 = subst (λ (q : Paged). q.no < 2) same p.few in
    ap is_bus_request t.is
    ∙ all_three (nat_lt t.page.no 2) (names (item_at (shared_place t.page.pool t.page.no)) (shared_place t.page.pool t.page.no)) (is_some (head_in t.page.bytes)) (lt-ltb t.page.no 2 few) (named (shared_place t.page.pool t.page.no)) (spelled_head t.page.bytes r.ask t.spelled)

-- what is to go to the driver are requests that were taken
record ForwardedAt (js : List Judged) (x : Cargo) : Type 0 where
  pub place : ℕ
  pub page : Paged
  pub there : slice_get js place ≡ Some (page, None)
  pub is : x ≡ shared_entry page

forwarded_at : (js : List Judged) (j : ℕ) (x : Cargo) → slice_get (forwarded js) j ≡ Some x → ForwardedAt js x
forwarded_at [] j x at = cc
forwarded_at ((p, Some s) ∷ js) j x at = let f = forwarded_at js j x at in record { place = suc f.place; page = f.page; there = f.there; is = f.is }
forwarded_at ((p, None) ∷ js) zero x at = record { place = 0; page = p; there = refl; is = sym (some_is at) }
forwarded_at ((p, None) ∷ js) (suc j) x at = let f = forwarded_at js j x at in record { place = suc f.place; page = f.page; there = f.there; is = f.is }

module _ (bus : Bus) (mo : Moment Member) (passed : Passed) (st : Stage bus mo passed) where
  abbrev n : ℕ
  n = bus.clients

  abbrev S : ℕ → List Cargo
  S q = passed.sent q

  abbrev T : ℕ → List Cargo
  T q = passed.taken q

  abbrev ds : List Device
  ds = new_devices bus.devices

  abbrev w : Work
  w = st.virt.virt.work

  abbrev B : List Cargo
  B = back_now bus mo passed st

  -- entries at the driver
  pub placed_sent : (i : ℕ) (x : Cargo) → slice_get (S (2 * n)) i ≡ Some x → Placed x
  placed_sent i x at =
      let all = served bus mo passed st in
      let log = log_now bus mo passed st in
      let h = all_at (IsSomeones n) (S (2 * n)) all.someones i x at in
      let c = h.client in
      let mine = client_served bus mo passed st c h.there in
      let j = in_filter (is_of c) (S (2 * n)) i x at h.is in
      let f = forwarded_at (judged_of c log) j.0 x (prefix_at (of_client c (S (2 * n))) (forwarded (judged_of c log)) (all.sends c h.there) j.0 x j.1) in
      let there : slice_get (S (2 * c)) f.place ≡ Some (own_entry f.page) = prefix_at (entries_of c log) (S (2 * c)) mine.taken f.place (own_entry f.page) (map_get (λ (j : Judged). own_entry j.0) (judged_of c log) f.place (f.page, None) f.there) in
      let a = asked_at (record { 0 = c }) 0 (script_of bus c) (S (2 * c)) (asked_by bus mo passed st c h.there) f.place (own_entry f.page) there in
      let same : f.page ≡ a.is.page = page_in f.page a.is.page (own_entry f.page) _ refl refl a.is.carried in
      let number : f.page.no ≡ buffer_of (0 + f.place) = ap (λ (p : Paged). p.no) same ∙ a.is.number in
      record { page = f.page; is = f.is; few = subst (λ k. k < 2) (sym number) (mod-lt (0 + f.place) (omega arith)) }

  -- the requests that went to the driver
  abbrev ts : List Request
  ts = (transfers n bus.devices (log_now bus mo passed st) (S (2 * n)) B (served bus mo passed st)).list

  transfers_are : AreTransfers (S (2 * n)) ts
  transfers_are = (transfers n bus.devices (log_now bus mo passed st) (S (2 * n)) B (served bus mo passed st)).are

  to_bus : IsPrefix (T (2 * n + 2)) (S (2 * n))
  to_bus =
      prefix_then (T (2 * n + 2)) (S (2 * n + 2)) (S (2 * n)) (flow bus mo passed st (2 * n + 2))
      (prefix_then (S (2 * n + 2)) (T (2 * n)) (S (2 * n)) (prefix_part (S (2 * n + 2)) _ (T (2 * n)) st.driver.there_is) (flow bus mo passed st (2 * n)))

  pub no_bus_stray : st.bus_itself.bus.stray ≡ None
  no_bus_stray = by st.bus_itself.bus.stray refl
    where
      by : (o : Option Cargo) → st.bus_itself.bus.stray ≡ o → st.bus_itself.bus.stray ≡ None
      by None is = is
      by (Some x) is =
          let rs = st.bus_itself.requests in
          let took : T (2 * n + 2) ≡ rs ++ x ∷ [] = st.bus_itself.taken ∙ ap (λ (o : Option Cargo). rs ++ option_to_list o) is in
          let there : slice_get (S (2 * n)) (length rs) ≡ Some x = prefix_at (T (2 * n + 2)) (S (2 * n)) to_bus (length rs) x (ap (λ l. slice_get l (length rs)) took ∙ get_behind rs x []) in
          let t = transfer_at (S (2 * n)) ts transfers_are (length rs) x there in
          let no : true ≡ false = sym (transfer_in_turn x t.0 t.1 (placed_sent (length rs) x there)) ∙ st.bus_itself.out_of_turn x is in
          cc

  back_join : (xs : List Cargo) (y : Cargo) (all : List Cargo) → IsPrefix (xs ++ y ∷ []) all → (rest : List Cargo) × (xs ++ y ∷ rest ≡ all)
  back_join xs y all pre = (pre.0, sym (append_assoc xs (y ∷ []) pre.0) ∙ pre.1)

  from_no_driver : (s : Stray) → w.stray ≡ Some s → s.from ≡ Source.Driver → ⊥
  from_no_driver s at is =
      let astray : IsAstray (length w.desks.items) (S (2 * n)) B Source.Driver s.entry = subst (λ f. IsAstray (length w.desks.items) (S (2 * n)) B f s.entry) is (st.virt.stands.out_of_turn s at) in
      let took : T (2 * n + 1) ≡ B ++ s.entry ∷ [] = st.virt.stands.responses ∙ (ap (λ (o : Option Stray). B ++ strays_back o) at ∙ ap (λ (f : From). B ++ if_driver f s.entry) is) in
      let pre : IsPrefix (B ++ s.entry ∷ []) (answers_to ds (S (2 * n))) = subst (λ l. IsPrefix l (answers_to ds (S (2 * n)))) took (came_first bus mo passed st) in
      let j = back_join B s.entry (answers_to ds (S (2 * n))) pre in
      let a = answer_at ds (S (2 * n)) ts transfers_are (served_by ds (asks_in ts)) (answers_say ds (S (2 * n)) ts transfers_are) B s.entry j.0 j.1 in
      astray (record {
        page = a.page;
        is = a.is;
        spelled = a.spelled;
        request = a.request;
        next = subst (λ (p : PoolId). slice_get (of_client p.0 (S (2 * n))) (length (of_client p.0 B)) ≡ Some (shared_entry a.request)) (sym a.pool) a.next;
        number = sym a.number;
      })

  pub no_virt_stray : w.stray ≡ None
  no_virt_stray = by w.stray refl
    where
      from : (s : Stray) → w.stray ≡ Some s → (f : From) → s.from ≡ f → w.stray ≡ None
      from s at Source.Driver is = absurd (from_no_driver s at is)
      from s at (Source.Client k) is = absurd (from_no_client bus mo passed st s at k is)

      by : (o : Option Stray) → w.stray ≡ o → w.stray ≡ None
      by None at = at
      by (Some s) at = from s at s.from refl

  module _ (c : ℕ) (lt : c < n) where
    abbrev pool : PoolId
    pool = record { 0 = c }

    abbrev js : List Judged
    js = judged_of c (log_now bus mo passed st)

    -- an entry that a client is given is the reply that is due
    pub given_due : (k : ℕ) (y : Cargo) → slice_get (S (2 * c + 1)) k ≡ Some y → due_after pool (length (S (2 * c))) k y ≡ true
    given_due k y at =
        let mine = client_served bus mo passed st c lt in
        let cl = st.clients c lt in
        let g = given_at js (of_client c B) (S (2 * c + 1)) mine.answers k y at in
        let said = says_at _ (S (2 * c + 1)) _ (given_says n bus.devices (log_now bus mo passed st) (S (2 * n)) B (served bus mo passed st) c lt pool (script_of bus c) (S (2 * c)) (S (2 * c + 1)) cl.stands.came cl.client.asking.replies.shown mine) k y at in
        let status = says_status said.ask y g.page said.reply (ap (λ (z : Cargo). z.1) g.is) said.said in
        let there : slice_get (S (2 * c)) k ≡ Some (own_entry g.judged.0) = prefix_at (entries_of c (log_now bus mo passed st)) (S (2 * c)) mine.taken k (own_entry g.judged.0) (map_get (λ (j : Judged). own_entry j.0) js k g.judged g.there) in
        let a = asked_at pool 0 (script_of bus c) (S (2 * c)) (asked_by bus mo passed st c lt) k (own_entry g.judged.0) there in
        let page : g.judged.0 ≡ a.is.page = page_in g.judged.0 a.is.page (own_entry g.judged.0) _ refl refl a.is.carried in
        let z : 0 + k ≡ k = omega arith in
        let own : g.page.pool ≡ pool = g.pool ∙ (ap (λ (p : Paged). p.pool) page ∙ a.is.own) in
        let number : g.page.no ≡ buffer_of k = g.number ∙ (ap (λ (p : Paged). p.no) page ∙ (a.is.number ∙ ap buffer_of z)) in
        let turn : is_reply pool k y ≡ true = ap (is_reply pool k) g.is ∙ reply_in_turn pool k g.page own number status in
        let below : k < length (S (2 * c)) = there_below (S (2 * c)) k (own_entry g.judged.0) there in
        both (nat_lt k (length (S (2 * c)))) (is_reply pool k y) (lt-ltb k (length (S (2 * c))) below) turn
      where
        both : (a b : Bool) → a ≡ true → b ≡ true → (a && b) ≡ true
        both true true h g = refl
        both true false h g = cc
        both false b h g = cc

    abbrev cl : ClientAt mo passed c (script_of bus c)
    cl = st.clients c lt

    pub no_client_stray : (st.clients c lt).client.stray ≡ None
    no_client_stray = by cl.client.stray refl
      where
        by : (o : Option Cargo) → cl.client.stray ≡ o → cl.client.stray ≡ None
        by None is = is
        by (Some y) is =
            let came = cl.stands.came in
            let took : T (2 * c + 1) ≡ came ++ y ∷ [] = cl.stands.taken ∙ ap (λ (o : Option Cargo). came ++ option_to_list o) is in
            let there : slice_get (S (2 * c + 1)) (length came) ≡ Some y = prefix_at (T (2 * c + 1)) (S (2 * c + 1)) (flow bus mo passed st (2 * c + 1)) (length came) y (ap (λ l. slice_get l (length came)) took ∙ get_behind came y []) in
            let no : true ≡ false = sym (given_due (length came) y there) ∙ (ap (λ (p : PoolId). due_after p (length (S (2 * c))) (length came) y) (sym cl.pool) ∙ cl.stands.out_of_turn y is) in
            cc
