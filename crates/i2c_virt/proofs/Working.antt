-- What the virtualiser has goes on with each entry that comes or goes.
use Rattle.std.proofs.Common.{◌≡◌, ◌⊎◌, ◌≢◌, ◌==◌, ◌&&◌, ◌+◌, ◌<◌, ◌^◌, ℕ, zero, suc, Bool, true, false, cond, not, nat_le, nat_lt, slice_index, drop, Option, Some, None, is_some, is_none, IsSome, List, [], ◌∷◌, ◌++◌, All, length, length-append, map, get_or, slice_get, slice_set, refl, sym, ap, ◌∙◌, subst, arith, inl, inr, append_assoc, append-nil}
use Rattle.std.specs.List.{filter}
use Rattle.std.specs.Option.{option_to_list, option_map, option_and_then}
use Rattle.std.proofs.lemmas.Bool.{eqb-true, ltb-true, eq-eqb, cases_eq}
use Rattle.std.proofs.lemmas.Option.{slice_get_within, slice_get-get_or}
use Rattle.std.proofs.lemmas.List.{length-set}
use Rattle.std.proofs.lemmas.List.Elements.{All-nil, All-cons, All-push}
use Rattle.wire_core.proofs.Sinces.{eqb_apart}
use Rattle.cargo_core.specs.declared.item.Body.{Body}
use Rattle.cargo_core.specs.declared.item.Body.TheVariants as Bodies
use Rattle.cargo_core.specs.declared.item.Item.{Item}
use Rattle.cargo_core.specs.declared.item.Item.TheVariants as ItemOf
use Rattle.cargo_core.specs.declared.item.NetDesc.{NetDesc}
use Rattle.cargo_core.specs.declared.item.PoolId.{PoolId}
use Rattle.cargo_core.specs.declared.item.QueueKind.TheVariants as Kind
use Rattle.cargo_core.specs.Items.{kind_of}
use Rattle.cargo_core.specs.Pages.{Paged, Leased}
use Rattle.wire_core.specs.Deeds.{Cargo}
use Rattle.buffer_kit.specs.Clients.{is_so, entry_in, with_more}
use Rattle.buffer_kit.proofs.ManyClients.{so_there, now_or_was, now_there, some_eq, there_more, other_more}
use Rattle.i2c_text.specs.declared.bus.BusAsk.{BusAsk}
use Rattle.i2c_text.specs.declared.report.BusStatus.{BusStatus}
use Rattle.i2c_virt.specs.declared.i2c_kit.alone.Request.{Request}
use Rattle.i2c_virt.specs.declared.i2c_kit.page.Head.{Head}
use Rattle.i2c_virt.specs.declared.i2c_kit.page.Operation.{Operation}
use Rattle.i2c_virt.specs.I2cKit.Entries.{item_at, own_place, shared_place, names, is_own_request, is_reply_in}
use Rattle.i2c_virt.specs.I2cKit.Pages.{head_in, head_by, request_in, operation_of, suits, asked, is_address, status_in, SpellsRequest}
use Rattle.i2c_virt.specs.declared.desk.Desk.{Desk}
use Rattle.i2c_virt.specs.declared.owners.Owners.{Owners}
use Rattle.i2c_virt.specs.declared.work.Work.{Work}
use Rattle.i2c_virt.specs.declared.work.Stray.{Stray}
use Rattle.i2c_virt.specs.Owners.{KnowsOwners, verdict}
use Rattle.i2c_virt.specs.Desks.{Judged, IsDesk, DeskStands, is_open, is_away_in, own_entry, shared_entry, asked_by, back_with}
use Rattle.i2c_virt.specs.Works.{Took, IsTook, IsSomeones, requests_in, clients_in, judged_from, judged_of, is_of, of_client, IsWork, WorkStands, wants_at, gives_at, is_due, Asked, Answered, TookFrom, AskedIf, TookBack, AnsweredIf}
use Rattle.i2c_virt.proofs.Desking.{both, asked_stands, asked_fits, back_stands, back_fits, sent_stands, sent_fits, gave_stands, gave_fits}

-- one request more
requests_more : (log : List Took) (t : Took) → requests_in (log ++ t ∷ []) ≡ requests_in log ++ t.request ∷ []
requests_more [] t = refl
requests_more (x ∷ log) t = ap (λ rs. x.request ∷ rs) (requests_more log t)

judged_more : (k : ℕ) (before : List Request) (log : List Took) (t : Took) → judged_from k before (log ++ t ∷ [])
    ≡ judged_from k before log ++ cond (t.request.client == k) ((t.page, verdict (before ++ requests_in log) t.request) ∷ []) []
judged_more k before [] t =
    append-nil (cond (t.request.client == k) ((t.page, verdict before t.request) ∷ []) [])
    ∙ ap (λ bs. cond (t.request.client == k) ((t.page, verdict bs t.request) ∷ []) []) (sym (append-nil before))
judged_more k before (x ∷ log) t =
    let this : List Judged = cond (x.request.client == k) ((x.page, verdict before x.request) ∷ []) [] in
    let last : List Request → List Judged = λ bs. cond (t.request.client == k) ((t.page, verdict bs t.request) ∷ []) [] in
    ap (λ js. this ++ js) (judged_more k (before ++ x.request ∷ []) log t)
    ∙ (ap (λ bs. this ++ (judged_from k (before ++ x.request ∷ []) log ++ last bs)) (append_assoc before (x.request ∷ []) (requests_in log))
    ∙ sym (append_assoc this (judged_from k (before ++ x.request ∷ []) log) (last (before ++ requests_in (x ∷ log)))))

pub judged_here : (k : ℕ) (log : List Took) (t : Took) → t.request.client ≡ k → judged_of k (log ++ t ∷ []) ≡ judged_of k log ++ (t.page, verdict (requests_in log) t.request) ∷ []
judged_here k log t is = judged_more k [] log t ∙ ap (λ b. judged_of k log ++ cond b ((t.page, verdict (requests_in log) t.request) ∷ []) []) (eq-eqb t.request.client k is)

pub judged_beside : (k : ℕ) (log : List Took) (t : Took) → (t.request.client ≡ k → ⊥) → judged_of k (log ++ t ∷ []) ≡ judged_of k log
judged_beside k log t off = judged_more k [] log t ∙ (ap (λ b. judged_of k log ++ cond b ((t.page, verdict (requests_in log) t.request) ∷ []) []) (eqb_apart t.request.client k off) ∙ append-nil (judged_of k log))

-- one entry more on the driver's queues
filter_step : (p : Cargo → Bool) (y x : Cargo) (xs : List Cargo) (b c : Bool) → p y ≡ c → filter p (xs ++ x ∷ []) ≡ filter p xs ++ cond b (x ∷ []) [] → filter p ((y ∷ xs) ++ x ∷ []) ≡ filter p (y ∷ xs) ++ cond b (x ∷ []) []
filter_step p y x xs b true is more = rw is (ap (λ r. y ∷ r) more)
filter_step p y x xs b false is more = rw is more

filter_more : (p : Cargo → Bool) (xs : List Cargo) (x : Cargo) (b : Bool) → p x ≡ b → filter p (xs ++ x ∷ []) ≡ filter p xs ++ cond b (x ∷ []) []
filter_more p [] x true h = rw h refl
filter_more p [] x false h = rw h refl
filter_more p (y ∷ xs) x b h = filter_step p y x xs b (p y) refl (filter_more p xs x b h)

pub client_here : (k : ℕ) (xs : List Cargo) (x : Cargo) → is_of k x ≡ true → of_client k (xs ++ x ∷ []) ≡ of_client k xs ++ x ∷ []
client_here k xs x is = filter_more (is_of k) xs x true is

of_apart : (k j : ℕ) (i : Item) (b : Body) → is_of k (i, b) ≡ true → (k ≡ j → ⊥) → is_of j (i, b) ≡ false
of_apart k j i (Bodies.Page p) is off = eqb_apart p.pool.0 j (λ e. off (sym (eqb-true p.pool.0 k is) ∙ e))
of_apart k j i Bodies.Empty is off = refl
of_apart k j i (Bodies.Lease l) is off = refl

pub client_beside : (k j : ℕ) (xs : List Cargo) (x : Cargo) → is_of k x ≡ true → (k ≡ j → ⊥) → of_client j (xs ++ x ∷ []) ≡ of_client j xs
client_beside k j xs x is off = filter_more (is_of j) xs x false (of_apart k j x.0 x.1 is off) ∙ append-nil (of_client j xs)

-- one desk is another, and its lists are longer
pub same_stands : (k : ℕ) (d : Desk) (js js' : List Judged) (ss ss' bs bs' gs gs' : List Cargo) → js' ≡ js → ss' ≡ ss → bs' ≡ bs → gs' ≡ gs → DeskStands k d js ss bs gs → DeskStands k d js' ss' bs' gs'
same_stands k d js js' ss ss' bs bs' gs gs' a b c e h = rw (a, b, c, e) h

module _ (ds ds' : List Desk) (k : ℕ) (was now : Desk) (there : slice_get ds k ≡ Some was) (set : ds' ≡ slice_set ds k now) where
  pub each_fits : ((j : ℕ) (d : Desk) → slice_get ds j ≡ Some d → IsDesk j d) → IsDesk k now → (j : ℕ) (d : Desk) → slice_get ds' j ≡ Some d → IsDesk j d
  each_fits h n j d at = by (now_or_was ds ds' k was now there set j d at (cases_eq k j))
    where
      by : ((k ≡ j) × (now ≡ d)) ⊎ ((k ≡ j → ⊥) × (slice_get ds j ≡ Some d)) → IsDesk j d
      by (inl e) = subst (λ i. IsDesk i d) e.0 (subst (IsDesk k) e.1 n)
      by (inr e) = h j d e.1

  pub each_stands : (J J' : ℕ → List Judged) (S S' B B' G G' : ℕ → List Cargo) → ((j : ℕ) (d : Desk) → slice_get ds j ≡ Some d → DeskStands j d (J j) (S j) (B j) (G j))
      → DeskStands k now (J' k) (S' k) (B' k) (G' k) → ((j : ℕ) → (k ≡ j → ⊥) → (J' j ≡ J j) × (S' j ≡ S j) × (B' j ≡ B j) × (G' j ≡ G j))
      → (j : ℕ) (d : Desk) → slice_get ds' j ≡ Some d → DeskStands j d (J' j) (S' j) (B' j) (G' j)
  each_stands J J' S S' B B' G G' h n others j d at = by (now_or_was ds ds' k was now there set j d at (cases_eq k j))
    where
      by : ((k ≡ j) × (now ≡ d)) ⊎ ((k ≡ j → ⊥) × (slice_get ds j ≡ Some d)) → DeskStands j d (J' j) (S' j) (B' j) (G' j)
      by (inl e) = subst (λ i. DeskStands i d (J' i) (S' i) (B' i) (G' i)) e.0 (subst (λ x. DeskStands k x (J' k) (S' k) (B' k) (G' k)) e.1 n)
      by (inr e) = let o = others j e.0 in same_stands j d (J j) (J' j) (S j) (S' j) (B j) (B' j) (G j) (G' j) o.0 o.1 o.2 o.3 (h j d e.1)

  pub as_many : length ds' ≡ length ds
  as_many = ap length set ∙ length-set ds k now

-- an item that names a place
pub named_is : (i : Item) (place : ℕ) → names i place ≡ true → i ≡ item_at place
named_is (ItemOf.Net d) place h =
    let e = both (d.addr == place) (d.len == 64) h in
    let a = eqb-true d.addr place e.0 in
    let b = eqb-true d.len 64 e.1 in
    ap (λ (x : NetDesc). ItemOf.Net x) (ap (λ n. record { addr = n; len = d.len }) a ∙ ap (λ n. record { addr = place; len = n }) b)
named_is (ItemOf.Byte b) place h = cc
named_is (ItemOf.Req r) place h = cc
named_is (ItemOf.Resp r) place h = cc

-- what is known of a request in turn
pub record IsRequestPage (k : ℕ) (x : Cargo) (p : Paged) : Type 0 where
  pub own : p.pool.0 ≡ k
  pub within : p.no < 2
  pub is : x ≡ own_entry p
  pub spelled : is_some (head_in p.bytes) ≡ true

request_page : (k : ℕ) (i : Item) (p : Paged) → is_own_request (record { 0 = k }) (i, Bodies.Page p) ≡ true → IsRequestPage k (i, Bodies.Page p) p
unfolding is_own_request
request_page k i p h =
    let a = both (p.pool.0 == k && nat_lt p.no 2 && names i (own_place p.no)) (is_some (head_in p.bytes)) h in
    let b = both (p.pool.0 == k && nat_lt p.no 2) (names i (own_place p.no)) a.0 in
    let c = both (p.pool.0 == k) (nat_lt p.no 2) b.0 in
    record {
      own = eqb-true p.pool.0 k c.0;
      within = ltb-true p.no 2 c.1;
      is = ap (λ (j : Item). (j, Bodies.Page p)) (named_is i (own_place p.no) b.1);
      spelled = a.1;
    }

pub request_parts : (k : ℕ) (x : Cargo) (p : Paged) → x.1 ≡ Bodies.Page p → is_own_request (record { 0 = k }) x ≡ true → IsRequestPage k x p
request_parts k x p is h = subst (λ (b : Body). IsRequestPage k (x.0, b) p) (sym is) (request_page k x.0 p (subst (λ (b : Body). is_own_request (record { 0 = k }) (x.0, b) ≡ true) is h))

-- the head of a page
head_from : (b : Bool) (o : Option Operation) (a n : ℕ) (h : Head) → cond b (option_and_then (head_by a n) o) None ≡ Some h → (b ≡ true) × (h.address ≡ a)
head_from false o a n h e = cc
head_from true None a n h e = cc
head_from true (Some o) a n h e = by (suits o n) refl e
  where
    by : (c : Bool) → suits o n ≡ c → head_by a n o ≡ Some h → (true ≡ true) × (h.address ≡ a)
    by true is e =
        let made : head_by a n o ≡ Some (record { operation = o; address = a; count = n }) = rw is refl in
        let both : Some (record { operation = o; address = a; count = n }) ≡ Some h = sym made ∙ e in
        (refl, ap (λ (x : Head). x.address) (sym (some_eq both)))
    by false is e = let no : None ≡ Some h = sym (let z : head_by a n o ≡ None = rw is refl in z) ∙ e in cc

below : (n : ℕ) → is_address n ≡ true → n < 128
below n h = let p = both (nat_le 8 n) (nat_le n 119) h in grind (arith, p.1)

pub head_below : (page : List ℕ) (h : Head) → head_in page ≡ Some h → h.address < 128
unfolding head_in
head_below page h e =
    let f = head_from (length page == 64 && is_address (slice_index page 1)) (operation_of (slice_index page 0)) (slice_index page 1) (slice_index page 3) h e in
    rw f.1 (below (slice_index page 1) (both (length page == 64) (is_address (slice_index page 1)) f.0).1)

pub head_spells : (page : List ℕ) (h : Head) → head_in page ≡ Some h → SpellsRequest page (asked h.operation h.address h.count (drop 4 page))
unfolding request_in
head_spells page h e = ap (option_map (λ (x : Head). asked x.operation x.address x.count (drop 4 page))) e

-- a client whose request is wanted
pub wanted_there : (w : Work) (k : ℕ) → wants_at w k ≡ true → (d : Desk) × (slice_get w.desks.items k ≡ Some d) × (is_open d ≡ true)
wanted_there w k h = so_there is_open (slice_get w.desks.items k) (both (is_none w.stray) (is_so is_open (slice_get w.desks.items k)) h).1

-- what went is nothing, or all that was there
put_cases : (was : Option Cargo) (put : List Cargo) (left : Option Cargo) → option_to_list was ≡ put ++ option_to_list left → (put ≡ []) ⊎ ((x : Cargo) × (put ≡ x ∷ []) × (was ≡ Some x))
put_cases was [] left h = inl refl
put_cases None (x ∷ xs) left h = cc
put_cases (Some y) (x ∷ []) left h = inr (x, refl, ap (λ (cs : List Cargo). slice_get cs 0) h)
put_cases (Some y) (x ∷ z ∷ xs) left h = absurd (let n = ap length h in omega (arith, n))

module _ (w w' : Work) (k : ℕ) (was now : Desk) (there : slice_get w.desks.items k ≡ Some was) (set : w'.desks.items ≡ slice_set w.desks.items k now) (fits : IsWork w) where
  long : length w'.desks.items ≡ length w.desks.items
  long = as_many w.desks.items w'.desks.items k was now there set

  inside : k < length w.desks.items
  inside = slice_get_within w.desks.items k was there

  work_fits : length w'.owners.clients.items ≡ 128 → IsDesk k now → IsWork w'
  work_fits owners n = record {
    owners = owners;
    few = rw long fits.few;
    desks = each_fits w.desks.items w'.desks.items k was now there set fits.desks n;
  }

  -- a request came
  module _ (p : Paged) (v : Option BusStatus) (is : now ≡ asked_by v p was) (opened : is_open was ≡ true) (own : p.pool.0 ≡ k) (within : p.no < 2) (ask : BusAsk) (spelled : SpellsRequest p.bytes ask) where
    abbrev pub took : Took
    took = record { request = record { client = k; ask = ask }; page = p }

    pub asked_work : length w'.owners.clients.items ≡ 128 → IsWork w'
    asked_work owners = work_fits owners (subst (IsDesk k) (sym is) (asked_fits k was (fits.desks k was there) opened v p own))

    pub asked_log : ((rs : List Request) → KnowsOwners w.owners.clients.items rs → v ≡ verdict rs took.request) → ((rs : List Request) → KnowsOwners w.owners.clients.items rs → KnowsOwners w'.owners.clients.items (rs ++ took.request ∷ []))
        → (log : List Took) (sent back : List Cargo) (gave : ℕ → List Cargo) → WorkStands w log sent back gave → WorkStands w' (log ++ took ∷ []) sent back gave
    asked_log judged knows log sent back gave h = record {
      knows = subst (KnowsOwners w'.owners.clients.items) (sym (requests_more log took)) (knows (requests_in log) h.knows);
      took = rw long (All-push (IsTook (length w.desks.items)) log took h.took (record { there = inside; own = own; within = within; spelled = spelled }));
      someones = rw long h.someones;
      desks = each_stands w.desks.items w'.desks.items k was now there set (λ j. judged_of j log) (λ j. judged_of j (log ++ took ∷ [])) (λ j. of_client j sent) (λ j. of_client j sent) (λ j. of_client j back) (λ j. of_client j back) gave gave h.desks
          (subst (λ d. DeskStands k d (judged_of k (log ++ took ∷ [])) (of_client k sent) (of_client k back) (gave k)) (sym is)
          (subst (λ js. DeskStands k (asked_by v p was) js (of_client k sent) (of_client k back) (gave k)) (ap (λ (x : Option BusStatus). judged_of k log ++ (p, x) ∷ []) (judged (requests_in log) h.knows) ∙ sym (judged_here k log took refl))
          (asked_stands k was (fits.desks k was there) opened (judged_of k log) (of_client k sent) (of_client k back) (gave k) (h.desks k was there) v p own)))
          (λ j off. (judged_beside j log took off, refl, refl, refl));
    }

  -- the answer to a request came back
  module _ (p : Paged) (is : now ≡ back_with p was) (away : is_away_in was p.no ≡ true) (own : p.pool.0 ≡ k) (owners : w'.owners ≡ w.owners) where
    pub back_work : IsWork w'
    back_work = work_fits (ap (λ (o : Owners). length o.clients.items) owners ∙ fits.owners) (subst (IsDesk k) (sym is) (back_fits k was (fits.desks k was there) p away))

    mine : is_of k (shared_entry p) ≡ true
    mine = eq-eqb p.pool.0 k own

    pub back_log : (log : List Took) (sent back : List Cargo) (gave : ℕ → List Cargo) → WorkStands w log sent back gave → WorkStands w' log sent (back ++ shared_entry p ∷ []) gave
    back_log log sent back gave h = record {
      knows = subst (λ (o : Owners). KnowsOwners o.clients.items (requests_in log)) (sym owners) h.knows;
      took = rw long h.took;
      someones = rw long h.someones;
      desks = each_stands w.desks.items w'.desks.items k was now there set (λ j. judged_of j log) (λ j. judged_of j log) (λ j. of_client j sent) (λ j. of_client j sent) (λ j. of_client j back) (λ j. of_client j (back ++ shared_entry p ∷ [])) gave gave h.desks
          (subst (λ d. DeskStands k d (judged_of k log) (of_client k sent) (of_client k (back ++ shared_entry p ∷ [])) (gave k)) (sym is)
          (subst (λ bs. DeskStands k (back_with p was) (judged_of k log) (of_client k sent) bs (gave k)) (sym (client_here k back (shared_entry p) mine))
          (back_stands k was (fits.desks k was there) p away own (judged_of k log) (of_client k sent) (of_client k back) (gave k) (h.desks k was there))))
          (λ j off. (refl, refl, client_beside k j back (shared_entry p) mine off, refl));
    }

    pub back_answered : (y : Cargo) → y ≡ shared_entry p → w'.stray ≡ w.stray → Answered w y w'
    back_answered y same stray = record {
      stray = stray;
      stands = λ log sent back gave h. subst (λ (z : Cargo). WorkStands w' log sent (back ++ z ∷ []) gave) (sym same) (back_log log sent back gave h);
    }

  -- a request went to the driver, or none
  module _ (left : Option Cargo) (put : List Cargo) (is : now ≡ record was { leaving = left }) (parts : option_to_list was.leaving ≡ put ++ option_to_list left) (owners : w'.owners ≡ w.owners) where
    pub sent_work : IsWork w'
    sent_work = work_fits (ap (λ (o : Owners). length o.clients.items) owners ∙ fits.owners) (subst (IsDesk k) (sym is) (sent_fits k was left put parts (fits.desks k was there)))

    ours : (x : Cargo) → was.leaving ≡ Some x → is_of k x ≡ true
    ours x at = let l = (fits.desks k was there).leaves x at in subst (λ z. is_of k z ≡ true) (sym l.is) (eq-eqb l.page.pool.0 k l.own)

    pub sent_log : (log : List Took) (sent back : List Cargo) (gave : ℕ → List Cargo) → WorkStands w log sent back gave → WorkStands w' log (sent ++ put) back gave
    sent_log log sent back gave h = by (put_cases was.leaving put left parts)
      where
        all : of_client k (sent ++ put) ≡ of_client k sent ++ put → All (IsSomeones (length w.desks.items)) (sent ++ put) → ((j : ℕ) → (k ≡ j → ⊥) → of_client j (sent ++ put) ≡ of_client j sent) → WorkStands w' log (sent ++ put) back gave
        all mine someones others = record {
          knows = subst (λ (o : Owners). KnowsOwners o.clients.items (requests_in log)) (sym owners) h.knows;
          took = rw long h.took;
          someones = rw long someones;
          desks = each_stands w.desks.items w'.desks.items k was now there set (λ j. judged_of j log) (λ j. judged_of j log) (λ j. of_client j sent) (λ j. of_client j (sent ++ put)) (λ j. of_client j back) (λ j. of_client j back) gave gave h.desks
              (subst (λ d. DeskStands k d (judged_of k log) (of_client k (sent ++ put)) (of_client k back) (gave k)) (sym is)
              (subst (λ ss. DeskStands k (record was { leaving = left }) (judged_of k log) ss (of_client k back) (gave k)) (sym mine)
              (sent_stands k was left put parts (judged_of k log) (of_client k sent) (of_client k back) (gave k) (h.desks k was there))))
              (λ j off. (refl, others j off, refl, refl));
        }

        by : (put ≡ []) ⊎ ((x : Cargo) × (put ≡ x ∷ []) × (was.leaving ≡ Some x)) → WorkStands w' log (sent ++ put) back gave
        by (inl e) =
            let same : sent ++ put ≡ sent = ap (λ xs. sent ++ xs) e ∙ append-nil sent in
            all (ap (of_client k) same ∙ (sym (append-nil (of_client k sent)) ∙ ap (λ xs. of_client k sent ++ xs) (sym e))) (subst (All (IsSomeones (length w.desks.items))) (sym same) h.someones) (λ j off. ap (of_client j) same)
        by (inr x) =
            let same : sent ++ put ≡ sent ++ x.0 ∷ [] = ap (λ xs. sent ++ xs) x.1 in
            let mine = ours x.0 x.2 in
            all (ap (of_client k) same ∙ (client_here k sent x.0 mine ∙ ap (λ xs. of_client k sent ++ xs) (sym x.1)))
            (subst (All (IsSomeones (length w.desks.items))) (sym same) (All-push (IsSomeones (length w.desks.items)) sent x.0 h.someones (record { client = k; there = inside; is = mine })))
            (λ j off. ap (of_client j) same ∙ client_beside k j sent x.0 mine off)

  -- an answer went to the client, or none
  module _ (left : Option Cargo) (put : List Cargo) (is : now ≡ record was { held = left }) (parts : option_to_list was.held ≡ put ++ option_to_list left) (owners : w'.owners ≡ w.owners) where
    pub gave_work : IsWork w'
    gave_work = work_fits (ap (λ (o : Owners). length o.clients.items) owners ∙ fits.owners) (subst (IsDesk k) (sym is) (gave_fits k was left put parts (fits.desks k was there)))

    pub gave_log : (log : List Took) (sent back : List Cargo) (gave : ℕ → List Cargo) → WorkStands w log sent back gave → WorkStands w' log sent back (with_more gave k put)
    gave_log log sent back gave h = record {
      knows = subst (λ (o : Owners). KnowsOwners o.clients.items (requests_in log)) (sym owners) h.knows;
      took = rw long h.took;
      someones = rw long h.someones;
      desks = each_stands w.desks.items w'.desks.items k was now there set (λ j. judged_of j log) (λ j. judged_of j log) (λ j. of_client j sent) (λ j. of_client j sent) (λ j. of_client j back) (λ j. of_client j back) gave (with_more gave k put) h.desks
          (subst (λ d. DeskStands k d (judged_of k log) (of_client k sent) (of_client k back) (with_more gave k put k)) (sym is)
          (subst (λ gs. DeskStands k (record was { held = left }) (judged_of k log) (of_client k sent) (of_client k back) gs) (sym (there_more gave k k put refl))
          (gave_stands k was left put parts (judged_of k log) (of_client k sent) (of_client k back) (gave k) (h.desks k was there))))
          (λ j off. (refl, refl, refl, other_more gave k j put off));
    }

-- the desk that was read
pub desk_read : (ds : List Desk) (k : ℕ) (x d : Desk) → slice_get ds k ≡ Some d → x ≡ get_or ds k x → slice_get ds k ≡ Some x
desk_read ds k x d at is = slice_get-get_or ds k x (slice_get_within ds k d at) ∙ ap Some (sym is)

pub asks_there : (w : Work) (k : ℕ) (x : Desk) → wants_at w k ≡ true → x ≡ get_or w.desks.items k x → slice_get w.desks.items k ≡ Some x
asks_there w k x wants is = let t = wanted_there w k wants in desk_read w.desks.items k x t.0 t.1 is

pub asks_open : (w : Work) (k : ℕ) (x : Desk) → wants_at w k ≡ true → x ≡ get_or w.desks.items k x → is_open x ≡ true
asks_open w k x wants is =
    let t = wanted_there w k wants in
    let same : t.0 ≡ x = some_eq (sym t.1 ∙ asks_there w k x wants is) in
    subst (λ d. is_open d ≡ true) same t.2

-- what is known of a response in turn
pub record IsResponse (w : Work) (y : Cargo) (p : Paged) : Type 0 where
  pub desk : Desk
  pub there : slice_get w.desks.items p.pool.0 ≡ Some desk
  pub away : is_away_in desk p.no ≡ true
  pub is : y ≡ shared_entry p

response : (w : Work) (i : Item) (p : Paged) → is_due w (i, Bodies.Page p) ≡ true → IsResponse w (i, Bodies.Page p) p
unfolding is_reply_in
response w i p h =
    let a = both (is_so (λ (d : Desk). is_away_in d p.no) (slice_get w.desks.items p.pool.0)) (((p.pool.0 == p.pool.0 && p.no == p.no) && names i (shared_place p.pool p.no)) && is_some (status_in p.bytes)) h in
    let b = both ((p.pool.0 == p.pool.0 && p.no == p.no) && names i (shared_place p.pool p.no)) (is_some (status_in p.bytes)) a.1 in
    let n = both (p.pool.0 == p.pool.0 && p.no == p.no) (names i (shared_place p.pool p.no)) b.0 in
    let d = so_there (λ (d : Desk). is_away_in d p.no) (slice_get w.desks.items p.pool.0) a.0 in
    record { desk = d.0; there = d.1; away = d.2; is = ap (λ (j : Item). (j, Bodies.Page p)) (named_is i (shared_place p.pool p.no) n.1) }

pub response_parts : (w : Work) (y : Cargo) (p : Paged) → y.1 ≡ Bodies.Page p → is_due w y ≡ true → IsResponse w y p
response_parts w y p is h = subst (λ (b : Body). IsResponse w (y.0, b) p) (sym is) (response w y.0 p (subst (λ (b : Body). is_due w (y.0, b) ≡ true) is h))

pub away_desk : (w : Work) (y : Cargo) (p : Paged) (x : Desk) (r : IsResponse w y p) → slice_get w.desks.items p.pool.0 ≡ Some x → is_away_in x p.no ≡ true
away_desk w y p x r at = let same : r.desk ≡ x = some_eq (sym r.there ∙ at) in subst (λ d. is_away_in d p.no ≡ true) same r.away

pub open_there : (w : Work) (k : ℕ) → wants_at w k ≡ true → (d : Desk) → slice_get w.desks.items k ≡ Some d → is_open d ≡ true
open_there w k wants d at =
    let t = wanted_there w k wants in
    let same : t.0 ≡ d = some_eq (sym t.1 ∙ at) in
    subst (λ x. is_open x ≡ true) same t.2

-- what leaves, and what is held
pub leaving_there : (w : Work) (k : ℕ) (x : Desk) → is_some (entry_in (λ (d : Desk). d.leaving) (slice_get w.desks.items k)) ≡ true → x ≡ get_or w.desks.items k x → (slice_get w.desks.items k ≡ Some x) × (is_some x.leaving ≡ true)
leaving_there w k x some is = by (slice_get w.desks.items k) refl some
  where
    by : (o : Option Desk) → slice_get w.desks.items k ≡ o → is_some (entry_in (λ (d : Desk). d.leaving) o) ≡ true → (slice_get w.desks.items k ≡ Some x) × (is_some x.leaving ≡ true)
    by None at some = cc
    by (Some d) at some =
        let there = desk_read w.desks.items k x d at is in
        let same : d ≡ x = some_eq (sym at ∙ there) in
        (there, subst (λ y. is_some y.leaving ≡ true) same some)

pub gives_there : (w : Work) (k : ℕ) (x : Desk) → gives_at w k ≡ true → x ≡ get_or w.desks.items k x → (slice_get w.desks.items k ≡ Some x) × (is_some x.held ≡ true)
gives_there w k x gives is =
    let t = so_there (λ (d : Desk). is_some d.held) (slice_get w.desks.items k) (both (is_none w.stray) (is_so (λ (d : Desk). is_some d.held) (slice_get w.desks.items k)) gives).1 in
    let there = desk_read w.desks.items k x t.0 t.1 is in
    let same : t.0 ≡ x = some_eq (sym t.1 ∙ there) in
    (there, subst (λ y. is_some y.held ≡ true) same t.2)

pub ask_turn : (w w' : Work) (k : ℕ) (x : Cargo) → is_own_request (record { 0 = k }) x ≡ true → Asked w k x w' → TookFrom w k x w'
ask_turn w w' k x is a = subst (λ b. AskedIf b w k x w') (sym is) a

pub back_turn : (w w' : Work) (y : Cargo) → is_due w y ≡ true → Answered w y w' → TookBack w y w'
back_turn w w' y is a = subst (λ b. AnsweredIf b w y w') (sym is) a

pub leaving_kind : (w : Work) (k : ℕ) (d : Desk) → IsWork w → slice_get w.desks.items k ≡ Some d → (x : Cargo) → d.leaving ≡ Some x → kind_of x.0 ≡ Kind.Net
leaving_kind w k d fits at x is = let l = (fits.desks k d at).leaves x is in ap (λ (z : Cargo). kind_of z.0) l.is

pub held_kind : (w : Work) (k : ℕ) (d : Desk) → IsWork w → slice_get w.desks.items k ≡ Some d → (x : Cargo) → d.held ≡ Some x → kind_of x.0 ≡ Kind.Net
held_kind w k d fits at x is = (fits.desks k d at).kind x is
