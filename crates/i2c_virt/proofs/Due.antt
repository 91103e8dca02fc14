-- What answers a request at the driver is due.
use Rattle.std.proofs.Common.{◌≡◌, ◌+◌, ◌<◌, ◌==◌, ◌&&◌, ℕ, zero, suc, Bool, true, false, cond, Option, Some, None, is_some, is_none, List, [], ◌∷◌, ◌++◌, All, length, length-append, slice_get, slice_index_or, refl, sym, ap, ◌∙◌, subst, arith, append_assoc, append-nil}
use Rattle.std.specs.Option.{option_to_list}
use Rattle.std.specs.List.{filter}
use Rattle.std.proofs.lemmas.Bool.{eqb-true, eq-eqb}
use Rattle.std.proofs.lemmas.List.Elements.{All-filter, filter_passes}
use Rattle.std.proofs.lemmas.Option.{slice_get_within, slice_get-get_or}
use Rattle.cargo_core.specs.declared.item.Body.{Body}
use Rattle.cargo_core.specs.declared.item.Body.TheVariants as Bodies
use Rattle.cargo_core.specs.Pages.{Paged}
use Rattle.wire_core.specs.Deeds.{Cargo}
use Rattle.buffer_kit.specs.Clients.{is_so}
use Rattle.buffer_kit.proofs.ManyClients.{some_eq}
use Rattle.i2c_virt.specs.I2cKit.Entries.{is_reply_in, names, item_at, shared_place}
use Rattle.i2c_virt.specs.I2cKit.Pages.{status_in}
use Rattle.i2c_virt.specs.declared.desk.Desk.{Desk}
use Rattle.i2c_virt.specs.declared.work.Work.{Work}
use Rattle.i2c_virt.specs.Desks.{Judged, DeskStands, IsUnderWay, forwarded, shared_entry, is_away_in, is_number}
use Rattle.i2c_virt.specs.Works.{Took, IsSomeones, IsWork, WorkStands, judged_of, of_client, is_of, is_due}
use Rattle.i2c_virt.specs.Virtualising.{IsResponseTo}

-- what two lists send
forwarded_parts : (xs ys : List Judged) → forwarded (xs ++ ys) ≡ forwarded xs ++ forwarded ys
forwarded_parts [] ys = refl
forwarded_parts ((q, Some s) ∷ xs) ys = forwarded_parts xs ys
forwarded_parts ((q, None) ∷ xs) ys = ap (λ r. shared_entry q ∷ r) (forwarded_parts xs ys)

past : (xs : List Cargo) (n : ℕ) (x : Cargo) → slice_get xs n ≡ Some x → n ≡ length xs → ⊥
past xs n x at e = let lt = slice_get_within xs n x at in omega (arith, lt, e)

last_is : (xs : List Cargo) (y x : Cargo) (n : ℕ) → n ≡ length xs → slice_get (xs ++ y ∷ []) n ≡ Some x → y ≡ x
last_is [] y x zero e at = some_eq at
last_is [] y x (suc n) e at = absurd (omega (arith, e))
last_is (z ∷ xs) y x zero e at = absurd (omega (arith, e))
last_is (z ∷ xs) y x (suc n) e at = last_is xs y x n (omega (arith, e)) at

page_of : (p q : Paged) → shared_entry p ≡ shared_entry q → p.no ≡ q.no
page_of p q e = body (ap (λ (x : Cargo). x.1) e)
  where
    body : Bodies.Page p ≡ Bodies.Page q → p.no ≡ q.no
    body h = let same : p ≡ q = cc in ap (λ (r : Paged). r.no) same

-- the next one that went without a response is the desk's own
away_by : (k : ℕ) (d : Desk) (judged : List Judged) (sent back gave : List Cargo) → DeskStands k d judged sent back gave → (q : Paged) → slice_get sent (length back) ≡ Some (shared_entry q) → is_away_in d q.no ≡ true
away_by k d judged sent back gave h q at = by d.current d.leaving refl refl
  where
    fb : List Cargo
    fb = forwarded h.before

    all : forwarded judged ≡ fb ++ forwarded h.under_way
    all = ap forwarded h.parts ∙ forwarded_parts h.before h.under_way

    by : (c : Option ℕ) (l : Option Cargo) → d.current ≡ c → d.leaving ≡ l → is_away_in d q.no ≡ true
    by None l is gone =
        let none : h.under_way ≡ [] = subst (λ c. IsUnderWay k c h.under_way) is h.current in
        let e = ap length (h.went ∙ (all ∙ (ap (λ u. fb ++ forwarded u) none ∙ append-nil fb))) in
        let n = length-append sent (option_to_list d.leaving) in
        let m = h.came_back in
        let lt = slice_get_within sent (length back) (shared_entry q) at in
        absurd (omega (arith, e, n, m, lt))
    by (Some c) (Some x) is gone =
        let u = subst (λ c. IsUnderWay k c h.under_way) is h.current in
        let e = ap length (h.went ∙ (all ∙ ap (λ u. fb ++ forwarded u) u.1)) in
        let n = length-append sent (option_to_list d.leaving) in
        let one = ap (λ (l : Option Cargo). length (option_to_list l)) gone in
        let f = length-append fb (shared_entry u.0 ∷ []) in
        let m = h.came_back in
        let lt = slice_get_within sent (length back) (shared_entry q) at in
        absurd (omega (arith, e, n, m, one, f, lt))
    by (Some c) None is gone =
        let u = subst (λ c. IsUnderWay k c h.under_way) is h.current in
        let e : sent ≡ fb ++ shared_entry u.0 ∷ [] = sym (append-nil sent) ∙ (ap (λ (l : Option Cargo). sent ++ option_to_list l) (sym gone) ∙ (h.went ∙ (all ∙ ap (λ u. fb ++ forwarded u) u.1))) in
        let same = last_is fb (shared_entry u.0) (shared_entry q) (length back) h.came_back (subst (λ xs. slice_get xs (length back) ≡ Some (shared_entry q)) e at) in
        let number : c ≡ q.no = sym u.3 ∙ page_of u.0 q same in
        rw (gone, is) (eq-eqb c q.no number)

-- an entry of a filtered list
all_at : (P : Cargo → Type 0) (xs : List Cargo) → All P xs → (k : ℕ) (x : Cargo) → slice_get xs k ≡ Some x → P x
all_at P [] h k x at = cc
all_at P (y ∷ xs) h zero x at = subst P (some_eq at) (h 0 y (omega arith))
all_at P (y ∷ xs) h (suc k) x at = all_at P xs (λ i d lt. h (suc i) d (omega (arith, lt))) k x at

reply_is : (p : Paged) → is_some (status_in p.bytes) ≡ true → is_reply_in p.pool p.no (shared_place p.pool p.no) (shared_entry p) ≡ true
unfolding is_reply_in
reply_is p h = rw (eq-eqb p.pool.0 p.pool.0 refl, eq-eqb p.no p.no refl, eq-eqb (shared_place p.pool p.no) (shared_place p.pool p.no) refl, h) refl

due_shared : (w : Work) (p : Paged) (d : Desk) → slice_get w.desks.items p.pool.0 ≡ Some d → is_away_in d p.no ≡ true → is_some (status_in p.bytes) ≡ true → is_due w (shared_entry p) ≡ true
due_shared w p d at away spelled = ap (λ b. b && is_reply_in p.pool p.no (shared_place p.pool p.no) (shared_entry p)) (ap (is_so (λ (x : Desk). is_away_in x p.no)) at ∙ away) ∙ reply_is p spelled

-- a response to a request at the driver is due
pub due_by : (w : Work) (log : List Took) (sent back : List Cargo) (gave : ℕ → List Cargo) → IsWork w → WorkStands w log sent back gave → (y : Cargo) → IsResponseTo sent back y → is_due w y ≡ true
due_by w log sent back gave fits h y r =
    let k = r.page.pool.0 in
    let mine = all_at (λ x. is_of k x ≡ true) (of_client k sent) (filter_passes (is_of k) sent) (length (of_client k back)) (shared_entry r.request) r.next in
    let who = all_at (IsSomeones (length w.desks.items)) (of_client k sent) (All-filter (is_of k) (IsSomeones (length w.desks.items)) sent h.someones) (length (of_client k back)) (shared_entry r.request) r.next in
    let same : who.client ≡ k = sym (eqb-true r.request.pool.0 who.client who.is) ∙ eqb-true r.request.pool.0 k mine in
    let lt : k < length w.desks.items = subst (λ n. n < length w.desks.items) same who.there in
    let none : Desk = record { current = None; leaving = None; held = None } in
    let it : Desk = slice_index_or w.desks.items k none in
    let d = slice_get-get_or w.desks.items k none lt in
    let away = away_by k it (judged_of k log) (of_client k sent) (of_client k back) (gave k) (h.desks k it d) r.request r.next in
    subst (λ x. is_due w x ≡ true) (sym r.is) (due_shared w r.page it d (subst (λ n. is_away_in it n ≡ true) r.number away) r.spelled)
