use Rattle.std.proofs.Common.{◌≡◌, ◌==◌, ◌&&◌, ◌+◌, ◌++◌, ◌<◌, ◌≤◌, ℕ, zero, suc, Bool, true, false, cond, nat_le, Option, Some, None, List, [], ◌∷◌, All, length, drop, map, slice_get, slice_index, refl, sym, ap, ◌∙◌, subst, arith, eqb-true}
use Rattle.std.specs.Option.{option_map, option_and_then}
use Rattle.std.proofs.lemmas.Bool.{leb-true}
use Rattle.cargo_core.specs.Lists.{IsPrefix}
use Rattle.cargo_core.specs.Pages.{Paged}
use Rattle.cargo_core.specs.declared.item.Body.TheVariants as Bodies
use Rattle.wire_core.specs.Deeds.{Cargo}
use Rattle.i2c_text.specs.declared.bus.BusAsk.{BusAsk}
use Rattle.i2c_text.specs.declared.bus.BusAsk.TheVariants as Asks
use Rattle.i2c_text.specs.declared.report.BusReply.{BusReply}
use Rattle.i2c_text.specs.declared.report.BusStatus.{BusStatus}
use Rattle.i2c_text.specs.declared.report.BusStatus.TheVariants as Ended
use Rattle.i2c_virt.specs.declared.i2c_kit.alone.Request.{Request}
use Rattle.i2c_virt.specs.declared.i2c_kit.device.Device.{Device}
use Rattle.i2c_virt.specs.declared.i2c_kit.page.Head.{Head}
use Rattle.i2c_virt.specs.declared.i2c_kit.page.Operation.{Operation}
use Rattle.i2c_virt.specs.declared.i2c_kit.page.Operation.TheVariants as Does
use Rattle.i2c_virt.specs.I2cKit.Devices.{address_of, answer_of, bytes_from, next_place, devices_answer, devices_after}
use Rattle.i2c_virt.specs.I2cKit.Entries.{item_at, shared_place}
use Rattle.i2c_virt.specs.I2cKit.Pages.{SpellsRequest, SpellsReply, bytes_due, request_in, head_in, head_by, is_address, is_count, operation_of, asked, with_reply}
use Rattle.i2c_virt.specs.I2cKit.Serving.{answer_to, answers_to, answered, replied, done, done_if}
use Rattle.i2c_virt.proofs.I2cKit.Spelling.{page_with_reply}
use Rattle.i2c_virt.specs.Desks.{shared_entry}
use Rattle.i2c_virt.specs.Works.{is_of, of_client}
use Rattle.i2c_virt.specs.I2cClient.Asking.{Says}
use Rattle.bus_law.specs.I2cLaw.Shares.{asks_of, replies_for, served_by, asks_in}
use Rattle.bus_law.proofs.I2cLaw.Saying.{Say, request_size}

-- What the bus answers to the transfers that went to the driver, and whose each is.

pub record IsTransfer (x : Cargo) (r : Request) : Type 0 where
  pub page : Paged
  pub is : x ≡ shared_entry page
  pub pool : page.pool.0 ≡ r.client
  pub spelled : SpellsRequest page.bytes r.ask

abbrev pub AreTransfers : List Cargo → List Request → Type 0
AreTransfers [] [] = Unit {0}
AreTransfers [] (r ∷ rs) = ⊥
AreTransfers (x ∷ xs) [] = ⊥
AreTransfers (x ∷ xs) (r ∷ rs) = IsTransfer x r × AreTransfers xs rs

bytes_many : (bytes : List ℕ) (place n : ℕ) → length (bytes_from bytes place n) ≡ n
bytes_many bytes place zero = refl
bytes_many bytes place (suc n) = ap suc (bytes_many bytes (next_place place) n)

-- the devices answer with as many bytes as are due
ok_due : (d : Device) (ask : BusAsk) → length (answer_of d ask) ≡ bytes_due Ended.Ok ask
ok_due d (Asks.Read a n) = bytes_many d.bytes d.pointer n
ok_due d (Asks.Claim a) = refl
ok_due d (Asks.Write a bytes) = refl

abbrev IsDue : BusAsk → BusReply → Type 0
IsDue ask r = length r.bytes ≡ bytes_due r.status ask

due_answer : (ds : List Device) (ask : BusAsk) → IsDue ask (devices_answer ds ask)
due_answer [] ask = refl
due_answer (d ∷ ds) ask = by (d.address == address_of ask) refl (due_answer ds ask)
  where
    by : (t : Bool) → (d.address == address_of ask) ≡ t → IsDue ask (devices_answer ds ask) → IsDue ask (devices_answer (d ∷ ds) ask)
    by true e rest = subst (λ (b : Bool). IsDue ask (cond b (record { status = Ended.Ok; bytes = answer_of d ask }) (devices_answer ds ask))) (sym e) (ok_due d ask)
    by false e rest = subst (λ (b : Bool). IsDue ask (cond b (record { status = Ended.Ok; bytes = answer_of d ask }) (devices_answer ds ask))) (sym e) rest

both : (a b : Bool) → (a && b) ≡ true → (a ≡ true) × (b ≡ true)
both true true h = (refl, refl)
both true false h = cc
both false b h = cc

-- a read that a page spells asks for 32 bytes at most
read_short : (page : List ℕ) (a n : ℕ) → SpellsRequest page (Asks.Read a n) → n ≤ 32
unfolding request_in head_in
read_short page a n h = first ((length page == 64) && is_address (slice_index page 1)) h
  where
    ask_is : {x y : BusAsk} → Some x ≡ Some y → x ≡ y
    ask_is e = cc

    number_is : (x y : ℕ) → Asks.Read x y ≡ Asks.Read a n → y ≡ n
    number_is x y e = cc

    read : (t : Bool) (y : ℕ) → is_count y ≡ t → option_map (λ (h : Head). asked h.operation h.address h.count (drop 4 page)) (cond t (Some (record { operation = Does.Read; address = slice_index page 1; count = y })) None) ≡ Some (Asks.Read a n) → n ≤ 32
    read true y e h = let same : y ≡ n = number_is (slice_index page 1) y (ask_is h) in let few : y ≤ 32 = leb-true y 32 (both (nat_le 1 y) (nat_le y 32) e).1 in omega (arith, same, few)
    read false y e h = cc

    write : (t : Bool) (y : ℕ) → option_map (λ (h : Head). asked h.operation h.address h.count (drop 4 page)) (cond t (Some (record { operation = Does.Write; address = slice_index page 1; count = y })) None) ≡ Some (Asks.Read a n) → n ≤ 32
    write true y h = cc
    write false y h = cc

    go : (o : Option Operation) → option_map (λ (h : Head). asked h.operation h.address h.count (drop 4 page)) (option_and_then (head_by (slice_index page 1) (slice_index page 3)) o) ≡ Some (Asks.Read a n) → n ≤ 32
    go None h = cc
    go (Some Does.Claim) h = cc
    go (Some Does.Read) h = read (is_count (slice_index page 3)) (slice_index page 3) refl h
    go (Some Does.Write) h = write (is_count (slice_index page 3)) (slice_index page 3) h

    first : (t : Bool) → option_map (λ (h : Head). asked h.operation h.address h.count (drop 4 page)) (cond t (option_and_then (head_by (slice_index page 1) (slice_index page 3)) (operation_of (slice_index page 0))) None) ≡ Some (Asks.Read a n) → n ≤ 32
    first true h = go (operation_of (slice_index page 0)) h
    first false h = cc

due_short : (s : BusStatus) (page : List ℕ) (ask : BusAsk) → SpellsRequest page ask → bytes_due s ask ≤ 32
due_short Ended.Ok page (Asks.Read a n) h = read_short page a n h
due_short Ended.Ok page (Asks.Claim a) h = omega arith
due_short Ended.Ok page (Asks.Write a bytes) h = omega arith
due_short Ended.Taken page ask h = omega arith
due_short Ended.Unclaimed page ask h = omega arith
due_short Ended.NoAck page ask h = omega arith

-- the answer to an entry, and the devices then
answer_here : (ds : List Device) (page : Paged) (ask : BusAsk) → SpellsRequest page.bytes ask → answer_to ds (shared_entry page) ≡ (item_at (shared_place page.pool page.no), Bodies.Page (replied page (devices_answer ds ask)))
unfolding answer_to
answer_here ds page ask h = ap (λ (o : Option BusAsk). let y : Cargo = (item_at (shared_place page.pool page.no), Bodies.Page (answered ds o page)) in y) h

done_here : (ds : List Device) (page : Paged) (ask : BusAsk) → SpellsRequest page.bytes ask → done ds (shared_entry page) ≡ devices_after ds ask
unfolding done
done_here ds page ask h = ap (done_if ds) h

says_here : (ds : List Device) (page : Paged) (ask : BusAsk) → SpellsRequest page.bytes ask → Says ask (item_at (shared_place page.pool page.no), Bodies.Page (replied page (devices_answer ds ask))) (devices_answer ds ask)
says_here ds page ask h =
    let r = devices_answer ds ask in
    let due : length r.bytes ≡ bytes_due r.status ask = due_answer ds ask in
    let few : bytes_due r.status ask ≤ 32 = due_short r.status page.bytes ask h in
    subst (SpellsReply (with_reply page.bytes r.status r.bytes) ask) (whole r) (page_with_reply page.bytes r.status r.bytes (request_size page.bytes ask h) (omega (arith, due, few)) ask due)
  where
    whole : (r : BusReply) → record { status = r.status; bytes = r.bytes } ≡ r
    whole r = refl

pub answers_say : (ds : List Device) (xs : List Cargo) (ts : List Request) → AreTransfers xs ts → Say (asks_in ts) (answers_to ds xs) (served_by ds (asks_in ts))
answers_say ds [] [] are = tt
answers_say ds [] (r ∷ ts) are = absurd are
answers_say ds (x ∷ xs) [] are = absurd are
answers_say ds (x ∷ xs) (r ∷ ts) are =
    let t : IsTransfer x r = are.0 in (
      subst (λ y. Says r.ask y (devices_answer ds r.ask)) (sym (ap (answer_to ds) t.is ∙ answer_here ds t.page r.ask t.spelled)) (says_here ds t.page r.ask t.spelled),
      subst (λ E. Say (asks_in ts) (answers_to E xs) (served_by (devices_after ds r.ask) (asks_in ts))) (sym (ap (done ds) t.is ∙ done_here ds t.page r.ask t.spelled)) (answers_say (devices_after ds r.ask) xs ts are.1),
    )

-- whose each of these is
abbrev pub AreBy : (c : ℕ) → List Cargo → List Request → Type 0
AreBy c [] ts = Unit {0}
AreBy c (y ∷ ys) [] = ⊥
AreBy c (y ∷ ys) (r ∷ ts) = (is_of c y ≡ (r.client == c)) × AreBy c ys ts

pub answers_by : (c : ℕ) (ds : List Device) (xs : List Cargo) (ts : List Request) → AreTransfers xs ts → AreBy c (answers_to ds xs) ts
answers_by c ds [] [] are = tt
answers_by c ds [] (r ∷ ts) are = absurd are
answers_by c ds (x ∷ xs) [] are = absurd are
answers_by c ds (x ∷ xs) (r ∷ ts) are =
    let t : IsTransfer x r = are.0 in
    (ap (is_of c) (ap (answer_to ds) t.is ∙ answer_here ds t.page r.ask t.spelled) ∙ ap (λ n. n == c) t.pool, answers_by c (done ds x) xs ts are.1)

pub by_first : (c : ℕ) (ys rest : List Cargo) (ts : List Request) → AreBy c (ys ++ rest) ts → AreBy c ys ts
by_first c [] rest ts are = tt
by_first c (y ∷ ys) rest [] are = absurd are
by_first c (y ∷ ys) rest (r ∷ ts) are = (are.0, by_first c ys rest ts are.1)

-- the share of one client
pub say_share : (c : ℕ) (ts : List Request) (ys : List Cargo) (rs : List BusReply) → AreBy c ys ts → Say (asks_in ts) ys rs → Say (asks_of c ts) (of_client c ys) (replies_for c ts rs)
say_share c ts [] rs are say = tt
say_share c [] (y ∷ ys) rs are say = absurd say
say_share c (r ∷ ts) (y ∷ ys) [] are say = absurd say
say_share c (r ∷ ts) (y ∷ ys) (q ∷ rs) are say = by (r.client == c) refl (say_share c ts ys rs are.1 say.1)
  where
    by : (t : Bool) → (r.client == c) ≡ t → Say (asks_of c ts) (of_client c ys) (replies_for c ts rs) → Say (asks_of c (r ∷ ts)) (of_client c (y ∷ ys)) (replies_for c (r ∷ ts) (q ∷ rs))
    by true e rest =
        subst (λ (b : Bool). Say (cond b (r.ask ∷ asks_of c ts) (asks_of c ts)) (cond (is_of c y) (y ∷ of_client c ys) (of_client c ys)) (cond b (q ∷ replies_for c ts rs) (replies_for c ts rs))) (sym e)
        (subst (λ (b : Bool). Say (r.ask ∷ asks_of c ts) (cond b (y ∷ of_client c ys) (of_client c ys)) (q ∷ replies_for c ts rs)) (sym (are.0 ∙ e)) (say.0, rest))
    by false e rest =
        subst (λ (b : Bool). Say (cond b (r.ask ∷ asks_of c ts) (asks_of c ts)) (cond (is_of c y) (y ∷ of_client c ys) (of_client c ys)) (cond b (q ∷ replies_for c ts rs) (replies_for c ts rs))) (sym e)
        (subst (λ (b : Bool). Say (asks_of c ts) (cond b (y ∷ of_client c ys) (of_client c ys)) (replies_for c ts rs)) (sym (are.0 ∙ e)) rest)
