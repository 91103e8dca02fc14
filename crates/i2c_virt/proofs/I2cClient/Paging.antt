use Rattle.std.proofs.Common.{◌≡◌, ◌≤◌, ◌==◌, ◌&&◌, nat_le, ℕ, Bool, true, false, cond, length, List, Option, Some, None, is_some, slice_index, take, drop, refl, sym, ap, ◌∙◌, subst, arith}
use Rattle.std.specs.Option.{option_map}
use Rattle.std.proofs.lemmas.Bool.{eqb-true}
use Rattle.cargo_core.specs.declared.item.Body.{Body}
use Rattle.cargo_core.specs.declared.item.Body.TheVariants as Bodies
use Rattle.cargo_core.specs.declared.item.Item.{Item}
use Rattle.cargo_core.specs.declared.item.PoolId.{PoolId}
use Rattle.cargo_core.specs.Pages.{Paged, Leased}
use Rattle.wire_core.specs.Deeds.{Cargo}
use Rattle.i2c_text.specs.declared.report.BusReply.{BusReply}
use Rattle.i2c_virt.specs.I2cKit.Entries.{is_reply_in, names}
use Rattle.i2c_text.specs.declared.bus.BusAsk.{BusAsk}
use Rattle.i2c_text.specs.declared.bus.BusAsk.TheVariants as Asks
use Rattle.i2c_text.specs.declared.report.BusStatus.{BusStatus}
use Rattle.i2c_text.specs.declared.report.BusStatus.TheVariants as Ended
use Rattle.i2c_virt.specs.I2cKit.Pages.{is_request, is_address, is_count, status_in, status_of, reply_in, bytes_due}

-- What pages spell, and how long they are.

size_by : (b : Bool) (o : Option BusStatus) → is_some (cond b o None) ≡ true → b ≡ true
size_by true o h = refl
size_by false o h = cc

-- a page that spells a reply has the length of a buffer
pub status_size : (page : List ℕ) → is_some (status_in page) ≡ true → length page ≡ 64
unfolding status_in
status_size page h = eqb-true (length page) 64 (size_by (length page == 64) (status_of (slice_index page 2)) h)

pub both : (a b : Bool) → (a && b) ≡ true → (a ≡ true) × (b ≡ true)
both true true h = (refl, refl)
both true false h = cc
both false b h = cc

count_few : (n : ℕ) → is_count n ≡ true → n ≤ 32
count_few n h = let p = both (nat_le 1 n) (nat_le n 32) h in grind (arith, p.1)

-- a reply has so few bytes
pub due_few : (s : BusStatus) (ask : BusAsk) → is_request ask ≡ true → bytes_due s ask ≤ 32
due_few Ended.Ok (Asks.Read a n) h = count_few n (both (is_address a) (is_count n) h).1
due_few Ended.Ok (Asks.Claim a) h = omega arith
due_few Ended.Ok (Asks.Write a bytes) h = omega arith
due_few Ended.Taken ask h = omega arith
due_few Ended.Unclaimed ask h = omega arith
due_few Ended.NoAck ask h = omega arith

option_there : {X Y : Type 0} (f : X → Y) (o : Option X) → is_some o ≡ true → (y : Y) × (option_map f o ≡ Some y)
option_there f None h = cc
option_there f (Some x) h = (f x, refl)

-- what a page spells is a reply, where it has a status
pub reply_there : (ask : BusAsk) (page : List ℕ) → is_some (status_in page) ≡ true → (r : BusReply) × (reply_in ask page ≡ Some r)
unfolding reply_in
reply_there ask page h = option_there (λ s. record { status = s; bytes = take (bytes_due s ask) (drop 4 page) }) (status_in page) h

-- what is known of a reply in turn
pub record IsReplyPage (pool : PoolId) (n : ℕ) (p : Paged) : Type 0 where
  pub own : p.pool ≡ pool
  pub number : p.no ≡ n
  pub spelled : is_some (status_in p.bytes) ≡ true

parts : (pool : PoolId) (n place : ℕ) (i : Item) (p : Paged) → is_reply_in pool n place (i, Bodies.Page p) ≡ true → IsReplyPage pool n p
unfolding is_reply_in
parts pool n place i p h =
    let a = both ((p.pool.0 == pool.0 && p.no == n) && names i place) (is_some (status_in p.bytes)) h in
    let b = both (p.pool.0 == pool.0 && p.no == n) (names i place) a.0 in
    let d = both (p.pool.0 == pool.0) (p.no == n) b.0 in
    record {
      own = let e = eqb-true p.pool.0 pool.0 d.0 in ap (λ (m : ℕ). record { 0 = m }) e;
      number = eqb-true p.no n d.1;
      spelled = a.1;
    }

pub reply_parts : (pool : PoolId) (n place : ℕ) (y : Cargo) (p : Paged) → y.1 ≡ Bodies.Page p → is_reply_in pool n place y ≡ true → IsReplyPage pool n p
reply_parts pool n place y p is h = parts pool n place y.0 p (subst (λ (b : Body). is_reply_in pool n place (y.0, b) ≡ true) is h)

bare : (pool : PoolId) (n place : ℕ) (i : Item) → is_reply_in pool n place (i, Bodies.Empty) ≡ true → ⊥
unfolding is_reply_in
bare pool n place i h = cc

lent : (pool : PoolId) (n place : ℕ) (i : Item) (l : Leased) → is_reply_in pool n place (i, Bodies.Lease l) ≡ true → ⊥
unfolding is_reply_in
lent pool n place i l h = cc

pub reply_bare : (pool : PoolId) (n place : ℕ) (y : Cargo) → y.1 ≡ Bodies.Empty → is_reply_in pool n place y ≡ true → ⊥
reply_bare pool n place y is h = bare pool n place y.0 (subst (λ (b : Body). is_reply_in pool n place (y.0, b) ≡ true) is h)

pub reply_lent : (pool : PoolId) (n place : ℕ) (y : Cargo) (l : Leased) → y.1 ≡ Bodies.Lease l → is_reply_in pool n place y ≡ true → ⊥
reply_lent pool n place y l is h = lent pool n place y.0 l (subst (λ (b : Body). is_reply_in pool n place (y.0, b) ≡ true) is h)
