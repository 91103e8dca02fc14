-- What a client asks, and what came of it.
use Rattle.std.specs.Prelude.{◌≡◌, ◌⊎◌, ◌+◌, ◌≤◌, ◌<◌, ◌^◌, ◌&&◌, ℕ, nat_lt, Bool, true, is_some}
use Rattle.std.specs.Prelude.{if◌then◌else◌, Option, Some, None, List, [], ◌∷◌, ◌++◌, length}
use Rattle.std.specs.Prelude.{slice_get}
use Rattle.std.specs.Option.{ForSome, option_to_list}
use Rattle.cargo_core.specs.declared.item.Body.TheVariants as Bodies
use Rattle.cargo_core.specs.declared.item.PoolId.{PoolId}
use Rattle.cargo_core.specs.declared.item.QueueKind.TheVariants as Kind
use Rattle.cargo_core.specs.Items.{kind_of}
use Rattle.cargo_core.specs.Pages.{Paged}
use Rattle.wire_core.specs.Deeds.{Cargo}
use Rattle.i2c_text.specs.declared.bus.BusAsk.{BusAsk}
use Rattle.i2c_text.specs.declared.report.BusReply.{BusReply}
use Rattle.i2c_virt.specs.declared.i2c_kit.page.TheConstants.{BUFFERS}
use Rattle.i2c_virt.specs.I2cKit.Entries.{item_at, own_place, is_reply_in}
use Rattle.i2c_virt.specs.I2cKit.Pages.{is_request, SpellsRequest, SpellsReply}
use Rattle.i2c_virt.specs.declared.i2c_client.asking.Asking.{Asking}
use Rattle.i2c_virt.specs.I2cClient.Hands.{AreBuffers}
pub use Rattle.i2c_virt.specs.I2cClient.Hands.{buffer_of}

-- each of these is a request that a text can give
abbrev pub AreRequests : List BusAsk → Type 0
AreRequests asks = (k : ℕ) (ask : BusAsk) → slice_get asks k ≡ Some ask → is_request ask ≡ true

-- an entry is request k, in its buffer, whose page spells it
pub record IsAsked (pool : PoolId) (k : ℕ) (ask : BusAsk) (x : Cargo) : Type 0 where
  pub page : Paged
  pub carried : x ≡ (item_at (own_place page.no), Bodies.Page page)
  pub own : page.pool ≡ pool
  pub number : page.no ≡ buffer_of k
  pub spelled : SpellsRequest page.bytes ask

-- these entries are the requests from k on, in their order, as far as they go
abbrev pub AreAsked : PoolId → (k : ℕ) → List BusAsk → List Cargo → Type 0
AreAsked pool k asks [] = Unit {0}
AreAsked pool k [] (x ∷ xs) = ⊥
AreAsked pool k (ask ∷ asks) (x ∷ xs) = IsAsked pool k ask x × AreAsked pool (k + 1) asks xs

-- whether an entry answers request k in its buffer
abbrev pub is_reply : PoolId → (k : ℕ) → Cargo → Bool
is_reply pool k y = is_reply_in pool (buffer_of k) (own_place (buffer_of k)) y

-- the page of an entry spells this reply to a request
abbrev pub Says : BusAsk → Cargo → BusReply → Type 0
Says ask (item, Bodies.Page p) reply = SpellsReply p.bytes ask reply
Says ask (item, Bodies.Empty) reply = ⊥
Says ask (item, Bodies.Lease l) reply = ⊥

-- an entry answers request k in its buffer, by this reply
pub record IsAnswered (pool : PoolId) (k : ℕ) (ask : BusAsk) (y : Cargo) (reply : BusReply) :
    Type 0 where
  pub in_turn : is_reply pool k y ≡ true
  pub said : Says ask y reply

-- these entries answer the requests from k on, in their order, by these replies
abbrev pub AreAnswered : PoolId → (k : ℕ) → List BusAsk → List Cargo → List BusReply → Type 0
AreAnswered pool k asks [] [] = Unit {0}
AreAnswered pool k asks [] (r ∷ rs) = ⊥
AreAnswered pool k asks (y ∷ ys) [] = ⊥
AreAnswered pool k [] (y ∷ ys) (r ∷ rs) = ⊥
AreAnswered pool k (ask ∷ asks) (y ∷ ys) (r ∷ rs) =
    IsAnswered pool k ask y r × AreAnswered pool (k + 1) asks ys rs

-- one more, where there is an entry
abbrev pub and_one : ℕ → Option Cargo → ℕ
and_one n None = n
and_one n (Some c) = n + 1

-- how many requests were made ready: those that were put, and the next one
abbrev pub made : Asking → ℕ
made w = and_one w.sent w.load

-- whether an entry is the reply that is due, after so many requests and replies: some request isn't
-- answered, and it answers the first of these
abbrev pub due_after : PoolId → (put came : ℕ) → Cargo → Bool
due_after pool put came y = nat_lt came put && is_reply pool came y

-- whether it is the one that is due now
abbrev pub is_due : Asking → Cargo → Bool
is_due w y = due_after w.pool w.sent (length w.replies.shown) y

-- what it keeps fits together: the buffers in hand are those of the requests that aren't made
-- ready, and all that aren't out
pub record IsMade (w : Asking) : Type 0 where
  pub good : AreRequests w.script
  pub few : length w.script < 2 ^ 32
  pub within : made w ≤ length w.script
  pub answered : length w.replies.shown ≤ w.sent
  pub kind : ForSome w.load (λ x. kind_of x.0 ≡ Kind.Net)
  pub hand : AreBuffers w.pool (made w) w.hand.shown
  pub hold : length w.hand.shown + made w ≡ BUFFERS + length w.replies.shown
  pub room : BUFFERS ≤ w.hand.room

-- and the next request is ready, where there is one and a buffer in hand
pub record IsAsking (w : Asking) : Type 0 where
  pub is_made : IsMade w
  pub ready : w.load ≡ None → (w.sent ≡ length w.script) ⊎ (w.hand.shown ≡ [])

-- it put its requests in their order, but for one that is ready, and recorded the replies that came
pub record AskingStands (w : Asking) (came put : List Cargo) : Type 0 where
  pub asks : AreAsked w.pool 0 w.script (put ++ option_to_list w.load)
  pub sent_many : w.sent ≡ length put
  pub replied : AreAnswered w.pool 0 w.script came w.replies.shown

-- the pool and the script stay
pub record SameAsking (old new : Asking) : Type 0 where
  pub same_pool : new.pool ≡ old.pool
  pub script : new.script ≡ old.script

-- nothing was asked yet
pub record IsNewAsking (pool : PoolId) (script : List BusAsk) (w : Asking) : Type 0 where
  pub pool_is : w.pool ≡ pool
  pub script_is : w.script ≡ script
  pub sent : w.sent ≡ 0
  pub replies : w.replies.shown ≡ []
