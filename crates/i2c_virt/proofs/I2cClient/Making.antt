-- A request is made ready, and a reply comes.
use Rattle.std.proofs.Common.{◌≡◌, ◌+◌, ◌%◌, ◌&&◌, nat_lt, true, false, ◌≤◌, ◌<◌, ℕ, Bool, Option, Some, None, is_some, List, [], ◌∷◌, ◌++◌, length, length-append, slice_get, refl, sym, ap, ◌∙◌, subst, arith, inl, inr}
use Rattle.std.specs.Option.{option_to_list}
use Rattle.std.proofs.lemmas.Bool.{ltb-true}
use Rattle.std.proofs.lemmas.List.{append-nil}
use Rattle.cargo_core.specs.declared.item.Body.TheVariants as Bodies
use Rattle.cargo_core.specs.Pages.{Paged}
use Rattle.wire_core.specs.Deeds.{Cargo}
use Rattle.i2c_text.specs.declared.bus.BusAsk.{BusAsk}
use Rattle.i2c_text.specs.declared.report.BusReply.{BusReply}
use Rattle.i2c_virt.specs.I2cKit.Entries.{own_place, is_reply_in}
use Rattle.i2c_virt.specs.I2cKit.Pages.{status_in, reply_in}
use Rattle.i2c_virt.specs.declared.i2c_client.asking.Asking.{Asking}
use Rattle.i2c_virt.specs.I2cClient.Hands.{IsBuffer, AreBuffers, Held, buffer_of}
use Rattle.i2c_virt.specs.I2cClient.Replies.{Replied}
use Rattle.i2c_virt.specs.I2cClient.Asking.{IsMade, IsAsking, AskingStands, IsAsked, AreAsked, IsAnswered, Says, and_one, made, is_due, is_reply}
use Rattle.i2c_virt.proofs.I2cClient.Lists.{asked_push, answered_push, buffers_push}
use Rattle.i2c_virt.proofs.I2cClient.Paging.{IsReplyPage, reply_parts, reply_there, status_size, both}

none_made : (w : Asking) → w.load ≡ None → made w ≡ w.sent
none_made w none = ap (and_one w.sent) none

-- the next request is ready
pub stands_ready : (w : Asking) (hand : Held) (came put : List Cargo) (p : Paged) (x : Cargo) (a : BusAsk) → w.load ≡ None → slice_get w.script w.sent ≡ Some a → IsMade w → w.hand.shown ≡ p ∷ hand.shown
    → ((k : ℕ) → p.no ≡ buffer_of k → IsAsked p.pool k a x) → AskingStands w came put → AskingStands (record w { load = Some x; hand = hand }) came put
stands_ready w hand came put p x a none at m front asked st =
    let all : AreBuffers w.pool w.sent (p ∷ hand.shown) = subst (AreBuffers w.pool w.sent) front (subst (λ n. AreBuffers w.pool n w.hand.shown) (none_made w none) m.hand) in
    let e : w.sent ≡ 0 + length put = let many = st.sent_many in omega (arith, many) in
    record {
      asks = asked_push w.pool 0 w.script put a x (subst (λ n. slice_get w.script n ≡ Some a) st.sent_many at) (subst (λ n. IsAsked w.pool n a x) e (subst (λ q. IsAsked q w.sent a x) all.0.own (asked w.sent all.0.number)))
          (subst (AreAsked w.pool 0 w.script) (ap (λ (l : Option Cargo). put ++ option_to_list l) none ∙ append-nil put) st.asks);
      sent_many = st.sent_many;
      replied = st.replied;
    }

-- no buffer is in hand
pub none_ready : (w : Asking) (hand : Held) → w.hand.shown ≡ hand.shown → hand.room ≡ w.hand.room → w.hand.shown ≡ [] → IsMade w → IsAsking (record w { hand = hand })
none_ready w hand shown room empty m = record {
  is_made = record {
    good = m.good;
    few = m.few;
    within = m.within;
    answered = m.answered;
    kind = m.kind;
    hand = subst (AreBuffers w.pool (made w)) shown m.hand;
    hold = ap (λ (ps : List Paged). length ps + made w) (sym shown) ∙ m.hold;
    room = rw room m.room;
  };
  ready = λ e. inr (sym shown ∙ empty);
}

-- what is due
pub record IsDue (w : Asking) (y : Cargo) : Type 0 where
  pub fewer : length w.replies.shown < w.sent
  pub in_turn : is_reply w.pool (length w.replies.shown) y ≡ true

pub due_parts : (w : Asking) (y : Cargo) → is_due w y ≡ true → IsDue w y
due_parts w y h =
    let b = both (nat_lt (length w.replies.shown) w.sent) (is_reply w.pool (length w.replies.shown) y) h in
    record { fewer = ltb-true (length w.replies.shown) w.sent b.0; in_turn = b.1 }

pub due_page : (w : Asking) (y : Cargo) (p : Paged) → is_due w y ≡ true → y.1 ≡ Bodies.Page p → IsReplyPage w.pool (buffer_of (length w.replies.shown)) p
due_page w y p due is = reply_parts w.pool (buffer_of (length w.replies.shown)) (own_place (buffer_of (length w.replies.shown))) y p is (due_parts w y due).in_turn

-- a reply came
module _ (w : Asking) (y : Cargo) (p : Paged) (due : is_due w y ≡ true) (is : y.1 ≡ Bodies.Page p) (a : BusAsk) (at : slice_get w.script (length w.replies.shown) ≡ Some a) (replies : Replied) (hand : Held)
    (more : replies.shown ≡ w.replies.shown ++ option_to_list (reply_in a p.bytes)) (back : hand.shown ≡ w.hand.shown ++ p ∷ []) (room : hand.room ≡ w.hand.room) where
  page : IsReplyPage w.pool (buffer_of (length w.replies.shown)) p
  page = due_page w y p due is

  said : (r : BusReply) × (reply_in a p.bytes ≡ Some r)
  said = reply_there a p.bytes page.spelled

  one_more : replies.shown ≡ w.replies.shown ++ said.0 ∷ []
  one_more = more ∙ ap (λ (o : Option BusReply). w.replies.shown ++ option_to_list o) said.1

  again : (n m k l : ℕ) → l + m ≡ 2 + n → k ≡ m + l → buffer_of n ≡ buffer_of k
  again n m k l e f = let g : k ≡ 2 + n = omega (arith, e, f) in rw g (omega arith)

  pub made_more : IsMade w → IsMade (record w { replies = replies; hand = hand })
  made_more m =
      let many = ap length one_more ∙ length-append w.replies.shown (said.0 ∷ []) in
      let held = ap length back ∙ length-append w.hand.shown (p ∷ []) in
      let fewer = (due_parts w y due).fewer in
      let hold = m.hold in
      record {
        good = m.good;
        few = m.few;
        within = m.within;
        answered = omega (arith, many, fewer);
        kind = m.kind;
        hand = subst (AreBuffers w.pool (made w)) (sym back) (buffers_push w.pool (made w) w.hand.shown p
            (record { own = page.own; number = page.number ∙ again (length w.replies.shown) (made w) (made w + length w.hand.shown) (length w.hand.shown) hold refl; size = status_size p.bytes page.spelled }) m.hand);
        hold = omega (arith, many, held, hold);
        room = rw room m.room;
      }

  pub stands_more : (came put : List Cargo) → AskingStands w came put → AskingStands (record w { replies = replies; hand = hand }) (came ++ y ∷ []) put
  stands_more came put st = record {
    asks = st.asks;
    sent_many = st.sent_many;
    replied = rw one_more (answered_push w.pool 0 w.script came w.replies.shown a y said.0 at
        (subst (λ n. IsAnswered w.pool n a y said.0) (let e : length w.replies.shown ≡ 0 + length w.replies.shown = omega arith in e) (record { in_turn = (due_parts w y due).in_turn; said = subst (λ b. Says a (y.0, b) said.0) (sym is) said.1 })) st.replied);
  }

pub not_some : (o : Option Cargo) → is_some o ≡ false → o ≡ None
not_some None h = refl
not_some (Some x) h = cc
