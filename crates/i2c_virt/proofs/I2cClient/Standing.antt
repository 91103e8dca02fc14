-- What a client stands for after each call.
use Rattle.std.proofs.Common.{◌≡◌, ◌+◌, ◌==◌, ◌&&◌, is_some, is_none, not, true, ◌≤◌, ℕ, Bool, false, Option, Some, None, List, [], ◌∷◌, ◌++◌, length, length-append, slice_get, refl, sym, ap, ◌∙◌, subst, add-zero, arith, All}
use Rattle.std.specs.Option.{option_to_list, ForSome}
use Rattle.std.proofs.lemmas.List.{append-nil}
use Rattle.std.proofs.lemmas.List.Elements.{All-nil, All-cons}
use Rattle.cargo_core.specs.declared.item.Item.{Item}
use Rattle.wire_core.specs.declared.names.Event.{Event}
use Rattle.wire_core.specs.Deeds.{Cargo, given, put_of}
use Rattle.wire_core.specs.Lists.{Lists, Passed, with, if_there}
use Rattle.wire_core.proofs.Places.{if_there_here}
use Rattle.i2c_virt.specs.declared.i2c_kit.page.TheConstants.{BUFFERS}
use Rattle.turn_kit.specs.declared.ends.Intake.{Intake}
use Rattle.i2c_virt.specs.declared.i2c_client.client.BusClient.{BusClient}
use Rattle.i2c_virt.specs.declared.i2c_client.asking.Asking.{Asking}
use Rattle.i2c_virt.specs.I2cClient.Replies.{Replied}
use Rattle.i2c_virt.specs.I2cClient.Asking.{IsMade, IsAsking, AskingStands, SameAsking, and_one, made, is_due, due_after, AreAsked}
use Rattle.i2c_virt.specs.I2cClient.Clients.{ClientStands, ClientStandsFor, ClientRow, Came, Strayed, Received, ReceivedIf}
use Rattle.i2c_virt.proofs.I2cClient.Lists.{asked_before, answered_many}

-- no more are without a reply than there are buffers
one_less : (n m : ℕ) (o : Option Cargo) → and_one n o ≤ m → n ≤ m
one_less n m None h = h
one_less n m (Some x) h = omega (arith, h)

pub few_out : (w : Asking) (came put : List Cargo) → IsAsking w → AskingStands w came put → length put ≤ length came + BUFFERS
few_out w came put fits st =
    let hold = fits.is_made.hold in
    let many = answered_many w.pool 0 w.script came w.replies.shown st.replied in
    let sent = st.sent_many in
    let m : made w ≤ BUFFERS + length w.replies.shown = omega (arith, hold) in
    let s = one_less w.sent (BUFFERS + length w.replies.shown) w.load m in
    omega (arith, many, sent, s)

-- the memory of the next reply doesn't matter
pub ready_stands : (i o : ℕ) (w : Asking) (replies : Replied) (stray : Option Cargo) (passed : Passed) → replies.shown ≡ w.replies.shown → ClientStands i o w stray passed → ClientStands i o (record w { replies = replies }) stray passed
ready_stands i o w replies stray passed shown h = record {
  came = h.came;
  taken = h.taken;
  stands = record { asks = h.stands.asks; sent_many = h.stands.sent_many; replied = rw shown h.stands.replied };
  in_hand = h.in_hand;
  out_of_turn = h.out_of_turn;
}

-- where nothing moved, all stays, whatever was called
pub still : (i o i' o' : ℕ) (w : Asking) (stray : Option Cargo) (passed : Passed) (took put : Lists) (calls : List Event) → i' ≡ i → o' ≡ o → ((n : ℕ) → took n ≡ []) → ((n : ℕ) → put n ≡ []) → ClientStands i o w stray passed → ClientStands i' o' w stray (record { taken = with passed.taken took; sent = with passed.sent put; calls = calls })
still i o i' o' w stray passed took put calls same same' takes puts h = rw (same, same') (record {
  came = h.came;
  taken = ap (λ xs. passed.taken i ++ xs) (takes i) ∙ (append-nil (passed.taken i) ∙ h.taken);
  stands = rw (puts o, append-nil (passed.sent o)) h.stands;
  in_hand = rw (puts o, append-nil (passed.sent o)) h.in_hand;
  out_of_turn = rw (puts o, append-nil (passed.sent o)) h.out_of_turn;
})

-- an entry came where none was out of turn
module _ (b n : BusClient) (r : Intake) (y : Cargo) (passed : Passed) (took put : Lists) (calls : List Event) (same : n.responses.queue.0 ≡ b.responses.queue.0) (same' : n.requests.queue.0 ≡ b.requests.queue.0) (no_stray : b.stray ≡ None) (fits : IsAsking n.asking) (kept : SameAsking b.asking n.asking)
    (takes : (m : ℕ) → took m ≡ if_there (b.responses.queue.0 == m) (y ∷ [])) (puts : (m : ℕ) → put m ≡ []) (h : ClientStandsFor b passed) where
  abbrev i : ℕ
  i = b.responses.queue.0

  abbrev o : ℕ
  o = b.requests.queue.0

  abbrev after : Passed
  after = record { taken = with passed.taken took; sent = with passed.sent put; calls = calls }

  came_here : took i ≡ y ∷ []
  came_here = takes i ∙ if_there_here i (y ∷ [])

  all_came : passed.taken i ≡ h.came
  all_came = h.taken ∙ (ap (λ (s : Option Cargo). h.came ++ option_to_list s) no_stray ∙ append-nil h.came)

  taken_now : after.taken i ≡ h.came ++ y ∷ []
  taken_now = ap (λ xs. passed.taken i ++ xs) came_here ∙ ap (λ xs. xs ++ y ∷ []) all_came

  sent_now : after.sent o ≡ passed.sent o
  sent_now = ap (λ xs. passed.sent o ++ xs) (puts o) ∙ append-nil (passed.sent o)

  by_turn : (t : Bool) → is_due b.asking y ≡ t → ReceivedIf t (record b { responses = r }) y n → ClientStands i o n.asking n.stray after
  by_turn true good a =
      let st = a.stands h.came (passed.sent o) h.stands in
      record {
        came = h.came ++ y ∷ [];
        taken = taken_now ∙ (sym (append-nil (h.came ++ y ∷ [])) ∙ ap (λ (s : Option Cargo). (h.came ++ y ∷ []) ++ option_to_list s) (sym (a.stray ∙ no_stray)));
        stands = rw sent_now st;
        in_hand = rw sent_now (few_out n.asking (h.came ++ y ∷ []) (passed.sent o) fits st);
        out_of_turn = λ z e. let no : None ≡ Some z = sym (a.stray ∙ no_stray) ∙ e in cc;
      }
  by_turn false bad a = record {
    came = h.came;
    taken = taken_now ∙ ap (λ (s : Option Cargo). h.came ++ option_to_list s) (sym a.stray);
    stands = rw (sent_now, a.asking) h.stands;
    in_hand = rw sent_now h.in_hand;
    out_of_turn = λ z e.
        let same : y ≡ z = let both : Some y ≡ Some z = sym a.stray ∙ e in cc in
        let many = answered_many b.asking.pool 0 b.asking.script h.came b.asking.replies.shown h.stands.replied in
        subst (λ x. due_after n.asking.pool (length (after.sent o)) (length h.came) x ≡ false) same
        (rw (sent_now, kept.same_pool, ← many, ← h.stands.sent_many) bad);
  }

  pub entry_came : Received (record b { responses = r }) y n → ClientStandsFor n after
  entry_came a = subst (λ m. ClientStands m n.requests.queue.0 n.asking n.stray after) (sym same) (subst (λ m. ClientStands i m n.asking n.stray after) (sym same') (by_turn (is_due b.asking y) refl a))

-- where a request is to be put, it is there, and nothing strayed
pub is_to_put : (next stray : Option Cargo) → (is_some next && is_none stray) ≡ true → ((c : Cargo) × (next ≡ Some c)) × (stray ≡ None)
is_to_put (Some c) None h = ((c, refl), refl)
is_to_put (Some c) (Some s) h = cc
is_to_put None s h = cc

-- it went, where none is left
pub went : (next put left : Option Cargo) (c : Cargo) → next ≡ Some c → left ≡ None → option_to_list next ≡ option_to_list put ++ option_to_list left → option_to_list put ≡ c ∷ []
went next put left c is none parts = sym (append-nil (option_to_list put)) ∙ (ap (λ (o : Option Cargo). option_to_list put ++ option_to_list o) (sym none) ∙ (sym parts ∙ ap option_to_list is))

pub none_left : (o : Option Cargo) (b : Bool) → is_some o ≡ not b → b ≡ true → o ≡ None
none_left None b h t = refl
none_left (Some c) b h t = let no : true ≡ false = h ∙ ap not t in cc

-- what is made ready is the same once it went
pub made_gone : (w : Asking) (c : Cargo) → w.load ≡ Some c → IsMade w → IsMade (record w { load = None; sent = w.sent + 1 })
made_gone w c is m =
    let same : made w ≡ w.sent + 1 = ap (and_one w.sent) is in
    record {
      good = m.good;
      few = m.few;
      within = rw (← same) m.within;
      answered = let a = m.answered in omega (arith, a);
      kind = λ x e. let no : None ≡ Some x = e in cc;
      hand = rw (← same) m.hand;
      hold = rw (← same) m.hold;
      room = m.room;
    }

-- a request was put
module _ (w w' : Asking) (i o o' : ℕ) (c : Cargo) (is : w.load ≡ Some c) (passed : Passed) (took put : Lists) (calls : List Event) (same : o' ≡ o) (fits : IsAsking w')
    (takes : (m : ℕ) → took m ≡ []) (puts : (m : ℕ) → put m ≡ if_there (o == m) (c ∷ []))
    (goes_on : (came sent : List Cargo) → AskingStands (record w { load = None; sent = w.sent + 1 }) came sent → AskingStands w' came sent) where
  abbrev later : Passed
  later = record { taken = with passed.taken took; sent = with passed.sent put; calls = calls }

  gone : (came sent : List Cargo) → AskingStands w came sent → AskingStands (record w { load = None; sent = w.sent + 1 }) came (sent ++ c ∷ [])
  gone came sent st = record {
    asks = subst (AreAsked w.pool 0 w.script) (ap (λ (l : Option Cargo). sent ++ option_to_list l) is ∙ sym (append-nil (sent ++ c ∷ []))) st.asks;
    sent_many = let m = st.sent_many in let n = length-append sent (c ∷ []) in omega (arith, m, n);
    replied = st.replied;
  }

  pub request_went : ClientStands i o w None passed → ClientStands i o' w' None later
  request_went h =
      let went_here : put o ≡ c ∷ [] = puts o ∙ if_there_here o (c ∷ []) in
      let st = goes_on h.came (passed.sent o ++ c ∷ []) (gone h.came (passed.sent o) h.stands) in
      rw same (record {
        came = h.came;
        taken = ap (λ xs. passed.taken i ++ xs) (takes i) ∙ (append-nil (passed.taken i) ∙ h.taken);
        stands = rw went_here st;
        in_hand = rw went_here (few_out w' h.came (passed.sent o ++ c ∷ []) fits st);
        out_of_turn = λ z e. let no : None ≡ Some z = e in cc;
      })

none_if : (b : Bool) → if_there b [] ≡ []
none_if true = refl
none_if false = refl

-- nothing is there of no entry
pub none_at : (q n : ℕ) (o : Option Cargo) → o ≡ None → if_there (q == n) (option_to_list o) ≡ []
none_at q n o none = ap (λ (p : Option Cargo). if_there (q == n) (option_to_list p)) none ∙ none_if (q == n)

-- nothing goes where nothing is loaded
given_none : (item : Option Item) → given item None ≡ None
given_none None = refl
given_none (Some x) = refl

pub nothing_put : (e : Event) → put_of e None ≡ None
nothing_put e = given_none e.item

-- a load that is still there is the one that was, and nothing went
pub not_gone : (was put now : Option Cargo) (b : Bool) → is_some now ≡ not b → b ≡ false → option_to_list was ≡ option_to_list put ++ option_to_list now → (put ≡ None) × (now ≡ was)
not_gone (Some x) None (Some y) b some not_b parts = (refl, ap (λ (cs : List Cargo). slice_get cs 0) (sym parts))
not_gone (Some x) (Some z) (Some y) b some not_b parts = cc
not_gone None None (Some y) b some not_b parts = cc
not_gone None (Some z) (Some y) b some not_b parts = cc
not_gone was put None b some not_b parts = let no : false ≡ true = some ∙ ap not not_b in cc

pub new_stands : (i o : ℕ) (w : Asking) → AskingStands w [] [] → ClientStands i o w None (record { taken = λ n. []; sent = λ n. []; calls = [] })
new_stands i o w st = record { came = []; taken = refl; stands = st; in_hand = omega arith; out_of_turn = λ z e. let no : None ≡ Some z = e in cc }

few_of : (o : Option Cargo) → length (option_to_list o) ≤ 1
few_of None = omega arith
few_of (Some x) = omega arith

all_option : (P : Cargo → Type 0) (s : Option Cargo) → ((c : Cargo) → s ≡ Some c → P c) → All P (option_to_list s)
all_option P None h = All-nil P
all_option P (Some c) h = All-cons P c [] (h c refl) (All-nil P)

pub row_of : (c : BusClient) (passed : Passed) → ClientStandsFor c passed → ClientRow c.asking.pool c.asking.script c.requests.queue.0 c.responses.queue.0 c.asking.replies.shown passed
row_of c passed h = record {
  came = h.came;
  stray = option_to_list c.stray;
  taken = h.taken;
  few = few_of c.stray;
  out_of_turn = all_option (λ y. due_after c.asking.pool (length (passed.sent c.requests.queue.0)) (length h.came) y ≡ false) c.stray h.out_of_turn;
  asks = asked_before c.asking.pool 0 c.asking.script (passed.sent c.requests.queue.0) (option_to_list c.asking.load) h.stands.asks;
  in_hand = h.in_hand;
  replied = h.stands.replied;
}
