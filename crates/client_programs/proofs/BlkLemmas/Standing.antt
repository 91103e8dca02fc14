-- What the client stands for after each call.
use Rattle.std.proofs.Common.{◌≡◌, ◌+◌, ◌==◌, ◌&&◌, is_some, is_none, not, true, ◌≤◌, ℕ, Bool, false, Option, Some, None, List, [], ◌∷◌, ◌++◌, length, slice_get, refl, sym, ap, ◌∙◌, subst, add-zero, arith}
use Rattle.std.specs.Option.{option_to_list}
use Rattle.std.proofs.lemmas.List.{append-nil}
use Rattle.cargo_core.specs.declared.item.Item.{Item}
use Rattle.cargo_core.specs.Pages.{Paged}
use Rattle.wire_core.specs.declared.names.Event.{Event}
use Rattle.wire_core.specs.Deeds.{Cargo, given, put_of}
use Rattle.wire_core.specs.Lists.{Lists, Passed, with, if_there}
use Rattle.wire_core.proofs.Places.{if_there_here}
use Rattle.turn_kit.specs.Hands.{bodies_of, bodies_at}
use Rattle.buffer_kit.specs.Conserving.{Count, weight, counted, weighed}
use Rattle.buffer_kit.specs.Pools.{page_bodies}
use Rattle.buffer_kit.proofs.Conserving.{counted-append, counted-at, weighed-append, conserves_balances}
use Rattle.buffer_kit.proofs.ManyClients.{nothing, none_if}
use Rattle.client_programs.specs.declared.blk.BlkClient.{BlkClient}
use Rattle.client_programs.specs.declared.blk.asking.Asking.{Asking}
use Rattle.client_programs.specs.Blk.Kept.{Kept}
use Rattle.client_programs.specs.Blk.Asking.{IsAsking, IsHoard, AskingStands, SameAsking, asked_from, made, left, and_one, pages_in, asking_hand}
use Rattle.client_programs.specs.Blk.Clients.{BlkStands, BlkClientStandsFor, BlkClientRow, BlkClientBalances, blk_client_hand, req_queue, resp_queue}
use Rattle.client_programs.proofs.BlkLemmas.Asks.{replies_long, hand_count}

-- the memory of the next reply doesn't matter
pub ready_stands : (i o : ℕ) (w : Asking) (kept : Kept) (stray : List Cargo) (passed : Passed) → kept.shown ≡ w.kept.shown → kept.pages ≡ w.kept.pages → BlkStands i o w stray passed → BlkStands i o (record w { kept = kept }) stray passed
ready_stands i o w kept stray passed shown pages h = record {
  start = h.start;
  is_start = record { are_pool = h.is_start.are_pool; many = h.is_start.many };
  came = h.came;
  taken = h.taken;
  stands = record {
    asks = λ more. ap (λ (ps : List Paged). passed.sent o ++ (option_to_list w.next ++ asked_from (made w) (left w) (ps ++ more))) pages ∙ h.stands.asks more;
    sent_many = h.stands.sent_many;
    replied = shown ∙ h.stands.replied;
    answered = h.stands.answered;
  };
  few = h.few;
  no_request = h.no_request;
  conserves = λ f. h.conserves f ∙ ap (λ (ps : List Paged). counted f (bodies_at passed.sent (o ∷ [])) + (counted f ((bodies_of (option_to_list w.next) ++ page_bodies ps) ++ bodies_of stray) + 0)) (sym pages);
}

same_hoard : (w w' : Asking) → SameAsking w w' → (start : List Paged) → IsHoard w start → IsHoard w' start
same_hoard w w' same start h = record { are_pool = rw same.same_pool h.are_pool; many = h.many ∙ sym same.buffers }

-- what passed at a queue where nothing more came
module _ (i o : ℕ) (w w' : Asking) (same : SameAsking w w') (passed : Passed) (took put : Lists) (calls : List Event) (h : BlkStands i o w [] passed) where
  abbrev after : Passed
  after = record { taken = with passed.taken took; sent = with passed.sent put; calls = calls }

  in_hand : (f : Count) (x : Asking) (stray : List Cargo) → counted f (asking_hand x ++ bodies_of stray) ≡ counted f (asking_hand x) + weighed f stray
  in_hand f x stray = counted-append f (asking_hand x) (bodies_of stray)

  more_at : (f : Count) (lists more : Lists) (n : ℕ) (cs : List Cargo) → more n ≡ cs → counted f (bodies_at (with lists more) (n ∷ [])) ≡ counted f (bodies_at lists (n ∷ [])) + weighed f cs
  more_at f lists more n cs e =
      let now = counted-at f (with lists more) n [] in
      let was = counted-at f lists n [] in
      let parts = weighed-append f (lists n) (more n) in
      let these = ap (weighed f) e in
      omega (arith, now, was, parts, these)

  module _ (entry : Cargo) (takes : (n : ℕ) → took n ≡ if_there (i == n) (entry ∷ [])) (puts : (n : ℕ) → put n ≡ []) where
    came_here : took i ≡ entry ∷ []
    came_here = takes i ∙ if_there_here i (entry ∷ [])

    balance : (f : Count) (x : Asking) (stray : List Cargo) → counted f (asking_hand x) + weighed f stray ≡ counted f (asking_hand w) + weight f entry.1
        → counted f (page_bodies h.start) + counted f (bodies_at (with passed.taken took) (i ∷ [])) ≡ counted f (bodies_at (with passed.sent put) (o ∷ [])) + (counted f (asking_hand x ++ bodies_of stray) + counted f [])
    balance f x stray held =
        let was = h.conserves f in
        let none = in_hand f w [] in
        let now = in_hand f x stray in
        let came = more_at f passed.taken took i (entry ∷ []) came_here in
        let went = more_at f passed.sent put o [] (puts o) in
        omega (arith, was, none, now, came, went, held)

    -- a response came in turn
    pub in_turn : ((start : List Paged) (came sent : List Cargo) → AskingStands w start came sent → AskingStands w' start (came ++ entry ∷ []) sent) → ((f : Count) → counted f (asking_hand w') ≡ counted f (asking_hand w) + weight f entry.1) → BlkStands i o w' [] after
    in_turn stands held = record {
      start = h.start;
      is_start = same_hoard w w' same h.start h.is_start;
      came = h.came ++ entry ∷ [];
      taken = ap (λ xs. passed.taken i ++ xs) came_here ∙ (ap (λ (xs : List Cargo). xs ++ entry ∷ []) (h.taken ∙ append-nil h.came) ∙ sym (append-nil (h.came ++ entry ∷ [])));
      stands = rw (puts o, append-nil (passed.sent o)) (stands h.start h.came (passed.sent o) h.stands);
      few = omega arith;
      no_request = λ ne. absurd (ne refl);
      conserves = λ f. balance f w' [] (add-zero (counted f (asking_hand w')) ∙ held f);
    }

    -- one came for no request
    pub out_of_turn : IsAsking w → w.sent ≤ length w.kept.shown → BlkStands i o w (entry ∷ []) after
    out_of_turn asking not_due = record {
      start = h.start;
      is_start = h.is_start;
      came = h.came;
      taken = ap (λ xs. passed.taken i ++ xs) came_here ∙ ap (λ (xs : List Cargo). xs ++ entry ∷ []) (h.taken ∙ append-nil h.came);
      stands = rw (puts o, append-nil (passed.sent o)) h.stands;
      few = omega arith;
      no_request = λ ne. rw (puts o, append-nil (passed.sent o)) late;
      conserves = λ f. balance f w (entry ∷ []) (omega arith);
    }
      where
        sent_within : (o : Option Cargo) → and_one w.sent o ≤ length w.script.items → w.sent ≤ length w.script.items
        sent_within None e = e
        sent_within (Some c) e = omega (arith, e)

        late : length (passed.sent o) ≤ length h.came
        late =
            let all = sent_within w.next asking.within in
            let within : length h.came ≤ length w.script.items = omega (arith, h.stands.answered, h.stands.sent_many, all) in
            let long : length w.kept.shown ≡ length h.came = ap length h.stands.replied ∙ replies_long w.script.items h.came within in
            omega (arith, long, not_due, h.stands.sent_many)

  -- the next request was put
  module _ (c : Cargo) (takes : (n : ℕ) → took n ≡ []) (puts : (n : ℕ) → put n ≡ if_there (o == n) (c ∷ [])) where
    pub request_put : ((start : List Paged) (came sent : List Cargo) → AskingStands w start came sent → AskingStands w' start came (sent ++ c ∷ [])) → ((f : Count) → counted f (asking_hand w) ≡ counted f (asking_hand w') + weight f c.1) → BlkStands i o w' [] after
    request_put stands held =
        let went_here : put o ≡ c ∷ [] = puts o ∙ if_there_here o (c ∷ []) in
        record {
          start = h.start;
          is_start = same_hoard w w' same h.start h.is_start;
          came = h.came;
          taken = ap (λ xs. passed.taken i ++ xs) (takes i) ∙ (append-nil (passed.taken i) ∙ h.taken);
          stands = rw went_here (stands h.start h.came (passed.sent o) h.stands);
          few = omega arith;
          no_request = λ ne. absurd (ne refl);
          conserves = λ f.
              let was = h.conserves f in
              let none = in_hand f w [] in
              let now = in_hand f w' [] in
              let came = more_at f passed.taken took i [] (takes i) in
              let went = more_at f passed.sent put o (c ∷ []) went_here in
              let hand = held f in
              omega (arith, was, none, now, came, went, hand);
        }

pub new_stands : (i o : ℕ) (w : Asking) (pages : List Paged) → IsHoard w pages → AskingStands w pages [] [] → ((f : Count) → counted f (asking_hand w) ≡ counted f (page_bodies pages)) → BlkStands i o w [] (record { taken = λ n. []; sent = λ n. []; calls = [] })
new_stands i o w pages hoard stands held = record {
  start = pages;
  is_start = hoard;
  came = [];
  taken = refl;
  stands = stands;
  few = omega arith;
  no_request = λ ne. absurd (ne refl);
  conserves = λ f. let all = counted-append f (asking_hand w) [] in let same = held f in omega (arith, all, same);
}

pub row_of : (c : BlkClient) (passed : Passed) → BlkClientStandsFor c passed → BlkClientRow c passed
row_of c passed h = record {
  start = h.start;
  is_start = h.is_start;
  came = h.came;
  stray = option_to_list c.stray;
  taken = h.taken;
  few = h.few;
  out_of_turn = h.no_request;
  asks = (option_to_list c.asking.next ++ asked_from (made c.asking) (left c.asking) (c.asking.kept.pages ++ []), h.stands.asks [] ∙ ap (λ ps. asked_from 0 c.asking.script.items (h.start ++ ps)) (append-nil (pages_in h.came)));
  replies = h.stands.replied;
  answered = h.stands.answered;
}

pub balance_of : (c : BlkClient) (passed : Passed) → BlkClientStandsFor c passed → BlkClientBalances c passed
balance_of c passed h = record {
  start = h.start;
  is_start = h.is_start;
  balances = conserves_balances (page_bodies h.start) (bodies_at passed.taken (resp_queue c ∷ [])) (bodies_at passed.sent (req_queue c ∷ [])) (blk_client_hand c) [] h.conserves;
}

-- where a request is to be put, it is there, and nothing strayed
pub is_to_put : (next stray : Option Cargo) → (is_some next && is_none stray) ≡ true → ((c : Cargo) × (next ≡ Some c)) × (stray ≡ None)
is_to_put (Some c) None h = ((c, refl), refl)
is_to_put (Some c) (Some s) h = cc
is_to_put None s h = cc

-- it went, where none is left
pub went : (next put left : Option Cargo) (c : Cargo) → next ≡ Some c → left ≡ None → option_to_list next ≡ option_to_list put ++ option_to_list left → option_to_list put ≡ c ∷ []
went next put left c is none parts = sym (append-nil (option_to_list put)) ∙ (ap (λ (o : Option Cargo). option_to_list put ++ option_to_list o) (sym none) ∙ (sym parts ∙ ap option_to_list is))

pub none_left : (o : Option Cargo) (b : Bool) → is_some o ≡ not b → b ≡ true → o ≡ None
none_left None b h t = refl
none_left (Some c) b h t = let no : true ≡ false = h ∙ ap not t in cc

-- without the request that went
pub hand_put : (f : Count) (w : Asking) (c : Cargo) → w.next ≡ Some c → counted f (asking_hand w) ≡ counted f (asking_hand (record w { next = None })) + weight f c.1
hand_put f w c is =
    let was = hand_count f w in
    let now = hand_count f (record w { next = None }) in
    let one = ap (λ (o : Option Cargo). weighed f (option_to_list o)) is in
    omega (arith, was, now, one)

-- the same at the same queue, where nothing strayed
pub same_queue : (i o o' : ℕ) (w : Asking) (stray : Option Cargo) (passed : Passed) → o' ≡ o → stray ≡ None → BlkStands i o w [] passed → BlkStands i o' w (option_to_list stray) passed
same_queue i o o' w stray passed e none h = subst (λ n. BlkStands i n w (option_to_list stray) passed) (sym e) (subst (λ (s : Option Cargo). BlkStands i o w (option_to_list s) passed) (sym none) h)

-- where nothing moved, all stays, whatever was called
pub still : (i o i' o' : ℕ) (w : Asking) (stray : List Cargo) (passed : Passed) (took put : Lists) (calls : List Event) → i' ≡ i → o' ≡ o → ((n : ℕ) → took n ≡ []) → ((n : ℕ) → put n ≡ []) → BlkStands i o w stray passed → BlkStands i' o' w stray (record { taken = with passed.taken took; sent = with passed.sent put; calls = calls })
still i o i' o' w stray passed took put calls same same' takes puts h =
    let called : BlkStands i o w stray (record passed { calls = calls }) = record { start = h.start; is_start = h.is_start; came = h.came; taken = h.taken; stands = h.stands; few = h.few; no_request = h.no_request; conserves = h.conserves } in
    let after : BlkStands i o w stray (record { taken = with passed.taken took; sent = with passed.sent put; calls = calls }) = subst (λ (p : Passed). BlkStands i o w stray p) (nothing passed took put calls takes puts) called in
    subst (λ n. BlkStands n o' w stray (record { taken = with passed.taken took; sent = with passed.sent put; calls = calls })) (sym same)
    (subst (λ n. BlkStands i n w stray (record { taken = with passed.taken took; sent = with passed.sent put; calls = calls })) (sym same') after)

-- nothing is there of no entry
pub none_at : (q n : ℕ) (o : Option Cargo) → o ≡ None → if_there (q == n) (option_to_list o) ≡ []
none_at q n o none = ap (λ (p : Option Cargo). if_there (q == n) (option_to_list p)) none ∙ none_if (q == n)

-- nothing goes where nothing is loaded
given_none : (item : Option Item) → given item None ≡ None
given_none None = refl
given_none (Some x) = refl

pub nothing_put : (e : Event) → put_of e None ≡ None
nothing_put e = given_none e.item

-- a load that is still there is the one that was, and nothing went
pub not_gone : (was put now : Option Cargo) (b : Bool) → is_some now ≡ not b → b ≡ false → option_to_list was ≡ option_to_list put ++ option_to_list now → (put ≡ None) × (now ≡ was)
not_gone (Some x) None (Some y) b some not_b parts = (refl, ap (λ (cs : List Cargo). slice_get cs 0) (sym parts))
not_gone (Some x) (Some z) (Some y) b some not_b parts = cc
not_gone None None (Some y) b some not_b parts = cc
not_gone None (Some z) (Some y) b some not_b parts = cc
not_gone was put None b some not_b parts = let no : false ≡ true = some ∙ ap not not_b in cc
