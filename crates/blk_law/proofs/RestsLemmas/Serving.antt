-- What the virtualiser needs and owes at the queues of one client, by counts of items.
use Rattle.std.proofs.Common.{◌≡◌, ◌+◌, ◌++◌, ◌&&◌, ℕ, suc, Bool, true, false, not, cond, nat_lt, if◌then◌else◌, Option, Some, None, is_some, is_none, List, [], ◌∷◌, length, slice_get, length-append, refl, sym, ap, ◌∙◌, arith}
use Rattle.std.specs.List.{filter}
use Rattle.std.specs.Option.{option_to_list}
use Rattle.std.proofs.lemmas.Bool.{lt-ltb, le-ltb}
use Rattle.std.proofs.lemmas.List.{length-map}
use Rattle.cargo_core.specs.declared.item.Code.{Code}
use Rattle.cargo_core.specs.declared.item.Code.TheVariants as Asked
use Rattle.cargo_core.specs.declared.item.Item.{Item}
use Rattle.wire_core.specs.Bells.{bit}
use Rattle.wire_core.specs.Deeds.{Cargo}
use Rattle.wire_core.specs.Queues.{items_of}
use Rattle.blk_mbr.specs.declared.part.Part.{Part}
use Rattle.class_expect.specs.BlkExpect.Judging.{status_of, status_within}
use Rattle.blk_virt.specs.declared.client.Client.{Client}
use Rattle.blk_virt.specs.declared.client.Current.{Current}
use Rattle.blk_virt.specs.declared.requests.Holder.{Holder}
use Rattle.blk_virt.specs.Requests.{request_of, goes_on, refusal, passed_on, for_disk, is_ok, is_own, is_at, moves_blocks, numbered}
use Rattle.blk_virt.specs.Serving.{own_back, answers_to}
use Rattle.blk_virt.specs.Clients.{ClientStands, IsPending, is_held, is_idle}
use Rattle.blk_virt.proofs.Serving.{answers_front}
use Rattle.blk_law.specs.Sheets.Rows.{goes_on_item, answer_items, items_back, passed_item, refusal_item}
use Rattle.blk_law.specs.Sheets.Playing.{holder_pool}
use Rattle.play_core.proofs.RestsLemmas.Settling.{held_is}

-- each read or write is at a buffer of its client
abbrev pub AreOwned : Holder → List Cargo → Type 0
AreOwned h xs = (j : ℕ) (x : Cargo) → slice_get xs j ≡ Some x → moves_blocks (request_of x.0).code ≡ true → is_own h x ≡ true

-- whether a request is sent on hangs on its item alone
judged_so : (own own' : Bool) (part : Option Part) (code : Code) (block count : ℕ) → (moves_blocks code ≡ true → own ≡ own') → is_ok (status_of own part code block count) ≡ is_ok (status_of own' part code block count)
judged_so own own' None code block count e = refl
judged_so own own' (Some part) Asked.Read block count e = ap (λ b. is_ok (status_within b part.blocks Asked.Read block count)) (e refl)
judged_so own own' (Some part) Asked.Write block count e = ap (λ b. is_ok (status_within b part.blocks Asked.Write block count)) (e refl)
judged_so own own' (Some part) Asked.Flush block count e = refl
judged_so own own' (Some part) Asked.Barrier block count e = refl

goes_so : (h : Holder) (part : Option Part) (x : Cargo) → (moves_blocks (request_of x.0).code ≡ true → is_own h x ≡ true) → goes_on h part x ≡ goes_on_item part x.0
goes_so h part x e = judged_so (is_own h x) true part (request_of x.0).code (request_of x.0).block (request_of x.0).count e

-- how many go on
pub many_so : (h : Holder) (part : Option Part) (xs : List Cargo) → AreOwned h xs → length (filter (goes_on h part) xs) ≡ length (filter (goes_on_item part) (items_of xs))
many_so h part [] owned = refl
many_so h part (x ∷ xs) owned = by (goes_on h part x) (goes_on_item part x.0) (goes_so h part x (owned 0 x refl)) (many_so h part xs (λ j y at. owned (suc j) y at))
  where
    by : (b b' : Bool) → b ≡ b' → length (filter (goes_on h part) xs) ≡ length (filter (goes_on_item part) (items_of xs))
        → length (cond b (x ∷ filter (goes_on h part) xs) (filter (goes_on h part) xs)) ≡ length (cond b' (x.0 ∷ filter (goes_on_item part) (items_of xs)) (filter (goes_on_item part) (items_of xs)))
    by true true e rest = ap suc rest
    by false false e rest = rest
    by true false e rest = cc
    by false true e rest = cc

-- how many answers there are
pub answers_so : (h : Holder) (part : Option Part) (xs back : List Cargo) (ys : List Item) → length ys ≡ length back → AreOwned h xs → length (answers_to h part xs back) ≡ length (answer_items part (items_of xs) ys)
answers_so h part [] back ys same owned = refl
answers_so h part (x ∷ xs) [] (y ∷ ys) same owned = absurd (omega (arith, same))
answers_so h part (x ∷ xs) (z ∷ back) [] same owned = absurd (omega (arith, same))
answers_so h part (x ∷ xs) [] [] same owned = by (goes_on h part x) (goes_on_item part x.0) (goes_so h part x (owned 0 x refl)) (answers_so h part xs [] [] refl (λ j y at. owned (suc j) y at))
  where
    by : (b b' : Bool) → b ≡ b' → length (answers_to h part xs []) ≡ length (answer_items part (items_of xs) [])
        → length (if b then [] else (refusal h part x ∷ answers_to h part xs [])) ≡ length (if b' then [] else (refusal_item part x.0 ∷ answer_items part (items_of xs) []))
    by true true e rest = refl
    by false false e rest = ap suc rest
    by true false e rest = cc
    by false true e rest = cc
answers_so h part (x ∷ xs) (z ∷ back) (y ∷ ys) same owned = by (goes_on h part x) (goes_on_item part x.0) (goes_so h part x (owned 0 x refl)) (answers_so h part xs back ys (omega (arith, same)) (λ j d at. owned (suc j) d at)) (answers_so h part xs (z ∷ back) (y ∷ ys) same (λ j d at. owned (suc j) d at))
  where
    by : (b b' : Bool) → b ≡ b' → length (answers_to h part xs back) ≡ length (answer_items part (items_of xs) ys) → length (answers_to h part xs (z ∷ back)) ≡ length (answer_items part (items_of xs) (y ∷ ys))
        → length (if b then (passed_on (request_of x.0).id z ∷ answers_to h part xs back) else (refusal h part x ∷ answers_to h part xs (z ∷ back))) ≡ length (if b' then (passed_item (request_of x.0).id y ∷ answer_items part (items_of xs) ys) else (refusal_item part x.0 ∷ answer_items part (items_of xs) (y ∷ ys)))
    by true true e rest rest' = ap suc rest
    by false false e rest rest' = ap suc rest'
    by true false e rest rest' = cc
    by false true e rest rest' = cc

-- how many responses are to its requests
pub own_so : (h : Holder) (sent back : List Cargo) → length (items_back (holder_pool h) (items_of sent) (items_of back)) ≡ length (own_back h sent back)
own_so h [] back = refl
own_so h (x ∷ sent) [] = refl
own_so h (x ∷ sent) (y ∷ back) = by (is_at h x) (own_so h sent back)
  where
    by : (b : Bool) → length (items_back (holder_pool h) (items_of sent) (items_of back)) ≡ length (own_back h sent back) → length (if b then (y.0 ∷ items_back (holder_pool h) (items_of sent) (items_of back)) else items_back (holder_pool h) (items_of sent) (items_of back)) ≡ length (if b then (y ∷ own_back h sent back) else own_back h sent back)
    by true rest = ap suc rest
    by false rest = rest

idle_by : (current : Option Current) (held : Option Cargo) (gave came : ℕ) → came ≡ gave + (length (option_to_list held) + bit (is_some current)) → (is_none current && is_none held) ≡ not (nat_lt gave came)
idle_by None None gave came e = ap not (sym (le-ltb gave came (omega (arith, e))))
idle_by None (Some x) gave came e = ap not (sym (lt-ltb gave came (omega (arith, e))))
idle_by (Some c) held gave came e = ap not (sym (lt-ltb gave came (omega (arith, e))))

-- of a client, by what it stands for
module _ (c : Client) (part : Option Part) (came sent back gave : List Cargo) (st : ClientStands c part came sent back gave) where
  pending_long : (o : Option Current) → IsPending c.holder part o st.pending → length st.pending ≡ bit (is_some o)
  pending_long None p = ap (λ l. length l) p
  pending_long (Some current) p = ap (λ l. length l) p.1

  -- a pending request is still to be answered
  no_answer : (o : Option Current) → IsPending c.holder part o st.pending → length (answers_to c.holder part st.pending []) ≡ 0
  no_answer None p = ap (λ l. length (answers_to c.holder part l [])) p
  no_answer (Some current) p = ap (λ l. length (answers_to c.holder part l [])) p.1 ∙ ap (λ b. length (if b then [] else (refusal c.holder part p.0 ∷ []))) p.2.goes

  pub idle_is : is_idle c ≡ not (nat_lt (length gave) (length came))
  idle_is =
      let all = ap (λ l. length l) st.came_are in
      let parts = length-append st.earlier st.pending in
      let held = length-append gave (option_to_list c.held) in
      let pending = pending_long c.current st.is_pending in
      idle_by c.current c.held (length gave) (length came) (omega (arith, all, parts, held, pending, st.as_many))

  pub answers_is : length (answers_to c.holder part came back) ≡ length gave + length (option_to_list c.held)
  answers_is =
      let front = ap (λ l. length l) (ap (λ l. answers_to c.holder part l back) (sym st.came_are) ∙ answers_front c.holder part st.earlier back st.pending st.whole) in
      let parts = length-append (answers_to c.holder part st.earlier back) (answers_to c.holder part st.pending []) in
      let none = no_answer c.current st.is_pending in
      let all = ap (λ l. length l) st.answers in
      let held = length-append gave (option_to_list c.held) in
      omega (arith, front, parts, none, all, held)

  pub held_due : is_held c ≡ nat_lt (length gave) (length (answers_to c.holder part came back))
  held_due = held_is c.held (length gave) (length (answers_to c.holder part came back)) (sym answers_is)

  pub went_is : length sent + length (option_to_list c.leaving) ≡ length (filter (goes_on c.holder part) came)
  went_is =
      let all = ap (λ l. length l) st.sends in
      let left = length-map (sent ++ option_to_list c.leaving) (numbered 0) in
      let right = length-map (filter (goes_on c.holder part) came) (for_disk c.holder part) in
      let parts = length-append sent (option_to_list c.leaving) in
      omega (arith, all, left, right, parts)
