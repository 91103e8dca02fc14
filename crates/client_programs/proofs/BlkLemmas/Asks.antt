-- What a client asks next, and what it stands for after each step.
use Rattle.cargo_core.specs.Lists.{replaced}
use Rattle.std.proofs.Common.{◌≡◌, ◌+◌, ◌<◌, ◌≤◌, nat_le, nat_lt, is_some, ℕ, zero, suc, Bool, true, false, if◌then◌else◌, Option, Some, None, List, [], ◌∷◌, ◌++◌, length, drop, slice_get, slice_index_or, refl, sym, ap, ◌∙◌, subst, append_assoc, add-zero, add-one, length-append, arith}
use Rattle.std.specs.Option.{option_to_list}
use Rattle.std.proofs.lemmas.List.{append-nil}
use Rattle.cargo_core.specs.declared.item.Ask.{Ask}
use Rattle.cargo_core.specs.declared.item.Code.{Code}
use Rattle.cargo_core.specs.declared.item.Code.TheVariants as Asked
use Rattle.cargo_core.specs.declared.item.Body.TheVariants as Carried
use Rattle.cargo_core.specs.declared.item.Reply.{Reply}
use Rattle.cargo_core.specs.Pages.{Paged}
use Rattle.wire_core.specs.Deeds.{Cargo}
use Rattle.turn_kit.specs.Hands.{bodies_of}
use Rattle.buffer_kit.specs.Pools.{page_bodies}
use Rattle.cargo_core.specs.declared.item.Body.{Body}
use Rattle.std.proofs.lemmas.Option.{slice_get-get_or}
use Rattle.std.proofs.lemmas.Bool.{leb-true, ltb-true}
use Rattle.buffer_kit.specs.Conserving.{Count, weight, counted, weighed}
use Rattle.buffer_kit.proofs.Conserving.{counted-append, counted-pages, front_long}
use Rattle.client_programs.specs.declared.blk.asking.Asking.{Asking}
use Rattle.client_programs.specs.Blk.Kept.{Kept}
use Rattle.client_programs.specs.Blk.Asking.{AskingStands, made, left, and_one, asking_hand, needs_buffer, asked_from, asked_in, asked_bare, page_for, page_in, pages_in, replies_to, reply_to}

-- a request that needs no buffer, one that has one, and one that has none
pub asked_plain : (a : Ask) (asks : List Ask) (id : ℕ) (pages : List Paged) → needs_buffer a.code ≡ false → asked_from id (a ∷ asks) pages ≡ asked_bare a id ∷ asked_from (id + 1) asks pages
asked_plain a asks id [] e = ap (λ b. if b then [] else (asked_bare a id ∷ asked_from (id + 1) asks [])) e
asked_plain a asks id (p ∷ ps) e = ap (λ b. if b then (asked_in a id p ∷ asked_from (id + 1) asks ps) else (asked_bare a id ∷ asked_from (id + 1) asks (p ∷ ps))) e

pub asked_first : (a : Ask) (asks : List Ask) (id : ℕ) (p : Paged) (pages : List Paged) → needs_buffer a.code ≡ true → asked_from id (a ∷ asks) (p ∷ pages) ≡ asked_in a id p ∷ asked_from (id + 1) asks pages
asked_first a asks id p ps e = ap (λ b. if b then (asked_in a id p ∷ asked_from (id + 1) asks ps) else (asked_bare a id ∷ asked_from (id + 1) asks (p ∷ ps))) e

pub asked_none : (a : Ask) (asks : List Ask) (id : ℕ) → needs_buffer a.code ≡ true → asked_from id (a ∷ asks) [] ≡ []
asked_none a asks id e = ap (λ b. if b then [] else (asked_bare a id ∷ asked_from (id + 1) asks [])) e

pub asked_end : (id : ℕ) (pages : List Paged) → asked_from id [] pages ≡ []
asked_end id pages = refl

-- the buffer of a request is the one that it was, and as long
pub page_for_same : (f : Count) (code : Code) (bytes : List ℕ) (p : Paged) → weight f (Carried.Page (page_for code bytes p)) ≡ weight f (Carried.Page p)
page_for_same f Asked.Read bytes p = refl
page_for_same f Asked.Flush bytes p = refl
page_for_same f Asked.Barrier bytes p = refl
page_for_same f Asked.Write bytes p = either (nat_le (length bytes) (length p.bytes)) refl
  where
    either : (t : Bool) → nat_le (length bytes) (length p.bytes) ≡ t → weight f (Carried.Page (if t then (record { pool = p.pool; no = p.no; bytes = replaced p.bytes 0 bytes }) else p)) ≡ weight f (Carried.Page p)
    either true fits = ap (f p.pool p.no) (front_long bytes p.bytes (leb-true (length bytes) (length p.bytes) fits))
    either false no_room = refl

-- a script from a place on
drop_here : {X : Type 0} (xs : List X) (k : ℕ) (x : X) → slice_get xs k ≡ Some x → drop k xs ≡ x ∷ drop (suc k) xs
drop_here [] k x h = cc
drop_here (y ∷ xs) zero x h = cc
drop_here (y ∷ xs) (suc k) x h = drop_here xs k x h

pub drop_at : {X : Type 0} (xs : List X) (k : ℕ) (x : X) → slice_get xs k ≡ Some x → drop k xs ≡ x ∷ drop (k + 1) xs
drop_at xs k x h = rw add-one (drop_here xs k x h)

pub drop_past : {X : Type 0} (xs : List X) (k : ℕ) → length xs ≤ k → drop k xs ≡ []
drop_past [] zero h = refl
drop_past [] (suc k) h = refl
drop_past (y ∷ xs) zero h = absurd (omega (arith, h))
drop_past (y ∷ xs) (suc k) h = drop_past xs k (omega (arith, h))

-- one more response
pub replies_more : (asks : List Ask) (came : List Cargo) (a : Ask) (c : Cargo) → slice_get asks (length came) ≡ Some a → replies_to asks (came ++ c ∷ []) ≡ replies_to asks came ++ reply_to a c ∷ []
replies_more [] came a c h = cc
replies_more (b ∷ asks) [] a c h = ap (λ (x : Ask). reply_to x c ∷ replies_to asks []) (some_eq h) ∙ ap (λ (r : List Reply). reply_to a c ∷ r) (no_replies asks)
  where
    some_eq : Some b ≡ Some a → b ≡ a
    some_eq t = cc

    no_replies : (xs : List Ask) → replies_to xs [] ≡ []
    no_replies [] = refl
    no_replies (x ∷ xs) = refl
replies_more (b ∷ asks) (d ∷ came) a c h = ap (λ (r : List Reply). reply_to b d ∷ r) (replies_more asks came a c h)

pub replies_long : (asks : List Ask) (came : List Cargo) → length came ≤ length asks → length (replies_to asks came) ≡ length came
replies_long [] [] h = refl
replies_long [] (c ∷ came) h = absurd (omega (arith, h))
replies_long (a ∷ asks) [] h = refl
replies_long (a ∷ asks) (c ∷ came) h = ap suc (replies_long asks came (omega (arith, h)))

pub pages_more : (came : List Cargo) (c : Cargo) → pages_in (came ++ c ∷ []) ≡ pages_in came ++ page_in c.1
pages_more [] c = append-nil (page_in c.1)
pages_more (d ∷ came) c = ap (λ ps. page_in d.1 ++ ps) (pages_more came c) ∙ sym (append_assoc (page_in d.1) (pages_in came) (page_in c.1))

-- what is asked next is what is asked, taken apart
prepared : (script : List Ask) (sent : ℕ) (a : Ask) (old new more : List Paged) (next : Option Cargo) → slice_get script sent ≡ Some a
    → ((c : Cargo) → next ≡ Some c → (asks : List Ask) (more : List Paged) → asked_from sent (a ∷ asks) (old ++ more) ≡ c ∷ asked_from (sent + 1) asks (new ++ more)) → (next ≡ None → new ≡ old)
    → option_to_list next ++ asked_from (and_one sent next) (drop (and_one sent next) script) (new ++ more) ≡ asked_from sent (drop sent script) (old ++ more)
prepared script sent a old new more None at some none = ap (λ (ps : List Paged). asked_from sent (drop sent script) (ps ++ more)) (none refl)
prepared script sent a old new more (Some c) at some none =
    sym (some c refl (drop (sent + 1) script) more) ∙ ap (λ (xs : List Ask). asked_from sent xs (old ++ more)) (sym (drop_at script sent a at))

module _ (w : Asking) (start : List Paged) (came put : List Cargo) where
  -- the next request was made ready
  pub stands_prepared : (kept : Kept) (next : Option Cargo) (a : Ask) → w.next ≡ None → slice_get w.script.items w.sent ≡ Some a
      → ((c : Cargo) → next ≡ Some c → (asks : List Ask) (more : List Paged) → asked_from w.sent (a ∷ asks) (w.kept.pages ++ more) ≡ c ∷ asked_from (w.sent + 1) asks (kept.pages ++ more)) → (next ≡ None → kept.pages ≡ w.kept.pages)
      → kept.shown ≡ w.kept.shown → AskingStands w start came put → AskingStands (record w { next = next; kept = kept }) start came put
  stands_prepared kept next a e at some none shown h = record {
    asks = λ more. ap (λ xs. put ++ xs) (prepared w.script.items w.sent a w.kept.pages kept.pages more next at some none) ∙ (sym (ap (λ (o : Option Cargo). put ++ (option_to_list o ++ asked_from (and_one w.sent o) (drop (and_one w.sent o) w.script.items) (w.kept.pages ++ more))) e) ∙ h.asks more);
    sent_many = h.sent_many;
    replied = shown ∙ h.replied;
    answered = h.answered;
  }

  -- a response came
  pub stands_received : (kept : Kept) (entry : Cargo) (a : Ask) → slice_get w.script.items (length w.kept.shown) ≡ Some a → kept.shown ≡ w.kept.shown ++ reply_to a entry ∷ [] → kept.pages ≡ w.kept.pages ++ page_in entry.1
      → length w.kept.shown < w.sent → w.sent ≤ length w.script.items → AskingStands w start came put → AskingStands (record w { kept = kept }) start (came ++ entry ∷ []) put
  stands_received kept entry a at shown pages due within h =
      let all : length came ≤ length w.script.items = omega (arith, h.answered, h.sent_many, within) in
      let long : length w.kept.shown ≡ length came = ap length h.replied ∙ replies_long w.script.items came all in
      record {
        asks = λ more.
            ap (λ (ps : List Paged). put ++ (option_to_list w.next ++ asked_from (made w) (left w) ps)) (ap (λ (ps : List Paged). ps ++ more) pages ∙ append_assoc w.kept.pages (page_in entry.1) more)
            ∙ (h.asks (page_in entry.1 ++ more)
            ∙ ap (λ (ps : List Paged). asked_from 0 w.script.items (start ++ ps)) (sym (append_assoc (pages_in came) (page_in entry.1) more) ∙ ap (λ (ps : List Paged). ps ++ more) (sym (pages_more came entry))));
        sent_many = h.sent_many;
        replied = shown ∙ (ap (λ (rs : List Reply). rs ++ reply_to a entry ∷ []) h.replied ∙ sym (replies_more w.script.items came a entry (subst (λ n. slice_get w.script.items n ≡ Some a) long at)));
        answered = let more = length-append came (entry ∷ []) in let due' = subst (λ n. n < w.sent) long due in omega (arith, more, due', h.sent_many);
      }

  -- the next request was put
  pub stands_put : (c : Cargo) → w.next ≡ None → AskingStands (record w { next = Some c }) start came put → AskingStands (record w { sent = w.sent + 1 }) start came (put ++ c ∷ [])
  stands_put c e h = record {
    asks = λ more. ap (λ (o : Option Cargo). (put ++ c ∷ []) ++ (option_to_list o ++ asked_from (and_one (w.sent + 1) o) (drop (and_one (w.sent + 1) o) w.script.items) (w.kept.pages ++ more))) e ∙ (append_assoc put (c ∷ []) (asked_from (w.sent + 1) (drop (w.sent + 1) w.script.items) (w.kept.pages ++ more)) ∙ h.asks more);
    sent_many = let more = length-append put (c ∷ []) in omega (arith, more, h.sent_many);
    replied = h.replied;
    answered = let more = length-append put (c ∷ []) in omega (arith, more, h.answered);
  }

-- the ask whose reply is next
pub due_ask : (script : List Ask) (n : ℕ) → n < length script → (a : Ask) × (slice_get script n ≡ Some a)
due_ask script n there = let none : Ask = record { code = Asked.Read; block = 0; count = 0; fill = [] } in (slice_index_or script n none, slice_get-get_or script n none there)

-- the buffer of a response is one more in hand
pub page_count : (f : Count) (b : Body) → counted f (page_bodies (page_in b)) ≡ weight f b
page_count f (Carried.Page p) = add-zero (weight f (Carried.Page p))
page_count f (Carried.Lease l) = refl
page_count f Carried.Empty = refl

pub hand_count : (f : Count) (w : Asking) → counted f (asking_hand w) ≡ weighed f (option_to_list w.next) + counted f (page_bodies w.kept.pages)
hand_count f w = counted-append f (bodies_of (option_to_list w.next)) (page_bodies w.kept.pages)

pub came_count : (f : Count) (old new : List Paged) (b : Body) → new ≡ old ++ page_in b → counted f (page_bodies new) ≡ counted f (page_bodies old) + weight f b
came_count f old new b e = ap (λ (ps : List Paged). counted f (page_bodies ps)) e ∙ (counted-pages f old (page_in b) ∙ ap (λ n. counted f (page_bodies old) + n) (page_count f b))

-- what a look-up finds
pub found_at : {X : Type 0} (xs ys : List X) (k : ℕ) (x : X) → xs ≡ ys → true ≡ nat_lt k (length xs) → x ≡ slice_index_or xs k x → slice_get ys k ≡ Some x
found_at xs ys k x same there is = subst (λ zs. slice_get zs k ≡ Some x) same (slice_get-get_or xs k x (ltb-true k (length xs) (sym there)) ∙ ap Some (sym is))

pub no_next : (o : Option Cargo) → is_some o ≡ false → o ≡ None
no_next None h = refl
no_next (Some c) h = cc
