-- What the virtualiser stands for after each entry that it put.
use Rattle.std.proofs.Common.{◌≡◌, ◌⊎◌, ◌+◌, ◌<◌, ◌%◌, ◌^◌, ◌&&◌, ◌||◌, ℕ, zero, suc, Bool, true, false, is_some, is_none, inl, inr, Option, Some, None, List, [], ◌∷◌, ◌++◌, length, drop, slice_get, refl, sym, ap, ◌∙◌, subst, length-append, arith}
use Rattle.std.specs.Option.{option_to_list}
use Rattle.std.proofs.Math.Nat.{mod-add-mod}
use Rattle.std.proofs.lemmas.List.{append-nil}
use Rattle.cargo_core.specs.Pages.{Paged}
use Rattle.wire_core.specs.declared.names.Event.{Event}
use Rattle.wire_core.specs.Deeds.{Cargo, put_of}
use Rattle.wire_core.proofs.Places.{slice_get_written}
use Rattle.blk_mbr.specs.declared.part.Part.{Part}
use Rattle.buffer_kit.specs.Conserving.{weighed}
use Rattle.buffer_kit.proofs.ManyClients.{some_eq}
use Rattle.blk_virt.specs.declared.client.Client.{Client}
use Rattle.blk_virt.specs.declared.desk.Desk.{Desk}
use Rattle.blk_virt.specs.declared.opening.Block.{Block}
use Rattle.blk_virt.specs.declared.work.Work.{Work}
use Rattle.blk_virt.specs.Requests.{number_of}
use Rattle.blk_virt.specs.Clients.{is_away, is_leaving, is_held}
use Rattle.blk_virt.specs.Openings.{OpeningStands, first_read, block_of, is_open, is_reading}
use Rattle.blk_virt.specs.Desks.{IsDesk, DeskStands, OneMoved, IsRequestOf, IsStill, SentAs, desk_cargo, with_more}
use Rattle.blk_virt.specs.Works.{IsWork, WorkStands, WorkIsStill, Sent, Gave}
use Rattle.blk_virt.proofs.Desking.{leaving_not_away}
use Rattle.blk_virt.proofs.Answering.{moved_held, same_holders, stays, goes}
use Rattle.blk_virt.proofs.Working.{opened, work_parts, none_lists}

-- what an event put, of a load
pub given_some : (e : Event) (load : Option Cargo) → is_some e.item ≡ true → put_of e load ≡ load
given_some e load h = by e.item h
  where
    by : (i : Option _) → is_some i ≡ true → put_of (record e { item = i }) load ≡ load
    by None t = cc
    by (Some x) t = refl

pub given_none : (e : Event) (load : Option Cargo) → is_some e.item ≡ false → put_of e load ≡ None
given_none e load h = by e.item h
  where
    by : (i : Option _) → is_some i ≡ false → put_of (record e { item = i }) load ≡ None
    by None t = refl
    by (Some x) t = cc

-- an entry of a list with one more is one of the list, or the last
last_at : (xs : List Cargo) (z : Cargo) (j : ℕ) (y : Cargo) → slice_get (xs ++ z ∷ []) j ≡ Some y → (slice_get xs j ≡ Some y) ⊎ ((z ≡ y) × (j ≡ length xs))
last_at [] z zero y at = inr (some_eq at, refl)
last_at [] z (suc j) y at = cc
last_at (a ∷ xs) z zero y at = inl at
last_at (a ∷ xs) z (suc j) y at = more (last_at xs z j y at)
  where
    more : (slice_get xs j ≡ Some y) ⊎ ((z ≡ y) × (j ≡ length xs)) → (slice_get xs j ≡ Some y) ⊎ ((z ≡ y) × (suc j ≡ suc (length xs)))
    more (inl h) = inl h
    more (inr h) = inr (h.0, ap suc h.1)

module _ (w : Work) (work : IsWork w) where
  -- the first read went
  module _ (x : Cargo) (is : w.opening.first ≡ Some x) where
    first_stands : (start : Paged) (back ss : List Cargo) (came gave : ℕ → List Cargo) → WorkStands w start back came ss gave → WorkStands (record w { opening = record w.opening { first = None }; number = 1 }) start back came (ss ++ x ∷ []) gave
    first_stands start back ss came gave h = by w.opening.block refl (subst (λ (o : Option Cargo). OpeningStands w.opening o w.opening.block start ss back) is h.opens)
      where
        by : (b : Option Block) → w.opening.block ≡ b → OpeningStands w.opening (Some x) b start ss back → WorkStands (record w { opening = record w.opening { first = None }; number = 1 }) start back came (ss ++ x ∷ []) gave
        by (Some b) e s = absurd s
        by None e s =
            let one : ss ++ x ∷ [] ≡ x ∷ [] = ap (λ (l : List Cargo). l ++ x ∷ []) s.1 in
            record {
              is_start = h.is_start;
              opens = subst (λ (v : Option Block). OpeningStands w.opening None v start (ss ++ x ∷ []) back) (sym e) (one ∙ ap (λ (y : Cargo). y ∷ []) s.0, s.2);
              serves = λ parts knows. subst (λ l. DeskStands w.desk parts came l (drop 1 back) gave) (ap (drop 1) s.1 ∙ sym (ap (drop 1) one)) (h.serves parts knows);
              quiet = h.quiet;
              numbered = λ j y at. first_number j y (subst (λ (l : List Cargo). slice_get l j ≡ Some y) one at) (ap number_of s.0);
              number = sym (ap (λ (l : List Cargo). length l % 2 ^ 32) one);
            }
          where
            first_number : (j : ℕ) (y : Cargo) → slice_get (x ∷ []) j ≡ Some y → number_of x ≡ 0 → number_of y ≡ j % 2 ^ 32
            first_number zero y at n = ap number_of (sym (some_eq at)) ∙ n
            first_number (suc j) y at n = cc

    pub first_sent : Sent w (record w { opening = record w.opening { first = None }; number = 1 }) (x ∷ [])
    first_sent = record {
      stands = first_stands;
      held = λ f.
          let was = work_parts f w.opening.first w.opening.block (desk_cargo w.desk) w.stray in
          let now = work_parts f None w.opening.block (desk_cargo w.desk) w.stray in
          let one = ap (λ (o : Option Cargo). weighed f (option_to_list o)) is in
          omega (arith, was, now, one);
    }

  -- nothing went
  pub nothing_sent : Sent w w []
  nothing_sent = record { stands = λ start back ss came gave h. rw (append-nil ss) h; held = λ f. omega arith }

  module _ (is_opened : is_open w.opening ≡ true) (d : Desk) (k : ℕ) (c : Client) (at : slice_get w.desk.clients.items k ≡ Some c) (leaves : is_leaving c ≡ true) where
    -- a client's request went
    module _ (x : Cargo) (moves : (part : Option Part) → OneMoved w.desk d k part [] (x ∷ []) [] []) (numbered : number_of x ≡ w.number) (now : Client) (there : slice_get d.clients.items k ≡ Some now) (of : IsRequestOf now x) (line : d.line.shown ≡ w.desk.line.shown ++ k ∷ []) where
      goes_stands : (start : Paged) (back ss : List Cargo) (came gave : ℕ → List Cargo) → WorkStands w start back came ss gave → WorkStands (record w { desk = d; number = (w.number + 1) % 2 ^ 32 }) start back came (ss ++ x ∷ []) gave
      goes_stands start back ss came gave h =
          let o = opened w start back ss came gave h is_opened in
          let more : ss ++ x ∷ [] ≡ first_read w.opening.base start ∷ (o.1 ++ x ∷ []) = ap (λ (l : List Cargo). l ++ x ∷ []) o.3 in
          let rest : drop 1 (ss ++ x ∷ []) ≡ drop 1 ss ++ x ∷ [] = ap (drop 1) more ∙ sym (ap (λ (l : List Cargo). drop 1 l ++ x ∷ []) o.3) in
          record {
            is_start = h.is_start;
            opens = subst (λ (v : Option Block). OpeningStands w.opening w.opening.first v start (ss ++ x ∷ []) back) (sym o.5) (subst (λ (f : Option Cargo). OpeningStands w.opening f (Some (block_of w.opening.disk_sectors o.0)) start (ss ++ x ∷ []) back) (sym o.6)
                (o.0, o.1 ++ x ∷ [], o.2, more, o.4, refl));
            serves = λ parts knows.
                let part = parts c.holder.partition in
                let m = moves part in
                let was : m.was ≡ c = some_eq (sym m.there ∙ at) in
                let mine : now ≡ m.now = some_eq (sym there ∙ (ap (λ cs. slice_get cs k) m.clients ∙ slice_get_written w.desk.clients.items k m.was m.now m.there)) in
                subst (λ l. DeskStands d parts came l (drop 1 back) gave) (sym rest)
                (subst (λ l. DeskStands d parts l (drop 1 ss ++ x ∷ []) (drop 1 back) gave) (none_lists came k)
                (subst (λ l. DeskStands d parts (with_more came k []) (drop 1 ss ++ x ∷ []) (drop 1 back) l) (none_lists gave k)
                (goes w.desk d work.desk k part [] (x ∷ []) [] [] m parts (ap (λ (v : Client). parts v.holder.partition) was) came gave (drop 1 ss) (drop 1 back) (h.serves parts knows) x refl refl (ap is_away was ∙ leaving_not_away c leaves) line (subst (λ (v : Client). IsRequestOf v x) mine of))));
            quiet = λ e j low. h.quiet e j (subst (λ hs. j < length hs) (same_holders w.desk d work.desk k None [] (x ∷ []) [] [] (moves None)) low);
            numbered = λ j y is. number_at j y (last_at ss x j y is) h.numbered h.number;
            number = ap (λ n. (n + 1) % 2 ^ 32) h.number ∙ (mod-add-mod (length ss) (2 ^ 32) 1 ∙ sym (ap (λ n. n % 2 ^ 32) (length-append ss (x ∷ []))));
          }
        where
          number_at : (j : ℕ) (y : Cargo) → (slice_get ss j ≡ Some y) ⊎ ((x ≡ y) × (j ≡ length ss)) → ((i : ℕ) (z : Cargo) → slice_get ss i ≡ Some z → number_of z ≡ i % 2 ^ 32) → w.number ≡ length ss % 2 ^ 32 → number_of y ≡ j % 2 ^ 32
          number_at j y (inl is) all n = all j y is
          number_at j y (inr e) all n = ap number_of (sym e.0) ∙ (numbered ∙ (n ∙ ap (λ i. i % 2 ^ 32) (sym e.1)))

      pub goes_sent : Sent w (record w { desk = d; number = (w.number + 1) % 2 ^ 32 }) (x ∷ [])
      goes_sent = record {
        stands = goes_stands;
        held = λ f.
            let was = work_parts f w.opening.first w.opening.block (desk_cargo w.desk) w.stray in
            let now = work_parts f w.opening.first w.opening.block (desk_cargo d) w.stray in
            let m = moved_held w.desk d work.desk k None [] (x ∷ []) [] [] (moves None) f in
            omega (arith, was, now, m);
      }

    -- it stays
    module _ (moves : (part : Option Part) → OneMoved w.desk d k part [] [] [] []) (line : d.line.shown ≡ w.desk.line.shown) where
      pub stays_sent : Sent w (record w { desk = d }) []
      stays_sent = record {
        stands = λ start back ss came gave h. rw (append-nil ss) (record {
          is_start = h.is_start;
          opens = h.opens;
          serves = λ parts knows.
              let part = parts c.holder.partition in
              let m = moves part in
              let was : m.was ≡ c = some_eq (sym m.there ∙ at) in
              subst (λ l. DeskStands d parts l (drop 1 ss) (drop 1 back) gave) (none_lists came k)
              (subst (λ l. DeskStands d parts (with_more came k []) (drop 1 ss) (drop 1 back) l) (none_lists gave k)
              (stays w.desk d work.desk k part [] [] [] [] m parts (ap (λ (v : Client). parts v.holder.partition) was) came gave (drop 1 ss) (drop 1 back) (h.serves parts knows) (ap is_away was ∙ leaving_not_away c leaves) refl refl line));
          quiet = λ e j low. h.quiet e j (subst (λ hs. j < length hs) (same_holders w.desk d work.desk k None [] [] [] [] (moves None)) low);
          numbered = h.numbered;
          number = h.number;
        });
        held = λ f.
            let was = work_parts f w.opening.first w.opening.block (desk_cargo w.desk) w.stray in
            let now = work_parts f w.opening.first w.opening.block (desk_cargo d) w.stray in
            let m = moved_held w.desk d work.desk k None [] [] [] [] (moves None) f in
            omega (arith, was, now, m);
      }

  -- an answer went to a client, or stays
  module _ (d : Desk) (k : ℕ) (given : List Cargo) (c : Client) (at : slice_get w.desk.clients.items k ≡ Some c) (idle : is_away c ≡ false) (moves : (part : Option Part) → OneMoved w.desk d k part [] [] [] given) (line : d.line.shown ≡ w.desk.line.shown) where
    pub answer_gave : Gave w (record w { desk = d }) k given
    answer_gave = record {
      stands = λ start back ss came gave h. record {
        is_start = h.is_start;
        opens = h.opens;
        serves = λ parts knows.
            let part = parts c.holder.partition in
            let m = moves part in
            let was : m.was ≡ c = some_eq (sym m.there ∙ at) in
            subst (λ l. DeskStands d parts l (drop 1 ss) (drop 1 back) (with_more gave k given)) (none_lists came k)
            (stays w.desk d work.desk k part [] [] [] given m parts (ap (λ (v : Client). parts v.holder.partition) was) came gave (drop 1 ss) (drop 1 back) (h.serves parts knows) (ap is_away was ∙ idle) refl refl line);
        quiet = λ e j low. h.quiet e j (subst (λ hs. j < length hs) (same_holders w.desk d work.desk k None [] [] [] given (moves None)) low);
        numbered = h.numbered;
        number = h.number;
      };
      held = λ f.
          let was = work_parts f w.opening.first w.opening.block (desk_cargo w.desk) w.stray in
          let now = work_parts f w.opening.first w.opening.block (desk_cargo d) w.stray in
          let m = moved_held w.desk d work.desk k None [] [] [] given (moves None) f in
          omega (arith, was, now, m);
    }

-- where the desk is as it was, so is the rest
pub still_work : (w : Work) (d : Desk) (n : ℕ) → IsStill w.desk d → WorkIsStill w (record w { desk = d; number = n })
still_work w d n s = record {
  wants = λ k. ap (λ b. is_none w.stray && (is_open w.opening && b)) (s.needs k);
  gives = λ k. ap (λ b. is_none w.stray && b) (s.loads k);
  owing = ap (λ b. is_none w.stray && (is_reading w.opening || (is_open w.opening && b))) s.owed;
  free = refl;
}

pub held_not_away : (w : Desk) → IsDesk w → (k : ℕ) (c : Client) → slice_get w.clients.items k ≡ Some c → is_held c ≡ true → is_away c ≡ false
held_not_away w h k c at t = by (is_some c.current) refl
  where
    by : (b : Bool) → is_some c.current ≡ b → is_away c ≡ false
    by true e = let none = (h.each k c at).alone e in let f = ap (λ (o : Option Cargo). is_some o) none in absurd cc
    by false e = ap (λ b. b && is_none c.leaving) e

module _ (w : Work) (work : IsWork w) (x : Cargo) (is : w.opening.first ≡ Some x) (left put : Option Cargo) where
  pub first_went : is_some left ≡ false → ((left ≡ None) × (option_to_list put ≡ x ∷ [])) ⊎ ((left ≡ Some x) × (option_to_list put ≡ [])) → Sent w (record w { opening = record w.opening { first = left }; number = 1 }) (option_to_list put)
  first_went none (inl e) = rw (e.0, e.1) (first_sent w work x is)
  first_went none (inr e) = let t = ap (λ (o : Option Cargo). is_some o) e.0 in absurd cc

  pub first_stays : is_some left ≡ true → ((left ≡ None) × (option_to_list put ≡ x ∷ [])) ⊎ ((left ≡ Some x) × (option_to_list put ≡ [])) → Sent w (record w { opening = record w.opening { first = left } }) (option_to_list put)
  first_stays some (inl e) = let f = ap (λ (o : Option Cargo). is_some o) e.0 in absurd cc
  first_stays some (inr e) = rw (e.1) (subst (λ (o : Option Cargo). Sent w (record w { opening = record w.opening { first = o } }) []) (is ∙ sym e.0) (nothing_sent w work))

-- a client's request went, or stays, by what the event tells
module _ (w : Work) (work : IsWork w) (is_opened : is_open w.opening ≡ true) (d : Desk) (k : ℕ) (c : Client) (at : slice_get w.desk.clients.items k ≡ Some c) (leaves : is_leaving c ≡ true) (put : List Cargo) (moves : (part : Option Part) → OneMoved w.desk d k part [] put [] []) where
  pub request_went : (y : Cargo) → put ≡ y ∷ [] → SentAs w.desk d k w.number put → Sent w (record w { desk = d; number = (w.number + 1) % 2 ^ 32 }) put
  request_went y one (inl e) = let f : y ∷ [] ≡ [] = sym one ∙ e.0 in absurd cc
  request_went y one (inr (x, now, is, numbered, there, of, line)) = subst (λ l. Sent w (record w { desk = d; number = (w.number + 1) % 2 ^ 32 }) l) (sym is) (goes_sent w work is_opened d k c at leaves x (λ part. subst (λ l. OneMoved w.desk d k part [] l [] []) is (moves part)) numbered now there of line)

  pub request_stays : put ≡ [] → SentAs w.desk d k w.number put → Sent w (record w { desk = d }) put
  request_stays none (inl e) = subst (λ l. Sent w (record w { desk = d }) l) (sym e.0) (stays_sent w work is_opened d k c at leaves (λ part. subst (λ l. OneMoved w.desk d k part [] l [] []) e.0 (moves part)) e.1)
  request_stays none (inr (x, now, is, numbered, there, of, line)) = let f : [] ≡ x ∷ [] = sym none ∙ is in absurd cc
