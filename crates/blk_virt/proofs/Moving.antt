-- What a client stands for after it was served further.
use Rattle.std.proofs.Common.{◌≡◌, ◌⊎◌, inl, inr, ◌+◌, ◌&&◌, ℕ, Bool, true, false, is_some, is_none, Option, Some, None, List, [], ◌∷◌, ◌++◌, length, map, refl, sym, ap, ◌∙◌, subst, length-append, arith}
use Rattle.std.specs.List.{filter}
use Rattle.std.specs.Option.{option_to_list}
use Rattle.std.proofs.lemmas.List.{append-nil, map-append}
use Rattle.cargo_core.specs.Items.{kind_of}
use Rattle.wire_core.specs.Deeds.{Cargo}
use Rattle.blk_mbr.specs.declared.part.Part.{Part}
use Rattle.buffer_kit.specs.Conserving.{Count, weighed}
use Rattle.buffer_kit.proofs.Conserving.{weighed-append}
use Rattle.buffer_kit.proofs.ManyClients.{some_eq}
use Rattle.blk_virt.specs.declared.client.Client.{Client}
use Rattle.blk_virt.specs.declared.client.Current.{Current}
use Rattle.blk_virt.specs.Requests.{goes_on, for_disk, numbered, number_of, refusal, passed_on, page_named, brings, is_at}
use Rattle.blk_virt.specs.Serving.{answers_to, AllBring, unnumbered}
use Rattle.blk_virt.specs.Clients.{IsClient, ClientStands, Moved, IsPending, IsOfPage, WentOff, client_cargo, counted}
use Rattle.blk_virt.proofs.Serving.{filter_yes, filter_no, refused_more, answered_more, bring_more, own_page, numbered_disk}
use Rattle.blk_virt.proofs.Judging.{at_disk, bad_more}

pub idle_parts : (current : Option Current) (held : Option Cargo) → (is_none current && is_none held) ≡ true → (current ≡ None) × (held ≡ None)
idle_parts None None h = (refl, refl)
idle_parts None (Some x) h = cc
idle_parts (Some c) held h = cc

pub away_parts : (current : Option Current) (leaving : Option Cargo) → (is_some current && is_none leaving) ≡ true → ((c : Current) × (current ≡ Some c)) × (leaving ≡ None)
away_parts (Some c) None h = ((c, refl), refl)
away_parts (Some c) (Some x) h = cc
away_parts None leaving h = cc

some_is : (o : Option Current) (c : Current) → o ≡ Some c → is_some o ≡ true
some_is None c h = cc
some_is (Some x) c h = refl

-- nothing leaves where no request is under way
none_leaving : (o : Option Cargo) (current : Option Current) → ((y : Cargo) → o ≡ Some y → IsOfPage current y) → current ≡ None → o ≡ None
none_leaving None current h none = refl
none_leaving (Some y) None h none = absurd (h y refl)
none_leaving (Some y) (Some x) h none = cc

same_page : (current : Option Current) (x y : Cargo) → x.1 ≡ y.1 → IsOfPage current x → IsOfPage current y
same_page None x y e h = h
same_page (Some c) x y e h = ap page_named (sym e) ∙ h

-- what it has, part by part
pub parts : (f : Count) (leaving held : Option Cargo) → weighed f (option_to_list leaving ++ option_to_list held) ≡ weighed f (option_to_list leaving) + weighed f (option_to_list held)
parts f leaving held = weighed-append f (option_to_list leaving) (option_to_list held)

module _ (c : Client) (work : IsClient c) (part : Option Part) where
  -- a request came
  module _ (x : Cargo) (idle : (c.current ≡ None) × (c.held ≡ None)) where
    no_leaving : c.leaving ≡ None
    no_leaving = none_leaving c.leaving c.current (λ y at. (work.leaves y at).2) idle.0

    module _ (cs ss bs gs : List Cargo) (h : ClientStands c part cs ss bs gs) where
      all_earlier : h.earlier ≡ cs
      all_earlier = sym (append-nil h.earlier) ∙ (ap (λ l. h.earlier ++ l) (sym (subst (λ (o : Option Current). IsPending c.holder part o h.pending) idle.0 h.is_pending)) ∙ h.came_are)

      all_gave : gs ≡ gs ++ option_to_list c.held
      all_gave = sym (append-nil gs) ∙ ap (λ (o : Option Cargo). gs ++ option_to_list o) (sym idle.1)

      all_sent : unnumbered ss ≡ map (for_disk c.holder part) (filter (goes_on c.holder part) cs)
      all_sent = ap unnumbered (sym (append-nil ss) ∙ ap (λ (o : Option Cargo). ss ++ option_to_list o) (sym no_leaving)) ∙ h.sends

      accept_stands : goes_on c.holder part x ≡ true → ClientStands (record c { current = Some (record { id = number_of x; page = page_named x.1 }); leaving = Some (for_disk c.holder part x); bad = counted c.holder c.bad x }) part (cs ++ x ∷ []) ss bs gs
      accept_stands goes = record {
        earlier = h.earlier;
        pending = x ∷ [];
        came_are = ap (λ (l : List Cargo). l ++ x ∷ []) all_earlier;
        is_pending = (x, refl, record { goes = goes; id = refl; page = refl });
        sends = map-append (numbered 0) ss (for_disk c.holder part x ∷ [])
            ∙ (ap (λ l. unnumbered ss ++ l ∷ []) (numbered_disk c.holder part x)
            ∙ (ap (λ (l : List Cargo). l ++ for_disk c.holder part x ∷ []) all_sent
            ∙ (sym (map-append (for_disk c.holder part) (filter (goes_on c.holder part) cs) (x ∷ [])) ∙ ap (map (for_disk c.holder part)) (sym (filter_yes (goes_on c.holder part) cs x goes)))));
        answers = h.answers;
        whole = h.whole;
        buffers = h.buffers;
        as_many = h.as_many;
        bad_many = bad_more c.holder c.bad cs x h.bad_many;
      }

      refuse_stands : goes_on c.holder part x ≡ false → ClientStands (record c { held = Some (refusal c.holder part x); bad = counted c.holder c.bad x }) part (cs ++ x ∷ []) ss bs gs
      refuse_stands stops = record {
        earlier = h.earlier ++ x ∷ [];
        pending = [];
        came_are = append-nil (h.earlier ++ x ∷ []) ∙ ap (λ (l : List Cargo). l ++ x ∷ []) all_earlier;
        is_pending = subst (λ (o : Option Current). IsPending c.holder part o []) (sym idle.0) refl;
        sends = h.sends ∙ ap (map (for_disk c.holder part)) (sym (filter_no (goes_on c.holder part) cs x stops));
        answers = ap (λ (l : List Cargo). l ++ refusal c.holder part x ∷ []) (all_gave ∙ h.answers) ∙ sym (refused_more c.holder part h.earlier bs x h.whole stops);
        whole = h.whole ∙ ap length (sym (filter_no (goes_on c.holder part) h.earlier x stops));
        buffers = bring_more h.earlier gs x (refusal c.holder part x) (ap length all_gave ∙ h.as_many) (subst (λ (l : List Cargo). AllBring h.earlier l) (sym all_gave) h.buffers) (own_page x);
        as_many = let a = length-append gs (refusal c.holder part x ∷ []) in let b = length-append h.earlier (x ∷ []) in let e = ap length all_gave ∙ h.as_many in omega (arith, a, b, e);
        bad_many = bad_more c.holder c.bad cs x h.bad_many;
      }

    empty_hand : (f : Count) → weighed f (client_cargo c) ≡ 0
    empty_hand f =
        let all = parts f c.leaving c.held in
        let a = ap (λ (o : Option Cargo). weighed f (option_to_list o)) no_leaving in
        let b = ap (λ (o : Option Cargo). weighed f (option_to_list o)) idle.1 in
        omega (arith, all, a, b)

    pub accepted : goes_on c.holder part x ≡ true → Moved part c (record c { current = Some (record { id = number_of x; page = page_named x.1 }); leaving = Some (for_disk c.holder part x); bad = counted c.holder c.bad x }) (x ∷ []) [] [] []
    accepted goes = record {
      work = record {
        some = work.some;
        entry = work.entry;
        room = work.room;
        leaves = λ y at. (ap (λ (z : Cargo). kind_of z.0) (sym (some_eq at)), subst (λ (z : Cargo). is_at c.holder z ≡ true) (some_eq at) (at_disk c.holder part x work.some goes), ap (λ (z : Cargo). page_named z.1) (sym (some_eq at)));
        alone = λ t. idle.1;
        answer = work.answer;
      };
      holder = refl;
      stands = λ cs ss bs gs h. rw (append-nil ss, append-nil bs, append-nil gs) (accept_stands cs ss bs gs h goes);
      held = λ f.
          let none = empty_hand f in
          let now = parts f (Some (for_disk c.holder part x)) c.held in
          let b = ap (λ (o : Option Cargo). weighed f (option_to_list o)) idle.1 in
          omega (arith, none, now, b);
    }

    pub refused : goes_on c.holder part x ≡ false → Moved part c (record c { held = Some (refusal c.holder part x); bad = counted c.holder c.bad x }) (x ∷ []) [] [] []
    refused stops = record {
      work = record {
        some = work.some;
        entry = work.entry;
        room = work.room;
        leaves = work.leaves;
        alone = λ t. let f = ap (λ (p : Option Current). is_some p) idle.0 in absurd cc;
        answer = λ y at. ap (λ (z : Cargo). kind_of z.0) (sym (some_eq at));
      };
      holder = refl;
      stands = λ cs ss bs gs h. rw (append-nil ss, append-nil bs, append-nil gs) (refuse_stands cs ss bs gs h stops);
      held = λ f.
          let none = empty_hand f in
          let now = parts f c.leaving (Some (refusal c.holder part x)) in
          let a = ap (λ (o : Option Cargo). weighed f (option_to_list o)) no_leaving in
          omega (arith, none, now, a);
    }

  -- the disk's response came
  module _ (cur : Current) (at : c.current ≡ Some cur) (gone : c.leaving ≡ None) (y : Cargo) (own : brings cur.page y.1 ≡ true) (id : ℕ) (same : id ≡ cur.id) where
    no_held : c.held ≡ None
    no_held = work.alone (some_is c.current cur at)

    back_stands : (cs ss bs gs : List Cargo) → ClientStands c part cs ss bs gs → ClientStands (record c { current = None; held = Some (passed_on id y) }) part cs ss (bs ++ y ∷ []) gs
    back_stands cs ss bs gs h =
        let p = subst (λ (o : Option Current). IsPending c.holder part o h.pending) at h.is_pending in
        let all : gs ≡ gs ++ option_to_list c.held = sym (append-nil gs) ∙ ap (λ (o : Option Cargo). gs ++ option_to_list o) (sym no_held) in
        record {
          earlier = h.earlier ++ p.0 ∷ [];
          pending = [];
          came_are = append-nil (h.earlier ++ p.0 ∷ []) ∙ (ap (λ l. h.earlier ++ l) (sym p.1) ∙ h.came_are);
          is_pending = refl;
          sends = h.sends;
          answers = ap (λ (l : List Cargo). l ++ passed_on id y ∷ []) (all ∙ h.answers)
              ∙ (ap (λ n. answers_to c.holder part h.earlier bs ++ passed_on n y ∷ []) (same ∙ sym p.2.id) ∙ sym (answered_more c.holder part h.earlier bs p.0 y h.whole p.2.goes));
          whole = let a = length-append bs (y ∷ []) in let b = length-append (filter (goes_on c.holder part) h.earlier) (p.0 ∷ []) in let e = ap length (filter_yes (goes_on c.holder part) h.earlier p.0 p.2.goes) in omega (arith, a, b, e, h.whole);
          buffers = bring_more h.earlier gs p.0 (passed_on id y) (ap length all ∙ h.as_many) (subst (λ (l : List Cargo). AllBring h.earlier l) (sym all) h.buffers) (ap (λ n. brings n y.1) p.2.page ∙ own);
          as_many = let a = length-append gs (passed_on id y ∷ []) in let b = length-append h.earlier (p.0 ∷ []) in let e = ap length all ∙ h.as_many in omega (arith, a, b, e);
          bad_many = h.bad_many;
        }

    pub came_back : Moved part c (record c { current = None; held = Some (passed_on id y) }) [] [] (y ∷ []) []
    came_back = record {
      work = record {
        some = work.some;
        entry = work.entry;
        room = work.room;
        leaves = λ z is. let no : None ≡ Some z = sym gone ∙ is in absurd cc;
        alone = λ t. absurd cc;
        answer = λ z is. ap (λ (v : Cargo). kind_of v.0) (sym (some_eq is));
      };
      holder = refl;
      stands = λ cs ss bs gs h. rw (append-nil cs, append-nil ss, append-nil gs) (back_stands cs ss bs gs h);
      held = λ f.
          let was = parts f c.leaving c.held in
          let now = parts f c.leaving (Some (passed_on id y)) in
          let a = ap (λ (o : Option Cargo). weighed f (option_to_list o)) no_held in
          omega (arith, was, now, a);
    }

  -- the request that leaves got its number, and went or stayed
  module _ (l : Cargo) (at : c.leaving ≡ Some l) (n : ℕ) where
    same_ones : (ss : List Cargo) → unnumbered (ss ++ numbered n l ∷ []) ≡ unnumbered (ss ++ option_to_list c.leaving)
    same_ones ss = map-append (numbered 0) ss (numbered n l ∷ []) ∙ (sym (map-append (numbered 0) ss (l ∷ [])) ∙ ap (λ (o : Option Cargo). unnumbered (ss ++ option_to_list o)) (sym at))

    pub went : Moved part c (record c { leaving = None }) [] (numbered n l ∷ []) [] []
    went = record {
      work = record {
        some = work.some;
        entry = work.entry;
        room = work.room;
        leaves = λ z is. absurd cc;
        alone = work.alone;
        answer = work.answer;
      };
      holder = refl;
      stands = λ cs ss bs gs h. rw (append-nil cs, append-nil bs, append-nil gs) (record {
        earlier = h.earlier;
        pending = h.pending;
        came_are = h.came_are;
        is_pending = h.is_pending;
        sends = ap unnumbered (append-nil (ss ++ numbered n l ∷ [])) ∙ (same_ones ss ∙ h.sends);
        answers = h.answers;
        whole = h.whole;
        buffers = h.buffers;
        as_many = h.as_many;
        bad_many = h.bad_many;
      });
      held = λ f.
          let was = parts f c.leaving c.held in
          let now = parts f None c.held in
          let a = ap (λ (o : Option Cargo). weighed f (option_to_list o)) at in
          omega (arith, was, now, a);
    }

    pub stayed : Moved part c (record c { leaving = Some (numbered n l) }) [] [] [] []
    stayed = record {
      work = record {
        some = work.some;
        entry = work.entry;
        room = work.room;
        leaves = λ z is. (ap (λ (v : Cargo). kind_of v.0) (sym (some_eq is)), subst (λ (v : Cargo). is_at c.holder v ≡ true) (some_eq is) (work.leaves l at).1, subst (λ (v : Cargo). IsOfPage c.current v) (some_eq is) (same_page c.current l (numbered n l) refl (work.leaves l at).2));
        alone = work.alone;
        answer = work.answer;
      };
      holder = refl;
      stands = λ cs ss bs gs h. rw (append-nil cs, append-nil ss, append-nil bs, append-nil gs) (record {
        earlier = h.earlier;
        pending = h.pending;
        came_are = h.came_are;
        is_pending = h.is_pending;
        sends = same_ones ss ∙ h.sends;
        answers = h.answers;
        whole = h.whole;
        buffers = h.buffers;
        as_many = h.as_many;
        bad_many = h.bad_many;
      });
      held = λ f.
          let was = parts f c.leaving c.held in
          let now = parts f (Some (numbered n l)) c.held in
          let a = ap (λ (o : Option Cargo). weighed f (option_to_list o)) at in
          omega (arith, was, now, a);
    }

  -- the answer went to the client
  module _ (a : Cargo) (at : c.held ≡ Some a) where
    pub gave : Moved part c (record c { held = None }) [] [] [] (a ∷ [])
    gave = record {
      work = record {
        some = work.some;
        entry = work.entry;
        room = work.room;
        leaves = work.leaves;
        alone = λ t. refl;
        answer = λ z is. absurd cc;
      };
      holder = refl;
      stands = λ cs ss bs gs h.
          let same : (gs ++ a ∷ []) ++ [] ≡ gs ++ option_to_list c.held = append-nil (gs ++ a ∷ []) ∙ ap (λ (o : Option Cargo). gs ++ option_to_list o) (sym at) in
          rw (append-nil cs, append-nil ss, append-nil bs) (record {
            earlier = h.earlier;
            pending = h.pending;
            came_are = h.came_are;
            is_pending = h.is_pending;
            sends = h.sends;
            answers = same ∙ h.answers;
            whole = h.whole;
            buffers = subst (λ (l : List Cargo). AllBring h.earlier l) (sym same) h.buffers;
            as_many = ap length same ∙ h.as_many;
            bad_many = h.bad_many;
          });
      held = λ f.
          let was = parts f c.leaving c.held in
          let now = parts f c.leaving None in
          let b = ap (λ (o : Option Cargo). weighed f (option_to_list o)) at in
          omega (arith, was, now, b);
    }

  -- nothing moved
  pub still : Moved part c c [] [] [] []
  still = record {
    work = work;
    holder = refl;
    stands = λ cs ss bs gs h. rw (append-nil cs, append-nil ss, append-nil bs, append-nil gs) h;
    held = λ f. refl;
  }

-- a request is under way where one leaves
kept_page : (current : Option Current) (x : Cargo) → IsOfPage current x → (is_some current ≡ true) × ((c : Current) → current ≡ Some c → page_named x.1 ≡ c.page)
kept_page None x h = absurd h
kept_page (Some c) x h = (refl, λ d e. h ∙ ap (λ (v : Current). v.page) (some_eq e))

-- what is put, where one was there: it, or nothing
pub put_cases : (load put left : Option Cargo) (x : Cargo) → load ≡ Some x → option_to_list load ≡ option_to_list put ++ option_to_list left → ((left ≡ None) × (option_to_list put ≡ x ∷ [])) ⊎ ((left ≡ Some x) × (option_to_list put ≡ []))
put_cases load None None x is h = let no : [] ≡ x ∷ [] = sym h ∙ ap option_to_list is in absurd cc
put_cases load None (Some y) x is h = let e : y ∷ [] ≡ x ∷ [] = sym h ∙ ap option_to_list is in inr (ap Some cc, refl)
put_cases load (Some p) None x is h = inl (refl, sym h ∙ ap option_to_list is)
put_cases load (Some p) (Some y) x is h = let no : p ∷ (y ∷ []) ≡ x ∷ [] = sym h ∙ ap option_to_list is in absurd cc

pub there_is : (o : Option Cargo) → is_some o ≡ true → (x : Cargo) × (o ≡ Some x)
there_is None h = cc
there_is (Some x) h = (x, refl)

module _ (c : Client) (work : IsClient c) (l : Cargo) (at : c.leaving ≡ Some l) (n : ℕ) where
  -- the request that left went, or stays
  pub send_moved : (part : Option Part) (left put : Option Cargo) → ((left ≡ None) × (option_to_list put ≡ numbered n l ∷ [])) ⊎ ((left ≡ Some (numbered n l)) × (option_to_list put ≡ [])) → Moved part c (record c { leaving = left }) [] (option_to_list put) [] []
  send_moved part left put (inl e) = rw (e.0, e.1) (went c work part l at n)
  send_moved part left put (inr e) = rw (e.0, e.1) (stayed c work part l at n)

  pub send_went : (left put : Option Cargo) → is_some left ≡ false → ((left ≡ None) × (option_to_list put ≡ numbered n l ∷ [])) ⊎ ((left ≡ Some (numbered n l)) × (option_to_list put ≡ [])) → WentOff c (record c { leaving = left }) n (option_to_list put)
  send_went left put none (inl e) =
      let k = kept_page c.current l (work.leaves l at).2 in
      record {
        entry = numbered n l;
        sent_is = e.1;
        number = refl;
        at = (work.leaves l at).1;
        page = k.1;
        away = ap (λ (o : Option Cargo). is_some c.current && is_none o) e.0 ∙ ap (λ b. b && true) k.0;
      }
  send_went left put none (inr e) = let t = ap (λ (o : Option Cargo). is_some o) e.0 in absurd cc

  pub send_stays : (left put : Option Cargo) → is_some left ≡ true → ((left ≡ None) × (option_to_list put ≡ numbered n l ∷ [])) ⊎ ((left ≡ Some (numbered n l)) × (option_to_list put ≡ [])) → ((is_some c.current && is_none left) ≡ false) × (option_to_list put ≡ [])
  send_stays left put some (inl e) = let f = ap (λ (o : Option Cargo). is_some o) e.0 in absurd cc
  send_stays left put some (inr e) = (ap (λ (o : Option Cargo). is_some c.current && is_none o) e.0 ∙ and_false (is_some c.current), e.1)
    where
      and_false : (b : Bool) → (b && false) ≡ false
      and_false true = refl
      and_false false = refl

-- the answer went, or stays
pub give_moved : (c : Client) → IsClient c → (a : Cargo) → c.held ≡ Some a → (part : Option Part) (left put : Option Cargo) → ((left ≡ None) × (option_to_list put ≡ a ∷ [])) ⊎ ((left ≡ Some a) × (option_to_list put ≡ [])) → Moved part c (record c { held = left }) [] [] [] (option_to_list put)
give_moved c work a at part left put (inl e) = rw (e.0, e.1) (gave c work part a at)
give_moved c work a at part left put (inr e) = rw (e.0, e.1, ← at) (still c work part)
