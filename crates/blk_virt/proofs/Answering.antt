-- All clients stand for what passed after one of them was served further.
use Rattle.std.proofs.Common.{◌≡◌, ◌⊎◌, ◌+◌, ◌≤◌, ◌==◌, ℕ, zero, suc, Bool, true, false, if◌then◌else◌, inl, inr, Option, Some, List, [], ◌∷◌, ◌++◌, length, map, flat_map, slice_get, slice_set, refl, sym, ap, ◌∙◌, subst, append_assoc, eq-eqb, ne_eqb, length-append, arith}
use Rattle.std.proofs.Math.Seq.{map-set_same}
use Rattle.std.proofs.lemmas.Bool.{cases_eq}
use Rattle.std.proofs.lemmas.Option.{get_or_from_slice_get}
use Rattle.std.proofs.lemmas.List.{append-nil, length-set}
use Rattle.cargo_core.specs.Ranges.{AreRanges}
use Rattle.wire_core.specs.Bells.{bit}
use Rattle.wire_core.specs.Deeds.{Cargo}
use Rattle.wire_core.proofs.Places.{slice_get_written, slice_get_beside}
use Rattle.turn_kit.proofs.Offers.{get_map}
use Rattle.blk_mbr.specs.declared.part.Part.{Part}
use Rattle.buffer_kit.specs.Conserving.{Count, weighed}
use Rattle.buffer_kit.proofs.ManyClients.{some_eq, weighed_set, now_or_was, now_there, there_more, other_more}
use Rattle.blk_virt.specs.declared.client.Client.{Client}
use Rattle.blk_virt.specs.declared.desk.Desk.{Desk}
use Rattle.blk_virt.specs.declared.requests.Holder.{Holder}
use Rattle.blk_virt.specs.Requests.{request_of, is_at, range_of}
use Rattle.blk_virt.specs.Serving.{own_of, own_back}
use Rattle.blk_virt.specs.Clients.{IsClient, ClientStands, client_cargo, is_away}
use Rattle.blk_virt.specs.Desks.{IsDesk, DeskStands, OneMoved, LineMoves, IsRequestOf, AreOf, IsSomeones, holders, times, away_many, away_at, with_more, desk_cargo}
use Rattle.blk_virt.proofs.Serving.{own_more, own_beside}
use Rattle.blk_virt.proofs.Desking.{first_is}

-- responses at a client's buffers, where more is sent or answered
back_none : (h : Holder) (xs : List Cargo) → own_back h xs [] ≡ []
back_none h [] = refl
back_none h (x ∷ xs) = refl

back_longer : (h : Holder) (sent more back : List Cargo) → length back ≤ length sent → own_back h (sent ++ more) back ≡ own_back h sent back
back_longer h [] more [] few = back_none h more
back_longer h [] more (y ∷ back) few = absurd (omega (arith, few))
back_longer h (x ∷ sent) more [] few = refl
back_longer h (x ∷ sent) more (y ∷ back) few = ap (λ l. if is_at h x then (y ∷ l) else l) (back_longer h sent more back (omega (arith, few)))

back_yes : (h : Holder) (answered rest : List Cargo) (x y : Cargo) (back : List Cargo) → length answered ≡ length back → is_at h x ≡ true → own_back h (answered ++ x ∷ rest) (back ++ y ∷ []) ≡ own_back h (answered ++ x ∷ rest) back ++ y ∷ []
back_yes h [] rest x y [] e t = ap (λ b. if b then (y ∷ own_back h rest []) else own_back h rest []) t ∙ ap (λ l. y ∷ l) (back_none h rest)
back_yes h [] rest x y (b ∷ back) e t = absurd (omega (arith, e))
back_yes h (a ∷ answered) rest x y [] e t = absurd (omega (arith, e))
back_yes h (a ∷ answered) rest x y (b ∷ back) e t = by (is_at h a) (back_yes h answered rest x y back (omega (arith, e)) t)
  where
    by : (s : Bool) → own_back h (answered ++ x ∷ rest) (back ++ y ∷ []) ≡ own_back h (answered ++ x ∷ rest) back ++ y ∷ [] → (if s then (b ∷ own_back h (answered ++ x ∷ rest) (back ++ y ∷ [])) else own_back h (answered ++ x ∷ rest) (back ++ y ∷ [])) ≡ (if s then (b ∷ own_back h (answered ++ x ∷ rest) back) else own_back h (answered ++ x ∷ rest) back) ++ y ∷ []
    by true rec = ap (λ l. b ∷ l) rec
    by false rec = rec

back_no : (h : Holder) (answered rest : List Cargo) (x y : Cargo) (back : List Cargo) → length answered ≡ length back → is_at h x ≡ false → own_back h (answered ++ x ∷ rest) (back ++ y ∷ []) ≡ own_back h (answered ++ x ∷ rest) back
back_no h [] rest x y [] e f = ap (λ b. if b then (y ∷ own_back h rest []) else own_back h rest []) f ∙ back_none h rest
back_no h [] rest x y (b ∷ back) e f = absurd (omega (arith, e))
back_no h (a ∷ answered) rest x y [] e f = absurd (omega (arith, e))
back_no h (a ∷ answered) rest x y (b ∷ back) e f = ap (λ l. if is_at h a then (b ∷ l) else l) (back_no h answered rest x y back (omega (arith, e)) f)

-- the line and the requests of those in it
times_more : (k j : ℕ) (ks : List ℕ) → times k (ks ++ j ∷ []) ≡ times k ks + bit (j == k)
times_more k j [] = omega arith
times_more k j (i ∷ ks) = let e = times_more k j ks in omega (arith, e)

of_same : (cs : List Client) (k : ℕ) (d : Client) (ks : List ℕ) (xs : List Cargo) → times k ks ≡ 0 → AreOf cs ks xs → AreOf (slice_set cs k d) ks xs
of_same cs k d [] [] e h = tt
of_same cs k d [] (x ∷ xs) e h = absurd h
of_same cs k d (j ∷ ks) [] e h = absurd h
of_same cs k d (j ∷ ks) (x ∷ xs) e h =
    let none : bit (j == k) ≡ 0 = omega (arith, e) in
    let ne : j ≡ k → ⊥ = λ same. (let one = ap bit (eq-eqb j k same) in let z = none in absurd (omega (arith, one, z))) in
    ((h.0.0, slice_get_beside cs k j d ne ∙ h.0.1, h.0.2), of_same cs k d ks xs (omega (arith, e)) h.1)

of_more : (cs : List Client) (k : ℕ) (c : Client) (x : Cargo) (ks : List ℕ) (xs : List Cargo) → slice_get cs k ≡ Some c → IsRequestOf c x → AreOf cs ks xs → AreOf cs (ks ++ k ∷ []) (xs ++ x ∷ [])
of_more cs k c x [] [] at is h = ((c, at, is), tt)
of_more cs k c x [] (y ∷ xs) at is h = absurd h
of_more cs k c x (j ∷ ks) [] at is h = absurd h
of_more cs k c x (j ∷ ks) (y ∷ xs) at is h = (h.0, of_more cs k c x ks xs at is h.1)

-- how many have a request at the driver
away_set : (cs : List Client) (k : ℕ) (was now : Client) → slice_get cs k ≡ Some was → away_many (slice_set cs k now) + bit (is_away was) ≡ away_many cs + bit (is_away now)
away_set [] k was now at = cc
away_set (c ∷ cs) zero was now at = let e = ap (λ (d : Client). bit (is_away d)) (some_eq at) in omega (arith, e)
away_set (c ∷ cs) (suc k) was now at = let e = away_set cs k was now at in omega (arith, e)

pub same_lists : (c : Client) (part : Option Part) (cs ss bs gs cs' ss' bs' gs' : List Cargo) → cs' ≡ cs → ss' ≡ ss → bs' ≡ bs → gs' ≡ gs → ClientStands c part cs ss bs gs → ClientStands c part cs' ss' bs' gs'
same_lists c part cs ss bs gs cs' ss' bs' gs' e f g i h = rw (e, f, g, i) h

module _ (w w' : Desk) (h : IsDesk w) (k : ℕ) (part : Option Part) (came sent back gave : List Cargo) (m : OneMoved w w' k part came sent back gave) where
  pub same_holders : holders w' ≡ holders w
  same_holders = ap (map (λ (x : Client). x.holder)) m.clients ∙ map-set_same (λ (x : Client). x.holder) w.clients.items k m.now m.was (m.moved.holder ∙ ap (λ (x : Client). x.holder) (sym (get_or_from_slice_get w.clients.items k m.was m.was m.there)))

  beside : (j : ℕ) → (k ≡ j → ⊥) → slice_get w'.clients.items j ≡ slice_get w.clients.items j
  beside j ne = ap (λ cs. slice_get cs j) m.clients ∙ slice_get_beside w.clients.items k j m.now (λ e. ne (sym e))

  line_now : LineMoves k m.was m.now w.line.shown w'.line.shown → (j : ℕ) → (k ≡ j) ⊎ (k ≡ j → ⊥) → times j w'.line.shown ≡ away_at (slice_get w'.clients.items j)
  line_now (inl e) j (inl same) = ap (times j) e.0 ∙ (h.line j ∙ (ap (λ i. away_at (slice_get w.clients.items i)) (sym same) ∙ (ap away_at m.there ∙ (ap bit (sym e.1) ∙ (ap away_at (sym (now_there w.clients.items w'.clients.items k m.was m.now m.there m.clients)) ∙ ap (λ i. away_at (slice_get w'.clients.items i)) same)))))
  line_now (inl e) j (inr ne) = ap (times j) e.0 ∙ (h.line j ∙ ap away_at (sym (beside j ne)))
  line_now (inr (inl e)) j (inl same) =
      let a = ap (times j) e.0 ∙ times_more j k w.line.shown in
      let o = h.line j ∙ (ap (λ i. away_at (slice_get w.clients.items i)) (sym same) ∙ (ap away_at m.there ∙ ap bit e.1)) in
      let one = ap bit (eq-eqb k j same) in
      let n = ap (λ i. away_at (slice_get w'.clients.items i)) (sym same) ∙ (ap away_at (now_there w.clients.items w'.clients.items k m.was m.now m.there m.clients) ∙ ap bit e.2) in
      omega (arith, a, o, one, n)
  line_now (inr (inl e)) j (inr ne) =
      let a = ap (times j) e.0 ∙ times_more j k w.line.shown in
      let none = ap bit (ne_eqb k j ne) in
      let o = h.line j in
      let n = ap away_at (beside j ne) in
      omega (arith, a, none, o, n)
  line_now (inr (inr e)) j (inl same) =
      let a = sym (ap (times j) e.0) ∙ (h.line j ∙ (ap (λ i. away_at (slice_get w.clients.items i)) (sym same) ∙ (ap away_at m.there ∙ ap bit e.1))) in
      let one = ap bit (eq-eqb k j same) in
      let n = ap (λ i. away_at (slice_get w'.clients.items i)) (sym same) ∙ (ap away_at (now_there w.clients.items w'.clients.items k m.was m.now m.there m.clients) ∙ ap bit e.2) in
      omega (arith, a, one, n)
  line_now (inr (inr e)) j (inr ne) =
      let a = sym (ap (times j) e.0) ∙ h.line j in
      let none = ap bit (ne_eqb k j ne) in
      let n = ap away_at (beside j ne) in
      omega (arith, a, none, n)

  long_now : LineMoves k m.was m.now w.line.shown w'.line.shown → length w'.line.shown ≡ away_many w'.clients.items
  long_now l = by l
    where
      many : away_many w'.clients.items + bit (is_away m.was) ≡ away_many w.clients.items + bit (is_away m.now)
      many = ap (λ cs. away_many cs + bit (is_away m.was)) m.clients ∙ away_set w.clients.items k m.was m.now m.there

      by : LineMoves k m.was m.now w.line.shown w'.line.shown → length w'.line.shown ≡ away_many w'.clients.items
      by (inl e) = let a = many in let b = ap length e.0 in let c = ap bit e.1 in omega (arith, a, b, c, h.long)
      by (inr (inl e)) = let a = many in let b = ap length e.0 ∙ length-append w.line.shown (k ∷ []) in let c = ap bit e.1 in let d = ap bit e.2 in omega (arith, a, b, c, d, h.long)
      by (inr (inr e)) = let a = many in let b = ap length e.0 in let c = ap bit e.1 in let d = ap bit e.2 in omega (arith, a, b, c, d, h.long)

  pub moved_desk : IsDesk w'
  moved_desk = record {
    each = λ j d at. each_now j d (now_or_was w.clients.items w'.clients.items k m.was m.now m.there m.clients j d at (cases_eq k j));
    apart = subst AreRanges (ap (map range_of) (sym same_holders)) h.apart;
    line = λ j. line_now m.line j (cases_eq k j);
    long = long_now m.line;
    room = let a = ap length m.clients ∙ length-set w.clients.items k m.now in let r = m.room in omega (arith, a, r, h.room);
  }
    where
      each_now : (j : ℕ) (d : Client) → ((k ≡ j) × (m.now ≡ d)) ⊎ ((k ≡ j → ⊥) × (slice_get w.clients.items j ≡ Some d)) → IsClient d
      each_now j d (inl e) = subst IsClient e.1 m.moved.work
      each_now j d (inr e) = h.each j d e.1

  pub moved_held : (f : Count) → weighed f (desk_cargo w) + (weighed f came + weighed f back) ≡ weighed f (desk_cargo w') + (weighed f sent + weighed f gave)
  moved_held f =
      let a = ap (λ cs. weighed f (flat_map client_cargo cs)) m.clients in
      let b = weighed_set client_cargo f w.clients.items k m.was m.now m.there in
      let n = m.moved.held f in
      omega (arith, a, b, n)

  -- a client that moved was there, and the others are as they were
  client_apart : (j : ℕ) (d : Client) → (k ≡ j → ⊥) → slice_get w.clients.items j ≡ Some d → (x : Cargo) → is_at m.was.holder x ≡ true → is_at d.holder x ≡ false
  client_apart j d ne at x here = h.apart.apart k j (range_of m.was.holder) (range_of d.holder) (range_there k m.was m.there) (range_there j d at) ne (request_of x.0).addr here
    where
      range_there : (i : ℕ) (c : Client) → slice_get w.clients.items i ≡ Some c → slice_get (map range_of (holders w)) i ≡ Some (range_of c.holder)
      range_there i c is = get_map range_of (holders w) i c.holder (get_map (λ (y : Client). y.holder) w.clients.items i c is)

  holder_there : slice_get (holders w) k ≡ Some m.was.holder
  holder_there = get_map (λ (y : Client). y.holder) w.clients.items k m.was m.there

  module _ (parts : ℕ → Option Part) (is : parts m.was.holder.partition ≡ part) (cs gs : ℕ → List Cargo) (ls bs : List Cargo) (s : DeskStands w parts cs ls bs gs) where
    -- each client stands for what passed
    clients_now : own_of m.was.holder (ls ++ sent) ≡ own_of m.was.holder ls ++ sent → own_back m.was.holder (ls ++ sent) (bs ++ back) ≡ own_back m.was.holder ls bs ++ back
        → ((j : ℕ) (d : Client) → (k ≡ j → ⊥) → slice_get w.clients.items j ≡ Some d → own_of d.holder (ls ++ sent) ≡ own_of d.holder ls) → ((j : ℕ) (d : Client) → (k ≡ j → ⊥) → slice_get w.clients.items j ≡ Some d → own_back d.holder (ls ++ sent) (bs ++ back) ≡ own_back d.holder ls bs)
        → (j : ℕ) (d : Client) → slice_get w'.clients.items j ≡ Some d → ClientStands d (parts d.holder.partition) (with_more cs k came j) (own_of d.holder (ls ++ sent)) (own_back d.holder (ls ++ sent) (bs ++ back)) (with_more gs k gave j)
    clients_now own_sent own_backs other_sent other_backs j d at = by (now_or_was w.clients.items w'.clients.items k m.was m.now m.there m.clients j d at (cases_eq k j))
      where
        here : ClientStands m.now (parts m.was.holder.partition) (cs k ++ came) (own_of m.was.holder ls ++ sent) (own_back m.was.holder ls bs ++ back) (gs k ++ gave)
        here = rw is (m.moved.stands (cs k) (own_of m.was.holder ls) (own_back m.was.holder ls bs) (gs k) (rw (← is) (s.clients k m.was m.there)))

        by : ((k ≡ j) × (m.now ≡ d)) ⊎ ((k ≡ j → ⊥) × (slice_get w.clients.items j ≡ Some d)) → ClientStands d (parts d.holder.partition) (with_more cs k came j) (own_of d.holder (ls ++ sent)) (own_back d.holder (ls ++ sent) (bs ++ back)) (with_more gs k gave j)
        by (inl e) = subst (λ (y : Client). ClientStands y (parts y.holder.partition) (with_more cs k came j) (own_of y.holder (ls ++ sent)) (own_back y.holder (ls ++ sent) (bs ++ back)) (with_more gs k gave j)) e.1
            (subst (λ (o : Holder). ClientStands m.now (parts o.partition) (with_more cs k came j) (own_of o (ls ++ sent)) (own_back o (ls ++ sent) (bs ++ back)) (with_more gs k gave j)) (sym m.moved.holder)
            (same_lists m.now (parts m.was.holder.partition) (cs k ++ came) (own_of m.was.holder ls ++ sent) (own_back m.was.holder ls bs ++ back) (gs k ++ gave) (with_more cs k came j) (own_of m.was.holder (ls ++ sent)) (own_back m.was.holder (ls ++ sent) (bs ++ back)) (with_more gs k gave j)
            (there_more cs k j came e.0 ∙ ap (λ n. cs n ++ came) (sym e.0)) own_sent own_backs (there_more gs k j gave e.0 ∙ ap (λ n. gs n ++ gave) (sym e.0)) here))
        by (inr e) = same_lists d (parts d.holder.partition) (cs j) (own_of d.holder ls) (own_back d.holder ls bs) (gs j) (with_more cs k came j) (own_of d.holder (ls ++ sent)) (own_back d.holder (ls ++ sent) (bs ++ back)) (with_more gs k gave j)
            (other_more cs k j came e.0) (other_sent j d e.0 e.1) (other_backs j d e.0 e.1) (other_more gs k j gave e.0) (s.clients j d e.1)

    few_back : length bs ≤ length ls
    few_back = let a = ap length (sym s.sent_are) ∙ length-append s.answered s.unanswered in omega (arith, a, s.as_many)

    -- nothing went to the driver or was answered there
    pub stays : is_away m.was ≡ false → sent ≡ [] → back ≡ [] → w'.line.shown ≡ w.line.shown → DeskStands w' parts (with_more cs k came) ls bs (with_more gs k gave)
    stays idle no_sent no_back line =
        let e : (o : Holder) → own_of o (ls ++ sent) ≡ own_of o ls = λ o. ap (own_of o) (ap (λ l. ls ++ l) no_sent ∙ append-nil ls) in
        let f : (o : Holder) → own_back o (ls ++ sent) (bs ++ back) ≡ own_back o ls bs = λ o. ap (λ l. own_back o l (bs ++ back)) (ap (λ l. ls ++ l) no_sent ∙ append-nil ls) ∙ ap (own_back o ls) (ap (λ l. bs ++ l) no_back ∙ append-nil bs) in
        let none : times k w.line.shown ≡ 0 = h.line k ∙ (ap away_at m.there ∙ ap bit idle) in
        record {
          clients = λ j d at. subst (λ l. ClientStands d (parts d.holder.partition) (with_more cs k came j) l (own_back d.holder ls bs) (with_more gs k gave j)) (e d.holder) (subst (λ l. ClientStands d (parts d.holder.partition) (with_more cs k came j) (own_of d.holder (ls ++ sent)) l (with_more gs k gave j)) (f d.holder)
              (clients_now (e m.was.holder ∙ (sym (append-nil (own_of m.was.holder ls)) ∙ ap (λ l. own_of m.was.holder ls ++ l) (sym no_sent))) (f m.was.holder ∙ (sym (append-nil (own_back m.was.holder ls bs)) ∙ ap (λ l. own_back m.was.holder ls bs ++ l) (sym no_back))) (λ i c ne is. e c.holder) (λ i c ne is. f c.holder) j d at));
          answered = s.answered;
          unanswered = s.unanswered;
          sent_are = s.sent_are;
          as_many = s.as_many;
          are_of = subst (λ (xs : List Client). AreOf xs w'.line.shown s.unanswered) (sym m.clients) (subst (λ l. AreOf (slice_set w.clients.items k m.now) l s.unanswered) (sym line) (of_same w.clients.items k m.now w.line.shown s.unanswered none s.are_of));
          within = λ i x at. rw same_holders (s.within i x at);
        }

    -- a request went to the driver
    pub goes : (x : Cargo) → sent ≡ x ∷ [] → back ≡ [] → is_away m.was ≡ false → w'.line.shown ≡ w.line.shown ++ k ∷ [] → IsRequestOf m.now x → DeskStands w' parts (with_more cs k came) (ls ++ x ∷ []) bs (with_more gs k gave)
    goes x one no_back idle line of =
        let at_was : is_at m.was.holder x ≡ true = subst (λ (o : Holder). is_at o x ≡ true) m.moved.holder of.at in
        let all : ls ++ sent ≡ ls ++ x ∷ [] = ap (λ l. ls ++ l) one in
        let g : (o : Holder) → own_back o (ls ++ sent) (bs ++ back) ≡ own_back o ls bs = λ o. ap (own_back o (ls ++ sent)) (ap (λ l. bs ++ l) no_back ∙ append-nil bs) ∙ back_longer o ls sent bs few_back in
        let none : times k w.line.shown ≡ 0 = h.line k ∙ (ap away_at m.there ∙ ap bit idle) in
        record {
          clients = λ j d at. subst (λ l. ClientStands d (parts d.holder.partition) (with_more cs k came j) (own_of d.holder l) (own_back d.holder l bs) (with_more gs k gave j)) all
              (subst (λ l. ClientStands d (parts d.holder.partition) (with_more cs k came j) (own_of d.holder (ls ++ sent)) (own_back d.holder (ls ++ sent) l) (with_more gs k gave j)) (ap (λ l. bs ++ l) no_back ∙ append-nil bs)
              (clients_now (ap (own_of m.was.holder) all ∙ (own_more m.was.holder ls x at_was ∙ ap (λ l. own_of m.was.holder ls ++ l) (sym one))) (g m.was.holder ∙ (sym (append-nil (own_back m.was.holder ls bs)) ∙ ap (λ l. own_back m.was.holder ls bs ++ l) (sym no_back)))
              (λ i c ne is. ap (own_of c.holder) all ∙ own_beside c.holder ls x (client_apart i c ne is x at_was)) (λ i c ne is. g c.holder) j d at));
          answered = s.answered;
          unanswered = s.unanswered ++ x ∷ [];
          sent_are = sym (append_assoc s.answered s.unanswered (x ∷ [])) ∙ ap (λ (l : List Cargo). l ++ x ∷ []) s.sent_are;
          as_many = s.as_many;
          are_of = subst (λ (xs : List Client). AreOf xs w'.line.shown (s.unanswered ++ x ∷ [])) (sym m.clients) (subst (λ l. AreOf (slice_set w.clients.items k m.now) l (s.unanswered ++ x ∷ [])) (sym line)
              (of_more (slice_set w.clients.items k m.now) k m.now x w.line.shown s.unanswered (slice_get_written w.clients.items k m.was m.now m.there) of (of_same w.clients.items k m.now w.line.shown s.unanswered none s.are_of)));
          within = λ i y at. rw same_holders (someone i y (last_or_before ls x i y at));
        }
      where
        last_or_before : (xs : List Cargo) (z : Cargo) (i : ℕ) (y : Cargo) → slice_get (xs ++ z ∷ []) i ≡ Some y → (slice_get xs i ≡ Some y) ⊎ (z ≡ y)
        last_or_before [] z zero y at = inr (some_eq at)
        last_or_before [] z (suc i) y at = cc
        last_or_before (a ∷ xs) z zero y at = inl at
        last_or_before (a ∷ xs) z (suc i) y at = last_or_before xs z i y at

        someone : (i : ℕ) (y : Cargo) → (slice_get ls i ≡ Some y) ⊎ (x ≡ y) → IsSomeones (holders w) y
        someone i y (inl at) = s.within i y at
        someone i y (inr e) = (k, m.was.holder, holder_there, subst (λ (z : Cargo). is_at m.was.holder z ≡ true) e (subst (λ (o : Holder). is_at o x ≡ true) m.moved.holder of.at))

    -- a request at the driver was answered
    pub answers : (y : Cargo) → sent ≡ [] → back ≡ y ∷ [] → w.line.shown ≡ k ∷ w'.line.shown → DeskStands w' parts (with_more cs k came) ls (bs ++ y ∷ []) (with_more gs k gave)
    answers y no_sent one line = by s.unanswered s.sent_are (subst (λ l. AreOf w.clients.items l s.unanswered) line s.are_of)
      where
        by : (unanswered : List Cargo) → s.answered ++ unanswered ≡ ls → AreOf w.clients.items (k ∷ w'.line.shown) unanswered → DeskStands w' parts (with_more cs k came) ls (bs ++ y ∷ []) (with_more gs k gave)
        by [] are of = absurd of
        by (x ∷ rest) are of =
            let c = some_eq (sym of.0.1 ∙ m.there) in
            let at_was : is_at m.was.holder x ≡ true = subst (λ (v : Client). is_at v.holder x ≡ true) c of.0.2.at in
            let all : ls ++ sent ≡ s.answered ++ (x ∷ rest) = ap (λ l. ls ++ l) no_sent ∙ (append-nil ls ∙ sym are) in
            let e : (o : Holder) → own_of o (ls ++ sent) ≡ own_of o ls = λ o. ap (own_of o) (ap (λ l. ls ++ l) no_sent ∙ append-nil ls) in
            let more : bs ++ back ≡ bs ++ y ∷ [] = ap (λ l. bs ++ l) one in
            let f = first_is w h k w'.line.shown line in
            record {
              clients = λ j d at. subst (λ l. ClientStands d (parts d.holder.partition) (with_more cs k came j) (own_of d.holder l) (own_back d.holder l (bs ++ y ∷ [])) (with_more gs k gave j)) (ap (λ l. ls ++ l) no_sent ∙ append-nil ls)
                  (subst (λ l. ClientStands d (parts d.holder.partition) (with_more cs k came j) (own_of d.holder (ls ++ sent)) (own_back d.holder (ls ++ sent) l) (with_more gs k gave j)) more
                  (clients_now (e m.was.holder ∙ (sym (append-nil (own_of m.was.holder ls)) ∙ ap (λ l. own_of m.was.holder ls ++ l) (sym no_sent)))
                  (ap (λ l. own_back m.was.holder l (bs ++ back)) all ∙ (ap (own_back m.was.holder (s.answered ++ (x ∷ rest))) more ∙ (back_yes m.was.holder s.answered rest x y bs s.as_many at_was ∙ (ap (λ l. own_back m.was.holder l bs ++ y ∷ []) are ∙ ap (λ l. own_back m.was.holder ls bs ++ l) (sym one)))))
                  (λ i c' ne is'. e c'.holder)
                  (λ i c' ne is'. ap (λ l. own_back c'.holder l (bs ++ back)) all ∙ (ap (own_back c'.holder (s.answered ++ (x ∷ rest))) more ∙ (back_no c'.holder s.answered rest x y bs s.as_many (client_apart i c' ne is' x at_was) ∙ ap (λ l. own_back c'.holder l bs) are)))
                  j d at));
              answered = s.answered ++ x ∷ [];
              unanswered = rest;
              sent_are = append_assoc s.answered (x ∷ []) rest ∙ are;
              as_many = let a = length-append s.answered (x ∷ []) in let b = length-append bs (y ∷ []) in omega (arith, a, b, s.as_many);
              are_of = subst (λ (xs : List Client). AreOf xs w'.line.shown rest) (sym m.clients) (of_same w.clients.items k m.now w'.line.shown rest f.3 of.1);
              within = λ i z at. rw same_holders (s.within i z at);
            }
