-- What is kept of a client after each thing that is done for it.
use Rattle.std.proofs.Common.{◌≡◌, ◌⊎◌, ◌+◌, ◌-◌, ◌*◌, ◌/◌, ◌==◌, ◌<◌, ◌≤◌, ◌&&◌, ℕ, zero, suc, Bool, true, false, nat_le, not, inl, inr, Option, Some, None, is_some, is_none, List, [], ◌∷◌, ◌++◌, All, length, map, slice_set, refl, sym, ap, ◌∙◌, subst, append_assoc, arith}
use Rattle.std.specs.Option.{option_to_list}
use Rattle.std.proofs.lemmas.Bool.{cases_eq, and_parts, eqb-true}
use Rattle.std.proofs.lemmas.List.{append-nil, length-append, length-set}
use Rattle.std.proofs.lemmas.List.Elements.{All-push}
use Rattle.cargo_core.specs.declared.item.QueueKind.TheVariants as Kind
use Rattle.cargo_core.specs.Items.{kind_of}
use Rattle.wire_core.specs.Bells.{bit}
use Rattle.wire_core.specs.Deeds.{Cargo}
use Rattle.turn_kit.proofs.Holding.{cargo-append, cargo-cons}
use Rattle.buffer_kit.specs.Entries.{addr_of}
use Rattle.buffer_kit.proofs.ManyClients.{some_eq}
use Rattle.net_virt_tx.specs.declared.client.Client.{Client}
use Rattle.net_virt_tx.specs.declared.returns.Returns.{Returns}
use Rattle.net_virt_tx.specs.Descriptors.{to_device, to_client}
use Rattle.net_virt_tx.specs.Queued.{returns_list, IsReady}
use Rattle.net_virt_tx.specs.Serving.{is_good_of, bad_ones}
use Rattle.net_virt_tx.specs.Clients.{IsClient, ClientStands, Moved, IsReturn, at_address, is_marked, number_of, is_away, buffer_at, carried, capped}
use Rattle.net_virt_tx.proofs.Counting.{at_append, one_at, none_at, offset_at, offset_off, bit_most, many_set, few_marked, marked_within, set_here, set_beside, kind_same, addr_with, back_again, good_is, good_more, bad_more, cargo_parts, number_back}
use Rattle.net_virt_tx.proofs.Merging.{merge_first, merge_second}

-- the same lists
pub same_lists : (c : Client) (cs ss rs bs cs' ss' rs' bs' : List Cargo) → cs' ≡ cs → ss' ≡ ss → rs' ≡ rs → bs' ≡ bs → ClientStands c cs ss rs bs → ClientStands c cs' ss' rs' bs'
same_lists c cs ss rs bs cs' ss' rs' bs' e f g i h =
    subst (λ x. ClientStands c x ss' rs' bs') (sym e) (subst (λ x. ClientStands c cs x rs' bs') (sym f) (subst (λ x. ClientStands c cs ss x bs') (sym g) (subst (λ x. ClientStands c cs ss rs x) (sym i) h)))

-- nothing moved
pub stayed : (c : Client) → IsClient c → Moved c c [] [] [] []
stayed c h = record {
  work = h;
  sender = refl;
  stands = λ cs ss rs bs s. same_lists c cs ss rs bs (cs ++ []) (ss ++ []) (rs ++ []) (bs ++ []) (append-nil cs) (append-nil ss) (append-nil rs) (append-nil bs) s;
  held = λ pool. refl;
}

none_list : (o : Option Cargo) → o ≡ None → option_to_list o ≡ []
none_list o e = ap option_to_list e

some_list : (o : Option Cargo) (x : Cargo) → o ≡ Some x → option_to_list o ≡ x ∷ []
some_list o x e = ap option_to_list e

-- a good descriptor came
module _ (c : Client) (h : IsClient c) (x : Cargo) (leaving : c.leaving ≡ None) (kind : kind_of x.0 ≡ Kind.Net) (good : is_good_of c.sender x ≡ true) (out : is_marked c.inside (number_of x.1) ≡ false) where
  abbrev n : ℕ
  n = number_of x.1

  abbrev base : ℕ
  base = c.sender.base

  abbrev up : Cargo
  up = to_device c.sender.base x

  abbrev cg : Client
  cg = record c { leaving = Some (to_device c.sender.base x); number = number_of x.1; inside = slice_set c.inside (number_of x.1) true }

  up_at : addr_of up.0 ≡ base + n * c.sender.size
  up_at = addr_with (base + addr_of x.0) x.0 kind ∙ ap (λ m. base + m) (good_is c.sender x good).1

  within_marks : n < length c.inside
  within_marks = let g = (good_is c.sender x good).0 in let l = h.inside_long in omega (arith, g, l)

  good_marks : (b : ℕ) → b < c.sender.buffers → bit (is_marked (slice_set c.inside n true) b) ≡ at_address (base + b * c.sender.size) (up ∷ []) + (bit (is_marked c.away b) + at_address (b * c.sender.size) (returns_list c.returns))
  good_marks b within = by_test (cases_eq n b)
    where
      old : bit (is_marked c.inside b) ≡ bit (is_marked c.away b) + at_address (b * c.sender.size) (returns_list c.returns)
      old = let m = h.marks b within in let e = ap (at_address (base + b * c.sender.size)) (none_list c.leaving leaving) in omega (arith, m, e)

      by_test : (n ≡ b) ⊎ (n ≡ b → ⊥) → bit (is_marked (slice_set c.inside n true) b) ≡ at_address (base + b * c.sender.size) (up ∷ []) + (bit (is_marked c.away b) + at_address (b * c.sender.size) (returns_list c.returns))
      by_test (inl e) =
          let now = set_here c.inside n b true within_marks e in
          let one = one_at c.sender.size base n b up up_at e in
          let was = ap bit (ap (is_marked c.inside) (sym e) ∙ out) in
          let o = old in
          omega (arith, now, one, was, o)
      by_test (inr ne) =
          let now = set_beside c.inside n b true ne in
          let none = none_at c.sender.size h.sized base n b up up_at ne in
          let o = old in
          omega (arith, now, none, o)

  good_work : IsClient cg
  good_work = record {
    sized = h.sized;
    room = h.room;
    inside_long = length-set c.inside n true ∙ h.inside_long;
    away_long = h.away_long;
    leaves = λ y at. subst (λ (z : Cargo). (kind_of z.0 ≡ Kind.Net) × (n < c.sender.buffers) × (addr_of z.0 ≡ base + n * c.sender.size)) (some_eq at) (kind_same (base + addr_of x.0) x.0 ∙ kind, (good_is c.sender x good).0, up_at);
    bad_kind = h.bad_kind;
    backs = h.backs;
    places = h.places;
    ready = h.ready;
    marks = good_marks;
    counts =
        let m = many_set c.inside n true within_marks in
        let was = ap bit out in
        let o = h.counts in
        let e = ap length (none_list c.leaving leaving) in
        omega (arith, m, was, o, e);
  }

  good_stands : (cs ss rs bs : List Cargo) → ClientStands c cs ss rs bs → ClientStands cg (cs ++ x ∷ []) (ss ++ []) (rs ++ []) (bs ++ [])
  good_stands cs ss rs bs s = same_lists cg (cs ++ x ∷ []) ss rs bs (cs ++ x ∷ []) (ss ++ []) (rs ++ []) (bs ++ []) refl (append-nil ss) (append-nil rs) (append-nil bs) (record {
    sends = ap (λ y. ss ++ y ∷ []) (back_again base x) ∙ (ap (λ l. l ++ x ∷ []) (sym (append-nil ss) ∙ (ap (λ l. ss ++ map (to_client base) l) (sym (none_list c.leaving leaving)) ∙ s.sends)) ∙ sym (good_more c.sender cs x good).0);
    bads = s.bads;
    bads_are = s.bads_are ∙ sym (good_more c.sender cs x good).1;
    rets = s.rets;
    rets_are = s.rets_are;
    merged = s.merged;
    counts = s.counts;
    bad_many = s.bad_many ∙ ap (λ l. capped (length l)) (sym (good_more c.sender cs x good).1);
  })

  pub came_good : Moved c cg (x ∷ []) [] [] []
  came_good = record {
    work = good_work;
    sender = refl;
    stands = good_stands;
    held = λ pool.
        let a = cargo_parts pool c in
        let b = cargo_parts pool cg in
        let e = ap (carried pool) (none_list c.leaving leaving) in
        let one = cargo-cons pool up [] in
        let other = cargo-cons pool x [] in
        omega (arith, a, b, e, one, other);
  }

-- a bad descriptor came
module _ (c : Client) (h : IsClient c) (x : Cargo) (bad : c.bad ≡ None) (kind : kind_of x.0 ≡ Kind.Net) (fails : is_good_of c.sender x ≡ false) (many : ℕ) (counted : many ≡ capped (c.bad_many + 1)) where
  abbrev cb : Client
  cb = record c { bad = Some x; bad_many = many }

  bad_stands : (cs ss rs bs : List Cargo) → ClientStands c cs ss rs bs → ClientStands cb (cs ++ x ∷ []) (ss ++ []) (rs ++ []) (bs ++ [])
  bad_stands cs ss rs bs s = same_lists cb (cs ++ x ∷ []) ss rs bs (cs ++ x ∷ []) (ss ++ []) (rs ++ []) (bs ++ []) refl (append-nil ss) (append-nil rs) (append-nil bs) (record {
    sends = s.sends ∙ sym (bad_more c.sender cs x fails).0;
    bads = s.bads;
    bads_are = ap (λ l. l ++ x ∷ []) (sym (append-nil s.bads) ∙ (ap (λ l. s.bads ++ l) (sym (none_list c.bad bad)) ∙ s.bads_are)) ∙ sym (bad_more c.sender cs x fails).1;
    rets = s.rets;
    rets_are = s.rets_are;
    merged = s.merged;
    counts = s.counts;
    bad_many =
        let e = ap length (bad_more c.sender cs x fails).1 in
        let l = length-append (bad_ones c.sender cs) (x ∷ []) in
        let m = s.bad_many in
        counted ∙ (ap (λ k. capped (k + 1)) m ∙ (capped_more (length (bad_ones c.sender cs)) ∙ ap capped (omega (arith, e, l))));
  })
    where
      capped_more : (k : ℕ) → capped (capped k + 1) ≡ capped (k + 1)
      capped_more k = omega arith

  pub came_bad : Moved c cb (x ∷ []) [] [] []
  came_bad = record {
    work = record {
      sized = h.sized;
      room = h.room;
      inside_long = h.inside_long;
      away_long = h.away_long;
      leaves = h.leaves;
      bad_kind = λ y at. subst (λ (z : Cargo). kind_of z.0 ≡ Kind.Net) (some_eq at) kind;
      backs = h.backs;
      places = h.places;
      ready = h.ready;
      marks = h.marks;
      counts = h.counts;
    };
    sender = refl;
    stands = bad_stands;
    held = λ pool.
        let a = cargo_parts pool c in
        let b = cargo_parts pool cb in
        let e = ap (carried pool) (none_list c.bad bad) in
        omega (arith, a, b, e);
  }

-- a good descriptor went to the driver
module _ (c : Client) (h : IsClient c) (u : Cargo) (is : c.leaving ≡ Some u) where
  abbrev cl : Client
  cl = record c { leaving = None; away = slice_set c.away c.number true }

  low : c.number < c.sender.buffers
  low = (h.leaves u is).1

  u_at : addr_of u.0 ≡ c.sender.base + c.number * c.sender.size
  u_at = (h.leaves u is).2

  u_offset : addr_of (to_client c.sender.base u).0 ≡ c.number * c.sender.size
  u_offset = addr_with (addr_of u.0 - c.sender.base) u.0 (h.leaves u is).0 ∙ (let e = u_at in let r : addr_of u.0 - c.sender.base ≡ c.number * c.sender.size = omega (arith, e) in r)

  pub number_low : c.number < length c.away
  number_low = let g = low in let l = h.away_long in omega (arith, g, l)

  not_away : bit (is_marked c.away c.number) ≡ 0
  not_away =
      let m = h.marks c.number low in
      let one = one_at c.sender.size c.sender.base c.number c.number u u_at refl in
      let e = ap (at_address (c.sender.base + c.number * c.sender.size)) (some_list c.leaving u is) in
      let most = bit_most (is_marked c.inside c.number) in
      omega (arith, m, one, e, most)

  sent_marks : (b : ℕ) → b < c.sender.buffers → bit (is_marked c.inside b) ≡ 0 + (bit (is_marked (slice_set c.away c.number true) b) + at_address (b * c.sender.size) (returns_list c.returns))
  sent_marks b within = by_test (cases_eq c.number b)
    where
      old : bit (is_marked c.inside b) ≡ at_address (c.sender.base + b * c.sender.size) (u ∷ []) + (bit (is_marked c.away b) + at_address (b * c.sender.size) (returns_list c.returns))
      old = h.marks b within ∙ ap (λ l. at_address (c.sender.base + b * c.sender.size) l + (bit (is_marked c.away b) + at_address (b * c.sender.size) (returns_list c.returns))) (some_list c.leaving u is)

      by_test : (c.number ≡ b) ⊎ (c.number ≡ b → ⊥) → bit (is_marked c.inside b) ≡ 0 + (bit (is_marked (slice_set c.away c.number true) b) + at_address (b * c.sender.size) (returns_list c.returns))
      by_test (inl e) =
          let now = set_here c.away c.number b true number_low e in
          let one = one_at c.sender.size c.sender.base c.number b u u_at e in
          let was = ap (λ m. bit (is_marked c.away m)) (sym e) ∙ not_away in
          let o = old in
          omega (arith, now, one, was, o)
      by_test (inr ne) =
          let now = set_beside c.away c.number b true ne in
          let none = none_at c.sender.size h.sized c.sender.base c.number b u u_at ne in
          let o = old in
          omega (arith, now, none, o)

  sent_counts : (ss rs : List Cargo) → ((b : ℕ) → b < c.sender.buffers → at_address (b * c.sender.size) ss ≡ at_address (b * c.sender.size) rs + bit (is_marked c.away b)) → (b : ℕ) → b < c.sender.buffers → at_address (b * c.sender.size) (ss ++ to_client c.sender.base u ∷ []) ≡ at_address (b * c.sender.size) rs + bit (is_marked (slice_set c.away c.number true) b)
  sent_counts ss rs s b within = by_test (cases_eq c.number b)
    where
      by_test : (c.number ≡ b) ⊎ (c.number ≡ b → ⊥) → at_address (b * c.sender.size) (ss ++ to_client c.sender.base u ∷ []) ≡ at_address (b * c.sender.size) rs + bit (is_marked (slice_set c.away c.number true) b)
      by_test (inl e) =
          let all = at_append (b * c.sender.size) ss (to_client c.sender.base u ∷ []) in
          let now = set_here c.away c.number b true number_low e in
          let one = offset_at c.sender.size c.number b (to_client c.sender.base u) u_offset e in
          let was = ap (λ m. bit (is_marked c.away m)) (sym e) ∙ not_away in
          let o = s b within in
          omega (arith, all, now, one, was, o)
      by_test (inr ne) =
          let all = at_append (b * c.sender.size) ss (to_client c.sender.base u ∷ []) in
          let now = set_beside c.away c.number b true ne in
          let none = offset_off c.sender.size h.sized c.number b (to_client c.sender.base u) u_offset ne in
          let o = s b within in
          omega (arith, all, now, none, o)

  pub went : Moved c cl [] (u ∷ []) [] []
  went = record {
    work = record {
      sized = h.sized;
      room = h.room;
      inside_long = h.inside_long;
      away_long = length-set c.away c.number true ∙ h.away_long;
      leaves = λ y at. let no : None ≡ Some y = at in absurd cc;
      bad_kind = h.bad_kind;
      backs = h.backs;
      places = h.places;
      ready = h.ready;
      marks = sent_marks;
      counts =
          let m = many_set c.away c.number true number_low in
          let was = not_away in
          let o = h.counts in
          let e = ap length (some_list c.leaving u is) in
          omega (arith, m, was, o, e);
    };
    sender = refl;
    stands = λ cs ss rs bs s. same_lists cl cs (ss ++ to_client c.sender.base u ∷ []) rs bs (cs ++ []) (ss ++ to_client c.sender.base u ∷ []) (rs ++ []) (bs ++ []) (append-nil cs) refl (append-nil rs) (append-nil bs) (record {
      sends = append-nil (ss ++ to_client c.sender.base u ∷ []) ∙ (ap (λ l. ss ++ map (to_client c.sender.base) l) (sym (some_list c.leaving u is)) ∙ s.sends);
      bads = s.bads;
      bads_are = s.bads_are;
      rets = s.rets;
      rets_are = s.rets_are;
      merged = s.merged;
      counts = sent_counts ss rs s.counts;
      bad_many = s.bad_many;
    });
    held = λ pool.
        let a = cargo_parts pool c in
        let b = cargo_parts pool cl in
        let e = ap (carried pool) (some_list c.leaving u is) in
        omega (arith, a, b, e);
  }

-- a buffer came back from the driver
module _ (c : Client) (h : IsClient c) (x : Cargo) (kind : kind_of x.0 ≡ Kind.Net) (away : is_away c (addr_of x.0) ≡ true) where
  abbrev m : ℕ
  m = buffer_at c (addr_of x.0)

  parts : (c.sender.base + m * c.sender.size ≡ addr_of x.0) × (is_marked c.away m ≡ true)
  parts =
      let one = and_parts (nat_le c.sender.base (addr_of x.0)) ((c.sender.base + m * c.sender.size == addr_of x.0) && is_marked c.away m) away in
      let two = and_parts (c.sender.base + m * c.sender.size == addr_of x.0) (is_marked c.away m) one.1 in
      (eqb-true (c.sender.base + m * c.sender.size) (addr_of x.0) two.0, two.1)

  pub m_low : m < length c.away
  m_low = marked_within c.away m parts.1

  y_offset : addr_of (to_client c.sender.base x).0 ≡ m * c.sender.size
  y_offset = addr_with (addr_of x.0 - c.sender.base) x.0 kind ∙ (let e = parts.0 in let r : addr_of x.0 - c.sender.base ≡ m * c.sender.size = omega (arith, e) in r)

  pub room_back : length (returns_list c.returns) < c.returns.later.places
  room_back =
      let s = many_set c.away m false m_low in
      let t = ap bit parts.1 in
      let o = h.counts in
      let few = few_marked c.inside in
      let l = h.inside_long in
      let p = h.places in
      omega (arith, s, t, o, few, l, p)

  module _ (r : Returns) (ready : IsReady r) (list : returns_list r ≡ returns_list c.returns ++ to_client c.sender.base x ∷ []) (places : c.returns.later.places ≤ r.later.places) where
    abbrev cr : Client
    cr = record c { away = slice_set c.away (buffer_at c (addr_of x.0)) false; returns = r }

    list_at : (b : ℕ) → at_address (b * c.sender.size) (returns_list r) ≡ at_address (b * c.sender.size) (returns_list c.returns) + at_address (b * c.sender.size) (to_client c.sender.base x ∷ [])
    list_at b = ap (at_address (b * c.sender.size)) list ∙ at_append (b * c.sender.size) (returns_list c.returns) (to_client c.sender.base x ∷ [])

    moved_mark : (b : ℕ) → bit (is_marked (slice_set c.away m false) b) + at_address (b * c.sender.size) (to_client c.sender.base x ∷ []) ≡ bit (is_marked c.away b)
    moved_mark b = by_test (cases_eq m b)
      where
        by_test : (m ≡ b) ⊎ (m ≡ b → ⊥) → bit (is_marked (slice_set c.away m false) b) + at_address (b * c.sender.size) (to_client c.sender.base x ∷ []) ≡ bit (is_marked c.away b)
        by_test (inl e) =
            let now = set_here c.away m b false m_low e in
            let one = offset_at c.sender.size m b (to_client c.sender.base x) y_offset e in
            let was = ap (λ k. bit (is_marked c.away k)) (sym e) ∙ ap bit parts.1 in
            omega (arith, now, one, was)
        by_test (inr ne) =
            let now = set_beside c.away m b false ne in
            let none = offset_off c.sender.size h.sized m b (to_client c.sender.base x) y_offset ne in
            omega (arith, now, none)

    pub came_back : Moved c cr [] [] (x ∷ []) []
    came_back = record {
      work = record {
        sized = h.sized;
        room = h.room;
        inside_long = h.inside_long;
        away_long = length-set c.away m false ∙ h.away_long;
        leaves = h.leaves;
        bad_kind = h.bad_kind;
        backs = subst (λ l. All (IsReturn c.sender.buffers c.sender.size) l) (sym list) (All-push (IsReturn c.sender.buffers c.sender.size) (returns_list c.returns) (to_client c.sender.base x) h.backs (kind_same (addr_of x.0 - c.sender.base) x.0 ∙ kind, (m, (let l = m_low in let a = h.away_long in omega (arith, l, a)), y_offset)));
        places = let p = h.places in omega (arith, p, places);
        ready = ready;
        marks = λ b within. let o = h.marks b within in let l = list_at b in let k = moved_mark b in omega (arith, o, l, k);
        counts =
            let s = many_set c.away m false m_low in
            let t = ap bit parts.1 in
            let o = h.counts in
            let l = ap length list in
            let a = length-append (returns_list c.returns) (to_client c.sender.base x ∷ []) in
            omega (arith, s, t, o, l, a);
      };
      sender = refl;
      stands = λ cs ss rs bs s. same_lists cr cs ss (rs ++ to_client c.sender.base x ∷ []) bs (cs ++ []) (ss ++ []) (rs ++ to_client c.sender.base x ∷ []) (bs ++ []) (append-nil cs) (append-nil ss) refl (append-nil bs) (record {
        sends = s.sends;
        bads = s.bads;
        bads_are = s.bads_are;
        rets = s.rets;
        rets_are = ap (λ l. s.rets ++ l) list ∙ (sym (append_assoc s.rets (returns_list c.returns) (to_client c.sender.base x ∷ [])) ∙ ap (λ l. l ++ to_client c.sender.base x ∷ []) s.rets_are);
        merged = s.merged;
        counts = λ b within. let o = s.counts b within in let a = at_append (b * c.sender.size) rs (to_client c.sender.base x ∷ []) in let k = moved_mark b in omega (arith, o, a, k);
        bad_many = s.bad_many;
      });
      held = λ pool.
          let a = cargo_parts pool c in
          let b = cargo_parts pool cr in
          let e = ap (carried pool) list in
          let p = cargo-append pool (returns_list c.returns) (to_client c.sender.base x ∷ []) in
          let one = cargo-cons pool (to_client c.sender.base x) [] in
          let other = cargo-cons pool x [] in
          omega (arith, a, b, e, p, one, other);
    }

-- a bad descriptor went back
module _ (c : Client) (h : IsClient c) (z : Cargo) (is : c.bad ≡ Some z) where
  abbrev cz : Client
  cz = record c { bad = None }

  pub gave_bad : Moved c cz [] [] [] (z ∷ [])
  gave_bad = record {
    work = record {
      sized = h.sized;
      room = h.room;
      inside_long = h.inside_long;
      away_long = h.away_long;
      leaves = h.leaves;
      bad_kind = λ y at. let no : None ≡ Some y = at in absurd cc;
      backs = h.backs;
      places = h.places;
      ready = h.ready;
      marks = h.marks;
      counts = h.counts;
    };
    sender = refl;
    stands = λ cs ss rs bs s. same_lists cz cs ss rs (bs ++ z ∷ []) (cs ++ []) (ss ++ []) (rs ++ []) (bs ++ z ∷ []) (append-nil cs) (append-nil ss) (append-nil rs) refl (record {
      sends = s.sends;
      bads = s.bads ++ z ∷ [];
      bads_are = append-nil (s.bads ++ z ∷ []) ∙ (ap (λ l. s.bads ++ l) (sym (some_list c.bad z is)) ∙ s.bads_are);
      rets = s.rets;
      rets_are = s.rets_are;
      merged = merge_first s.bads s.rets bs z s.merged;
      counts = s.counts;
      bad_many = s.bad_many;
    });
    held = λ pool.
        let a = cargo_parts pool c in
        let b = cargo_parts pool cz in
        let e = ap (carried pool) (some_list c.bad z is) in
        omega (arith, a, b, e);
  }

-- a buffer that came back went on to the client
module _ (c : Client) (h : IsClient c) (y : Cargo) (is : c.returns.next ≡ Some y) where
  abbrev o : ℕ
  o = addr_of y.0 / c.sender.size

  list_was : returns_list c.returns ≡ y ∷ c.returns.later.shown
  list_was = ap (λ l. l ++ c.returns.later.shown) (some_list c.returns.next y is)

  all_was : All (IsReturn c.sender.buffers c.sender.size) (y ∷ c.returns.later.shown)
  all_was = subst (λ l. All (IsReturn c.sender.buffers c.sender.size) l) list_was h.backs

  y_is : IsReturn c.sender.buffers c.sender.size y
  y_is = all_was zero y (omega arith)

  pub y_kind : kind_of y.0 ≡ Kind.Net
  y_kind = y_is.0

  o_is : o ≡ y_is.1.0
  o_is = ap (λ a. a / c.sender.size) y_is.1.2 ∙ number_back c.sender.size y_is.1.0 h.sized

  y_at : addr_of y.0 ≡ o * c.sender.size
  y_at = y_is.1.2 ∙ ap (λ k. k * c.sender.size) (sym o_is)

  o_low : o < c.sender.buffers
  o_low = subst (λ k. k < c.sender.buffers) (sym o_is) y_is.1.1

  pub o_inside : o < length c.inside
  o_inside = let l = o_low in let e = h.inside_long in omega (arith, l, e)

  list_at_b : (b : ℕ) → at_address (b * c.sender.size) (returns_list c.returns) ≡ at_address (b * c.sender.size) (y ∷ []) + at_address (b * c.sender.size) c.returns.later.shown
  list_at_b b = ap (at_address (b * c.sender.size)) list_was ∙ at_append (b * c.sender.size) (y ∷ []) c.returns.later.shown

  was_inside : bit (is_marked c.inside o) ≡ 1
  was_inside =
      let k = h.marks o o_low in
      let l = list_at_b o in
      let one = offset_at c.sender.size o o y y_at refl in
      let most = bit_most (is_marked c.inside o) in
      omega (arith, k, l, one, most)

  module _ (r : Returns) (ready : IsReady r) (list : returns_list r ≡ c.returns.later.shown) (places : r.later.places ≡ c.returns.later.places) where
    abbrev cy : Client
    cy = record c { inside = slice_set c.inside (addr_of y.0 / c.sender.size) false; returns = r }

    less_mark : (b : ℕ) → bit (is_marked (slice_set c.inside o false) b) + at_address (b * c.sender.size) (y ∷ []) ≡ bit (is_marked c.inside b)
    less_mark b = by_test (cases_eq o b)
      where
        by_test : (o ≡ b) ⊎ (o ≡ b → ⊥) → bit (is_marked (slice_set c.inside o false) b) + at_address (b * c.sender.size) (y ∷ []) ≡ bit (is_marked c.inside b)
        by_test (inl e) =
            let now = set_here c.inside o b false o_inside e in
            let one = offset_at c.sender.size o b y y_at e in
            let was = ap (λ k. bit (is_marked c.inside k)) (sym e) ∙ was_inside in
            omega (arith, now, one, was)
        by_test (inr ne) =
            let now = set_beside c.inside o b false ne in
            let none = offset_off c.sender.size h.sized o b y y_at ne in
            omega (arith, now, none)

    pub gave_back : Moved c cy [] [] [] (y ∷ [])
    gave_back = record {
      work = record {
        sized = h.sized;
        room = h.room;
        inside_long = length-set c.inside o false ∙ h.inside_long;
        away_long = h.away_long;
        leaves = h.leaves;
        bad_kind = h.bad_kind;
        backs = subst (λ l. All (IsReturn c.sender.buffers c.sender.size) l) (sym list) (λ k d l. all_was (suc k) d (omega (arith, l)));
        places = let p = h.places in omega (arith, p, places);
        ready = ready;
        marks = λ b within.
            let k = h.marks b within in
            let l = list_at_b b in
            let e = less_mark b in
            let f = ap (at_address (b * c.sender.size)) list in
            omega (arith, k, l, e, f);
        counts =
            let s = many_set c.inside o false o_inside in
            let t = was_inside in
            let k = h.counts in
            let e = ap length list_was in
            let f = ap length list in
            omega (arith, s, t, k, e, f);
      };
      sender = refl;
      stands = λ cs ss rs bs s. same_lists cy cs ss rs (bs ++ y ∷ []) (cs ++ []) (ss ++ []) (rs ++ []) (bs ++ y ∷ []) (append-nil cs) (append-nil ss) (append-nil rs) refl (record {
        sends = s.sends;
        bads = s.bads;
        bads_are = s.bads_are;
        rets = s.rets ++ y ∷ [];
        rets_are = ap (λ l. (s.rets ++ y ∷ []) ++ l) list ∙ (append_assoc s.rets (y ∷ []) c.returns.later.shown ∙ (ap (λ l. s.rets ++ l) (sym list_was) ∙ s.rets_are));
        merged = merge_second s.bads s.rets bs y s.merged;
        counts = s.counts;
        bad_many = s.bad_many;
      });
      held = λ pool.
          let a = cargo_parts pool c in
          let b = cargo_parts pool cy in
          let e = ap (carried pool) list_was in
          let f = ap (carried pool) list in
          let p = cargo-cons pool y c.returns.later.shown in
          let q = cargo-cons pool y [] in
          omega (arith, a, b, e, f, p, q);
    }

-- what an event put of a load
pub load_went : (old p new : Option Cargo) (x : Cargo) → option_to_list old ≡ option_to_list p ++ option_to_list new → new ≡ None → old ≡ Some x → option_to_list p ≡ x ∷ []
load_went old p new x e none is = sym (append-nil (option_to_list p)) ∙ (ap (λ (n : Option Cargo). option_to_list p ++ option_to_list n) (sym none) ∙ (sym e ∙ ap option_to_list is))

pub load_stays : (old p new : Option Cargo) → option_to_list old ≡ option_to_list p ++ option_to_list new → is_none new ≡ false → (new ≡ old) × (option_to_list p ≡ [])
load_stays old p None e s = absurd cc
load_stays None None (Some y) e s = absurd cc
load_stays None (Some z) (Some y) e s = absurd cc
load_stays (Some x) None (Some y) e s = (let g : x ≡ y = cc in ap (λ v. Some v) (sym g), refl)
load_stays (Some x) (Some z) (Some y) e s = absurd cc

pub is_nothing : (s : Option Cargo) (b : Bool) → is_some s ≡ not b → b ≡ true → s ≡ None
is_nothing None b e t = refl
is_nothing (Some x) b e t = let no_such : true ≡ false = e ∙ ap not t in absurd cc

pub is_something : (s : Option Cargo) (b : Bool) → is_some s ≡ not b → b ≡ false → is_none s ≡ false
is_something None b e t = let no_such : false ≡ true = e ∙ ap not t in absurd cc
is_something (Some x) b e t = refl

pub the_load : (s : Option Cargo) → is_some s ≡ true → (x : Cargo) × (s ≡ Some x)
the_load None e = absurd cc
the_load (Some x) e = (x, refl)
