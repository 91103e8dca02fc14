use Rattle.std.proofs.Common.{◌≡◌, ◌⊎◌, ◌==◌, ◌&&◌, ◌+◌, ◌≤◌, ◌++◌, ℕ, zero, suc, Bool, true, false, Some, List, [], ◌∷◌, length, slice_get, inl, inr, refl, sym, ap, ◌∙◌, subst, arith, append_assoc}
use Rattle.std.proofs.lemmas.List.{append-nil}
use Rattle.wire_core.specs.declared.names.Event.{Event}
use Rattle.wire_core.specs.declared.names.Side.{Side}
use Rattle.wire_core.specs.declared.names.Op.TheVariants as Do
use Rattle.wire_core.specs.declared.names.Answer.TheVariants.{Yes}
use Rattle.wire_core.specs.Bells.{bit}
use Rattle.wire_core.specs.Deeds.{answer_of}
use Rattle.wire_core.specs.Ends.{Role, role_of}
use Rattle.wire_core.specs.Marks.{is_mark, is_role, calls_at, calls_after}
use Rattle.turn_kit.specs.Turns.{Post, is_mark_at, Round, Turned, IsRound, is_at_rest, Unmarked, Unsettled, calls_on, WokenInVain}
use Rattle.turn_kit.proofs.Turning.{no_mark_at, same_length, round_next, moved_or, need_at, queue_is, side_is}
use Rattle.turn_kit.proofs.Waking.{between, rest_stays, two_rounds}
use Rattle.turn_kit.proofs.Marking.{seven_calls, six_calls}
use Rattle.turn_kit.specs.Marks.{StandsSince, SinceClaims}
use Rattle.turn_kit.specs.Pace.{Pendings, IsCalled, Unwoken, Idled, Paced}
use Rattle.turn_kit.proofs.Even.{decide, bit_most, even, two_calls, no_calls}

-- sequences of steps

pub unmarked_of : (es : List Event) (r new : Round) → Unsettled r es new → Unmarked r es new
unmarked_of [] r new u = u
unmarked_of (e ∷ es) r new u = (u.0, u.2, u.3, unmarked_of es u.0 new u.4)

pub unmarked_join : (es fs : List Event) (r m new : Round) → Unmarked r es m → Unmarked m fs new → Unmarked r (es ++ fs) new
unmarked_join [] fs r m new u v = subst (λ x. Unmarked x fs new) (sym u) v
unmarked_join (e ∷ es) fs r m new u v = (u.0, u.1, u.2, unmarked_join es fs u.0 m new u.3 v)

pub unsettled_more : (es : List Event) (r m new : Round) (e : Event) → Unsettled r es m → is_at_rest m ≡ false → (t : Turned m e new) → is_mark_at t.posted.post e ≡ false → Unsettled r (es ++ e ∷ []) new
unsettled_more [] r m new e u rest t n = subst (λ x. Unsettled x (e ∷ []) new) (sym u) (new, rest, t, n, refl)
unsettled_more (x ∷ es) r m new e u rest t n = (u.0, u.1, u.2, u.3, unsettled_more es u.0 m new e u.4 rest t n)

pub round_after : (es : List Event) (r new : Round) → IsRound r → Unmarked r es new → IsRound new
round_after [] r new ok u = subst IsRound u ok
round_after (e ∷ es) r new ok u = round_after es u.0 new (round_next r e u.0 u.1 ok) u.3

-- an end keeps its place, its queue and its side
pub post_after : (es : List Event) (r new : Round) → IsRound r → Unmarked r es new → (k : ℕ) (p : Post) → slice_get r.posts k ≡ Some p → (q : Post) × (slice_get new.posts k ≡ Some q) × (q.queue ≡ p.queue) × (q.side ≡ p.side)
post_after [] r new ok u k p at = (p, ap (λ (x : Round). slice_get x.posts k) (sym u) ∙ at, refl, refl)
post_after (e ∷ es) r new ok u k p at =
    let b = need_at r.posts r.needs k p ok.needs at in
    elim (moved_or r e u.0 u.1 ok k p b.0 at b.1) [
      | inl g ↦
          let h = post_after es u.0 new (round_next r e u.0 u.1 ok) u.3 k u.1.posted.moved g.3 in
          (h.0, h.1, h.2 ∙ queue_is p u.1.posted.moved b.0 e g.2, h.3 ∙ side_is p u.1.posted.moved b.0 e g.2)
      | inr g ↦ post_after es u.0 new (round_next r e u.0 u.1 ok) u.3 k p g.1
    ]

pub posts_length : (es : List Event) (r new : Round) → IsRound r → Unmarked r es new → length new.posts ≡ length r.posts
posts_length [] r new ok u = ap (λ (x : Round). length x.posts) (sym u)
posts_length (e ∷ es) r new ok u = posts_length es u.0 new (round_next r e u.0 u.1 ok) u.3 ∙ same_length r e u.0 u.1 ok

unwoken_more : (n : ℕ) (s : Side) (es : List Event) (e : Event) → Unwoken n s es → (e.queue.0 ≡ n → e.op ≡ Do.Wake s → ⊥) → Unwoken n s (es ++ e ∷ [])
unwoken_more n s [] e u h = (h, tt)
unwoken_more n s (x ∷ es) e u h = (u.0, unwoken_more n s es e u.1 h)

calls_join : (n : ℕ) (es fs : List Event) → calls_on n (es ++ fs) ≡ calls_on n es + calls_on n fs
calls_join n [] fs = omega arith
calls_join n (e ∷ es) fs = let h = calls_join n es fs in omega (arith, h)

-- one more step of the actor that is no mark
module _ (pending pending' : Pendings) (calls : List Event) (old new : Round) (e : Event) (p : Paced pending calls old) (t : Turned old e new) (n : is_mark_at t.posted.post e ≡ false) (runs : is_at_rest old ≡ true → IsCalled pending old.posts) (told : (s : Side) → e.op ≡ Do.Wake s → e.answer ≡ answer_of (pending e.queue.0 s)) (stays : (m : ℕ) (s : Side) → pending m s ≡ true → pending' m s ≡ true) where
  not_woken : (m : ℕ) (s : Side) → pending m s ≡ true → e.queue.0 ≡ m → e.op ≡ Do.Wake s → ⊥
  not_woken m s h q o =
      let yes : e.answer ≡ Yes = told s o ∙ ap answer_of (ap (λ x. pending x s) q ∙ h) in
      let no : is_mark (Do.Wake s) Yes ≡ false = subst (λ x. is_mark (Do.Wake s) x ≡ false) yes (subst (λ x. is_mark x e.answer ≡ false) o (no_mark_at t.posted.post e n)) in
      cc

  idled_next : (mid : Round) (idle : List Event) → Idled pending mid idle → Idled pending' mid (idle ++ e ∷ [])
  idled_next mid idle i = record {
    rest = i.rest;
    called = record { place = i.called.place; post = i.called.post; there = i.called.there; pends = stays i.called.post.queue i.called.post.side i.called.pends };
    unwoken = unwoken_more i.called.post.queue i.called.post.side idle e i.unwoken (not_woken i.called.post.queue i.called.post.side i.called.pends);
  }

  -- where it was at rest a notification was pending all along
  was_idled : is_at_rest old ≡ true → ((p.idle ≡ []) ⊎ Idled pending p.mid p.idle) → Idled pending p.mid p.idle
  was_idled rest (inr i) = i
  was_idled rest (inl none) =
      let same : p.mid ≡ old = subst (λ es. Unmarked p.mid es old) none p.resting in
      let c = runs rest in
      record {
        rest = ap is_at_rest same ∙ rest;
        called = record { place = c.place; post = c.post; there = ap (λ (r : Round). slice_get r.posts c.place) same ∙ c.there; pends = c.pends };
        unwoken = subst (λ es. Unwoken c.post.queue c.post.side es) (sym none) tt;
      }

  -- where it wasn't, all its calls were so
  was_busy : is_at_rest old ≡ false → ((p.idle ≡ []) ⊎ Idled pending p.mid p.idle) → p.idle ≡ []
  was_busy rest (inl none) = none
  was_busy rest (inr i) = let h = rest_stays p.idle p.mid old p.resting i.rest in let no : true ≡ false = sym h ∙ rest in cc

  pub paced_next : (b : Bool) → is_at_rest old ≡ b → Paced pending' (calls ++ e ∷ []) new
  paced_next true rest = record {
    start = p.start;
    mid = p.mid;
    busy = p.busy;
    idle = p.idle ++ e ∷ [];
    whole = ap (λ es. es ++ e ∷ []) p.whole ∙ append_assoc p.busy p.idle (e ∷ []);
    round = p.round;
    unsettled = p.unsettled;
    resting = unmarked_join p.idle (e ∷ []) p.mid old new p.resting (new, t, n, refl);
    idled = inr (idled_next p.mid p.idle (was_idled rest p.idled));
  }
  paced_next false rest =
      let none = was_busy rest p.idled in
      let same : p.mid ≡ old = subst (λ es. Unmarked p.mid es old) none p.resting in
      record {
        start = p.start;
        mid = new;
        busy = p.busy ++ e ∷ [];
        idle = [];
        whole = ap (λ es. es ++ e ∷ []) (p.whole ∙ (ap (λ es. p.busy ++ es) none ∙ append-nil p.busy)) ∙ sym (append-nil (p.busy ++ e ∷ []));
        round = p.round;
        unsettled = unsettled_more p.busy p.start old new e (subst (λ r. Unsettled p.start p.busy r) same p.unsettled) rest t n;
        resting = refl;
        idled = inl refl;
      }

-- a mark begins anew
pub paced_anew : (pending : Pendings) (r : Round) → IsRound r → Paced pending [] r
paced_anew pending r ok = record { start = r; mid = r; busy = []; idle = []; whole = refl; round = ok; unsettled = refl; resting = refl; idled = inl refl }

-- a turn adds its call to those since the last mark, or is a mark
pub since_kept : (r m : Round) (e : Event) (calls : List Event) → (t : Turned r e m) → StandsSince r calls → StandsSince m (calls_after (is_mark_at t.posted.post e) calls e)
since_kept r m e calls t s = go (is_mark_at t.posted.post e) refl
  where
    go : (b : Bool) → is_mark_at t.posted.post e ≡ b → StandsSince m (calls_after b calls e)
    go true h = record { start = m; round = round_next r e m t (round_after calls s.start r s.round s.made); made = refl }
    go false h = record { start = s.start; round = s.round; made = unmarked_join calls (e ∷ []) s.start r m s.made (m, t, h, refl) }

-- the calls while some end wasn't settled, and those while all were
pub record Halves (start : Round) (calls : List Event) (now : Round) : Type 0 where
  pub mid : Round
  pub busy : List Event
  pub idle : List Event
  pub whole : calls ≡ busy ++ idle
  pub unsettled : Unsettled start busy mid
  pub resting : Unmarked mid idle now
  pub rest : (idle ≡ []) ⊎ (is_at_rest mid ≡ true)

halves : (calls : List Event) (start now : Round) → Unmarked start calls now → Halves start calls now
halves [] start now u = record { mid = start; busy = []; idle = []; whole = refl; unsettled = refl; resting = u; rest = inl refl }
halves (e ∷ es) start now u = go (halves es u.0 now u.3) (is_at_rest start) refl
  where
    go : Halves u.0 es now → (b : Bool) → is_at_rest start ≡ b → Halves start (e ∷ es) now
    go r true h = record { mid = start; busy = []; idle = e ∷ es; whole = refl; unsettled = refl; resting = u; rest = inr h }
    go r false h = record { mid = r.mid; busy = e ∷ r.busy; idle = r.idle; whole = ap (λ xs. e ∷ xs) r.whole; unsettled = (u.0, h, u.1, u.2, r.unsettled); resting = r.resting; rest = r.rest }

module _ (start now : Round) (calls : List Event) (ok : IsRound start) (h : Halves start calls now) where
  before : Unmarked start h.busy h.mid
  before = unmarked_of h.busy start h.mid h.unsettled

  mid_ok : IsRound h.mid
  mid_ok = round_after h.busy start h.mid ok before

  even_idle : ((h.idle ≡ []) ⊎ (is_at_rest h.mid ≡ true)) → (k j : ℕ) (p q : Post) → slice_get start.posts k ≡ Some p → slice_get start.posts j ≡ Some q → calls_on q.queue h.idle ≤ calls_on p.queue h.idle + 1
  even_idle (inl none) k j p q atk atj = let z : calls_on q.queue h.idle ≡ 0 = ap (calls_on q.queue) none in omega (arith, z)
  even_idle (inr rest) k j p q atk atj = elim (decide p.queue q.queue) [
    | inl same ↦ let z : calls_on p.queue h.idle ≡ calls_on q.queue h.idle = ap (λ n. calls_on n h.idle) same in omega (arith, z)
    | inr apart ↦
        let a = post_after h.busy start h.mid ok before k p atk in
        let b = post_after h.busy start h.mid ok before j q atj in
        let e = even h.idle h.mid now mid_ok rest h.resting k j a.0 b.0 a.1 b.1 (λ s. apart (sym a.2 ∙ (s ∙ b.2))) in
        let most = bit_most (between h.mid.last a.0.queue b.0.queue) in
        let x : calls_on a.0.queue h.idle ≡ calls_on p.queue h.idle = ap (λ n. calls_on n h.idle) a.2 in
        let y : calls_on b.0.queue h.idle ≡ calls_on q.queue h.idle = ap (λ n. calls_on n h.idle) b.2 in
        omega (arith, e, most, x, y)
  ]

  wake_idle : ((h.idle ≡ []) ⊎ (is_at_rest h.mid ≡ true)) → length start.posts + length start.posts ≤ length h.idle → (k : ℕ) (p : Post) → slice_get start.posts k ≡ Some p → WokenInVain p.queue p.side h.idle
  wake_idle (inl none) long k p at = let z : length h.idle ≡ 0 = ap length none in let some = ok.some in absurd (omega (arith, z, some, long))
  wake_idle (inr rest) long k p at =
      let a = post_after h.busy start h.mid ok before k p at in
      let same = posts_length h.busy start h.mid ok before in
      let w = two_rounds h.mid now h.idle mid_ok rest h.resting (omega (arith, long, same)) k a.0 a.1 in
      subst (λ n. WokenInVain n p.side h.idle) a.2 (subst (λ s. WokenInVain a.0.queue s h.idle) a.3 w)

  claims_of : SinceClaims start calls now
  claims_of = record {
    mid = h.mid;
    busy = h.busy;
    idle = h.idle;
    whole = h.whole;
    unsettled = h.unsettled;
    resting = h.resting;
    rest = h.rest;
    seven = seven_calls start h.mid h.busy ok h.unsettled;
    six = six_calls start h.mid h.busy ok h.unsettled;
    even = even_idle h.rest;
    wake = wake_idle h.rest;
  }

pub since_claims : (now : Round) (calls : List Event) → (s : StandsSince now calls) → SinceClaims s.start calls now
since_claims now calls s = claims_of s.start now calls s.round (halves calls s.start now s.made)

-- a step of another actor
pub paced_beside : (pending pending' : Pendings) (calls : List Event) (now : Round) → Paced pending calls now → ((k : ℕ) (q : Post) → slice_get now.posts k ≡ Some q → pending q.queue q.side ≡ true → pending' q.queue q.side ≡ true) → Paced pending' calls now
paced_beside pending pending' calls now p stays = record { start = p.start; mid = p.mid; busy = p.busy; idle = p.idle; whole = p.whole; round = p.round; unsettled = p.unsettled; resting = p.resting; idled = elim p.idled [ inl none ↦ inl none | inr i ↦ inr (go i) ] }
  where
    go : Idled pending p.mid p.idle → Idled pending' p.mid p.idle
    go i =
        let mid = round_after p.busy p.start p.mid p.round (unmarked_of p.busy p.start p.mid p.unsettled) in
        let q = post_after p.idle p.mid now mid p.resting i.called.place i.called.post i.called.there in
        let there = subst (λ s. pending q.0.queue s ≡ true) (sym q.3) (subst (λ m. pending m i.called.post.side ≡ true) (sym q.2) i.called.pends) in
        let then = stays i.called.place q.0 q.1 there in
        record {
          rest = i.rest;
          called = record { place = i.called.place; post = i.called.post; there = i.called.there; pends = subst (λ m. pending' m i.called.post.side ≡ true) q.2 (subst (λ s. pending' q.0.queue s ≡ true) q.3 then) };
          unwoken = i.unwoken;
        }

-- the round as it is now
pub round_now : (pending : Pendings) (calls : List Event) (now : Round) → Paced pending calls now → IsRound now
round_now pending calls now p = round_after p.idle p.mid now (round_after p.busy p.start p.mid p.round (unmarked_of p.busy p.start p.mid p.unsettled)) p.resting

-- the end of a queue, if there is one
find_post : (n : ℕ) (ps : List Post) → ((k : ℕ) × (p : Post) × (slice_get ps k ≡ Some p) × (p.queue ≡ n)) ⊎ ((k : ℕ) (p : Post) → slice_get ps k ≡ Some p → p.queue ≡ n → ⊥)
find_post n [] = inr (λ k p at same. cc)
find_post n (q ∷ ps) = elim (decide q.queue n) [
  | inl same ↦ inl (0, q, refl, same)
  | inr apart ↦ elim (find_post n ps) [
    | inl f ↦ inl (suc f.0, f.1, f.2, f.3)
    | inr none ↦ inr (go apart none)
  ]
]
  where
    go : (q.queue ≡ n → ⊥) → ((k : ℕ) (p : Post) → slice_get ps k ≡ Some p → p.queue ≡ n → ⊥) → (k : ℕ) (p : Post) → slice_get (q ∷ ps) k ≡ Some p → p.queue ≡ n → ⊥
    go apart none zero p at same = apart (ap (λ (x : Post). x.queue) (some_post q p at) ∙ same)
      where
        some_post : (a b : Post) → Some a ≡ Some b → a ≡ b
        some_post a b h = cc
    go apart none (suc k) p at same = none k p at same

-- at most 8 calls on each queue
module _ (pending : Pendings) (calls : List Event) (now : Round) (p : Paced pending calls now) where
  all_unmarked : Unmarked p.start (p.busy ++ p.idle) now
  all_unmarked = unmarked_join p.busy p.idle p.start p.mid now (unmarked_of p.busy p.start p.mid p.unsettled) p.resting

  on_end : (k : ℕ) (q : Post) → slice_get p.start.posts k ≡ Some q → ((p.idle ≡ []) ⊎ Idled pending p.mid p.idle) → calls_on q.queue p.busy + calls_on q.queue p.idle ≤ 8
  on_end k q at (inl none) =
      let s = seven_calls p.start p.mid p.busy p.round p.unsettled k q at in
      let z : calls_on q.queue p.idle ≡ 0 = ap (calls_on q.queue) none in
      omega (arith, s, z)
  on_end k q at (inr i) =
      let u = unmarked_of p.busy p.start p.mid p.unsettled in
      let s = six_calls p.start p.mid p.busy p.round p.unsettled i.rest k q at in
      let m = post_after p.busy p.start p.mid p.round u k q at in
      let ok = round_after p.busy p.start p.mid p.round u in
      let two = two_calls p.idle p.mid now ok i.rest p.resting i.called.place k i.called.post m.0 i.called.there m.1 i.unwoken in
      let two' = subst (λ x. calls_on x p.idle ≤ 2) m.2 two in
      omega (arith, s, two')

  pub eight : (n : ℕ) → calls_on n calls ≤ 8
  eight n = subst (λ es. calls_on n es ≤ 8) (sym p.whole) (elim (find_post n p.start.posts) [
    | inl f ↦ subst (λ x. calls_on x (p.busy ++ p.idle) ≤ 8) f.3 (let h = on_end f.0 f.1 f.2 p.idled in let j = calls_join f.1.queue p.busy p.idle in omega (arith, h, j))
    | inr none ↦ let h = no_calls (p.busy ++ p.idle) p.start now p.round all_unmarked n none in omega (arith, h)
  ])

pub at_le_on : (r : Role) (n : ℕ) (es : List Event) → calls_at r n es ≤ calls_on n es
at_le_on r n [] = omega arith
at_le_on r n (e ∷ es) = let h = at_le_on r n es in let b = less (is_role (role_of e.op) r) (e.queue.0 == n) in omega (arith, h, b)
  where
    less : (a b : Bool) → bit (a && b) ≤ bit b
    less true b = omega arith
    less false b = omega arith
