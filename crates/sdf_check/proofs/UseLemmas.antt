use Rattle.std.proofs.Common.{◌≡◌, ◌↔◌, ℕ, ◌+◌, ◌<◌, ◌≤◌, List, length, get_or, true, false, cond, Option, Some, None, refl, sym, ◌∙◌, ap, subst, arith, inl, inr, ◌⊎◌, ⊎_elim}
use Rattle.std.specs.List.{slice_get}
use Rattle.std.specs.Option.{IsSomeAnd}
use Rattle.std.specs.BTreeMap.{is_at}
use Rattle.std.proofs.lemmas.Grind.{common_steps}
use Rattle.std.proofs.lemmas.Bool.{cases_Bool, cases_lt, cases_order}
use Rattle.std.proofs.lemmas.Option.{slice_get_past, slice_get-get_or}
use Rattle.sdf_plan.specs.declared.plan.Plan.{Plan}
use Rattle.sdf_plan.specs.declared.plan.End.{End}
use Rattle.sdf_plan.specs.declared.plan.Channel.{Channel}
use Rattle.sdf_plan.specs.Elements.{OfEnd, OfChannel}
use Rattle.sdf_check.specs.Names.{domain_named}
use Rattle.sdf_check.specs.Rules.{IsEarlierEnd, EarlierEndHas}
use Rattle.sdf_check.specs.Uses.{use_cmp, HasUse, UsesUpTo}
use Rattle.sdf_check.proofs.SweepLemmas.{some-inj, none-is-some}

-- two facts about what an option holds
pub both : {X : Type 0} (o : Option X) (P Q : X → Type 0) (R : Type 0) → ((x : X) → P x → Q x → R) → IsSomeAnd o P → IsSomeAnd o Q → R
both None P Q R f p q = absurd p
both (Some x) P Q R f p q = f x p q

pub some-map : {X : Type 0} (o : Option X) (P Q : X → Type 0) → ((x : X) → P x → Q x) → IsSomeAnd o P → IsSomeAnd o Q
some-map None P Q f p = p
some-map (Some x) P Q f p = f x p

-- a place that holds something is a place of the list
pub some-within : {X : Type 0} (xs : List X) (k : ℕ) (P : X → Type 0) → IsSomeAnd (slice_get xs k) P → k < length xs
some-within xs k P h =
    ⊎_elim (λ (less : k < length xs). less) (λ (past : length xs ≤ k). absurd (subst (λ o. IsSomeAnd o P) (slice_get_past xs k past) h)) (cases_lt k (length xs))

-- what a known end uses
has-end : (plan : Plan) (d id c e : ℕ) (end : End) → OfEnd plan c e (λ other. other ≡ end) → HasUse plan d id c e
    → (domain_named plan end.pd ≡ Some d) × (end.id ≡ id)
has-end plan d id c e end is has =
    both (slice_get plan.channel c) (λ channel. IsSomeAnd (slice_get channel.end e) (λ other. other ≡ end))
    (λ channel. IsSomeAnd (slice_get channel.end e) (λ other. (domain_named plan other.pd ≡ Some d) × (other.id ≡ id))) _
    (λ channel p q. both (slice_get channel.end e) (λ other. other ≡ end) (λ other. (domain_named plan other.pd ≡ Some d) × (other.id ≡ id)) _
    (λ other same h. subst (λ (x : End). (domain_named plan x.pd ≡ Some d) × (x.id ≡ id)) same h) p q) is has

end-has : (plan : Plan) (d id c e : ℕ) (end : End) → OfEnd plan c e (λ other. other ≡ end) → domain_named plan end.pd ≡ Some d → end.id ≡ id → HasUse plan d id c e
end-has plan d id c e end is named same =
    some-map (slice_get plan.channel c) (λ channel. IsSomeAnd (slice_get channel.end e) (λ other. other ≡ end)) _
    (λ channel p. some-map (slice_get channel.end e) (λ other. other ≡ end) _
    (λ other e. subst (λ (x : End). (domain_named plan x.pd ≡ Some d) × (x.id ≡ id)) (sym e) (named, same)) p) is

-- the ends before the next one are those before this one, and this one
later : (c e channel at : ℕ) → IsEarlierEnd c e channel at → IsEarlierEnd c e channel (at + 1)
later c e channel at early = ⊎_elim (λ (h : c < channel). inl h) (λ (h : (c ≡ channel) × (e < at)). let less : e < at + 1 = omega (arith, h.1) in inr (h.0, less)) early

before-next : (c e channel at : ℕ) → IsEarlierEnd c e channel (at + 1) → IsEarlierEnd c e channel at ⊎ ((c ≡ channel) × (e ≡ at))
before-next c e channel at early =
    ⊎_elim (λ (h : c < channel). inl (inl h)) (λ (h : (c ≡ channel) × (e < at + 1)).
    ⊎_elim (λ (less : e < at). inl (inr (h.0, less))) (λ (more : at ≤ e). let same : e ≡ at = omega (arith, more, h.1) in inr (h.0, same)) (cases_lt e at)) early

-- the order of the keys tells equal ones
use-same : (d id other key : ℕ) → is_at (use_cmp (d, id)) (other, key) ≡ true → (other ≡ d) × (key ≡ id)
use-same d id other key hit = (grind (arith, common_steps, hit), grind (arith, common_steps, hit))

use-self : (d id : ℕ) → is_at (use_cmp (d, id)) (d, id) ≡ true
use-self d id = grind (arith, common_steps)

-- a use is of an end that is there
end-within : (plan : Plan) (d id number e at : ℕ) (channel : Channel) → OfChannel plan number (λ other. other ≡ channel) → length channel.end ≤ at
    → HasUse plan d id number e → e < at
end-within plan d id number e at channel is over has =
    both (slice_get plan.channel number) (λ other. other ≡ channel)
    (λ other. IsSomeAnd (slice_get other.end e) (λ end. (domain_named plan end.pd ≡ Some d) × (end.id ≡ id))) _
    (λ other same h. let less : e < length other.end = some-within other.end e _ h in
    let len : length other.end ≡ length channel.end = ap (λ (x : Channel). length x.end) same in omega (arith, less, len, over)) is has

channel-within : (plan : Plan) (d id c e : ℕ) → HasUse plan d id c e → c < length plan.channel
channel-within plan d id c e has = some-within plan.channel c _ has

-- of two places, one before the other
not-after : (c e c' e' channel at : ℕ) → (IsEarlierEnd c' e' c e → ⊥) → IsEarlierEnd c' e' channel at → IsEarlierEnd c e channel at
not-after c e c' e' channel at apart early =
    ⊎_elim (λ (same : c ≡ c').
    let order : e ≤ e' = ⊎_elim (λ (h : e' < e). absurd (apart (inr (sym same, h)))) (λ (h : e ≤ e'). h) (cases_lt e' e) in
    ⊎_elim (λ (h : c' < channel). inl (let r : c < channel = omega (arith, same, h) in r))
    (λ (h : (c' ≡ channel) × (e' < at)). inr (same ∙ h.0, (let r : e < at = omega (arith, order, h.1) in r))) early)
    (⊎_elim (λ (less : c < c'). ⊎_elim (λ (h : c' < channel). inl (let r : c < channel = omega (arith, less, h) in r))
    (λ (h : (c' ≡ channel) × (e' < at)). inl (let r : c < channel = omega (arith, less, h.0) in r)) early)
    (λ (more : c' < c). absurd (apart (inl more)))) (cases_order c c')

-- an end that brings no new use
pub uses-skip : (find : ℕ × ℕ → Option (ℕ × ℕ)) (plan : Plan) (channel at : ℕ)
    → ((d id : ℕ) → HasUse plan d id channel at → find (d, id) ≡ None → ⊥) → UsesUpTo find plan channel at → UsesUpTo find plan channel (at + 1)
uses-skip find plan channel at skip u = record {
  found = λ d id c e is. let f = u.found d id c e is in (f.0, later c e channel at f.1, f.2);
  none = λ d id is c e early has.
      ⊎_elim (λ (h : IsEarlierEnd c e channel at). u.none d id is c e h has) (λ (h : (c ≡ channel) × (e ≡ at)).
      let here : HasUse plan d id channel at = subst (λ n. HasUse plan d id channel n) h.1 (subst (λ n. HasUse plan d id n e) h.0 has) in skip d id here is)
      (before-next c e channel at early);
}

pub skip-none : (find : ℕ × ℕ → Option (ℕ × ℕ)) (plan : Plan) (channel at : ℕ) (end : End) → OfEnd plan channel at (λ other. other ≡ end)
    → domain_named plan end.pd ≡ None → UsesUpTo find plan channel at → UsesUpTo find plan channel (at + 1)
skip-none find plan channel at end is unnamed u =
    uses-skip find plan channel at (λ d id has none. none-is-some (sym unnamed ∙ (has-end plan d id channel at end is has).0)) u

pub skip-had : (find : ℕ × ℕ → Option (ℕ × ℕ)) (plan : Plan) (channel at domain : ℕ) (end : End) → OfEnd plan channel at (λ other. other ≡ end)
    → domain_named plan end.pd ≡ Some domain → (find (domain, end.id) ≡ None → ⊥) → UsesUpTo find plan channel at → UsesUpTo find plan channel (at + 1)
skip-had find plan channel at domain end is named had u =
    uses-skip find plan channel at (λ d id has none.
    let h = has-end plan d id channel at end is has in
    let same : d ≡ domain = some-inj (sym h.0 ∙ named) in
    had (subst (λ (n : ℕ). find (domain, n) ≡ None) (sym h.1) (subst (λ (n : ℕ). find (n, id) ≡ None) same none))) u

-- an end that brings a new use
pub uses-add : (find new : ℕ × ℕ → Option (ℕ × ℕ)) (plan : Plan) (channel at domain : ℕ) (end : End) → OfEnd plan channel at (λ other. other ≡ end)
    → domain_named plan end.pd ≡ Some domain → find (domain, end.id) ≡ None
    → ((q : ℕ × ℕ) → new q ≡ cond (is_at (use_cmp (domain, end.id)) q) (Some (channel, at)) (find q))
    → UsesUpTo find plan channel at → UsesUpTo new plan channel (at + 1)
uses-add find new plan channel at domain end is named absent updated u = record {
  found = λ d id c e got.
      ⊎_elim (λ (hit : is_at (use_cmp (domain, end.id)) (d, id) ≡ true).
      let same = use-same domain end.id d id hit in
      let place : (channel, at) ≡ (c, e) = some-inj (sym (updated (d, id) ∙ ap (λ b. cond b (Some (channel, at)) (find (d, id))) hit) ∙ got) in
      let ec : c ≡ channel = ap (λ (r : ℕ × ℕ). r.0) (sym place) in
      let ee : e ≡ at = ap (λ (r : ℕ × ℕ). r.1) (sym place) in
      let less : e < at + 1 = omega (arith, ee) in
      let here : HasUse plan d id channel at = end-has plan d id channel at end is (named ∙ ap Some (sym same.0)) (sym same.1) in
      let gone : find (d, id) ≡ None = subst (λ (n : ℕ). find (d, n) ≡ None) (sym same.1) (subst (λ (n : ℕ). find (n, end.id) ≡ None) (sym same.0) absent) in (
        subst (λ n. HasUse plan d id n e) (sym ec) (subst (λ n. HasUse plan d id channel n) (sym ee) here),
        inr (ec, less),
        λ c' e' early. u.none d id gone c' e' (subst (λ n. IsEarlierEnd c' e' n at) ec (subst (λ n. IsEarlierEnd c' e' c n) ee early)),
      ))
      (λ (miss : is_at (use_cmp (domain, end.id)) (d, id) ≡ false).
      let f = u.found d id c e (sym (updated (d, id) ∙ ap (λ b. cond b (Some (channel, at)) (find (d, id))) miss) ∙ got) in (f.0, later c e channel at f.1, f.2))
      (cases_Bool (is_at (use_cmp (domain, end.id)) (d, id)));
  none = λ d id got c e early has.
      ⊎_elim (λ (hit : is_at (use_cmp (domain, end.id)) (d, id) ≡ true).
      none-is-some (sym got ∙ updated (d, id) ∙ ap (λ b. cond b (Some (channel, at)) (find (d, id))) hit))
      (λ (miss : is_at (use_cmp (domain, end.id)) (d, id) ≡ false).
      let gone : find (d, id) ≡ None = sym (updated (d, id) ∙ ap (λ b. cond b (Some (channel, at)) (find (d, id))) miss) ∙ got in
      ⊎_elim (λ (h : IsEarlierEnd c e channel at). u.none d id gone c e h has) (λ (h : (c ≡ channel) × (e ≡ at)).
      let here : HasUse plan d id channel at = subst (λ n. HasUse plan d id channel n) h.1 (subst (λ n. HasUse plan d id n e) h.0 has) in
      let f = has-end plan d id channel at end is here in
      let same : d ≡ domain = some-inj (sym f.0 ∙ named) in
      let hit : is_at (use_cmp (domain, end.id)) (d, id) ≡ true = rw (same, ← f.1) (use-self domain end.id) in
      let no : true ≡ false = sym hit ∙ miss in cc) (before-next c e channel at early))
      (cases_Bool (is_at (use_cmp (domain, end.id)) (d, id)));
}

-- the ends of a channel are over
pub uses-next : (find : ℕ × ℕ → Option (ℕ × ℕ)) (plan : Plan) (number at : ℕ) (channel : Channel) → OfChannel plan number (λ other. other ≡ channel)
    → length channel.end ≤ at → UsesUpTo find plan number at → UsesUpTo find plan (number + 1) 0
uses-next find plan number at channel is over u = record {
  found = λ d id c e got.
      let f = u.found d id c e got in
      let early : c < number + 1 = ⊎_elim (λ (h : c < number). let r : c < number + 1 = omega (arith, h) in r) (λ (h : (c ≡ number) × (e < at)). let r : c < number + 1 = omega (arith, h.0) in r) f.1 in
      (f.0, inl early, f.2);
  none = λ d id got c e early has.
      ⊎_elim (λ (h : c < number + 1).
      ⊎_elim (λ (less : c < number). u.none d id got c e (inl less) has) (λ (more : number ≤ c).
      let same : c ≡ number = omega (arith, more, h) in
      u.none d id got c e (inr (same, end-within plan d id number e at channel is over (subst (λ n. HasUse plan d id n e) same has))) has) (cases_lt c number))
      (λ (h : (c ≡ number + 1) × (e < 0)). let no : ⊥ = omega (arith, h.1) in absurd no) early;
}

-- no use in no ends
pub uses-none : (find : ℕ × ℕ → Option (ℕ × ℕ)) (plan : Plan) → ((q : ℕ × ℕ) → find q ≡ None) → UsesUpTo find plan 0 0
uses-none find plan none = record {
  found = λ d id c e got. absurd (none-is-some (sym (none (d, id)) ∙ got));
  none = λ d id got c e early has.
      ⊎_elim (λ (h : c < 0). let no : ⊥ = omega (arith, h) in no) (λ (h : (c ≡ 0) × (e < 0)). let no : ⊥ = omega (arith, h.1) in no) early;
}

-- the whole table tells of each end whether its use was there before
pub use-found : (find : ℕ × ℕ → Option (ℕ × ℕ)) (plan : Plan) (channel at d id c e : ℕ) → UsesUpTo find plan (length plan.channel) 0
    → find (d, id) ≡ Some (c, e) → IsEarlierEnd c e channel at ↔ EarlierEndHas plan channel at d id
use-found find plan channel at d id c e u got =
    let f = u.found d id c e got in
    (λ early. (c, e, early, f.0), λ h. not-after c e h.0 h.1 channel at (λ before. f.2 h.0 h.1 before h.3) h.2)

pub use-none : (find : ℕ × ℕ → Option (ℕ × ℕ)) (plan : Plan) (channel at d id : ℕ) → UsesUpTo find plan (length plan.channel) 0
    → find (d, id) ≡ None → EarlierEndHas plan channel at d id → ⊥
use-none find plan channel at d id u got h = u.none d id got h.0 h.1 (inl (channel-within plan d id h.0 h.1 h.3)) h.3

-- an item of a slice is at its place
pub item-at : {X : Type 0} (all items : List X) (at : ℕ) (item : X) → items ≡ all → at < length items → item ≡ get_or items at item
    → slice_get all at ≡ Some item
item-at {X} all items at item same less is = subst (λ (xs : List X). slice_get xs at ≡ Some item) same (slice_get-get_or items at item less ∙ ap Some (sym is))

pub channel-there : (plan : Plan) (items : List Channel) (number : ℕ) (item : Channel) → items ≡ plan.channel → number < length items → item ≡ get_or items number item
    → OfChannel plan number (λ other. other ≡ item)
channel-there plan items number item same less is = rw (item-at plan.channel items number item same less is) refl

pub end-there : (plan : Plan) (number at : ℕ) (channel : Channel) (items : List End) (item : End) → OfChannel plan number (λ other. other ≡ channel)
    → items ≡ channel.end → at < length items → item ≡ get_or items at item → OfEnd plan number at (λ other. other ≡ item)
end-there plan number at channel items item there same less is =
    some-map (slice_get plan.channel number) (λ other. other ≡ channel) (λ other. IsSomeAnd (slice_get other.end at) (λ end. end ≡ item))
    (λ other eq. let here : slice_get other.end at ≡ Some item = item-at other.end items at item (same ∙ ap (λ (c : Channel). c.end) (sym eq)) less is in rw here refl) there
