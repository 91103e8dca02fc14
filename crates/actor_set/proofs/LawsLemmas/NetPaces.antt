-- The rounds of the network's actors: their posts are their ends, and no two are of one queue.
use Rattle.std.proofs.Common.{◌≡◌, ◌⊎◌, ◌+◌, ◌++◌, ℕ, zero, suc, Bool, false, Some, List, [], ◌∷◌, length, map, slice_get, length-append, refl, sym, ap, ◌∙◌, subst, arith, inl, inr}
use Rattle.std.proofs.lemmas.List.{length-map}
use Rattle.wire_core.specs.declared.names.QueueId.{QueueId}
use Rattle.wire_core.specs.declared.names.Side.{Side}
use Rattle.wire_core.specs.declared.names.Side.TheVariants.{Forward, Backward}
use Rattle.wire_core.specs.Ends.{Role, Consumer, Producer, waiting_role}
use Rattle.turn_kit.specs.declared.ends.Intake.{Intake}
use Rattle.turn_kit.specs.declared.ends.Outlet.{Outlet}
use Rattle.turn_kit.specs.declared.pipe.Pipe.{Pipe}
use Rattle.turn_kit.specs.Posts.{intake_post, outlet_post}
use Rattle.turn_kit.specs.ManyEnds.{intake_posts, outlet_posts, needs_from}
use Rattle.turn_kit.specs.Turns.{Post}
use Rattle.pipe_driver.specs.Drivers.{IsOneOf, IsNoneOf, AreDistinct, PipesEnd, inputs_of, outputs_of, pipe_posts, pipe_needs}
use Rattle.play_core.proofs.Lists.{some_is, map_get, map_from}
use Rattle.buffer_kit.specs.Virtualising.{VirtOwns, from_queues, to_queues, virt_posts, virt_needs}
use Rattle.buffer_kit.specs.declared.virt_ends.VirtEnds.{VirtEnds}
use Rattle.buffer_kit.proofs.TwoLists.{get_front}
use Rattle.actor_set.specs.StartStates.{HasApartQueues}

-- a post is one of these ends, and never drops
abbrev pub IsPostAt : (Role → ℕ → Type 0) → Post → Type 0
IsPostAt E p = E (waiting_role p.side) p.queue × (p.drops ≡ false)

-- an end has a post of its own
abbrev pub HasPost : List Post → Side → ℕ → Type 0
HasPost posts s n = (k : ℕ) × (p : Post) × (slice_get posts k ≡ Some p) × (p.queue ≡ n) × (p.side ≡ s)

-- no two posts are of one queue
abbrev pub ArePostsApart : List Post → Type 0
ArePostsApart posts = (k j : ℕ) (p q : Post) → slice_get posts k ≡ Some p → slice_get posts j ≡ Some q → p.queue ≡ q.queue → k ≡ j

-- four posts, of each of which this holds
pub four_of : (P : Post → Type 0) (a b c d : Post) → P a → P b → P c → P d → (k : ℕ) (p : Post) → slice_get (a ∷ b ∷ c ∷ d ∷ []) k ≡ Some p → P p
four_of P a b c d pa pb pc pd zero p at = subst P (some_is at) pa
four_of P a b c d pa pb pc pd (suc zero) p at = subst P (some_is at) pb
four_of P a b c d pa pb pc pd (suc (suc zero)) p at = subst P (some_is at) pc
four_of P a b c d pa pb pc pd (suc (suc (suc zero))) p at = subst P (some_is at) pd
four_of P a b c d pa pb pc pd (suc (suc (suc (suc k)))) p at = cc

-- four posts that never drop
pub four_posts : (E : Role → ℕ → Type 0) (a b c d : Post) → IsPostAt E a → IsPostAt E b → IsPostAt E c → IsPostAt E d → (k : ℕ) (p : Post) → slice_get (a ∷ b ∷ c ∷ d ∷ []) k ≡ Some p → IsPostAt E p
four_posts E a b c d ea eb ec ed k p at = four_of (IsPostAt E) a b c d ea eb ec ed k p at

-- a driver's posts
pub pipes_post : (ps : List Pipe) (k : ℕ) (p : Post) → slice_get (pipe_posts ps) k ≡ Some p → IsPostAt (PipesEnd ps) p
pipes_post [] k p at = cc
pipes_post (x ∷ ps) zero p at = subst (IsPostAt (PipesEnd (x ∷ ps))) (some_is at) (inl refl, refl)
pipes_post (x ∷ ps) (suc zero) p at = subst (IsPostAt (PipesEnd (x ∷ ps))) (some_is at) (inl refl, refl)
pipes_post (x ∷ ps) (suc (suc k)) p at = let rest = pipes_post ps k p at in (further (waiting_role p.side) rest.0, rest.1)
  where
    further : (r : Role) → PipesEnd ps r p.queue → PipesEnd (x ∷ ps) r p.queue
    further Consumer h = inr h
    further Producer h = inr h

pub pipes_has : (ps : List Pipe) (s : Side) (n : ℕ) → PipesEnd ps (waiting_role s) n → HasPost (pipe_posts ps) s n
pipes_has [] Forward n h = absurd h
pipes_has [] Backward n h = absurd h
pipes_has (x ∷ ps) Forward n (inl h) = (0, intake_post x.input, refl, sym h, refl)
pipes_has (x ∷ ps) Backward n (inl h) = (1, outlet_post x.output, refl, sym h, refl)
pipes_has (x ∷ ps) Forward n (inr h) = let rest = pipes_has ps Forward n h in (suc (suc rest.0), rest.1, rest.2, rest.3, rest.4)
pipes_has (x ∷ ps) Backward n (inr h) = let rest = pipes_has ps Backward n h in (suc (suc rest.0), rest.1, rest.2, rest.3, rest.4)

pub pipes_size : (ps : List Pipe) → length (pipe_needs ps) ≡ length (pipe_posts ps)
pipes_size [] = refl
pipes_size (p ∷ ps) = ap (λ n. suc (suc n)) (pipes_size ps)

none_one : (n : ℕ) (ms : List ℕ) → IsNoneOf n ms → IsOneOf n ms → ⊥
none_one n [] none one = one
none_one n (m ∷ ms) none (inl h) = none.0 h
none_one n (m ∷ ms) none (inr h) = none_one n ms none.1 h

-- a pipe's ends are no ends of the others
pipe_in : (x : Pipe) (ps : List Pipe) → AreDistinct (inputs_of (x ∷ ps)) → AreDistinct (outputs_of (x ∷ ps)) → ((n : ℕ) → IsOneOf n (inputs_of (x ∷ ps)) → IsOneOf n (outputs_of (x ∷ ps)) → ⊥) → (j : ℕ) (q : Post) → slice_get (pipe_posts ps) j ≡ Some q → x.input.queue.0 ≡ q.queue → ⊥
pipe_in x ps i o loop j q b same = by q.side (pipes_post ps j q b).0
  where
    by : (s : Side) → PipesEnd ps (waiting_role s) q.queue → ⊥
    by Forward h = none_one x.input.queue.0 (inputs_of ps) i.0 (subst (λ n. IsOneOf n (inputs_of ps)) (sym same) h)
    by Backward h = loop x.input.queue.0 (inl refl) (inr (subst (λ n. IsOneOf n (outputs_of ps)) (sym same) h))

pipe_out : (x : Pipe) (ps : List Pipe) → AreDistinct (inputs_of (x ∷ ps)) → AreDistinct (outputs_of (x ∷ ps)) → ((n : ℕ) → IsOneOf n (inputs_of (x ∷ ps)) → IsOneOf n (outputs_of (x ∷ ps)) → ⊥) → (j : ℕ) (q : Post) → slice_get (pipe_posts ps) j ≡ Some q → x.output.queue.0 ≡ q.queue → ⊥
pipe_out x ps i o loop j q b same = by q.side (pipes_post ps j q b).0
  where
    by : (s : Side) → PipesEnd ps (waiting_role s) q.queue → ⊥
    by Forward h = loop x.output.queue.0 (inr (subst (λ n. IsOneOf n (inputs_of ps)) (sym same) h)) (inl refl)
    by Backward h = none_one x.output.queue.0 (outputs_of ps) o.0 (subst (λ n. IsOneOf n (outputs_of ps)) (sym same) h)

pub pipes_apart : (ps : List Pipe) → AreDistinct (inputs_of ps) → AreDistinct (outputs_of ps) → ((n : ℕ) → IsOneOf n (inputs_of ps) → IsOneOf n (outputs_of ps) → ⊥) → ArePostsApart (pipe_posts ps)
pipes_apart [] i o loop k j p q a b e = cc
pipes_apart (x ∷ ps) i o loop zero zero p q a b e = refl
pipes_apart (x ∷ ps) i o loop (suc zero) (suc zero) p q a b e = refl
pipes_apart (x ∷ ps) i o loop zero (suc zero) p q a b e = absurd (loop x.input.queue.0 (inl refl) (inl (ap (λ (z : Post). z.queue) (some_is a) ∙ (e ∙ sym (ap (λ (z : Post). z.queue) (some_is b))))))
pipes_apart (x ∷ ps) i o loop (suc zero) zero p q a b e = absurd (loop x.input.queue.0 (inl refl) (inl (ap (λ (z : Post). z.queue) (some_is b) ∙ (sym e ∙ sym (ap (λ (z : Post). z.queue) (some_is a))))))
pipes_apart (x ∷ ps) i o loop zero (suc (suc j)) p q a b e = absurd (pipe_in x ps i o loop j q b (ap (λ (z : Post). z.queue) (some_is a) ∙ e))
pipes_apart (x ∷ ps) i o loop (suc (suc k)) zero p q a b e = absurd (pipe_in x ps i o loop k p a (ap (λ (z : Post). z.queue) (some_is b) ∙ sym e))
pipes_apart (x ∷ ps) i o loop (suc zero) (suc (suc j)) p q a b e = absurd (pipe_out x ps i o loop j q b (ap (λ (z : Post). z.queue) (some_is a) ∙ e))
pipes_apart (x ∷ ps) i o loop (suc (suc k)) (suc zero) p q a b e = absurd (pipe_out x ps i o loop k p a (ap (λ (z : Post). z.queue) (some_is b) ∙ sym e))
pipes_apart (x ∷ ps) i o loop (suc (suc k)) (suc (suc j)) p q a b e = ap (λ n. suc (suc n)) (pipes_apart ps i.1 o.1 (λ n c d. loop n (inr c) (inr d)) k j p q a b e)

-- a virtualiser's posts
get_split : {X : Type 0} (xs ys : List X) (k : ℕ) (x : X) → slice_get (xs ++ ys) k ≡ Some x → (slice_get xs k ≡ Some x) ⊎ ((j : ℕ) × (slice_get ys j ≡ Some x) × (k ≡ length xs + j))
get_split [] ys k x at = inr (k, at, plus k)
  where
    plus : (n : ℕ) → n ≡ 0 + n
    plus n = omega arith
get_split (y ∷ xs) ys zero x at = inl at
get_split (y ∷ xs) ys (suc k) x at = by (get_split xs ys k x at)
  where
    by : (slice_get xs k ≡ Some x) ⊎ ((j : ℕ) × (slice_get ys j ≡ Some x) × (k ≡ length xs + j)) → (slice_get xs k ≡ Some x) ⊎ ((j : ℕ) × (slice_get ys j ≡ Some x) × (suc k ≡ length (y ∷ xs) + j))
    by (inl h) = inl h
    by (inr h) = inr (h.0, h.1, omega (arith, h.2))

get_back : {X : Type 0} (xs ys : List X) (j : ℕ) (y : X) → slice_get ys j ≡ Some y → slice_get (xs ++ ys) (length xs + j) ≡ Some y
get_back [] ys j y at = ap (slice_get ys) plus ∙ at
  where
    plus : 0 + j ≡ j
    plus = omega arith
get_back (x ∷ xs) ys j y at = ap (slice_get (x ∷ (xs ++ ys))) step ∙ get_back xs ys j y at
  where
    step : length (x ∷ xs) + j ≡ suc (length xs + j)
    step = omega arith

module _ (v : VirtEnds) where
  abbrev ins : List Post
  ins = intake_posts v.from_clients

  abbrev outs : List Post
  outs = outlet_posts v.to_clients

  -- a post of a client's end
  abbrev FromClient : ℕ → Post → Type 0
  FromClient k p = (q : QueueId) × (slice_get (from_queues v) k ≡ Some q) × (p.queue ≡ q.0) × (p.side ≡ Forward) × (p.drops ≡ false)

  abbrev ToClient : ℕ → Post → Type 0
  ToClient k p = (q : QueueId) × (slice_get (to_queues v) k ≡ Some q) × (p.queue ≡ q.0) × (p.side ≡ Backward) × (p.drops ≡ false)

  from_client : (k : ℕ) (p : Post) → slice_get ins k ≡ Some p → FromClient k p
  from_client k p at =
      let f = map_from intake_post v.from_clients.ends.items k p at in
      (f.0.queue, map_get (λ (i : Intake). i.queue) v.from_clients.ends.items k f.0 f.1, ap (λ (z : Post). z.queue) (sym f.2), ap (λ (z : Post). z.side) (sym f.2), ap (λ (z : Post). z.drops) (sym f.2))

  to_client : (k : ℕ) (p : Post) → slice_get outs k ≡ Some p → ToClient k p
  to_client k p at =
      let f = map_from outlet_post v.to_clients.ends.items k p at in
      (f.0.queue, map_get (λ (i : Outlet). i.queue) v.to_clients.ends.items k f.0 f.1, ap (λ (z : Post). z.queue) (sym f.2), ap (λ (z : Post). z.side) (sym f.2), ap (λ (z : Post). z.drops) (sym f.2))

  own_in : (k : ℕ) (p : Post) → FromClient k p → VirtOwns v Consumer p.queue
  own_in k p c = inr (k, c.0, c.1, c.2)

  own_out : (k : ℕ) (p : Post) → ToClient k p → VirtOwns v Producer p.queue
  own_out k p c = inr (k, c.0, c.1, c.2)

  pub virt_post : (k : ℕ) (p : Post) → slice_get (virt_posts v) k ≡ Some p → IsPostAt (VirtOwns v) p
  virt_post zero p at = subst (IsPostAt (VirtOwns v)) (some_is at) (inl refl, refl)
  virt_post (suc zero) p at = subst (IsPostAt (VirtOwns v)) (some_is at) (inl refl, refl)
  virt_post (suc (suc k)) p at = by (get_split ins outs k p at)
    where
      by : (slice_get ins k ≡ Some p) ⊎ ((j : ℕ) × (slice_get outs j ≡ Some p) × (k ≡ length ins + j)) → IsPostAt (VirtOwns v) p
      by (inl h) = let c = from_client k p h in (subst (λ s. VirtOwns v (waiting_role s) p.queue) (sym c.3) (own_in k p c), c.4)
      by (inr h) = let c = to_client h.0 p h.1 in (subst (λ s. VirtOwns v (waiting_role s) p.queue) (sym c.3) (own_out h.0 p c), c.4)

  pub virt_has : (s : Side) (n : ℕ) → VirtOwns v (waiting_role s) n → HasPost (virt_posts v) s n
  virt_has Forward n (inl h) = (0, intake_post v.input, refl, sym h, refl)
  virt_has Backward n (inl h) = (1, outlet_post v.output, refl, sym h, refl)
  virt_has Forward n (inr h) =
      let f = map_from (λ (i : Intake). i.queue) v.from_clients.ends.items h.0 h.1 h.2 in
      (suc (suc h.0), intake_post f.0, get_front ins outs h.0 (intake_post f.0) (map_get intake_post v.from_clients.ends.items h.0 f.0 f.1), ap (λ (q : QueueId). q.0) f.2 ∙ sym h.3, refl)
  virt_has Backward n (inr h) =
      let f = map_from (λ (i : Outlet). i.queue) v.to_clients.ends.items h.0 h.1 h.2 in
      (suc (suc (length ins + h.0)), outlet_post f.0, get_back ins outs h.0 (outlet_post f.0) (map_get outlet_post v.to_clients.ends.items h.0 f.0 f.1), ap (λ (q : QueueId). q.0) f.2 ∙ sym h.3, refl)

  needs_long : {X : Type 0} (need : ℕ → Bool) (c : ℕ) (queue : X → QueueId) (xs : List X) → length (needs_from need c (map queue xs)) ≡ length xs
  needs_long need c queue [] = refl
  needs_long need c queue (x ∷ xs) = ap suc (needs_long need (c + 1) queue xs)

  pub virt_size : (need owed : Bool) (needs loads : ℕ → Bool) → length (virt_needs v need owed needs loads) ≡ length (virt_posts v)
  virt_size need owed needs loads =
      let a = needs_long needs 0 (λ (i : Intake). i.queue) v.from_clients.ends.items in
      let b = needs_long loads 0 (λ (i : Outlet). i.queue) v.to_clients.ends.items in
      let c = length-map v.from_clients.ends.items intake_post in
      let d = length-map v.to_clients.ends.items outlet_post in
      let e = length-append (needs_from needs 0 (from_queues v)) (needs_from loads 0 (to_queues v)) in
      let f = length-append ins outs in
      omega (arith, a, b, c, d, e, f)

  module _ (h : HasApartQueues v) (loop : (n : ℕ) → VirtOwns v Consumer n → VirtOwns v Producer n → ⊥) where
    -- a client's end is no end of the driver's queues
    client_in : (k : ℕ) (p : Post) → slice_get (ins ++ outs) k ≡ Some p → v.input.queue.0 ≡ p.queue → ⊥
    client_in k p at same = by (get_split ins outs k p at)
      where
        by : (slice_get ins k ≡ Some p) ⊎ ((j : ℕ) × (slice_get outs j ≡ Some p) × (k ≡ length ins + j)) → ⊥
        by (inl f) = let c = from_client k p f in h.input k c.0 c.1 (same ∙ c.2)
        by (inr t) = loop p.queue (inl (sym same)) (own_out t.0 p (to_client t.0 p t.1))

    client_out : (k : ℕ) (p : Post) → slice_get (ins ++ outs) k ≡ Some p → v.output.queue.0 ≡ p.queue → ⊥
    client_out k p at same = by (get_split ins outs k p at)
      where
        by : (slice_get ins k ≡ Some p) ⊎ ((j : ℕ) × (slice_get outs j ≡ Some p) × (k ≡ length ins + j)) → ⊥
        by (inl f) = loop p.queue (own_in k p (from_client k p f)) (inl (sym same))
        by (inr t) = let c = to_client t.0 p t.1 in h.output t.0 c.0 c.1 (same ∙ c.2)

    clients_apart : (k j : ℕ) (p q : Post) → slice_get (ins ++ outs) k ≡ Some p → slice_get (ins ++ outs) j ≡ Some q → p.queue ≡ q.queue → k ≡ j
    clients_apart k j p q a b e = by (get_split ins outs k p a) (get_split ins outs j q b)
      where
        by : (slice_get ins k ≡ Some p) ⊎ ((n : ℕ) × (slice_get outs n ≡ Some p) × (k ≡ length ins + n)) → (slice_get ins j ≡ Some q) ⊎ ((n : ℕ) × (slice_get outs n ≡ Some q) × (j ≡ length ins + n)) → k ≡ j
        by (inl f) (inl g) = let c = from_client k p f in let d = from_client j q g in h.from k j c.0 d.0 c.1 d.1 (sym c.2 ∙ (e ∙ d.2))
        by (inl f) (inr t) = absurd (loop q.queue (subst (VirtOwns v Consumer) e (own_in k p (from_client k p f))) (own_out t.0 q (to_client t.0 q t.1)))
        by (inr t) (inl g) = absurd (loop p.queue (subst (VirtOwns v Consumer) (sym e) (own_in j q (from_client j q g))) (own_out t.0 p (to_client t.0 p t.1)))
        by (inr t) (inr u) =
            let c = to_client t.0 p t.1 in
            let d = to_client u.0 q u.1 in
            let same = h.to t.0 u.0 c.0 d.0 c.1 d.1 (sym c.2 ∙ (e ∙ d.2)) in
            omega (arith, same, t.2, u.2)

    pub virt_apart : ArePostsApart (virt_posts v)
    virt_apart zero zero p q a b e = refl
    virt_apart (suc zero) (suc zero) p q a b e = refl
    virt_apart zero (suc zero) p q a b e = absurd (loop v.input.queue.0 (inl refl) (inl (ap (λ (z : Post). z.queue) (some_is a) ∙ (e ∙ sym (ap (λ (z : Post). z.queue) (some_is b))))))
    virt_apart (suc zero) zero p q a b e = absurd (loop v.input.queue.0 (inl refl) (inl (ap (λ (z : Post). z.queue) (some_is b) ∙ (sym e ∙ sym (ap (λ (z : Post). z.queue) (some_is a))))))
    virt_apart zero (suc (suc j)) p q a b e = absurd (client_in j q b (ap (λ (z : Post). z.queue) (some_is a) ∙ e))
    virt_apart (suc (suc k)) zero p q a b e = absurd (client_in k p a (ap (λ (z : Post). z.queue) (some_is b) ∙ sym e))
    virt_apart (suc zero) (suc (suc j)) p q a b e = absurd (client_out j q b (ap (λ (z : Post). z.queue) (some_is a) ∙ e))
    virt_apart (suc (suc k)) (suc zero) p q a b e = absurd (client_out k p a (ap (λ (z : Post). z.queue) (some_is b) ∙ sym e))
    virt_apart (suc (suc k)) (suc (suc j)) p q a b e = ap (λ n. suc (suc n)) (clients_apart k j p q a b e)
