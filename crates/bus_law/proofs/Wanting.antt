use Rattle.std.proofs.Common.{◌≡◌, ◌+◌, ◌++◌, ℕ, zero, suc, Bool, Some, List, [], ◌∷◌, length, length-append, map, slice_get, refl, ap, ◌∙◌, subst, arith}
use Rattle.std.proofs.lemmas.List.{length-map}
use Rattle.wire_core.specs.declared.names.QueueId.{QueueId}
use Rattle.wire_core.specs.Ends.{Role, Consumer, Producer, End, waiting_role}
use Rattle.wire_core.specs.Journal.{nobody}
use Rattle.turn_kit.specs.Table.{Agrees}
use Rattle.turn_kit.specs.Turns.{Post}
use Rattle.turn_kit.specs.Posts.{intake_post, outlet_post}
use Rattle.turn_kit.specs.ManyEnds.{needs_from, intake_posts, outlet_posts}
use Rattle.turn_kit.specs.declared.ends.Intake.{Intake}
use Rattle.turn_kit.specs.declared.ends.Outlet.{Outlet}
use Rattle.buffer_kit.specs.Virtualising.{from_queues, to_queues, virt_posts}
use Rattle.play_core.specs.Wants.{Want, Needful}
use Rattle.play_core.specs.Still.{HasWant}
use Rattle.play_core.specs.Rests.Meeting.{Meet}
use Rattle.play_core.proofs.Lists.{some_is, map_get, map_from}
use Rattle.small_system.specs.SmallLaw.Wants.{WantsAre}
use Rattle.i2c_virt.specs.Works.{wants_at, gives_at}
use Rattle.i2c_virt.specs.declared.virtualiser.I2cVirt.{I2cVirt}
use Rattle.i2c_virt.specs.Virtualising.{FitsI2cVirt}
use Rattle.bus_law.specs.declared.i2c_actors.member.Member.{Member}
use Rattle.bus_law.specs.declared.i2c_actors.member.Member.TheVariants as Members
use Rattle.bus_law.specs.I2cActors.Members.{member_round, member_means, FitsMember}

-- What an actor wants of its ends, by its own state.

abbrev pub wants_by : List Post → List Bool → List Want
wants_by [] needs = []
wants_by (p ∷ ps) [] = []
wants_by (p ∷ ps) (n ∷ ns) = record { queue = p.queue; role = waiting_role p.side; need = n } ∷ wants_by ps ns

abbrev pub member_wants : Member → List Want
member_wants x = wants_by (member_round x).posts (member_round x).needs

abbrev pub Agree : (Role → ℕ → End) → List Post → Type 0
Agree ends ps = (i : ℕ) (p : Post) → slice_get ps i ≡ Some p → Agrees (ends (waiting_role p.side) p.queue) p.state

meet_all : (ends : Role → ℕ → End) (ps : List Post) (ns : List Bool) → length ns ≡ length ps → Agree ends ps → Meet ends ps ns (wants_by ps ns)
meet_all ends [] [] many agree = tt
meet_all ends [] (n ∷ ns) many agree = absurd (omega (arith, many))
meet_all ends (p ∷ ps) [] many agree = absurd (omega (arith, many))
meet_all ends (p ∷ ps) (n ∷ ns) many agree = (record { needs = refl; agrees = agree 0 p refl }, meet_all ends ps ns (omega (arith, many)) (λ i q at. agree (suc i) q at))

pub agree_cons : (ends : Role → ℕ → End) (p : Post) (ps : List Post) → Agrees (ends (waiting_role p.side) p.queue) p.state → Agree ends ps → Agree ends (p ∷ ps)
agree_cons ends p ps here rest zero q at = subst (λ (x : Post). Agrees (ends (waiting_role x.side) x.queue) x.state) (some_is at) here
agree_cons ends p ps here rest (suc i) q at = rest i q at

agree_nil : (ends : Role → ℕ → End) → Agree ends []
agree_nil ends i p at = cc

agree_join : (ends : Role → ℕ → End) (ps qs : List Post) → Agree ends ps → Agree ends qs → Agree ends (ps ++ qs)
agree_join ends [] qs one other = other
agree_join ends (p ∷ ps) qs one other = agree_cons ends p (ps ++ qs) (one 0 p refl) (agree_join ends ps qs (λ i q at. one (suc i) q at) other)

needs_many : (f : ℕ → Bool) (place : ℕ) (qs : List QueueId) → length (needs_from f place qs) ≡ length qs
needs_many f place [] = refl
needs_many f place (q ∷ qs) = ap suc (needs_many f (place + 1) qs)

pub virt_agree : (ends : Role → ℕ → End) (v : I2cVirt) → FitsI2cVirt ends v → Agree ends (virt_posts v.ends)
virt_agree ends v f =
    agree_cons ends (intake_post v.ends.input) (outlet_post v.ends.output ∷ (intake_posts v.ends.from_clients ++ outlet_posts v.ends.to_clients)) f.ends_fit.input
    (agree_cons ends (outlet_post v.ends.output) (intake_posts v.ends.from_clients ++ outlet_posts v.ends.to_clients) f.ends_fit.output
    (agree_join ends (intake_posts v.ends.from_clients) (outlet_posts v.ends.to_clients)
    (λ i p at. let x = map_from intake_post v.ends.from_clients.ends.items i p at in subst (λ (y : Post). Agrees (ends (waiting_role y.side) y.queue) y.state) x.2 (f.ends_fit.from_clients.agrees i x.0 x.1))
    (λ i p at. let x = map_from outlet_post v.ends.to_clients.ends.items i p at in subst (λ (y : Post). Agrees (ends (waiting_role y.side) y.queue) y.state) x.2 (f.ends_fit.to_clients.agrees i x.0 x.1))))

pub virt_many : (v : I2cVirt) → length (member_round (Members.Virt v)).needs ≡ length (virt_posts v.ends)
virt_many v =
    let a = needs_many (wants_at v.work) 0 (from_queues v.ends) in
    let b = needs_many (gives_at v.work) 0 (to_queues v.ends) in
    let c = length-map v.ends.from_clients.ends.items (λ (i : Intake). i.queue) in
    let d = length-map v.ends.to_clients.ends.items (λ (i : Outlet). i.queue) in
    let e = length-map v.ends.from_clients.ends.items intake_post in
    let f = length-map v.ends.to_clients.ends.items outlet_post in
    let g = length-append (needs_from (wants_at v.work) 0 (from_queues v.ends)) (needs_from (gives_at v.work) 0 (to_queues v.ends)) in
    let h = length-append (intake_posts v.ends.from_clients) (outlet_posts v.ends.to_clients) in
    omega (arith, a, b, c, d, e, f, g, h)

pub member_agree : (ends : Role → ℕ → End) (x : Member) → FitsMember ends x → Agree ends (member_round x).posts
member_agree ends (Members.Client c) f = agree_cons ends (intake_post c.responses) (outlet_post c.requests ∷ []) f.responses (agree_cons ends (outlet_post c.requests) [] f.requests (agree_nil ends))
member_agree ends (Members.Virt v) f = virt_agree ends v f
member_agree ends (Members.Driver d) f =
    let p = d.driver.pipes.first in
    let q = d.driver.pipes.rest in
    agree_cons ends (intake_post p.input) (outlet_post p.output ∷ intake_post q.input ∷ outlet_post q.output ∷ []) f.each.0.input
    (agree_cons ends (outlet_post p.output) (intake_post q.input ∷ outlet_post q.output ∷ []) f.each.0.output
    (agree_cons ends (intake_post q.input) (outlet_post q.output ∷ []) f.each.1.0.input
    (agree_cons ends (outlet_post q.output) [] f.each.1.0.output (agree_nil ends))))
member_agree ends (Members.Bus b) f = agree_cons ends (intake_post b.input) (outlet_post b.output ∷ []) f.input (agree_cons ends (outlet_post b.output) [] f.output (agree_nil ends))

pub member_many : (x : Member) → length (member_round x).needs ≡ length (member_round x).posts
member_many (Members.Client c) = refl
member_many (Members.Virt v) = virt_many v
member_many (Members.Driver d) = refl
member_many (Members.Bus b) = refl

pub wants_are : WantsAre member_means member_wants
wants_are ends x f = meet_all ends (member_round x).posts (member_round x).needs (member_many x) (member_agree ends x f)

-- each end of an actor is one that it wants
pub want_at : (ps : List Post) (ns : List Bool) (i : ℕ) (p : Post) (b : Bool) → slice_get ps i ≡ Some p → slice_get ns i ≡ Some b → slice_get (wants_by ps ns) i ≡ Some (record { queue = p.queue; role = waiting_role p.side; need = b })
want_at [] ns i p b at need = cc
want_at (q ∷ ps) [] i p b at need = cc
want_at (q ∷ ps) (n ∷ ns) zero p b at need =
    ap (λ (x : Post). Some (let w : Want = record { queue = x.queue; role = waiting_role x.side; need = n } in w)) (some_is at)
    ∙ ap (λ (x : Bool). Some (let w : Want = record { queue = p.queue; role = waiting_role p.side; need = x } in w)) (some_is need)
want_at (q ∷ ps) (n ∷ ns) (suc i) p b at need = want_at ps ns i p b at need

module _ (actors : List Member) where
  abbrev pub wanted : Needful
  wanted = map member_wants actors

  has_want : (k : ℕ) (x : Member) → slice_get actors k ≡ Some x → (i : ℕ) (p : Post) (b : Bool) → slice_get (member_round x).posts i ≡ Some p → slice_get (member_round x).needs i ≡ Some b → HasWant nobody wanted (record { queue = p.queue; role = waiting_role p.side; need = b })
  has_want k x there i p b at need = record {
    ends = member_wants x;
    acts = record { actor = k; calm = refl; there = map_get member_wants actors k x there };
    place = i;
    is = want_at (member_round x).posts (member_round x).needs i p b at need;
  }

  -- an end on this queue, needed so
  pub has_intake : (k : ℕ) (x : Member) → slice_get actors k ≡ Some x → (i : ℕ) (e : Intake) (b : Bool) → slice_get (member_round x).posts i ≡ Some (intake_post e) → slice_get (member_round x).needs i ≡ Some b → (q : ℕ) → e.queue.0 ≡ q → (need : Bool) → b ≡ need → HasWant nobody wanted (record { queue = q; role = Consumer; need = need })
  has_intake k x there i e b at has q is need so =
      subst (λ m. HasWant nobody wanted (record { queue = m; role = Consumer; need = need })) is
      (subst (λ m. HasWant nobody wanted (record { queue = e.queue.0; role = Consumer; need = m })) so (has_want k x there i (intake_post e) b at has))

  pub has_outlet : (k : ℕ) (x : Member) → slice_get actors k ≡ Some x → (i : ℕ) (e : Outlet) (b : Bool) → slice_get (member_round x).posts i ≡ Some (outlet_post e) → slice_get (member_round x).needs i ≡ Some b → (q : ℕ) → e.queue.0 ≡ q → (need : Bool) → b ≡ need → HasWant nobody wanted (record { queue = q; role = Producer; need = need })
  has_outlet k x there i e b at has q is need so =
      subst (λ m. HasWant nobody wanted (record { queue = m; role = Producer; need = need })) is
      (subst (λ m. HasWant nobody wanted (record { queue = e.queue.0; role = Producer; need = m })) so (has_want k x there i (outlet_post e) b at has))

-- the ends of the virtualiser at the clients
get_past : {T : Type 0} (xs ys : List T) (k : ℕ) (y : T) → slice_get ys k ≡ Some y → slice_get (xs ++ ys) (length xs + k) ≡ Some y
get_past [] ys k y at = let z : k ≡ 0 + k = omega arith in subst (λ m. slice_get ys m ≡ Some y) z at
get_past (x ∷ xs) ys k y at = let z : suc (length xs + k) ≡ suc (length xs) + k = omega arith in subst (λ m. slice_get (x ∷ (xs ++ ys)) m ≡ Some y) z (get_past xs ys k y at)

get_before : {T : Type 0} (xs ys : List T) (k : ℕ) (x : T) → slice_get xs k ≡ Some x → slice_get (xs ++ ys) k ≡ Some x
get_before [] ys k x at = cc
get_before (y ∷ xs) ys zero x at = at
get_before (y ∷ xs) ys (suc k) x at = get_before xs ys k x at

needs_at : (f : ℕ → Bool) (place : ℕ) (qs : List QueueId) (k : ℕ) (q : QueueId) → slice_get qs k ≡ Some q → slice_get (needs_from f place qs) k ≡ Some (f (place + k))
needs_at f place [] k q at = cc
needs_at f place (p ∷ qs) zero q at = let e : place ≡ place + 0 = omega arith in ap (λ m. Some (f m)) e
needs_at f place (p ∷ qs) (suc k) q at = let e : (place + 1) + k ≡ place + suc k = omega arith in needs_at f (place + 1) qs k q at ∙ ap (λ m. Some (f m)) e

module _ (actors : List Member) (v : I2cVirt) (n : ℕ) (there : slice_get actors n ≡ Some (Members.Virt v)) where
  pub takes_from : (k : ℕ) (q : QueueId) → slice_get (from_queues v.ends) k ≡ Some q → (need : Bool) → wants_at v.work k ≡ need → HasWant nobody (wanted actors) (record { queue = q.0; role = Consumer; need = need })
  takes_from k q at need so =
      let x = map_from (λ (i : Intake). i.queue) v.ends.from_clients.ends.items k q at in
      let z : 0 + k ≡ k = omega arith in
      has_intake actors n (Members.Virt v) there (suc (suc k)) x.0 (wants_at v.work (0 + k))
      (get_before (intake_posts v.ends.from_clients) (outlet_posts v.ends.to_clients) k (intake_post x.0) (map_get intake_post v.ends.from_clients.ends.items k x.0 x.1))
      (get_before (needs_from (wants_at v.work) 0 (from_queues v.ends)) (needs_from (gives_at v.work) 0 (to_queues v.ends)) k (wants_at v.work (0 + k)) (needs_at (wants_at v.work) 0 (from_queues v.ends) k q at))
      q.0 (ap (λ (y : QueueId). y.0) x.2) need (ap (wants_at v.work) z ∙ so)

  pub gives_to : (k : ℕ) (q : QueueId) → slice_get (to_queues v.ends) k ≡ Some q → (need : Bool) → gives_at v.work k ≡ need → HasWant nobody (wanted actors) (record { queue = q.0; role = Producer; need = need })
  gives_to k q at need so =
      let x = map_from (λ (i : Outlet). i.queue) v.ends.to_clients.ends.items k q at in
      let z : 0 + k ≡ k = omega arith in
      let m = length-map v.ends.from_clients.ends.items intake_post in
      let e = needs_many (wants_at v.work) 0 (from_queues v.ends) in
      let f = length-map v.ends.from_clients.ends.items (λ (i : Intake). i.queue) in
      let same : length (needs_from (wants_at v.work) 0 (from_queues v.ends)) ≡ length (intake_posts v.ends.from_clients) = omega (arith, m, e, f) in
      has_outlet actors n (Members.Virt v) there (suc (suc (length (intake_posts v.ends.from_clients) + k))) x.0 (gives_at v.work (0 + k))
      (get_past (intake_posts v.ends.from_clients) (outlet_posts v.ends.to_clients) k (outlet_post x.0) (map_get outlet_post v.ends.to_clients.ends.items k x.0 x.1))
      (subst (λ i. slice_get (needs_from (wants_at v.work) 0 (from_queues v.ends) ++ needs_from (gives_at v.work) 0 (to_queues v.ends)) (i + k) ≡ Some (gives_at v.work (0 + k))) same (get_past (needs_from (wants_at v.work) 0 (from_queues v.ends)) (needs_from (gives_at v.work) 0 (to_queues v.ends)) k (gives_at v.work (0 + k)) (needs_at (gives_at v.work) 0 (to_queues v.ends) k q at)))
      q.0 (ap (λ (y : QueueId). y.0) x.2) need (ap (gives_at v.work) z ∙ so)
