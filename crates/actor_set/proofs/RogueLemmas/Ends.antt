-- A hostile client among the actors: its ends are its sheet's, and where nothing changes at them it
-- fits them as before and stands for the same lists; and its start state.
use Rattle.std.proofs.Common.{◌≡◌, ◌==◌, ◌<◌, ◌+◌, ◌++◌, ℕ, zero, suc, Bool, true, false, cond, Some, List, [], ◌∷◌, length, map, drop, All, get_or, slice_get, refl, sym, ap, ◌∙◌, subst, arith}
use Rattle.std.proofs.lemmas.Option.{slice_get-get_or}
use Rattle.std.proofs.lemmas.List.Sums.{sum_by-cons}
use Rattle.cargo_core.specs.Bodies.{buffers_of}
use Rattle.cargo_core.specs.Pages.{Paged}
use Rattle.cargo_core.specs.declared.act.Act.{Act}
use Rattle.cargo_core.specs.declared.act.Act.TheVariants as Acts
use Rattle.cargo_core.specs.declared.item.Body.TheVariants as Carried
use Rattle.cargo_core.specs.declared.item.PoolId.{PoolId}
use Rattle.wire_core.specs.declared.names.QueueId.{QueueId}
use Rattle.wire_core.specs.Deeds.{Cargo}
use Rattle.wire_core.specs.Ends.{Role, Consumer, Producer, End}
use Rattle.wire_core.specs.Lists.{Lists, Passed}
use Rattle.turn_kit.specs.Hands.{bodies_of, bodies_at}
use Rattle.turn_kit.proofs.Holding.{buffers-cons}
use Rattle.buffer_kit.specs.Conserving.{Count, counted}
use Rattle.buffer_kit.specs.Pools.{page_bodies}
use Rattle.play_core.specs.Moved.{Seat}
use Rattle.play_core.specs.Wants.{intake, outlet}
use Rattle.play_core.proofs.Lists.{some_is, map_get, map_from}
use Rattle.client_programs.specs.declared.rogue.Rogue.{Rogue}
use Rattle.client_programs.specs.Rogue.Acts.{Left, next_acts, queue_of}
use Rattle.client_programs.specs.Rogue.Clients.{FitsEnd, FitsRogue, HasForgotten, HasLook, IsActOf, IsNewRogue, RogueEnd, RogueStandsFor, SameRogue, ends_of, left_at_start, left_of, numbers}
use Rattle.client_programs.proofs.RogueLemmas.Owning.{all_drop, all_next, an_input, an_output}
use Rattle.actor_set.specs.Actors.{rogue_part, pages_at}
use Rattle.actor_set.specs.Parts.{HostilePart}
use Rattle.actor_set.specs.Adopting.Looks.{SameButLook}
use Rattle.actor_set.specs.Rogues.{pages_in, page_weighs, pages_weigh}

-- one of its ends, by their numbers
abbrev pub RogueAt : (inputs outputs : List ℕ) → Role → ℕ → Type 0
RogueAt inputs outputs Consumer n = (k : ℕ) × (slice_get inputs k ≡ Some n)
RogueAt inputs outputs Producer n = (k : ℕ) × (slice_get outputs k ≡ Some n)

-- its ends in their order
abbrev pub seats : (inputs outputs : List ℕ) → List Seat
seats inputs outputs = map intake inputs ++ map outlet outputs

an_intake : (inputs outputs : List ℕ) (k n : ℕ) → slice_get inputs k ≡ Some n → slice_get (seats inputs outputs) k ≡ Some (intake n)
an_intake [] outputs k n at = cc
an_intake (a ∷ ns) outputs zero n at = ap (λ m. Some (intake m)) (some_is at)
an_intake (a ∷ ns) outputs (suc k) n at = an_intake ns outputs k n at

an_outlet : (inputs outputs : List ℕ) (k n : ℕ) → slice_get outputs k ≡ Some n → (i : ℕ) × (slice_get (seats inputs outputs) i ≡ Some (outlet n))
an_outlet [] outputs k n at = (k, map_get outlet outputs k n at)
an_outlet (a ∷ ns) outputs k n at = let i = an_outlet ns outputs k n at in (suc i.0, i.1)

pub rogue_to : (inputs outputs : List ℕ) (r : Role) (n : ℕ) → RogueAt inputs outputs r n → (i : ℕ) × (slice_get (seats inputs outputs) i ≡ Some (record { queue = n; role = r }))
rogue_to inputs outputs Consumer n h = (h.0, an_intake inputs outputs h.0 n h.1)
rogue_to inputs outputs Producer n h = an_outlet inputs outputs h.0 n h.1

one_more : (a : ℕ) (ns outputs : List ℕ) (r : Role) (n : ℕ) → RogueAt ns outputs r n → RogueAt (a ∷ ns) outputs r n
one_more a ns outputs Consumer n h = (suc h.0, h.1)
one_more a ns outputs Producer n h = h

pub rogue_from : (inputs outputs : List ℕ) (i : ℕ) (x : Seat) → slice_get (seats inputs outputs) i ≡ Some x → RogueAt inputs outputs x.role x.queue
rogue_from [] outputs i x at = let m = map_from outlet outputs i x at in subst (λ (s : Seat). RogueAt [] outputs s.role s.queue) m.2 (i, m.1)
rogue_from (a ∷ ns) outputs zero x at = subst (λ (s : Seat). RogueAt (a ∷ ns) outputs s.role s.queue) (some_is at) (0, refl)
rogue_from (a ∷ ns) outputs (suc i) x at = one_more a ns outputs x.role x.queue (rogue_from ns outputs i x at)

-- of an act's end, where its ends stay
module _ (ends ends' : Role → ℕ → End) where
  look_beside : (x : Rogue) → ((r : Role) (n : ℕ) → RogueEnd x r n → ends' r n ≡ ends r n) → (looked : Bool) (acts : List Act) → All (IsActOf (length x.inputs.items) (length x.inputs.items + length x.outputs.items)) acts → HasLook ends (ends_of x) looked acts → HasLook ends' (ends_of x) looked acts
  look_beside x same false acts all h = tt
  look_beside x same true [] all h = absurd h
  look_beside x same true (Acts.Take k ∷ xs) all h = ap (λ (e : End). e.looked) (same Consumer (queue_of (ends_of x) k) (an_input x k (queue_of (ends_of x) k) (all 0 (Acts.Take k) (omega arith)) refl)) ∙ h
  look_beside x same true (Acts.Put k a l ∷ xs) all h = let o = all 0 (Acts.Put k a l) (omega arith) in ap (λ (e : End). e.looked) (same Producer (queue_of (ends_of x) k) (an_output x k (queue_of (ends_of x) k) o.0 o.1 refl)) ∙ h
  look_beside x same true (Acts.Give k p a l ∷ xs) all h = let o = all 0 (Acts.Give k p a l) (omega arith) in ap (λ (e : End). e.looked) (same Producer (queue_of (ends_of x) k) (an_output x k (queue_of (ends_of x) k) o.0 o.1 refl)) ∙ h
  look_beside x same true (Acts.Store k w v ∷ xs) all h = absurd h

  input_end : (x : Rogue) (k : ℕ) (d : QueueId) → k < length x.inputs.items → RogueEnd x Consumer (get_or x.inputs.items k d).0
  input_end x k d h = (k, get_or x.inputs.items k d, slice_get-get_or x.inputs.items k d h, refl)

  output_end : (x : Rogue) (k : ℕ) (d : QueueId) → k < length x.outputs.items → RogueEnd x Producer (get_or x.outputs.items k d).0
  output_end x k d h = (k, get_or x.outputs.items k d, slice_get-get_or x.outputs.items k d h, refl)

  pub fits_rogue : (x : Rogue) → ((r : Role) (n : ℕ) → RogueEnd x r n → ends' r n ≡ ends r n) → FitsRogue ends x → FitsRogue ends' x
  fits_rogue x same f = record {
    is = f.is;
    inputs = λ k d h. subst FitsEnd (sym (same Consumer (get_or x.inputs.items k d).0 (input_end x k d h))) (f.inputs k d h);
    outputs = λ k d h. let s = same Producer (get_or x.outputs.items k d).0 (output_end x k d h) in (subst FitsEnd (sym s) (f.outputs k d h).0, ap (λ (e : End). e.kind) s ∙ (f.outputs k d h).1);
    look = look_beside x same x.looked (next_acts (length x.kept.items) (drop x.next x.acts.items)) (all_next (IsActOf (length x.inputs.items) (length x.inputs.items + length x.outputs.items)) (length x.kept.items) (drop x.next x.acts.items) (all_drop (IsActOf (length x.inputs.items) (length x.inputs.items + length x.outputs.items)) x.acts.items x.next f.is.acts)) f.look;
  }

  -- where its look is forgotten, another look at its ends makes no difference
  end_anew : (e e' : End) → SameButLook e e' → FitsEnd e → FitsEnd e'
  end_anew e e' same f = record { owned = same.owned ∙ f.owned; waiter = rw same.waiter f.waiter; ringer = rw same.ringer f.ringer }

  no_look : (x : Rogue) (b : Bool) → b ≡ false → HasLook ends' (ends_of x) b (next_acts (length x.kept.items) (drop x.next x.acts.items))
  no_look x false e = tt
  no_look x true e = cc

  pub rogue_anew : (x y : Rogue) → HasForgotten x y → ((r : Role) (n : ℕ) → RogueEnd y r n → SameButLook (ends r n) (ends' r n)) → FitsRogue ends y → FitsRogue ends' y
  rogue_anew x y is same f = record {
    is = f.is;
    inputs = λ k d h. end_anew (ends Consumer (get_or y.inputs.items k d).0) (ends' Consumer (get_or y.inputs.items k d).0) (same Consumer (get_or y.inputs.items k d).0 (input_end y k d h)) (f.inputs k d h);
    outputs = λ k d h. let s = same Producer (get_or y.outputs.items k d).0 (output_end y k d h) in (end_anew (ends Producer (get_or y.outputs.items k d).0) (ends' Producer (get_or y.outputs.items k d).0) s (f.outputs k d h).0, s.kind ∙ (f.outputs k d h).1);
    look = no_look y y.looked (ap (λ (l : Left). l.looked) is.left);
  }

-- in its start state it fits its ends
module _ (ends : Role → ℕ → End) where
  pub new_rogue_fits : (x : Rogue) → IsNewRogue x.kind x.inputs.items x.outputs.items x.start.value.items (left_of x).acts x → ((n : ℕ) → RogueEnd x Consumer n → FitsEnd (ends Consumer n)) → ((n : ℕ) → RogueEnd x Producer n → FitsEnd (ends Producer n) × ((ends Producer n).kind ≡ x.kind)) → FitsRogue ends x
  new_rogue_fits x new ins outs = record {
    is = new.is;
    inputs = λ k d h. ins (get_or x.inputs.items k d).0 (input_end ends ends x k d h);
    outputs = λ k d h. outs (get_or x.outputs.items k d).0 (output_end ends ends x k d h);
    look = no_look ends ends x x.looked (ap (λ (l : Left). l.looked) new.left);
  }

-- what its pages weigh is told by its part
pub pages_counted : (f : Count) (pages : List Paged) → counted f (page_bodies pages) ≡ pages_weigh f (pages_at pages)
pages_counted f [] = refl
pages_counted f (p ∷ ps) =
    let one = sum_by-cons (page_weighs f) (record { pool = p.pool.0; number = p.no; long = length p.bytes }) (pages_at ps) in
    omega (arith, one, pages_counted f ps)

-- and it has the pages that its part tells
pages_are : (pool : PoolId) (pages : List Paged) → buffers_of pool (page_bodies pages) ≡ length (pages_in (pages_at pages) pool.0)
pages_are pool [] = refl
pages_are pool (p ∷ ps) =
    let parts : buffers_of pool (page_bodies (p ∷ ps)) ≡ cond {A = ℕ} (p.pool.0 == pool.0) 1 0 + buffers_of pool (page_bodies ps) = buffers-cons pool (Carried.Page p) (page_bodies ps) in
    parts ∙ one (p.pool.0 == pool.0) (pages_are pool ps)
  where
    one : (b : Bool) → buffers_of pool (page_bodies ps) ≡ length (pages_in (pages_at ps) pool.0) → cond {A = ℕ} b 1 0 + buffers_of pool (page_bodies ps) ≡ length (cond b (p.no ∷ pages_in (pages_at ps) pool.0) (pages_in (pages_at ps) pool.0))
    one true h = omega (arith, h)
    one false h = omega (arith, h)

pub new_rogue_hand : (x : Rogue) → IsNewRogue x.kind x.inputs.items x.outputs.items x.start.value.items (left_of x).acts x → (pool : PoolId) → buffers_of pool x.kept.items ≡ length (pages_in (pages_at x.start.value.items) pool.0)
new_rogue_hand x new pool = ap (buffers_of pool) new.keeps ∙ pages_are pool x.start.value.items

-- where nothing moved at its ends, it stands for the same lists
at_alike : (new old : Lists) (qs : List QueueId) → ((k : ℕ) (q : QueueId) → slice_get qs k ≡ Some q → new q.0 ≡ old q.0) → bodies_at new (numbers qs) ≡ bodies_at old (numbers qs)
at_alike new old [] same = refl
at_alike new old (q ∷ qs) same = ap (λ (c : List Cargo). bodies_of c ++ bodies_at new (numbers qs)) (same 0 q refl) ∙ ap (λ bs. bodies_of (old q.0) ++ bs) (at_alike new old qs (λ k. same (suc k)))

module _ (passed passed' : Passed) where
  pub stands_rogue : (x : Rogue) → ((n : ℕ) → RogueEnd x Consumer n → passed'.taken n ≡ passed.taken n) → ((n : ℕ) → RogueEnd x Producer n → passed'.sent n ≡ passed.sent n) → RogueStandsFor x passed → RogueStandsFor x passed'
  stands_rogue x ins outs f =
      let came = at_alike passed'.taken passed.taken x.inputs.items (λ k q at. ins q.0 (k, q, at, refl)) in
      let went = at_alike passed'.sent passed.sent x.outputs.items (λ k q at. outs q.0 (k, q, at, refl)) in
      rw (came, went) f

-- in its start state nothing is to be forgotten
pub new_rogue_anew : (x : Rogue) → IsNewRogue x.kind x.inputs.items x.outputs.items x.start.value.items (left_of x).acts x → HostilePart (rogue_part x (record { acts = (left_of x).acts; looked = false; kept = (left_of x).kept })) ≡ HostilePart (rogue_part x (left_at_start x))
new_rogue_anew x new =
    let fresh : x.looked ≡ false = ap (λ (l : Left). l.looked) new.left in
    let same : record { acts = (left_of x).acts; looked = false; kept = (left_of x).kept } ≡ left_of x = ap (λ b. record { acts = (left_of x).acts; looked = b; kept = (left_of x).kept }) (sym fresh) in
    ap (λ l. HostilePart (rogue_part x l)) (same ∙ sym new.start)

-- its part stays in a step, and begins anew where its look is forgotten
pub same_rogue_part : (x y : Rogue) → SameRogue x y → HostilePart (rogue_part y (left_at_start y)) ≡ HostilePart (rogue_part x (left_at_start x))
same_rogue_part x y same = rw (same.kind, same.inputs, same.outputs, same.acts, same.first, same.had, same.start) refl

pub anew_rogue_part : (x y : Rogue) → HasForgotten x y → HostilePart (rogue_part y (left_at_start y)) ≡ HostilePart (rogue_part x (record { acts = (left_of x).acts; looked = false; kept = (left_of x).kept }))
anew_rogue_part x y is = ap (λ l. HostilePart (rogue_part y l)) (is.start ∙ is.left) ∙ same (record { acts = (left_of x).acts; looked = false; kept = (left_of x).kept })
  where
    same : (l : Left) → HostilePart (rogue_part y l) ≡ HostilePart (rogue_part x l)
    same l = rw (is.kind, is.inputs, is.outputs, is.pages) refl
