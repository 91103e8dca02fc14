-- The laws of these meanings.
use Rattle.std.proofs.Common.{◌≡◌, ◌++◌, ℕ, false, List, [], ◌∷◌, map}
use Rattle.std.proofs.Common.{refl, subst, sym, ap, ◌∙◌}
use Rattle.std.specs.List.{AllByRecursion}
use Rattle.std.proofs.lemmas.List.{append-nil}
use Rattle.wire_core.specs.declared.names.Side.{Side}
use Rattle.wire_core.specs.declared.names.Side.TheVariants.{Forward, Backward}
use Rattle.wire_core.specs.Ends.{Role, Consumer, Producer, End, role_of, waiting_role}
use Rattle.wire_core.specs.Deeds.{Deed, Cargo}
use Rattle.wire_core.specs.Lists.{Passed, with_deed}
use Rattle.wire_core.proofs.Beside.{take_beside, put_beside}
use Rattle.turn_kit.specs.Dropping.{dropping}
use Rattle.turn_kit.specs.Turns.{Post}
use Rattle.play_core.proofs.Lists.{map_get}
use Rattle.play_core.specs.Manners.{Calm}
use Rattle.actor_set.specs.Actors.{ActorStandsFor, ActorEnd, actor_round, part_of}
use Rattle.actor_set.specs.Laws.Kinds.{manner_of}
use Rattle.actor_set.proofs.LawsLemmas.Beside.{fits_beside, stands_beside}
use Rattle.actor_set.proofs.LawsLemmas.Alike.{alike_more}
use Rattle.actor_set.proofs.LawsLemmas.Paces.{EndPost, end_post}
use Rattle.actor_set.proofs.LawsLemmas.Starts.{fits_whole}
use Rattle.small_system.specs.Meanings.{Own, Lawful}
use Rattle.small_rows.specs.declared.wrapping.Wrapped.{Wrapped}
use Rattle.small_rows.specs.Wrappings.{wrapped_means}

-- the side on which an end waits
abbrev waiting_side : Role → Side
waiting_side Consumer = Forward
waiting_side Producer = Backward

side_waits : (r : Role) → waiting_role (waiting_side r) ≡ r
side_waits Consumer = refl
side_waits Producer = refl

-- the post of an end, where the actor waits
waiting_own : (x : Wrapped) (r : Role) (n : ℕ) → EndPost x.actor (waiting_side r) n
    → Own wrapped_means x r n
waiting_own x r n p = record {
  place = p.0;
  post = dropping false p.1;
  there = map_get (dropping false) (actor_round x.actor).posts p.0 p.1 p.2;
  queue = p.3;
  role = ap waiting_role p.4 ∙ side_waits r;
}

-- an end of an actor that isn't hostile is one of its posts
pub own_end : (x : Wrapped) → manner_of (part_of x.actor) ≡ Calm → (r : Role) (n : ℕ)
    → ActorEnd x.actor r n → Own wrapped_means x r n
own_end x calm Consumer n h =
    waiting_own x Consumer n (end_post x.actor Forward n calm h)
own_end x calm Producer n h =
    waiting_own x Producer n (end_post x.actor Backward n calm h)

still : (xs more : List Cargo) → more ≡ [] → xs ++ more ≡ xs
still xs more none = ap (λ c. xs ++ c) none ∙ append-nil xs

-- the end at which a call is made
called_at : (x : Wrapped) → manner_of (part_of x.actor) ≡ Calm → (d : Deed) (r : Role) (n : ℕ)
    → role_of d.event.op ≡ r
    → d.event.queue.0 ≡ n → ActorEnd x.actor r n
    → Own wrapped_means x (role_of d.event.op) d.event.queue.0
called_at x calm d r n a b own =
    own_end x calm (role_of d.event.op) d.event.queue.0
    (subst (λ q. ActorEnd x.actor q d.event.queue.0) (sym a)
    (subst (ActorEnd x.actor r) (sym b) own))

beside : (ends : Role → ℕ → End) (p : Passed) (d : Deed) (x : Wrapped)
    → wrapped_means.Fits ends x
    → (Own wrapped_means x (role_of d.event.op) d.event.queue.0 → ⊥) → ActorStandsFor x.actor p
    → ActorStandsFor x.actor (with_deed p d)
beside ends p d x f off st =
    stands_beside p (with_deed p d) x.actor (fits_whole ends x.actor f.0)
    (alike_more x.actor p.calls d.event
    (λ own. absurd (off (own_end x f.1 (role_of d.event.op) d.event.queue.0 own))))
    (λ n own. still (p.taken n) _
    (take_beside d n (λ a b. off (called_at x f.1 d Consumer n a b own))))
    (λ n own. still (p.sent n) _
    (put_beside d n (λ a b. off (called_at x f.1 d Producer n a b own))))
    st

-- at each of these ends it waits
all_wait : (ps : List Post)
    → AllByRecursion (λ (p : Post). p.drops ≡ false) (map (dropping false) ps)
all_wait [] = tt
all_wait (p ∷ ps) = (refl, all_wait ps)

-- the laws of the meanings of actors in their wrappings
pub wrapped_lawful : Lawful wrapped_means
wrapped_lawful = record {
  fits_beside = λ a b x same f.
      (fits_beside a b x.actor (λ r n own. same r n (own_end x f.1 r n own)) f.0, f.1, f.2);
  stands_beside = beside;
  waits = λ x. all_wait (actor_round x.actor).posts;
}
