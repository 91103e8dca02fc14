-- The laws of these meanings: each actor looks at its own ends alone.
use Rattle.std.proofs.Common.{◌≡◌, ◌==◌, if◌then◌else◌, ◌++◌, ℕ, false, List, [], ◌∷◌, refl, sym}
use Rattle.std.proofs.Common.{ap, ◌∙◌, subst}
use Rattle.std.specs.List.{AllByRecursion}
use Rattle.std.proofs.lemmas.List.{append-nil}
use Rattle.wire_core.specs.declared.names.Event.{Event}
use Rattle.wire_core.specs.declared.names.Op.{Op}
use Rattle.wire_core.specs.declared.names.Op.TheVariants as Do
use Rattle.wire_core.specs.Ends.{Role, Consumer, Producer, End, role_of}
use Rattle.wire_core.specs.Deeds.{Deed, Cargo}
use Rattle.wire_core.specs.Lists.{Passed, with_deed}
use Rattle.wire_core.proofs.Beside.{take_beside, put_beside}
use Rattle.wire_core.proofs.Sinces.{eqb_apart}
use Rattle.turn_kit.specs.Table.{Agrees}
use Rattle.turn_kit.specs.Turns.{Post}
use Rattle.turn_kit.specs.Posts.{intake_post, outlet_post}
use Rattle.class_expect.specs.SerialSwitch.Carried.{bytes_carried}
use Rattle.small_system.specs.Meanings.{Own, Lawful}
use Rattle.library_examples.specs.declared.class_example.source.Source.{Source}
use Rattle.library_examples.specs.declared.class_example.joiner.Joiner.{Joiner}
use Rattle.library_examples.specs.declared.class_example.joiner.Claim.{Claim}
use Rattle.library_examples.specs.declared.class_example.joiner.Claim.TheVariants.{Open, First, Second}
use Rattle.library_examples.specs.declared.class_example.member.Member.{Member}
use Rattle.library_examples.specs.declared.class_example.member.Member.TheVariants as Members
use Rattle.library_examples.specs.ClassExample.Sources.{SourceStandsFor}
use Rattle.library_examples.specs.ClassExample.Joiners.{claim_of, claim_with, claim_from, claim_by}
use Rattle.library_examples.specs.ClassExample.Joiners.{JoinerStandsFor}
use Rattle.library_examples.specs.ClassExample.Members.{FitsMember, MemberStandsFor, member_round, member_means}

-- one call more
pub claim_more : (f s : ℕ) (c : Claim) (es : List Event) (e : Event)
    → claim_from f s c (es ++ e ∷ [])
    ≡ claim_with (claim_from f s c es) (claim_of f s e.op e.queue.0)
claim_more f s c [] e = refl
claim_more f s c (x ∷ es) e =
    claim_more f s (claim_with c (claim_of f s x.op x.queue.0)) es e

-- from no input nothing changes
pub claim_open : (c : Claim) → claim_with c Open ≡ c
claim_open Open = refl
claim_open First = refl
claim_open Second = refl

-- a call at none of these inputs takes from none
claim_off : (f s : ℕ) (o : Op) (q : ℕ) → (role_of o ≡ Consumer → q ≡ f → ⊥)
    → (role_of o ≡ Consumer → q ≡ s → ⊥) → claim_of f s o q ≡ Open
claim_off f s Do.Take q a b =
    ap (λ h. if h then First else (if q == s then Second else Open)) (eqb_apart q f (a refl))
    ∙ ap (λ h. if h then Second else Open) (eqb_apart q s (b refl))
claim_off f s Do.Put q a b = refl
claim_off f s Do.See q a b = refl
claim_off f s Do.Room q a b = refl
claim_off f s (Do.Ask x) q a b = refl
claim_off f s (Do.Waive x) q a b = refl
claim_off f s (Do.Wake x) q a b = refl
claim_off f s (Do.Wanted x) q a b = refl
claim_off f s (Do.Settle x) q a b = refl
claim_off f s (Do.Ring x) q a b = refl
claim_off f s (Do.Store w v) q a b = refl

-- the end of a source, and the two of a joiner
own_output : (s : Source) (r : Role) (n : ℕ) → r ≡ Producer → n ≡ s.output.queue.0
    → Own member_means (Members.Source s) r n
own_output s r n e q = record {
  place = 0;
  post = outlet_post s.output;
  there = refl;
  queue = sym q;
  role = sym e;
}

own_first : (j : Joiner) (r : Role) (n : ℕ) → r ≡ Consumer → n ≡ j.first.queue.0
    → Own member_means (Members.Joiner j) r n
own_first j r n e q = record {
  place = 0;
  post = intake_post j.first;
  there = refl;
  queue = sym q;
  role = sym e;
}

own_second : (j : Joiner) (r : Role) (n : ℕ) → r ≡ Consumer → n ≡ j.second.queue.0
    → Own member_means (Members.Joiner j) r n
own_second j r n e q = record {
  place = 1;
  post = intake_post j.second;
  there = refl;
  queue = sym q;
  role = sym e;
}

fits_beside : (a b : Role → ℕ → End) (x : Member)
    → ((r : Role) (n : ℕ) → Own member_means x r n → b r n ≡ a r n) → FitsMember a x
    → FitsMember b x
fits_beside a b (Members.Source s) same f =
    let o = same Producer s.output.queue.0 (own_output s Producer s.output.queue.0 refl refl) in
    record {
      output = subst (λ e. Agrees e s.output.state) (sym o) f.output;
      says = ap (λ (e : End). e.kind) o ∙ f.says;
      next = f.next;
    }
fits_beside a b (Members.Joiner j) same f =
    let one = same Consumer j.first.queue.0 (own_first j Consumer j.first.queue.0 refl refl) in
    let other =
    same Consumer j.second.queue.0 (own_second j Consumer j.second.queue.0 refl refl) in
    record {
      first = subst (λ e. Agrees e j.first.state) (sym one) f.first;
      second = subst (λ e. Agrees e j.second.state) (sym other) f.second;
      apart = f.apart;
    }

still : (xs more : List Cargo) → more ≡ [] → xs ++ more ≡ xs
still xs more none = ap (λ c. xs ++ c) none ∙ append-nil xs

source_beside : (s : Source) (p : Passed) (d : Deed)
    → (Own member_means (Members.Source s) (role_of d.event.op) d.event.queue.0 → ⊥)
    → SourceStandsFor s p → SourceStandsFor s (with_deed p d)
source_beside s p d off st = record {
  sent_is = still (p.sent s.output.queue.0) _
      (put_beside d s.output.queue.0
      (λ r n. off (own_output s (role_of d.event.op) d.event.queue.0 r n)))
      ∙ st.sent_is;
}

joiner_beside : (j : Joiner) (p : Passed) (d : Deed)
    → (Own member_means (Members.Joiner j) (role_of d.event.op) d.event.queue.0 → ⊥)
    → JoinerStandsFor j p → JoinerStandsFor j (with_deed p d)
joiner_beside j p d off st =
    let f = j.first.queue.0 in
    let s = j.second.queue.0 in
    let off_first : role_of d.event.op ≡ Consumer → d.event.queue.0 ≡ f → ⊥ =
    λ r n. off (own_first j (role_of d.event.op) d.event.queue.0 r n) in
    let off_second : role_of d.event.op ≡ Consumer → d.event.queue.0 ≡ s → ⊥ =
    λ r n. off (own_second j (role_of d.event.op) d.event.queue.0 r n) in
    let one = still (p.taken f) _ (take_beside d f off_first) in
    let other = still (p.taken s) _ (take_beside d s off_second) in
    let none = claim_off f s d.event.op d.event.queue.0 off_first off_second in
    record {
      claim_is = st.claim_is
          ∙ sym (claim_more f s Open p.calls d.event
          ∙ (ap (claim_with (claim_by f s p.calls)) none ∙ claim_open (claim_by f s p.calls)));
      record_is = st.record_is
          ∙ (ap (λ r. bytes_carried r ++ bytes_carried (p.taken s)) (sym one)
          ∙ ap (λ r. bytes_carried ((with_deed p d).taken f) ++ bytes_carried r) (sym other));
      first_alone = λ h. other ∙ st.first_alone h;
      second_alone = λ h. one ∙ st.second_alone h;
    }

stands_beside : (ends : Role → ℕ → End) (p : Passed) (d : Deed) (x : Member) → FitsMember ends x
    → (Own member_means x (role_of d.event.op) d.event.queue.0 → ⊥) → MemberStandsFor x p
    → MemberStandsFor x (with_deed p d)
stands_beside ends p d (Members.Source s) f off st = source_beside s p d off st
stands_beside ends p d (Members.Joiner j) f off st = joiner_beside j p d off st

waits : (x : Member) → AllByRecursion (λ (p : Post). p.drops ≡ false) (member_round x).posts
waits (Members.Source s) = (refl, tt)
waits (Members.Joiner j) = (refl, (refl, tt))

-- the laws of the meanings of both kinds
pub member_lawful : Lawful member_means
member_lawful = record {
  fits_beside = fits_beside;
  stands_beside = stands_beside;
  waits = waits;
}
