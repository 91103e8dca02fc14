use Rattle.std.proofs.Common.{◌≡◌, ◌==◌, ◌&&◌, ℕ, Bool, true, false, not, Option, Some, None, is_some, is_none, IsSome, List, [], ◌∷◌, ◌++◌, ◌+◌, cond, refl, sym, ap, ◌∙◌, subst, arith}
use Rattle.std.specs.Option.{option_to_list, option_map}
use Rattle.cargo_core.specs.declared.item.Item.{Item}
use Rattle.wire_core.specs.declared.names.Event.{Event}
use Rattle.wire_core.specs.declared.names.Op.TheVariants as Do
use Rattle.wire_core.specs.Bells.{bit}
use Rattle.wire_core.specs.Deeds.{Cargo, given, put_of}
use Rattle.wire_core.specs.Lists.{Lists, with, if_there}
use Rattle.wire_core.specs.Ends.{Consumer, Producer, role_of}
use Rattle.wire_core.specs.Marks.{is_vain_look}
use Rattle.turn_kit.specs.declared.ends.Intake.{Intake}
use Rattle.turn_kit.specs.declared.ends.Outlet.{Outlet}
use Rattle.buffer_kit.specs.Entries.{filled}
use Rattle.wire_core.specs.Lists.{Passed}
use Rattle.wire_core.specs.Fates.{Word, Came, Served, Refused, Other, Fate, fate_after, marked, noes_at, is_vain_at}
use Rattle.wire_core.proofs.Fating.{fate_more, noes_more, settled_none, marked-append}
use Rattle.net_copier.specs.declared.Stage.{Stage}
use Rattle.net_copier.specs.declared.Stage.TheVariants as At
use Rattle.net_copier.specs.declared.NetCopier.{NetCopier}
use Rattle.net_copier.specs.Copying.{CopierStandsFor, IsAt, is_copied, is_taken, is_wanting, is_returning, leased_bytes, lease_fate, leases_dropped, copier_word, IsWork}
use Rattle.net_copier.proofs.Dropping.{none_dropped_held}
use Rattle.net_copier.proofs.Core.{Core, came_core, served_core, refused_core, put_core, back_core}
use Rattle.wire_core.proofs.Readings.{both_true, here, stays, moved_here, moved_not, nothing_moved, vain_take, vain_out, vain_here}
use Rattle.net_copier.proofs.Words.{word_came, word_served, word_refused, word_out}

abbrev la : NetCopier → ℕ
la c = c.lease_input.queue.0

abbrev lf : NetCopier → ℕ
lf c = c.lease_output.queue.0

abbrev ra : NetCopier → ℕ
ra c = c.buffer_output.queue.0

abbrev rf : NetCopier → ℕ
rf c = c.buffer_input.queue.0

-- the lists at the four ends say it all
pub core_of : (c : NetCopier) (passed : Passed) → CopierStandsFor c passed → Core c.drops (lease_fate c passed.calls) (passed.taken (la c)) (passed.taken (rf c)) (passed.sent (ra c)) (passed.sent (lf c)) c.lease c.buffer c.stage
core_of c passed h = record {
  leases = h.leases;
  copies = h.copies;
  takes = h.takes;
  puts = h.puts;
  none = λ off. none_dropped_held c off passed.calls;
  came = λ on. (h.tells on).came;
  waits = λ on. (h.tells on).waits;
  in_turn = h.in_turn;
  lease_at = h.work.lease;
  buffered = h.work.buffered;
}

pub of_core : (c : NetCopier) (passed : Passed) (f : Fate) (tla trf sra slf : List Cargo) → lease_fate c passed.calls ≡ f → passed.taken (la c) ≡ tla → passed.taken (rf c) ≡ trf → passed.sent (ra c) ≡ sra → passed.sent (lf c) ≡ slf → (c.drops ≡ true → noes_at Consumer (rf c) passed.calls ≡ marked f.dropped) → Core c.drops f tla trf sra slf c.lease c.buffer c.stage → CopierStandsFor c passed
of_core c passed f tla trf sra slf ef e1 e2 e3 e4 each h =
    let ed : leases_dropped c passed.calls ≡ f.dropped = ap (λ (x : Fate). x.dropped) ef in
    record {
      leases = rw (e1, e4) h.leases;
      copies = rw (e1, e2, e3, ed) h.copies;
      takes = rw (e2, e3) h.takes;
      puts = rw (e3, e4, ed) h.puts;
      in_turn = rw e4 h.in_turn;
      work = record { lease = h.lease_at; buffered = h.buffered };
      tells = λ on. record { came = rw (e1, ed) (h.came on); waits = rw ef (h.waits on); each = each on ∙ ap marked (sym ed) };
    }

plus0 : (n : ℕ) → n ≡ n + 0
plus0 n = omega arith

-- what is said of a copier of these queues, with one call more
module _ (c : NetCopier) (passed : Passed) (took put : Lists) (e : Event) (h : CopierStandsFor c passed) where
  abbrev next : Passed
  next = record { taken = with passed.taken took; sent = with passed.sent put; calls = passed.calls ++ e ∷ [] }

  abbrev fate : Fate
  fate = lease_fate c passed.calls

  fate_is : (w : Word) → copier_word c.drops (la c) (rf c) passed.calls e ≡ w → lease_fate c (passed.calls ++ e ∷ []) ≡ fate_after fate w
  fate_is w is = fate_more (copier_word c.drops (la c) (rf c)) passed.calls e ∙ ap (fate_after fate) is

  -- each look in vain dropped a lease, with this call too
  each_by : (f : Fate) (d : ℕ) → marked f.dropped ≡ marked fate.dropped + d → (c.drops ≡ true → bit (is_vain_at Consumer (rf c) e) ≡ d) → c.drops ≡ true → noes_at Consumer (rf c) (passed.calls ++ e ∷ []) ≡ marked f.dropped
  each_by f d more vain on =
      let a = noes_more Consumer (rf c) passed.calls e in
      let b = (h.tells on).each in
      let v = vain on in
      omega (arith, a, b, v, more)

  each_still : (c.drops ≡ true → is_vain_at Consumer (rf c) e ≡ false) → c.drops ≡ true → noes_at Consumer (rf c) (passed.calls ++ e ∷ []) ≡ marked fate.dropped
  each_still vain on = each_by fate 0 (omega arith) (λ o. ap bit (vain o)) on

  at_core : (lease buffer : Option Cargo) (stage : Stage) → c.lease ≡ lease → c.buffer ≡ buffer → c.stage ≡ stage → Core c.drops fate (passed.taken (la c)) (passed.taken (rf c)) (passed.sent (ra c)) (passed.sent (lf c)) lease buffer stage
  at_core lease buffer stage el eb es = subst (λ (l : Option Cargo). Core c.drops fate (passed.taken (la c)) (passed.taken (rf c)) (passed.sent (ra c)) (passed.sent (lf c)) l buffer stage) el (subst (λ (b : Option Cargo). Core c.drops fate (passed.taken (la c)) (passed.taken (rf c)) (passed.sent (ra c)) (passed.sent (lf c)) c.lease b stage) eb (subst (λ (s : Stage). Core c.drops fate (passed.taken (la c)) (passed.taken (rf c)) (passed.sent (ra c)) (passed.sent (lf c)) c.lease c.buffer s) es (core_of c passed h)))

  -- a lease came
  pub lease_came : (i : Intake) (s : Stage) (x : Cargo) → i.queue ≡ c.lease_input.queue → e.queue ≡ c.lease_input.queue → e.op ≡ Do.Take → c.lease ≡ None → IsAt s x → is_copied s ≡ false → (la c ≡ rf c → ⊥)
      → ((n : ℕ) → took n ≡ if_there (la c == n) (x ∷ [])) → ((n : ℕ) → put n ≡ []) → CopierStandsFor (record c { lease_input = i; lease = Some x; stage = s }) next
  lease_came i s x queue on op none at new apart takes puts =
      let b = no_buffer c.lease c.buffer none (λ b. (h.work.buffered b).0) in
      rw b (of_core (record c { lease_input = i; lease = Some x; stage = s; buffer = None }) next (fate_after fate Came) (passed.taken (la c) ++ x ∷ []) (passed.taken (rf c)) (passed.sent (ra c)) (passed.sent (lf c))
      (rw queue (fate_is Came (word_came c.drops (la c) (rf c) passed.calls e (ap (λ q. q.0) on) op)))
      (rw queue (here passed.taken took (la c) (x ∷ []) (moved_here took (la c) (x ∷ []) takes)))
      (stays passed.taken took (rf c) (moved_not took (la c) (rf c) (x ∷ []) apart takes))
      (stays passed.sent put (ra c) (puts (ra c))) (stays passed.sent put (lf c) (puts (lf c)))
      (each_by (fate_after fate Came) 0 (settled_none fate.waits fate.dropped ∙ plus0 (marked fate.dropped)) (λ o. ap bit (vain_take Consumer (rf c) e op)))
      (came_core c.drops fate.dropped fate.waits (passed.taken (la c)) (passed.taken (rf c)) (passed.sent (ra c)) (passed.sent (lf c)) c.stage s x at new (at_core None None c.stage none b refl)))
    where
      no_buffer : (lease buffer : Option Cargo) → lease ≡ None → (is_some buffer ≡ true → is_some lease ≡ true) → buffer ≡ None
      no_buffer lease None none h = refl
      no_buffer lease (Some b) none h = let t : is_some {T = Cargo} None ≡ true = ap is_some (sym none) ∙ h refl in absurd cc

  -- a buffer came, and was filled
  pub buffer_came : (i : Intake) (x y : Cargo) → i.queue ≡ c.buffer_input.queue → e.queue ≡ c.buffer_input.queue → e.op ≡ Do.Take → c.lease ≡ Some x → c.buffer ≡ None → c.stage ≡ At.Taken → (la c ≡ rf c → ⊥)
      → ((n : ℕ) → took n ≡ if_there (rf c == n) (y ∷ [])) → ((n : ℕ) → put n ≡ []) → CopierStandsFor (record c { buffer_input = i; buffer = Some (filled (leased_bytes x) y) }) next
  buffer_came i x y queue on op lease none stage apart takes puts =
      of_core (record c { buffer_input = i; buffer = Some (filled (leased_bytes x) y) }) next (fate_after fate Served) (passed.taken (la c)) (passed.taken (rf c) ++ y ∷ []) (passed.sent (ra c)) (passed.sent (lf c))
      (rw queue (fate_is Served (word_served c.drops (la c) (rf c) passed.calls e apart (ap (λ q. q.0) on) op)))
      (stays passed.taken took (la c) (moved_not took (rf c) (la c) (y ∷ []) (λ r. apart (sym r)) takes))
      (rw queue (here passed.taken took (rf c) (y ∷ []) (moved_here took (rf c) (y ∷ []) takes)))
      (stays passed.sent put (ra c) (puts (ra c))) (stays passed.sent put (lf c) (puts (lf c)))
      (rw queue (each_by (fate_after fate Served) 0 (settled_none fate.waits fate.dropped ∙ plus0 (marked fate.dropped)) (λ o. ap bit (vain_take Consumer (rf c) e op))))
      (rw (lease, stage) (served_core c.drops fate.dropped fate.waits (passed.taken (la c)) (passed.taken (rf c)) (passed.sent (ra c)) (passed.sent (lf c)) x y (at_core (Some x) None At.Taken lease none stage)))

  waits_so : {x : Cargo} → c.drops ≡ true → c.lease ≡ Some x → c.buffer ≡ None → c.stage ≡ At.Taken → fate.waits ≡ true
  waits_so on lease none stage = (h.tells on).waits ∙ rw (lease, none, stage) refl

  one_more : fate.waits ≡ true → marked (fate.dropped ++ cond fate.waits (true ∷ []) []) ≡ marked fate.dropped + 1
  one_more w = ap (λ b. marked (fate.dropped ++ cond b (true ∷ []) [])) w ∙ (marked-append fate.dropped (true ∷ []))

  -- none was there, and the frame was dropped
  pub frame_dropped : (i : Intake) (x : Cargo) → i.queue ≡ c.buffer_input.queue → e.queue ≡ c.buffer_input.queue → role_of e.op ≡ Consumer → (c.drops && is_vain_look e.op e.answer) ≡ true → c.lease ≡ Some x → c.buffer ≡ None → c.stage ≡ At.Taken
      → ((n : ℕ) → took n ≡ []) → ((n : ℕ) → put n ≡ []) → CopierStandsFor (record c { buffer_input = i; stage = At.Copied }) next
  frame_dropped i x queue at role vain lease none stage takes puts =
      let on = (both_true c.drops (is_vain_look e.op e.answer) vain).0 in
      of_core (record c { buffer_input = i; stage = At.Copied }) next (fate_after fate Refused) (passed.taken (la c)) (passed.taken (rf c)) (passed.sent (ra c)) (passed.sent (lf c))
      (rw queue (fate_is Refused (word_refused c.drops (la c) (rf c) passed.calls e (ap (λ q. q.0) at) role vain)))
      (stays passed.taken took (la c) (takes (la c)))
      (rw queue (stays passed.taken took (rf c) (takes (rf c))))
      (stays passed.sent put (ra c) (puts (ra c))) (stays passed.sent put (lf c) (puts (lf c)))
      (rw queue (each_by (fate_after fate Refused) 1 (one_more (waits_so on lease none stage)) (λ o. ap bit (vain_here c.drops (rf c) e (ap (λ q. q.0) at) role vain))))
      (rw (lease, none) (refused_core c.drops on fate.dropped fate.waits (passed.taken (la c)) (passed.taken (rf c)) (passed.sent (ra c)) (passed.sent (lf c)) x (at_core (Some x) None At.Taken lease none stage)))

  -- the filled buffer was put
  pub buffer_went : (o : Outlet) (x y : Cargo) → o.queue ≡ c.buffer_output.queue → role_of e.op ≡ Producer → c.lease ≡ Some x → c.buffer ≡ Some y → c.stage ≡ At.Taken → (ra c ≡ lf c → ⊥)
      → ((n : ℕ) → took n ≡ []) → ((n : ℕ) → put n ≡ if_there (ra c == n) (y ∷ [])) → CopierStandsFor (record c { buffer_output = o; buffer = None; stage = At.Copied }) next
  buffer_went o x y queue role lease buffer stage apart takes puts =
      of_core (record c { buffer_output = o; buffer = None; stage = At.Copied }) next fate (passed.taken (la c)) (passed.taken (rf c)) (passed.sent (ra c) ++ y ∷ []) (passed.sent (lf c))
      (fate_is Other (word_out c.drops (la c) (rf c) passed.calls e role))
      (stays passed.taken took (la c) (takes (la c)))
      (stays passed.taken took (rf c) (takes (rf c)))
      (rw queue (here passed.sent put (ra c) (y ∷ []) (moved_here put (ra c) (y ∷ []) puts)))
      (stays passed.sent put (lf c) (moved_not put (ra c) (lf c) (y ∷ []) apart puts))
      (each_still (λ o. vain_out (rf c) e role))
      (rw lease (put_core c.drops fate (passed.taken (la c)) (passed.taken (rf c)) (passed.sent (ra c)) (passed.sent (lf c)) x y (at_core (Some x) (Some y) At.Taken lease buffer stage)))

  -- the lease went back
  pub lease_went : (o : Outlet) (x : Cargo) → o.queue ≡ c.lease_output.queue → role_of e.op ≡ Producer → c.lease ≡ Some x → c.stage ≡ At.Copied → (lf c ≡ ra c → ⊥)
      → ((n : ℕ) → took n ≡ []) → ((n : ℕ) → put n ≡ if_there (lf c == n) (x ∷ [])) → CopierStandsFor (record c { lease_output = o; lease = None }) next
  lease_went o x queue role lease stage apart takes puts =
      of_core (record c { lease_output = o; lease = None }) next fate (passed.taken (la c)) (passed.taken (rf c)) (passed.sent (ra c)) (passed.sent (lf c) ++ x ∷ [])
      (fate_is Other (word_out c.drops (la c) (rf c) passed.calls e role))
      (stays passed.taken took (la c) (takes (la c)))
      (stays passed.taken took (rf c) (takes (rf c)))
      (stays passed.sent put (ra c) (moved_not put (lf c) (ra c) (x ∷ []) apart puts))
      (rw queue (here passed.sent put (lf c) (x ∷ []) (moved_here put (lf c) (x ∷ []) puts)))
      (each_still (λ o. vain_out (rf c) e role))
      (rw stage (back_core c.drops fate (passed.taken (la c)) (passed.taken (rf c)) (passed.sent (ra c)) (passed.sent (lf c)) x c.buffer (at_core (Some x) c.buffer At.Copied lease refl stage)))

  -- nothing moved, and nothing was dropped
  module _ (still : copier_word c.drops (la c) (rf c) passed.calls e ≡ Other) (vain : c.drops ≡ true → is_vain_at Consumer (rf c) e ≡ false) (takes : (n : ℕ) → took n ≡ []) (puts : (n : ℕ) → put n ≡ []) where
    pub still_in : (i : Intake) → i.queue ≡ c.lease_input.queue → CopierStandsFor (record c { lease_input = i }) next
    still_in i queue = of_core (record c { lease_input = i }) next fate (passed.taken (la c)) (passed.taken (rf c)) (passed.sent (ra c)) (passed.sent (lf c))
        (rw queue (fate_is Other still)) (rw queue (stays passed.taken took (la c) (takes (la c)))) (stays passed.taken took (rf c) (takes (rf c))) (stays passed.sent put (ra c) (puts (ra c))) (stays passed.sent put (lf c) (puts (lf c))) (each_still vain) (core_of c passed h)

    pub still_buffer : (i : Intake) → i.queue ≡ c.buffer_input.queue → CopierStandsFor (record c { buffer_input = i }) next
    still_buffer i queue = of_core (record c { buffer_input = i }) next fate (passed.taken (la c)) (passed.taken (rf c)) (passed.sent (ra c)) (passed.sent (lf c))
        (rw queue (fate_is Other still)) (stays passed.taken took (la c) (takes (la c))) (rw queue (stays passed.taken took (rf c) (takes (rf c)))) (stays passed.sent put (ra c) (puts (ra c))) (stays passed.sent put (lf c) (puts (lf c))) (rw queue (each_still vain)) (core_of c passed h)

    pub still_put : (o : Outlet) → o.queue ≡ c.buffer_output.queue → CopierStandsFor (record c { buffer_output = o }) next
    still_put o queue = of_core (record c { buffer_output = o }) next fate (passed.taken (la c)) (passed.taken (rf c)) (passed.sent (ra c)) (passed.sent (lf c))
        (fate_is Other still) (stays passed.taken took (la c) (takes (la c))) (stays passed.taken took (rf c) (takes (rf c))) (rw queue (stays passed.sent put (ra c) (puts (ra c)))) (stays passed.sent put (lf c) (puts (lf c))) (each_still vain) (core_of c passed h)

    pub still_back : (o : Outlet) → o.queue ≡ c.lease_output.queue → CopierStandsFor (record c { lease_output = o }) next
    still_back o queue = of_core (record c { lease_output = o }) next fate (passed.taken (la c)) (passed.taken (rf c)) (passed.sent (ra c)) (passed.sent (lf c))
        (fate_is Other still) (stays passed.taken took (la c) (takes (la c))) (stays passed.taken took (rf c) (takes (rf c))) (stays passed.sent put (ra c) (puts (ra c))) (rw queue (stays passed.sent put (lf c) (puts (lf c)))) (each_still vain) (core_of c passed h)

-- a lease comes only where there is none
pub lease_free : (lease got : Option Cargo) (need : Bool) → is_some lease ≡ not need → (IsSome got → need ≡ true) → (x : Cargo) → got ≡ Some x → lease ≡ None
lease_free None got need e f x is = refl
lease_free (Some y) None need e f x is = cc
lease_free (Some y) (Some z) need e f x is = let n : need ≡ true = f refl in let no : is_some (Some y) ≡ not true = e ∙ ap not n in cc

-- what it has where it needs a buffer
pub wanting_as : (l b : Option Cargo) (s : Stage) → (is_some l && (is_none b && is_taken s)) ≡ true → (x : Cargo) × (l ≡ Some x) × (b ≡ None) × (s ≡ At.Taken)
wanting_as None b s h = cc
wanting_as (Some x) (Some y) s h = cc
wanting_as (Some x) None At.Taken h = (x, refl, refl, refl)
wanting_as (Some x) None At.Copied h = cc
wanting_as (Some x) None At.Stray h = cc

pub wanting : (c : NetCopier) (got : Option Cargo) (need : Bool) → need ≡ is_wanting c → (IsSome got → need ≡ true) → (e : Cargo) → got ≡ Some e → (x : Cargo) × (c.lease ≡ Some x) × (c.buffer ≡ None) × (c.stage ≡ At.Taken)
wanting c None need is f e at = cc
wanting c (Some z) need is f e at = wanting_as c.lease c.buffer c.stage (sym is ∙ f refl)

-- what it has where it returns the lease
pub returning_as : (l : Option Cargo) (s : Stage) → (is_some l && is_copied s) ≡ true → (x : Cargo) × (l ≡ Some x) × (s ≡ At.Copied)
returning_as None s h = cc
returning_as (Some x) At.Copied h = (x, refl, refl)
returning_as (Some x) At.Taken h = cc
returning_as (Some x) At.Stray h = cc

-- what was put of a load, by the item that the event tells
pub put_all : (e : Event) (load load' : Option Cargo) → e.item ≡ option_map (λ c. c.0) (put_of e load) → option_to_list load ≡ option_to_list (put_of e load) ++ option_to_list load' → is_some e.item ≡ true → (y : Cargo) × (load ≡ Some y) × (put_of e load ≡ Some y) × (load' ≡ None)
put_all e load load' item parts some = by e.item refl load refl
  where
    by : (i : Option Item) → e.item ≡ i → (l : Option Cargo) → load ≡ l → (y : Cargo) × (load ≡ Some y) × (put_of e load ≡ Some y) × (load' ≡ None)
    by None ei l el = let no : is_some {T = Item} None ≡ true = ap is_some (sym ei) ∙ some in absurd cc
    by (Some i) ei None el = let no : Some i ≡ None = sym ei ∙ (item ∙ ap (λ o. option_map (λ c. c.0) o) (ap (λ j. given j load) ei ∙ el)) in absurd cc
    by (Some i) ei (Some y) el =
        let is : put_of e load ≡ Some y = ap (λ j. given j load) ei ∙ el in
        (y, el, is, rest load' (sym (ap option_to_list el) ∙ (parts ∙ ap (λ o. option_to_list o ++ option_to_list load') is)))
      where
        rest : (m : Option Cargo) → y ∷ [] ≡ y ∷ option_to_list m → m ≡ None
        rest None f = refl
        rest (Some z) f = let no : [] ≡ z ∷ [] = ap tail f in absurd cc
          where
            tail : List Cargo → List Cargo
            tail [] = []
            tail (x ∷ xs) = xs

pub put_none : (e : Event) (load load' : Option Cargo) → option_to_list load ≡ option_to_list (put_of e load) ++ option_to_list load' → is_some e.item ≡ false → (put_of e load ≡ None) × (load' ≡ load)
put_none e load load' parts none = by e.item refl
  where
    same : (l m : Option Cargo) → option_to_list l ≡ option_to_list m → m ≡ l
    same None None f = refl
    same None (Some y) f = let no : [] ≡ y ∷ [] = f in absurd cc
    same (Some x) None f = let no : x ∷ [] ≡ [] = f in absurd cc
    same (Some x) (Some y) f = ap Some (sym (first f))
      where
        first : x ∷ [] ≡ y ∷ [] → x ≡ y
        first g = cc

    by : (i : Option Item) → e.item ≡ i → (put_of e load ≡ None) × (load' ≡ load)
    by (Some i) ei = let no : is_some (Some i) ≡ false = ap is_some (sym ei) ∙ none in absurd cc
    by None ei =
        let is : put_of e load ≡ None = ap (λ j. given j load) ei in
        (is, same load load' (parts ∙ ap (λ o. option_to_list o ++ option_to_list load') is))

-- a filled buffer is there for a lease in turn
pub lease_of : (c : NetCopier) → IsWork c → (y : Cargo) → c.buffer ≡ Some y → (x : Cargo) × (c.lease ≡ Some x) × (c.stage ≡ At.Taken)
lease_of c w y buffer = let b = w.buffered (ap is_some buffer) in let l = there c.lease b.0 in (l.0, l.1, b.1)
  where
    there : (l : Option Cargo) → is_some l ≡ true → (x : Cargo) × (l ≡ Some x)
    there None e = cc
    there (Some x) e = (x, refl)

pub none_put : (e : Event) → option_to_list (put_of e None) ≡ []
none_put e = ap option_to_list (none e.item)
  where
    none : (i : Option Item) → given i None ≡ None
    none None = refl
    none (Some i) = refl

-- the lease went back, or stayed
pub lease_out : (c : NetCopier) (passed : Passed) (took put : Lists) (e : Event) → CopierStandsFor c passed → (o : Outlet) (l' : Option Cargo) → o.queue ≡ c.lease_output.queue → role_of e.op ≡ Producer → is_returning c ≡ true
    → e.item ≡ option_map (λ c. c.0) (put_of e c.lease) → option_to_list c.lease ≡ option_to_list (put_of e c.lease) ++ option_to_list l' → (lf c ≡ ra c → ⊥)
    → ((n : ℕ) → took n ≡ []) → ((n : ℕ) → put n ≡ if_there (lf c == n) (option_to_list (put_of e c.lease)))
    → CopierStandsFor (record c { lease_output = o; lease = l' }) (record { taken = with passed.taken took; sent = with passed.sent put; calls = passed.calls ++ e ∷ [] })
lease_out c passed took put e h o l' queue role returning item parts apart takes puts = by (is_some e.item) refl
  where
    by : (b : Bool) → is_some e.item ≡ b → CopierStandsFor (record c { lease_output = o; lease = l' }) (record { taken = with passed.taken took; sent = with passed.sent put; calls = passed.calls ++ e ∷ [] })
    by true some =
        let p = put_all e c.lease l' item parts some in
        let w = returning_as c.lease c.stage returning in
        rw p.3 (lease_went c passed took put e h o p.0 queue role p.1 w.2 apart takes (λ n. puts n ∙ ap (λ x. if_there (lf c == n) (option_to_list x)) p.2))
    by false none =
        let p = put_none e c.lease l' parts none in
        rw p.1 (still_back c passed took put e h (word_out c.drops (la c) (rf c) passed.calls e role) (λ o. vain_out (rf c) e role) takes (nothing_moved put (lf c) (option_to_list (put_of e c.lease)) (ap option_to_list p.0) puts) o queue)
