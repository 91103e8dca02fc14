use Rattle.std.proofs.Common.{◌≡◌, ◌+◌, ◌==◌, ◌&&◌, ◌<◌, ℕ, Bool, true, false, cond, nat_lt, Option, Some, None, is_none, IsSome, List, [], ◌∷◌, ◌++◌, length, slice_get, refl, sym, ap, ◌∙◌, subst, append_assoc, arith}
use Rattle.std.specs.Option.{option_to_list}
use Rattle.std.proofs.lemmas.Bool.{ltb-true}
use Rattle.std.proofs.lemmas.List.{append-nil}
use Rattle.std.proofs.lemmas.Grind.{flat_map-append}
use Rattle.wire_core.specs.declared.names.Event.{Event}
use Rattle.wire_core.specs.declared.names.Op.TheVariants as Do
use Rattle.wire_core.specs.Bells.{bit}
use Rattle.wire_core.specs.Deeds.{Cargo}
use Rattle.wire_core.specs.Lists.{Lists, with, if_there}
use Rattle.wire_core.specs.Ends.{Consumer, Producer, role_of}
use Rattle.wire_core.specs.Marks.{is_vain_look}
use Rattle.turn_kit.specs.declared.ends.Intake.{Intake}
use Rattle.turn_kit.specs.declared.ends.Outlet.{Outlet}
use Rattle.buffer_kit.specs.Entries.{filled}
use Rattle.buffer_kit.specs.Recorders.{RecorderStandsFor}
use Rattle.buffer_kit.specs.declared.recorder.Recorder.{Recorder}
use Rattle.wire_core.specs.Lists.{Passed}
use Rattle.wire_core.specs.Fates.{is_take, is_take_at, is_vain_at, noes_at, marked}
use Rattle.wire_core.proofs.Fating.{marked-append, noes_more}
use Rattle.wire_core.proofs.Readings.{take_at_here, no_take_at, and_no_right, both_true, and_true, vain_takes, vain_here, vain_out, vain_take, vain_still, gives, here, stays, moved_here, moved_not}
use Rattle.device_model.specs.declared.ethernet.EthDevice.{EthDevice}
use Rattle.device_model.specs.Ethernet.Devices.{DeviceStandsFor, frame_mark, frames_dropped, is_filling, rx_free, rx_active, tx_active, tx_free}
use Rattle.device_model.proofs.EthernetLemmas.Dropping.{none_dropped_held}
use Rattle.device_model.proofs.EthernetLemmas.Core.{Core, came_core, dropped_core}

mark_by : (drops : Bool) (rf : ℕ) (e : Event) (a v : Bool) → is_take_at rf e ≡ a → (drops && is_vain_at Consumer rf e) ≡ v → frame_mark drops rf e ≡ cond a (false ∷ []) (cond v (true ∷ []) [])
mark_by drops rf e a v ea ev = rw (ea, ev) refl

pub mark_taken : (drops : Bool) (rf : ℕ) (e : Event) → e.queue.0 ≡ rf → e.op ≡ Do.Take → frame_mark drops rf e ≡ false ∷ []
mark_taken drops rf e q o = mark_by drops rf e true _ (take_at_here rf e q o) refl

pub mark_dropped : (drops : Bool) (rf : ℕ) (e : Event) → e.queue.0 ≡ rf → role_of e.op ≡ Consumer → (drops && is_vain_look e.op e.answer) ≡ true → frame_mark drops rf e ≡ true ∷ []
mark_dropped drops rf e q r v =
    let b = both_true drops (is_vain_look e.op e.answer) v in
    mark_by drops rf e false true (no_take_at rf e (vain_takes e.op e.answer b.1)) (and_true drops (is_vain_at Consumer rf e) b.0 (vain_here drops rf e q r v))

pub mark_none : (drops : Bool) (rf : ℕ) (e : Event) → is_take_at rf e ≡ false → (drops ≡ true → is_vain_at Consumer rf e ≡ false) → frame_mark drops rf e ≡ []
mark_none drops rf e t v = mark_by drops rf e false false t (by drops refl)
  where
    by : (b : Bool) → drops ≡ b → (drops && is_vain_at Consumer rf e) ≡ false
    by true is = and_no_right drops (is_vain_at Consumer rf e) (v is)
    by false is = rw is refl

pub of_core : (d : EthDevice) (passed : Passed) (ds : List Bool) (trf sra : List Cargo) → frames_dropped d passed.calls ≡ ds → passed.taken (rx_free d) ≡ trf → passed.sent (rx_active d) ≡ sra → (d.drops ≡ true → noes_at Consumer (rx_free d) passed.calls ≡ marked ds) → RecorderStandsFor d.wire passed → Core d.drops ds d.frames d.next trf sra d.load → DeviceStandsFor d passed
of_core d passed ds trf sra ed e1 e2 each sends h = record {
  filled = rw (e1, e2, ed) h.filled;
  takes = rw (e1, ed) h.takes;
  next = h.next;
  sends = sends;
  tells = λ on. record { used = rw ed (h.used on); each = each on ∙ ap marked (sym ed) };
}

pub core_of : (d : EthDevice) (passed : Passed) → DeviceStandsFor d passed → Core d.drops (frames_dropped d passed.calls) d.frames d.next (passed.taken (rx_free d)) (passed.sent (rx_active d)) d.load
core_of d passed h = record { filled = h.filled; takes = h.takes; none = λ off. none_dropped_held d off passed.calls; used = λ on. (h.tells on).used; next = h.next }

module _ (d : EthDevice) (passed : Passed) (took put : Lists) (e : Event) (h : DeviceStandsFor d passed) where
  abbrev next : Passed
  next = record { taken = with passed.taken took; sent = with passed.sent put; calls = passed.calls ++ e ∷ [] }

  abbrev ds : List Bool
  ds = frames_dropped d passed.calls

  marks_are : (m : List Bool) → frame_mark d.drops (rx_free d) e ≡ m → frames_dropped d (passed.calls ++ e ∷ []) ≡ ds ++ m
  marks_are m is = flat_map-append (frame_mark d.drops (rx_free d)) passed.calls (e ∷ []) ∙ ap (λ x. ds ++ x) (append-nil (frame_mark d.drops (rx_free d) e) ∙ is)

  marks_stay : frame_mark d.drops (rx_free d) e ≡ [] → frames_dropped d (passed.calls ++ e ∷ []) ≡ ds
  marks_stay is = marks_are [] is ∙ append-nil ds

  each_by : (xs : List Bool) (k : ℕ) → marked xs ≡ marked ds + k → (d.drops ≡ true → bit (is_vain_at Consumer (rx_free d) e) ≡ k) → d.drops ≡ true → noes_at Consumer (rx_free d) (passed.calls ++ e ∷ []) ≡ marked xs
  each_by xs k more vain on =
      let a = noes_more Consumer (rx_free d) passed.calls e in
      let b = (h.tells on).each in
      let v = vain on in
      omega (arith, a, b, v, more)

  same_marks : marked ds ≡ marked ds + 0
  same_marks = omega arith

  sends_still : took (tx_active d) ≡ [] → put (tx_free d) ≡ [] → RecorderStandsFor d.wire next
  sends_still t p = record {
    moved = rw (t, p, append-nil (passed.taken (tx_active d)), append-nil (passed.sent (tx_free d))) h.sends.moved;
    recorded = rw (t, append-nil (passed.taken (tx_active d))) h.sends.recorded;
  }

  core_none : d.load ≡ None → Core d.drops ds d.frames d.next (passed.taken (rx_free d)) (passed.sent (rx_active d)) None
  core_none none = subst (λ l. Core d.drops ds d.frames d.next (passed.taken (rx_free d)) (passed.sent (rx_active d)) l) none (core_of d passed h)

  pub buffer_came : (i : Intake) (f : List ℕ) (y : Cargo) → i.queue ≡ d.free.queue → e.queue ≡ d.free.queue → e.op ≡ Do.Take → d.load ≡ None → d.next < length d.frames → slice_get d.frames d.next ≡ Some f → (rx_free d ≡ tx_active d → ⊥)
      → ((n : ℕ) → took n ≡ if_there (rx_free d == n) (y ∷ [])) → ((n : ℕ) → put n ≡ []) → DeviceStandsFor (record d { free = i; load = Some (filled f y); next = d.next + 1 }) next
  buffer_came i f y queue on op none left at apart takes puts =
      let mark = mark_taken d.drops (rx_free d) e (ap (λ q. q.0) on) op in
      of_core (record d { free = i; load = Some (filled f y); next = d.next + 1 }) next (ds ++ false ∷ []) (passed.taken (rx_free d) ++ y ∷ []) (passed.sent (rx_active d))
      (rw queue (marks_are (false ∷ []) mark))
      (rw queue (here passed.taken took (rx_free d) (y ∷ []) (moved_here took (rx_free d) (y ∷ []) takes)))
      (stays passed.sent put (rx_active d) (puts (rx_active d)))
      (rw queue (each_by (ds ++ false ∷ []) 0 (marked-append ds (false ∷ [])) (λ o. ap bit (vain_take Consumer (rx_free d) e op))))
      (sends_still (moved_not took (rx_free d) (tx_active d) (y ∷ []) apart takes) (puts (tx_free d)))
      (came_core d.drops ds d.frames d.next (passed.taken (rx_free d)) (passed.sent (rx_active d)) (core_none none) left f y at)

  pub frame_dropped : (i : Intake) → i.queue ≡ d.free.queue → e.queue ≡ d.free.queue → role_of e.op ≡ Consumer → (d.drops && is_vain_look e.op e.answer) ≡ true → d.load ≡ None → d.next < length d.frames
      → ((n : ℕ) → took n ≡ []) → ((n : ℕ) → put n ≡ []) → DeviceStandsFor (record d { free = i; next = d.next + 1 }) next
  frame_dropped i queue on role vain none left takes puts =
      of_core (record d { free = i; next = d.next + 1 }) next (ds ++ true ∷ []) (passed.taken (rx_free d)) (passed.sent (rx_active d))
      (rw queue (marks_are (true ∷ []) (mark_dropped d.drops (rx_free d) e (ap (λ q. q.0) on) role vain)))
      (rw queue (stays passed.taken took (rx_free d) (takes (rx_free d))))
      (stays passed.sent put (rx_active d) (puts (rx_active d)))
      (rw queue (each_by (ds ++ true ∷ []) 1 (marked-append ds (true ∷ [])) (λ o. ap bit (vain_here d.drops (rx_free d) e (ap (λ q. q.0) on) role vain))))
      (sends_still (takes (tx_active d)) (puts (tx_free d)))
      (rw none (dropped_core d.drops ds d.frames d.next (passed.taken (rx_free d)) (passed.sent (rx_active d)) (core_none none) left (both_true d.drops (is_vain_look e.op e.answer) vain).0))

  pub still_free : (i : Intake) → i.queue ≡ d.free.queue → is_take e.op ≡ false → (d.drops && is_vain_look e.op e.answer) ≡ false
      → ((n : ℕ) → took n ≡ []) → ((n : ℕ) → put n ≡ []) → DeviceStandsFor (record d { free = i }) next
  still_free i queue not vain takes puts =
      let v = vain_still d.drops (rx_free d) e vain in
      of_core (record d { free = i }) next ds (passed.taken (rx_free d)) (passed.sent (rx_active d))
      (rw queue (marks_stay (mark_none d.drops (rx_free d) e (no_take_at (rx_free d) e not) v)))
      (rw queue (stays passed.taken took (rx_free d) (takes (rx_free d))))
      (stays passed.sent put (rx_active d) (puts (rx_active d)))
      (rw queue (each_by ds 0 same_marks (λ o. ap bit (v o))))
      (sends_still (takes (tx_active d)) (puts (tx_free d)))
      (core_of d passed h)

  -- the filled buffer was put, or stayed
  pub buffer_went : (o : Outlet) (p l' : Option Cargo) → o.queue ≡ d.active.queue → role_of e.op ≡ Producer → option_to_list d.load ≡ option_to_list p ++ option_to_list l' → (rx_active d ≡ tx_free d → ⊥)
      → ((n : ℕ) → took n ≡ []) → ((n : ℕ) → put n ≡ if_there (rx_active d == n) (option_to_list p)) → DeviceStandsFor (record d { active = o; load = l' }) next
  buffer_went o p l' queue role parts apart takes puts =
      of_core (record d { active = o; load = l' }) next ds (passed.taken (rx_free d)) (passed.sent (rx_active d) ++ option_to_list p)
      (marks_stay (mark_none d.drops (rx_free d) e (no_take_at (rx_free d) e (gives e.op role)) (λ on. vain_out (rx_free d) e role)))
      (stays passed.taken took (rx_free d) (takes (rx_free d)))
      (rw queue (here passed.sent put (rx_active d) (option_to_list p) (moved_here put (rx_active d) (option_to_list p) puts)))
      (each_by ds 0 same_marks (λ on. ap bit (vain_out (rx_free d) e role)))
      (sends_still (takes (tx_active d)) (moved_not put (rx_active d) (tx_free d) (option_to_list p) apart puts))
      (let c = core_of d passed h in record { filled = append_assoc (passed.sent (rx_active d)) (option_to_list p) (option_to_list l') ∙ (ap (λ x. passed.sent (rx_active d) ++ x) (sym parts) ∙ c.filled); takes = c.takes; none = c.none; used = c.used; next = c.next })

  -- a call on the wire's side
  pub wire_moved : (w : Recorder) → frame_mark d.drops (rx_free d) e ≡ [] → (d.drops ≡ true → is_vain_at Consumer (rx_free d) e ≡ false) → took (rx_free d) ≡ [] → put (rx_active d) ≡ [] → RecorderStandsFor w next → DeviceStandsFor (record d { wire = w }) next
  wire_moved w mark vain t p sends = of_core (record d { wire = w }) next ds (passed.taken (rx_free d)) (passed.sent (rx_active d)) (marks_stay mark) (stays passed.taken took (rx_free d) t) (stays passed.sent put (rx_active d) p) (each_by ds 0 same_marks (λ o. ap bit (vain o))) sends (core_of d passed h)

-- a buffer comes only where none is in the hand and a frame is left
filling_as : (l : Option Cargo) (b : Bool) → (is_none l && b) ≡ true → (l ≡ None) × (b ≡ true)
filling_as None b h = (refl, h)
filling_as (Some x) b h = cc

pub filling_at : (d : EthDevice) → is_filling d ≡ true → (d.load ≡ None) × (d.next < length d.frames)
filling_at d is = let r = filling_as d.load (nat_lt d.next (length d.frames)) is in (r.0, ltb-true d.next (length d.frames) r.1)

pub needed_so : (got : Option Cargo) (need : Bool) → (IsSome got → need ≡ true) → (e : Cargo) → got ≡ Some e → need ≡ true
needed_so None need f e at = cc
needed_so (Some z) need f e at = f refl
