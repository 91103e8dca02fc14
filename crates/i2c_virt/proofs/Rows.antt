-- Whatever the virtualiser stands for meets its row.
use Rattle.std.proofs.Common.{◌≡◌, ◌+◌, ◌≤◌, ◌<◌, ◌==◌, cond, is_some, ℕ, Bool, true, false, Option, Some, None, List, [], ◌∷◌, ◌++◌, length, length-append, slice_get, refl, sym, ap, ◌∙◌, subst, arith, append-nil}
use Rattle.std.specs.Option.{option_to_list}
use Rattle.std.proofs.lemmas.List.{length-map}
use Rattle.std.proofs.lemmas.Bool.{eqb-true}
use Rattle.std.proofs.lemmas.Option.{slice_get-get_or}
use Rattle.wire_core.specs.declared.names.QueueId.{QueueId}
use Rattle.wire_core.specs.Deeds.{Cargo}
use Rattle.wire_core.specs.Lists.{Passed}
use Rattle.buffer_kit.specs.Clients.{queue_at}
use Rattle.i2c_virt.specs.declared.desk.Desk.{Desk}
use Rattle.i2c_virt.specs.declared.work.From.{From}
use Rattle.i2c_virt.specs.declared.work.From.TheVariants as Source
use Rattle.i2c_virt.specs.declared.work.Stray.{Stray}
use Rattle.i2c_virt.specs.declared.work.Work.{Work}
use Rattle.i2c_virt.specs.Desks.{Judged, DeskStands, IsDesk, IsUnderWay, AreGiven, own_entry, is_open}
use Rattle.i2c_virt.specs.Works.{Took, IsWork, judged_of, entries_of, of_client}
use Rattle.i2c_virt.specs.Virtualising.{VirtStands, VirtRow, strays_of, if_client}
use Rattle.i2c_virt.proofs.Desking.{given_fewer, open_many}
use Rattle.buffer_kit.proofs.ManyClients.{few_option}

module _ (i o : ℕ) (f t : List QueueId) (w : Work) (passed : Passed) (h : VirtStands i o f t w passed) where
  abbrev gave : ℕ → List Cargo
  gave k = passed.sent (queue_at t k)

  desk_at : (k : ℕ) → k < length w.desks.items → (d : Desk) × (slice_get w.desks.items k ≡ Some d)
  desk_at k lt = (_, slice_get-get_or w.desks.items k (record { current = None; leaving = None; held = None }) lt)

  stands : (k : ℕ) (lt : k < length w.desks.items) → DeskStands k (desk_at k lt).0 (judged_of k h.log) (of_client k (passed.sent o)) (of_client k h.back) (gave k)
  stands k lt = h.stands.desks k (desk_at k lt).0 (desk_at k lt).1

  one_way : (k : ℕ) (c : Option ℕ) (js : List Judged) → IsUnderWay k c js → length js ≤ 1
  one_way k None js u = let e = ap length u in omega (arith, e)
  one_way k (Some n) js u = let e = ap length u.1 in omega (arith, e)

  -- at most one more was judged than was given
  ahead : (k : ℕ) → k < length w.desks.items → length (judged_of k h.log) ≤ length (gave k) + 1
  ahead k lt = by d.current refl
    where
      d : Desk
      d = (desk_at k lt).0

      s : DeskStands k d (judged_of k h.log) (of_client k (passed.sent o)) (of_client k h.back) (gave k)
      s = stands k lt

      all : length (judged_of k h.log) ≡ length s.before + length s.under_way
      all = ap length s.parts ∙ length-append s.before s.under_way

      by : (c : Option ℕ) → d.current ≡ c → length (judged_of k h.log) ≤ length (gave k) + 1
      by None is =
          let u = ap length (subst (λ c. IsUnderWay k c s.under_way) is s.current) in
          let m = s.as_many in
          let f = few_option d.held in
          let a = all in
          omega (arith, a, u, m, f)
      by (Some n) is =
          let u = one_way k d.current s.under_way s.current in
          let e = (h.work.desks k d (desk_at k lt).1).alone (ap is_some is) in
          let z = ap (λ (l : Option Cargo). length (option_to_list l)) e in
          let m = s.as_many in
          let a = all in
          omega (arith, a, u, m, z)

  -- at most one more was taken than was given
  one_from : (k : ℕ) (lt : k < length w.desks.items) (s : Stray) → w.stray ≡ Some s → (from : From) → s.from ≡ from → length (entries_of k h.log ++ if_client k from s.entry) ≤ length (gave k) + 1
  one_from k lt s at Source.Driver is =
      let n = length-append (entries_of k h.log) [] in
      let m = length-map (judged_of k h.log) (λ (j : Judged). own_entry j.0) in
      let a = ahead k lt in
      omega (arith, n, m, a)
  one_from k lt s at (Source.Client j) is = by (j == k) refl
    where
      many : length (entries_of k h.log) ≡ length (judged_of k h.log)
      many = length-map (judged_of k h.log) (λ (j : Judged). own_entry j.0)

      by : (b : Bool) → (j == k) ≡ b → length (entries_of k h.log ++ cond (j == k) (s.entry ∷ []) []) ≤ length (gave k) + 1
      by false no_client =
          let n = length-append (entries_of k h.log) [] in
          let m = many in
          let a = ahead k lt in
          rw no_client (omega (arith, n, m, a))
      by true here =
          let n = length-append (entries_of k h.log) (s.entry ∷ []) in
          let m = many in
          let d = desk_at k lt in
          let opened = h.waiting k d.0 s at (is ∙ ap (λ (n : ℕ). Source.Client n) (eqb-true j k here)) d.1 in
          let e = open_many k d.0 (h.work.desks k d.0 d.1) opened (judged_of k h.log) (of_client k (passed.sent o)) (of_client k h.back) (gave k) (stands k lt) in
          rw here (omega (arith, n, m, e))

  one_more : (k : ℕ) → k < length w.desks.items → (s : Option Stray) → w.stray ≡ s → length (entries_of k h.log ++ strays_of k s) ≤ length (gave k) + 1
  one_more k lt None at =
      let n = length-append (entries_of k h.log) [] in
      let m = length-map (judged_of k h.log) (λ (j : Judged). own_entry j.0) in
      let a = ahead k lt in
      omega (arith, n, m, a)
  one_more k lt (Some s) at = one_from k lt s at s.from refl

  pub row_of : VirtRow (length w.desks.items) o i f t passed
  row_of = record {
    log = h.log;
    back = h.back;
    stray = w.stray;
    took = h.stands.took;
    order = h.order;
    requests = h.requests;
    responses = h.responses;
    out_of_turn = h.out_of_turn;
    sends = λ k lt. let s = stands k lt in (option_to_list (desk_at k lt).0.leaving, s.went);
    someones = h.stands.someones;
    answers = λ k lt. let s = stands k lt in subst (λ js. AreGiven js (of_client k h.back) (gave k)) (sym s.parts) (given_fewer s.before s.under_way (of_client k h.back) (gave k) (option_to_list (desk_at k lt).0.held) s.given);
    one = λ k lt. let r = ap length (h.requests k lt) in let m = one_more k lt w.stray refl in omega (arith, r, m);
  }
