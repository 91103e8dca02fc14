-- What is kept of all clients, where one of them is served further.
use Rattle.std.proofs.Common.{◌≡◌, ◌⊎◌, ◌+◌, ◌<◌, ◌≤◌, ◌==◌, ◌&&◌, ◌||◌, ℕ, zero, suc, Bool, true, false, is_some, is_none, inl, inr, Option, Some, None, List, [], ◌∷◌, ◌++◌, length, slice_get, slice_set, refl, sym, ap, ◌∙◌, subst, eq-eqb, arith}
use Rattle.std.specs.List.{list_any}
use Rattle.std.specs.Option.{option_map}
use Rattle.std.proofs.lemmas.Bool.{cases_eq, cases_Bool}
use Rattle.wire_core.specs.Bells.{bit}
use Rattle.wire_core.specs.Deeds.{Cargo}
use Rattle.wire_core.proofs.Places.{slice_get_written, slice_get_beside}
use Rattle.blk_mbr.specs.declared.part.Part.{Part}
use Rattle.buffer_kit.proofs.ManyClients.{some_eq, entry_there}
use Rattle.blk_virt.specs.declared.client.Client.{Client}
use Rattle.blk_virt.specs.declared.desk.Desk.{Desk}
use Rattle.blk_virt.specs.declared.requests.Holder.{Holder}
use Rattle.blk_virt.specs.Requests.{numbered, is_at}
use Rattle.blk_virt.specs.Clients.{Moved, WentOff, is_away, is_held, is_idle, is_leaving, leaving_as}
use Rattle.blk_virt.specs.Desks.{IsDesk, OneMoved, LineMoves, IsStill, SentAs, is_so, held_in, held_at, leaving_in, leaving_with, times, away_many, away_at}

bit_one : (b : Bool) → 1 ≤ bit b → b ≡ true
bit_one true h = refl
bit_one false h = absurd (omega (arith, h))

pub bit_zero : (b : Bool) → bit b ≡ 0 → b ≡ false
bit_zero true h = absurd (omega (arith, h))
bit_zero false h = refl

bit_most : (b : Bool) → bit b ≤ 1
bit_most true = omega arith
bit_most false = omega arith

-- the first in the line is there, has a request at the driver, and is nowhere else in the line
pub first_is : (w : Desk) → IsDesk w → (k : ℕ) (ks : List ℕ) → w.line.shown ≡ k ∷ ks → (c : Client) × (slice_get w.clients.items k ≡ Some c) × (is_away c ≡ true) × (times k ks ≡ 0)
first_is w h k ks e = by (slice_get w.clients.items k) refl
  where
    once : bit (k == k) + times k ks ≡ away_at (slice_get w.clients.items k)
    once = ap (times k) (sym e) ∙ h.line k

    self : bit (k == k) ≡ 1
    self = ap bit (eq-eqb k k refl)

    by : (o : Option Client) → slice_get w.clients.items k ≡ o → (c : Client) × (slice_get w.clients.items k ≡ Some c) × (is_away c ≡ true) × (times k ks ≡ 0)
    by None at = let o = once in let s = self in let a = ap away_at at in absurd (omega (arith, o, s, a))
    by (Some c) at =
        let o = once in let s = self in let a = ap away_at at in let m = bit_most (is_away c) in
        (c, at, bit_one (is_away c) (omega (arith, o, s, a)), omega (arith, o, s, a, m))

-- fewer have a request at the driver than there are
few_away : (cs : List Client) → away_many cs ≤ length cs
few_away [] = omega arith
few_away (c ∷ cs) = let e = few_away cs in let m = bit_most (is_away c) in omega (arith, e, m)

less_away : (cs : List Client) (k : ℕ) (c : Client) → slice_get cs k ≡ Some c → is_away c ≡ false → away_many cs < length cs
less_away [] k c at e = cc
less_away (d ∷ cs) zero c at e = let f = few_away cs in let b = ap bit (ap is_away (some_eq at) ∙ e) in omega (arith, f, b)
less_away (d ∷ cs) (suc k) c at e = let f = less_away cs k c at e in let m = bit_most (is_away d) in omega (arith, f, m)

pub has_room : (w : Desk) → IsDesk w → (k : ℕ) (c : Client) → slice_get w.clients.items k ≡ Some c → is_away c ≡ false → length w.line.shown < w.line.room
has_room w h k c at e = let l = less_away w.clients.items k c at e in omega (arith, l, h.long, h.room)

pub leaving_not_away : (c : Client) → is_leaving c ≡ true → is_away c ≡ false
leaving_not_away c e = by (is_some c.current) c.leaving e
  where
    by : (b : Bool) (o : Option Cargo) → is_some o ≡ true → (b && is_none o) ≡ false
    by true None t = cc
    by false None t = refl
    by true (Some x) t = refl
    by false (Some x) t = refl

-- a client that has something for the driver is there
pub leaving_there : (o : Option Client) → is_some (leaving_in o) ≡ true → (c : Client) × (o ≡ Some c) × (is_some c.leaving ≡ true)
leaving_there o h = entry_there (λ (c : Client). c.leaving) o h

-- where one of them is as it was, so is what is needed and to go
any_set : (p : Client → Bool) (cs : List Client) (k : ℕ) (was now : Client) → slice_get cs k ≡ Some was → p now ≡ p was → list_any p (slice_set cs k now) ≡ list_any p cs
any_set p [] k was now at e = refl
any_set p (c ∷ cs) zero was now at e = ap (λ b. b || list_any p cs) (e ∙ ap p (sym (some_eq at)))
any_set p (c ∷ cs) (suc k) was now at e = ap (λ b. p c || b) (any_set p cs k was now at e)

so_set : (p : Client → Bool) (cs : List Client) (k j : ℕ) (was now : Client) → slice_get cs k ≡ Some was → p now ≡ p was → is_so p (slice_get (slice_set cs k now) j) ≡ is_so p (slice_get cs j)
so_set p cs k j was now at e = by (cases_eq k j)
  where
    by : (k ≡ j) ⊎ (k ≡ j → ⊥) → is_so p (slice_get (slice_set cs k now) j) ≡ is_so p (slice_get cs j)
    by (inl same) = subst (λ i. is_so p (slice_get (slice_set cs k now) i) ≡ is_so p (slice_get cs i)) same (ap (is_so p) (slice_get_written cs k was now at) ∙ (e ∙ ap (is_so p) (sym at)))
    by (inr ne) = ap (is_so p) (slice_get_beside cs k j now (λ f. ne (sym f)))

pub still_set : (old new : Desk) (k : ℕ) (was now : Client) → slice_get old.clients.items k ≡ Some was → new.clients.items ≡ slice_set old.clients.items k now → is_idle now ≡ is_idle was → is_held now ≡ is_held was → is_leaving now ≡ is_leaving was → IsStill old new
still_set old new k was now at set idle held leaves = record {
  needs = λ j. ap (λ cs. is_so is_idle (slice_get cs j)) set ∙ so_set is_idle old.clients.items k j was now at idle;
  loads = λ j. ap (λ cs. is_so is_held (slice_get cs j)) set ∙ so_set is_held old.clients.items k j was now at held;
  owed = ap (list_any is_leaving) set ∙ any_set is_leaving old.clients.items k was now at leaves;
}

pub same_leaving : (n : ℕ) (c : Client) → is_leaving (record c { leaving = leaving_as n c }) ≡ is_leaving c
same_leaving n c = by c.leaving
  where
    by : (o : Option Cargo) → is_some (option_map (numbered n) o) ≡ is_some o
    by None = refl
    by (Some x) = refl

-- a request went to the driver, or stays
module _ (old new : Desk) (k n : ℕ) (was now : Client) (there : slice_get old.clients.items k ≡ Some was) (set : new.clients.items ≡ slice_set old.clients.items k now) (room : new.line.room ≡ old.line.room) (leaves : is_leaving was ≡ true) (put : List Cargo)
    (moves : (part : Option Part) → Moved part was now [] put [] []) (went : is_leaving now ≡ false → WentOff was now n put) (stays : is_leaving now ≡ true → (is_away now ≡ false) × (put ≡ []))
    (joined : is_leaving now ≡ false → new.line.shown ≡ old.line.shown ++ k ∷ []) (same : is_leaving now ≡ true → new.line.shown ≡ old.line.shown) where
  line : (is_leaving now ≡ true) ⊎ (is_leaving now ≡ false) → LineMoves k was now old.line.shown new.line.shown
  line (inl t) = inl (same t, (stays t).0 ∙ sym (leaving_not_away was leaves))
  line (inr f) = inr (inl (joined f, leaving_not_away was leaves, (went f).away))

  pub sent_moved : (part : Option Part) → OneMoved old new k part [] put [] []
  sent_moved part = record {
    was = was;
    now = now;
    there = there;
    clients = set;
    moved = moves part;
    line = line (cases_Bool (is_leaving now));
    room = room;
  }

  as_sent : (is_leaving now ≡ true) ⊎ (is_leaving now ≡ false) → SentAs old new k n put
  as_sent (inl t) = inl ((stays t).1, same t)
  as_sent (inr f) = let g = went f in inr (
    g.entry,
    now,
    g.sent_is,
    g.number,
    ap (λ cs. slice_get cs k) set ∙ slice_get_written old.clients.items k was now there,
    record {
      at = subst (λ (h : Holder). is_at h g.entry ≡ true) (sym (moves None).holder) g.at;
      page = g.page;
    },
    joined f,
  )

  pub sent_as : SentAs old new k n put
  sent_as = as_sent (cases_Bool (is_leaving now))

pub leaving_load : (w : Desk) (k n : ℕ) (c : Client) → slice_get w.clients.items k ≡ Some c → leaving_as n c ≡ leaving_with n w k
leaving_load w k n c at = sym (ap (λ o. option_map (numbered n) (leaving_in o)) at)

pub held_load : (w : Desk) (k : ℕ) (c : Client) → slice_get w.clients.items k ≡ Some c → c.held ≡ held_at w k
held_load w k c at = sym (ap held_in at)
