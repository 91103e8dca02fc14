use Rattle.std.proofs.Common.{◌≡◌, ◌≤◌, ◌&&◌, ℕ, Bool, true, false, cond, is_none, is_some, List, [], ◌∷◌, map, refl, sym, ap, ◌∙◌, arith}
use Rattle.wire_core.specs.declared.names.Event.{Event}
use Rattle.wire_core.specs.Ends.{Consumer}
use Rattle.buffer_kit.specs.Entries.{all_filled}
use Rattle.wire_core.specs.Lists.{Passed}
use Rattle.wire_core.specs.Fates.{Came, Served, Refused, Other, IsRefused, is_take_at, is_vain_at, marked, noes_at}
use Rattle.wire_core.proofs.Fating.{few_dropped, none_dropped, without_none}
use Rattle.net_copier.specs.declared.NetCopier.{NetCopier}
use Rattle.turn_kit.specs.Turns.{Round}
use Rattle.turn_kit.specs.Posts.{intake_post, outlet_post}
use Rattle.turn_kit.specs.Dropping.{dropping}
use Rattle.net_copier.specs.Copying.{CopierStandsFor, CopierRow, HoldingCopierStands, HoldingCopierRow, copier_word, copier_round, holding_copier_round, is_returning, is_wanting, leased_bytes, leases_dropped}

-- a refusal is a look in vain, of one that drops
refused_so : (a b v : Bool) → IsRefused (cond a Came (cond b Served (cond v Refused Other))) → v ≡ true
refused_so true b v r = absurd r
refused_so false true v r = absurd r
refused_so false false true r = refl
refused_so false false false r = absurd r

both : (a b : Bool) → (a && b) ≡ true → (a ≡ true) × (b ≡ true)
both true b e = (refl, e)
both false b e = cc

module _ (c : NetCopier) where
  abbrev la : ℕ
  la = c.lease_input.queue.0

  abbrev rf : ℕ
  rf = c.buffer_input.queue.0

  refused : (bs : List Event) (e : Event) → IsRefused (copier_word c.drops la rf bs e) → (c.drops ≡ true) × (is_vain_at Consumer rf e ≡ true)
  refused bs e r = both c.drops (is_vain_at Consumer rf e) (refused_so (is_take_at la e) (is_take_at rf e) (c.drops && is_vain_at Consumer rf e) r)

  pub few_dropped_leases : (calls : List Event) → marked (leases_dropped c calls) ≤ noes_at Consumer rf calls
  few_dropped_leases calls = few_dropped (copier_word c.drops la rf) Consumer rf (λ before e r. (refused before e r).1) calls

  pub none_dropped_held : c.drops ≡ false → (calls : List Event) → marked (leases_dropped c calls) ≡ 0
  none_dropped_held hold calls = none_dropped (copier_word c.drops la rf) (λ before e r. let no : true ≡ false = sym (refused before e r).0 ∙ hold in absurd cc) calls

-- a copier that waits
pub holds : (c : NetCopier) (passed : Passed) → c.drops ≡ false → CopierRow c passed → HoldingCopierRow c passed
holds c passed hold row =
    let none = none_dropped_held c hold passed.calls in
    let all = without_none (leases_dropped c passed.calls) row.leases none in
    record {
      leases = row.leases;
      stray = row.stray;
      taken = row.taken;
      few = row.few;
      in_turn = row.in_turn;
      out_of_turn = row.out_of_turn;
      copies = (row.copies.0, row.copies.1 ∙ ap (λ xs. all_filled (map leased_bytes xs) (passed.taken c.buffer_input.queue.0)) all);
      takes_for = let t = row.takes_for in omega (arith, t, none);
      gives_back = row.gives_back;
      after_copy = let t = row.after_copy in omega (arith, t, none);
    }

pub held : (c : NetCopier) (passed : Passed) → c.drops ≡ false → HoldingCopierRow c passed → CopierRow c passed
held c passed hold row =
    let none = none_dropped_held c hold passed.calls in
    let all = without_none (leases_dropped c passed.calls) row.leases none in
    record {
      leases = row.leases;
      stray = row.stray;
      taken = row.taken;
      few = row.few;
      in_turn = row.in_turn;
      out_of_turn = row.out_of_turn;
      copies = (row.copies.0, row.copies.1 ∙ sym (ap (λ xs. all_filled (map leased_bytes xs) (passed.taken c.buffer_input.queue.0)) all));
      takes_for = let t = row.takes_for in omega (arith, t, none);
      gives_back = row.gives_back;
      after_copy = let t = row.after_copy in omega (arith, t, none);
      each = λ on. let no : true ≡ false = sym on ∙ hold in absurd cc;
      settled = λ on. let no : true ≡ false = sym on ∙ hold in absurd cc;
    }

pub stands_held : (c : NetCopier) (passed : Passed) → c.drops ≡ false → CopierStandsFor c passed → HoldingCopierStands c passed
stands_held c passed hold h =
    let none = none_dropped_held c hold passed.calls in
    let all = without_none (leases_dropped c passed.calls) (passed.taken c.lease_input.queue.0) none in
    record {
      leases = h.leases;
      copies = h.copies ∙ ap (λ xs. all_filled (map leased_bytes xs) (passed.taken c.buffer_input.queue.0)) all;
      takes = h.takes;
      puts = let p = h.puts in omega (arith, p, none);
      in_turn = h.in_turn;
      work = h.work;
    }

pub held_stands : (c : NetCopier) (passed : Passed) → c.drops ≡ false → HoldingCopierStands c passed → CopierStandsFor c passed
held_stands c passed hold h =
    let none = none_dropped_held c hold passed.calls in
    let all = without_none (leases_dropped c passed.calls) (passed.taken c.lease_input.queue.0) none in
    record {
      leases = h.leases;
      copies = h.copies ∙ sym (ap (λ xs. all_filled (map leased_bytes xs) (passed.taken c.buffer_input.queue.0)) all);
      takes = h.takes;
      puts = let p = h.puts in omega (arith, p, none);
      in_turn = h.in_turn;
      work = h.work;
      tells = λ on. let no : true ≡ false = sym on ∙ hold in absurd cc;
    }

-- its ends, by whether it drops
abbrev round_by : NetCopier → Bool → Round
round_by c drops = record {
  posts = intake_post c.lease_input ∷ dropping drops (intake_post c.buffer_input) ∷ outlet_post c.buffer_output ∷ outlet_post c.lease_output ∷ [];
  needs = is_none c.lease ∷ is_wanting c ∷ is_some c.buffer ∷ is_returning c ∷ [];
  last = c.turn.last;
}

pub round_held : (c : NetCopier) → c.drops ≡ false → copier_round c ≡ holding_copier_round c
round_held c hold = ap (round_by c) hold
