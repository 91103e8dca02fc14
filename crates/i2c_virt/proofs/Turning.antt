-- The turns of the virtualiser.
use Rattle.std.proofs.Common.{◌≡◌, ◌∙◌, ℕ, false, is_none, length, sym, ap, subst, refl}
use Rattle.wire_core.specs.Ends.{Role, End}
use Rattle.wire_core.specs.declared.names.Event.{Event}
use Rattle.wire_core.specs.Marks.{is_mark}
use Rattle.turn_kit.specs.declared.turns.Turn.{Turn}
use Rattle.turn_kit.specs.Turns.{PostedAt, Turned, choice_of, chosen_place, last_after}
use Rattle.buffer_kit.specs.declared.virt_ends.VirtEnd.{VirtEnd}
use Rattle.buffer_kit.specs.Virtualising.{FitsVirt, IsThere, from_queues, to_queues, virt_posts, place_of, need_of}
use Rattle.buffer_kit.proofs.VirtTurns.{turned}
use Rattle.i2c_virt.specs.declared.virtualiser.I2cVirt.{I2cVirt}
use Rattle.i2c_virt.specs.declared.work.Work.{Work}
use Rattle.i2c_virt.specs.Works.{IsWork, SameWork, WorkIsStill, wants_at, gives_at, is_owing}
use Rattle.i2c_virt.specs.Virtualising.{SameI2cVirt, FitsEnds, FitsI2cVirt, KnowsLowest, i2c_virt_round}

pub virt_turned : (v mid new : I2cVirt) (e : Event) (at : VirtEnd) → place_of v.ends at ≡ chosen_place (choice_of (i2c_virt_round v)) → IsThere v.ends at
    → mid ≡ record v { ends = record v.ends { turn = record { last = last_after (choice_of (i2c_virt_round v)) } } } → PostedAt (virt_posts mid.ends) (place_of mid.ends at) (need_of (is_none mid.work.stray) (is_owing mid.work) (wants_at mid.work) (gives_at mid.work) at) e (virt_posts new.ends)
    → SameI2cVirt mid new → new.ends.turn ≡ mid.ends.turn → (is_mark e.op e.answer ≡ false → WorkIsStill mid.work new.work) → Turned (i2c_virt_round v) e (i2c_virt_round new)
virt_turned v mid new e at is there after posted same turn still =
    let mid_work : mid.work ≡ v.work = ap (λ (m : I2cVirt). m.work) after in
    let t : Turn = record { last = last_after (choice_of (i2c_virt_round v)) } in
    let posted' : PostedAt (virt_posts mid.ends) (place_of mid.ends at) (need_of (is_none v.work.stray) (is_owing v.work) (wants_at v.work) (gives_at v.work) at) e (virt_posts new.ends) =
    subst (λ (w : Work). PostedAt (virt_posts mid.ends) (place_of mid.ends at) (need_of (is_none w.stray) (is_owing w) (wants_at w) (gives_at w) at) e (virt_posts new.ends)) mid_work posted in
    turned v.ends mid.ends new.ends t e at (is_none v.work.stray) (is_owing v.work) (is_none new.work.stray) (is_owing new.work) (wants_at v.work) (gives_at v.work) (wants_at new.work) (gives_at new.work)
    (ap (λ (m : I2cVirt). m.ends) after) is there posted' same.ends turn refl
    (λ m. let s = subst (λ (w : Work). WorkIsStill w new.work) mid_work (still m) in record {
      need_stays = s.free;
      owed_stays = s.owing;
      needs_stay = s.wants;
      loads_stay = s.gives;
    })

-- whose turn it is doesn't matter for how it fits
pub turned_fits : (ends : Role → ℕ → End) (v mid : I2cVirt) (last : ℕ) → mid ≡ record v { ends = record v.ends { turn = record { last = last } } } → FitsI2cVirt ends v → FitsEnds ends mid
turned_fits ends v mid last after f =
    let e = f.ends_fit in
    subst (λ (x : I2cVirt). FitsEnds ends x) (sym after) (record {
      ends_fit = record {
        input = e.input;
        output = e.output;
        from_clients = e.from_clients;
        to_clients = e.to_clients;
        comes = e.comes;
        goes = e.goes;
        come_from = e.come_from;
        go_to = e.go_to;
        inputs_apart = e.inputs_apart;
        outputs_apart = e.outputs_apart;
        few_from = e.few_from;
        few_to = e.few_to;
      };
      work = f.work;
      from_each = f.from_each;
      to_each = f.to_each;
    })

-- only the lowest end was looked for
pub looked_fits : (ends : Role → ℕ → End) (w new : I2cVirt) → new ≡ record w { lowest = new.lowest; loose = new.loose } → FitsEnds ends w → KnowsLowest new → FitsI2cVirt ends new
looked_fits ends w new others f knows = record {
  ends_fit = subst (λ (x : I2cVirt). FitsVirt ends x.ends) (sym others) f.ends_fit;
  work = subst (λ (x : I2cVirt). IsWork x.work) (sym others) f.work;
  from_each = subst (λ (x : I2cVirt). length (from_queues x.ends) ≡ length x.work.desks.items) (sym others) f.from_each;
  to_each = subst (λ (x : I2cVirt). length (to_queues x.ends) ≡ length x.work.desks.items) (sym others) f.to_each;
  knows = knows;
}

pub looked_same : (v mid w new : I2cVirt) (last : ℕ) → mid ≡ record v { ends = record v.ends { turn = record { last = last } } } → new ≡ record w { lowest = new.lowest; loose = new.loose } → SameI2cVirt mid w → SameI2cVirt v new
looked_same v mid w new last after others s = record {
  ends = record {
    input = ap (λ (x : I2cVirt). x.ends.input.queue) others ∙ (s.ends.input ∙ ap (λ (x : I2cVirt). x.ends.input.queue) after);
    output = ap (λ (x : I2cVirt). x.ends.output.queue) others ∙ (s.ends.output ∙ ap (λ (x : I2cVirt). x.ends.output.queue) after);
    from_clients = ap (λ (x : I2cVirt). from_queues x.ends) others ∙ (s.ends.from_clients ∙ ap (λ (x : I2cVirt). from_queues x.ends) after);
    to_clients = ap (λ (x : I2cVirt). to_queues x.ends) others ∙ (s.ends.to_clients ∙ ap (λ (x : I2cVirt). to_queues x.ends) after);
  };
  work = subst (λ (x : I2cVirt). SameWork v.work x.work) (sym others) (subst (λ (x : I2cVirt). SameWork x.work w.work) after s.work);
}
