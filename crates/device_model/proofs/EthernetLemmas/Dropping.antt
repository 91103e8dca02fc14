use Rattle.std.proofs.Common.{◌≡◌, ◌≤◌, ◌&&◌, ℕ, Bool, true, false, cond, is_none, is_some, List, [], ◌∷◌, length, take, flat_map, refl, sym, ap, ◌∙◌, arith}
use Rattle.wire_core.specs.declared.names.Event.{Event}
use Rattle.wire_core.specs.Bells.{bit}
use Rattle.wire_core.specs.Ends.{Consumer}
use Rattle.wire_core.specs.Lists.{Passed}
use Rattle.wire_core.specs.Fates.{without, marked, noes_at, is_take_at, is_vain_at}
use Rattle.wire_core.proofs.Fating.{without_none, marked-append}
use Rattle.turn_kit.specs.Turns.{Round}
use Rattle.turn_kit.specs.Posts.{intake_post, outlet_post}
use Rattle.turn_kit.specs.Dropping.{dropping}
use Rattle.buffer_kit.specs.Entries.{all_filled}
use Rattle.device_model.specs.declared.ethernet.EthDevice.{EthDevice}
use Rattle.device_model.specs.Ethernet.Devices.{DeviceStandsFor, DeviceRow, HoldingDeviceStands, HoldingDeviceRow, device_round, holding_device_round, is_filling, accepted, frame_mark, frames_dropped, rx_free}

-- a device that waits drops nothing
one_none : (rf : ℕ) (e : Event) (a : Bool) → marked (cond a (false ∷ []) []) ≡ 0
one_none rf e true = refl
one_none rf e false = refl

none_held : (rf : ℕ) (es : List Event) → marked (flat_map (frame_mark false rf) es) ≡ 0
none_held rf [] = refl
none_held rf (e ∷ es) =
    let a = marked-append (frame_mark false rf e) (flat_map (frame_mark false rf) es) in
    let b = one_none rf e (is_take_at rf e) in
    let c = none_held rf es in
    omega (arith, a, b, c)

pub none_dropped_held : (d : EthDevice) → d.drops ≡ false → (calls : List Event) → marked (frames_dropped d calls) ≡ 0
none_dropped_held d hold calls = ap (λ b. marked (flat_map (frame_mark b (rx_free d)) calls)) hold ∙ none_held (rx_free d) calls

pub held : (d : EthDevice) (passed : Passed) → d.drops ≡ false → HoldingDeviceRow d passed → DeviceRow d passed
held d passed hold row =
    let none = none_dropped_held d hold passed.calls in
    let t = row.takes in
    let all : accepted d passed.calls ≡ d.frames = ap (λ b. cond b (without (frames_dropped d passed.calls) (take (length (frames_dropped d passed.calls)) d.frames)) d.frames) hold in
    record {
      filled = (row.filled.0, row.filled.1 ∙ sym (ap (λ xs. all_filled xs (passed.taken (rx_free d))) all));
      takes = rw all t;
      used = omega (arith, t, none);
      each = λ on. let no : true ≡ false = sym on ∙ hold in absurd cc;
      returns = row.returns;
      wire = row.wire;
    }

-- a device that waits
pub all_accepted : (d : EthDevice) (calls : List Event) → d.drops ≡ false → accepted d calls ≡ d.frames
all_accepted d calls hold = ap (λ b. cond b (without (frames_dropped d calls) (take (length (frames_dropped d calls)) d.frames)) d.frames) hold

pub holds : (d : EthDevice) (passed : Passed) → d.drops ≡ false → DeviceRow d passed → HoldingDeviceRow d passed
holds d passed hold row =
    let all = all_accepted d passed.calls hold in
    record {
      filled = (row.filled.0, row.filled.1 ∙ ap (λ xs. all_filled xs (passed.taken (rx_free d))) all);
      takes = rw (sym all) row.takes;
      returns = row.returns;
      wire = row.wire;
    }

pub stands_held : (d : EthDevice) (passed : Passed) → d.drops ≡ false → DeviceStandsFor d passed → HoldingDeviceStands d passed
stands_held d passed hold h =
    let none = none_dropped_held d hold passed.calls in
    let all = without_none (frames_dropped d passed.calls) d.frames none in
    record {
      filled = h.filled ∙ ap (λ xs. all_filled xs (passed.taken (rx_free d))) all;
      takes = let t = h.takes in omega (arith, t, none);
      next = h.next;
      sends = h.sends;
    }

pub held_stands : (d : EthDevice) (passed : Passed) → d.drops ≡ false → HoldingDeviceStands d passed → DeviceStandsFor d passed
held_stands d passed hold h =
    let none = none_dropped_held d hold passed.calls in
    let all = without_none (frames_dropped d passed.calls) d.frames none in
    record {
      filled = h.filled ∙ sym (ap (λ xs. all_filled xs (passed.taken (rx_free d))) all);
      takes = let t = h.takes in omega (arith, t, none);
      next = h.next;
      sends = h.sends;
      tells = λ on. let no : true ≡ false = sym on ∙ hold in absurd cc;
    }

-- its ends, by whether it drops
abbrev round_by : EthDevice → Bool → Round
round_by d drops = record {
  posts = dropping drops (intake_post d.free) ∷ outlet_post d.active ∷ intake_post d.wire.pipe.input ∷ outlet_post d.wire.pipe.output ∷ [];
  needs = is_filling d ∷ is_some d.load ∷ is_none d.wire.pipe.load ∷ is_some d.wire.pipe.load ∷ [];
  last = d.turn.last;
}

pub round_held : (d : EthDevice) → d.drops ≡ false → device_round d ≡ holding_device_round d
round_held d hold = ap (round_by d) hold

-- a drop is a look in vain
one_few : (drops a v : Bool) → marked (cond a (false ∷ []) (cond (drops && v) (true ∷ []) [])) ≤ bit v
one_few drops true v = omega arith
one_few true false true = omega arith
one_few true false false = omega arith
one_few false false v = omega arith

few_from : (drops : Bool) (rf : ℕ) (es : List Event) → marked (flat_map (frame_mark drops rf) es) ≤ noes_at Consumer rf es
few_from drops rf [] = omega arith
few_from drops rf (e ∷ es) =
    let a = marked-append (frame_mark drops rf e) (flat_map (frame_mark drops rf) es) in
    let b = one_few drops (is_take_at rf e) (is_vain_at Consumer rf e) in
    let c = few_from drops rf es in
    omega (arith, a, b, c)

pub few_dropped_frames : (d : EthDevice) (calls : List Event) → marked (frames_dropped d calls) ≤ noes_at Consumer (rx_free d) calls
few_dropped_frames d calls = few_from d.drops (rx_free d) calls
