use Rattle.std.proofs.Common.{◌≡◌, ◌⊎◌, inl, inr, ◌+◌, ◌++◌, ◌<◌, ◌≤◌, ◌&&◌, ℕ, Bool, true, false, not, nat_lt, Option, Some, None, is_some, is_none, List, [], ◌∷◌, length, map, reverse, slice_get, length-append, refl, sym, ap, ◌∙◌, arith}
use Rattle.std.specs.Option.{option_to_list}
use Rattle.std.proofs.lemmas.Bool.{lt-ltb, le-ltb}
use Rattle.cargo_core.specs.Pages.{Paged}
use Rattle.wire_core.specs.Bells.{bit}
use Rattle.wire_core.specs.Deeds.{Cargo}
use Rattle.wire_core.specs.Queues.{Queue, end_at}
use Rattle.wire_core.specs.Lists.{Passed}
use Rattle.wire_core.specs.Ends.{Consumer}
use Rattle.wire_core.specs.Fates.{without, marked}
use Rattle.wire_core.proofs.Fating.{without_left}
use Rattle.play_core.specs.Moved.{Moved, gone_at}
use Rattle.play_core.specs.Sheets.{Scene}
use Rattle.turn_kit.specs.Pipes.{FitsPipe, PipeStandsFor}
use Rattle.turn_kit.specs.declared.pipe.Pipe.{Pipe}
use Rattle.pipe_driver.specs.Drivers.{EachPipe, PipesStandFor, pipe_posts, pipe_needs}
use Rattle.buffer_kit.specs.Pools.{given_entry}
use Rattle.buffer_kit.specs.Stocks.{stock_list, IsStock}
use Rattle.buffer_kit.specs.declared.stock.Stock.{Stock}
use Rattle.buffer_kit.proofs.Filling.{filled_length}
use Rattle.device_model.specs.Ethernet.Devices.{FitsDevice, DeviceStandsFor, frames_dropped, is_filling, device_round, rx_free as device_free, rx_active as device_active}
use Rattle.device_model.specs.declared.ethernet.EthDevice.{EthDevice}
use Rattle.device_model.proofs.EthernetLemmas.Dropping.{none_dropped_held as no_frame_dropped}
use Rattle.net_copier.specs.Copying.{FitsCopier, CopierStandsFor, leases_dropped, IfThere, IsAt, is_stray, is_taken, is_copied, is_wanting, is_returning, copier_round}
use Rattle.net_copier.proofs.Dropping.{none_dropped_held as no_lease_dropped}
use Rattle.net_copier.specs.declared.NetCopier.{NetCopier}
use Rattle.net_copier.specs.declared.Stage.{Stage}
use Rattle.net_copier.specs.declared.Stage.TheVariants as At
use Rattle.net_law.specs.Parts.Table.{net_sheet, is_short}
use Rattle.net_law.specs.Parts.Playing.{device_part, driver_part, copier_part, AreLeases}
use Rattle.play_core.specs.Rests.Showing.{HaveItems}
use Rattle.play_core.specs.Rests.Meeting.{Meet}
use Rattle.play_core.proofs.RestsLemmas.Settling.{both, took, put, none_is, held_is, bit_is}

and_swap : (a b : Bool) → (a && b) ≡ (b && a)
and_swap true true = refl
and_swap true false = refl
and_swap false true = refl
and_swap false false = refl

last_get : (xs : List Cargo) (x : Cargo) → slice_get (xs ++ x ∷ []) (length xs) ≡ Some x
last_get [] x = refl
last_get (y ∷ xs) x = last_get xs x

-- whether a copier needs a buffer, by how many came and went: a lease is in turn, and a buffer is
-- filled only for one
wanting_is : (lease buffer : Option Cargo) (stage : Stage) → IfThere lease (IsAt stage) → ((x : Cargo) → lease ≡ Some x → is_stray x ≡ false) → (is_some buffer ≡ true → (is_some lease ≡ true) × (stage ≡ At.Taken)) → (back gave buffers leases : ℕ) → back + length (option_to_list lease) ≡ leases → gave ≡ back + bit (is_some lease && is_copied stage) → gave + length (option_to_list buffer) ≡ buffers → (is_some lease && (is_none buffer && is_taken stage)) ≡ nat_lt buffers leases
wanting_is None None stage at turn filled back gave buffers leases a b c = sym (le-ltb buffers leases (omega (arith, a, b, c)))
wanting_is None (Some y) stage at turn filled back gave buffers leases a b c = let e : false ≡ true = (filled refl).0 in cc
wanting_is (Some x) None At.Taken at turn filled back gave buffers leases a b c = sym (lt-ltb buffers leases (omega (arith, a, b, c)))
wanting_is (Some x) None At.Copied at turn filled back gave buffers leases a b c = sym (le-ltb buffers leases (omega (arith, a, b, c)))
wanting_is (Some x) None At.Stray at turn filled back gave buffers leases a b c = let e : false ≡ true = sym (turn x refl) ∙ at in cc
wanting_is (Some x) (Some y) At.Taken at turn filled back gave buffers leases a b c = sym (le-ltb buffers leases (omega (arith, a, b, c)))
wanting_is (Some x) (Some y) At.Copied at turn filled back gave buffers leases a b c = let e : At.Copied ≡ At.Taken = (filled refl).1 in cc
wanting_is (Some x) (Some y) At.Stray at turn filled back gave buffers leases a b c = let e : At.Stray ≡ At.Taken = (filled refl).1 in cc

-- a stock has nothing to give where nothing is ready
pub none_left : (s : Stock) → IsStock s → s.next ≡ None → length (stock_list s) ≡ 0
none_left s is none =
    let a = length-append (option_to_list s.next) (map (given_entry s.base s.size) (reverse s.rest.items)) in
    let b : length (option_to_list s.next) ≡ 0 = ap (λ o. length (option_to_list o)) none in
    let c : length (map (given_entry s.base s.size) (reverse s.rest.items)) ≡ 0 = ap (λ (ps : List Paged). length (map (given_entry s.base s.size) (reverse ps))) (is.ready none) in
    omega (arith, a, b, c)

pub some_left : (s : Stock) → is_some s.next ≡ true → 0 < length (stock_list s)
some_left s some =
    let a = length-append (option_to_list s.next) (map (given_entry s.base s.size) (reverse s.rest.items)) in
    let b = one s.next some in
    omega (arith, a, b)
  where
    one : (o : Option Cargo) → is_some o ≡ true → 0 < length (option_to_list o)
    one None h = cc
    one (Some x) h = omega arith

pub next_left : (s : Stock) → IsStock s → is_some s.next ≡ nat_lt 0 (length (stock_list s))
next_left s is = by s.next refl
  where
    by : (o : Option Cargo) → s.next ≡ o → is_some s.next ≡ nat_lt 0 (length (stock_list s))
    by None e = ap is_some e ∙ sym (le-ltb 0 (length (stock_list s)) (let z = none_left s is e in omega (arith, z)))
    by (Some x) e = ap is_some e ∙ sym (lt-ltb 0 (length (stock_list s)) (some_left s (ap is_some e)))

-- each of these actors needs and owes what its sheet says of its items
module _ (scene : Scene) (w : List Queue) (passed : Passed) (m : Moved) (h : HaveItems passed m) where
  loaded : (p : Pipe) → PipeStandsFor p passed → is_some p.load ≡ is_short (m.sent p.output.queue.0) (m.taken p.input.queue.0)
  loaded p st =
      let all = ap (λ l. length l) st in
      let parts = length-append (passed.sent p.output.queue.0) (option_to_list p.load) in
      held_is p.load (length (m.sent p.output.queue.0)) (length (m.taken p.input.queue.0)) (omega (arith, all, parts, took passed m h p.input.queue.0, put passed m h p.output.queue.0))

  free : (p : Pipe) → PipeStandsFor p passed → is_none p.load ≡ not (is_short (m.sent p.output.queue.0) (m.taken p.input.queue.0))
  free p st = none_is p.load ∙ ap not (loaded p st)

  pub pipes_meet : (ps : List Pipe) → EachPipe (FitsPipe (end_at w)) ps → PipesStandFor ps passed → Meet (end_at w) (pipe_posts ps) (pipe_needs ps) ((net_sheet scene (driver_part ps)).wants m)
  pipes_meet [] f st = tt
  pipes_meet (p ∷ ps) f st = (record { needs = free p st.0; agrees = f.0.input }, (record { needs = loaded p st.0; agrees = f.0.output }, pipes_meet ps f.1 st.1))

  -- as many frames were dropped as looks were in vain
  frames_gone : (d : EthDevice) → DeviceStandsFor d passed → (b : Bool) → d.drops ≡ b → marked (frames_dropped d passed.calls) ≡ gone_at b m Consumer (device_free d)
  frames_gone d st true e = sym (st.tells e).each ∙ h.noes Consumer (device_free d)
  frames_gone d st false e = no_frame_dropped d e passed.calls

  frames_fit : (d : EthDevice) → DeviceStandsFor d passed → (b : Bool) → d.drops ≡ b → (length (frames_dropped d passed.calls) ≤ length d.frames) ⊎ (marked (frames_dropped d passed.calls) ≡ 0)
  frames_fit d st true e = inl (let u = (st.tells e).used in let n = st.next in omega (arith, u, n))
  frames_fit d st false e = inr (no_frame_dropped d e passed.calls)

  pub device_meets : (d : EthDevice) → FitsDevice (end_at w) d → DeviceStandsFor d passed → Meet (end_at w) (device_round d).posts (device_round d).needs ((net_sheet scene (device_part d)).wants m)
  device_meets d f st =
      let marks = frames_dropped d passed.calls in
      let gone = gone_at d.drops m Consumer (device_free d) in
      let many : marked marks ≡ gone = frames_gone d st d.drops refl in
      let left = without_left marks d.frames (frames_fit d st d.drops refl) in
      let all = ap (λ l. length l) st.filled in
      let parts = length-append (passed.sent (device_active d)) (option_to_list d.load) in
      let long = filled_length (without marks d.frames) (passed.taken (device_free d)) (omega (arith, st.takes, st.next, left)) in
      let next : d.next ≡ length (m.taken (device_free d)) + gone = omega (arith, st.takes, took passed m h (device_free d), many) in
      let loads : is_some d.load ≡ is_short (m.sent (device_active d)) (m.taken (device_free d)) = held_is d.load (length (m.sent (device_active d))) (length (m.taken (device_free d))) (omega (arith, all, parts, long, took passed m h (device_free d), put passed m h (device_active d))) in
      let fills : is_filling d ≡ (nat_lt (length (m.taken (device_free d)) + gone) (length d.frames) && not (is_short (m.sent (device_active d)) (m.taken (device_free d)))) = and_swap (is_none d.load) (nat_lt d.next (length d.frames)) ∙ both (ap (λ n. nat_lt n (length d.frames)) next) (none_is d.load ∙ ap not loads) in (
        record { needs = fills; agrees = f.free },
        (
          record { needs = loads; agrees = f.active },
          (record { needs = free d.wire.pipe st.sends.moved; agrees = f.wire.input }, (record { needs = loaded d.wire.pipe st.sends.moved; agrees = f.wire.output }, tt)),
        ),
      )

  leases_gone : (c : NetCopier) → CopierStandsFor c passed → (b : Bool) → c.drops ≡ b → marked (leases_dropped c passed.calls) ≡ gone_at b m Consumer c.buffer_input.queue.0
  leases_gone c st true e = sym (st.tells e).each ∙ h.noes Consumer c.buffer_input.queue.0
  leases_gone c st false e = no_lease_dropped c e passed.calls

  pub copier_meets : (c : NetCopier) → AreLeases (passed.taken c.lease_input.queue.0) → FitsCopier (end_at w) c → CopierStandsFor c passed → Meet (end_at w) (copier_round c).posts (copier_round c).needs ((net_sheet scene (copier_part c)).wants m)
  copier_meets c leases f st =
      let li = c.lease_input.queue.0 in
      let bi = c.buffer_input.queue.0 in
      let bo = c.buffer_output.queue.0 in
      let lo = c.lease_output.queue.0 in
      let gone = gone_at c.drops m Consumer bi in
      let many : marked (leases_dropped c passed.calls) ≡ gone = leases_gone c st c.drops refl in
      let came = ap (λ l. length l) st.leases in
      let came_parts = length-append (passed.sent lo) (option_to_list c.lease) in
      let gave_parts = length-append (passed.sent bo) (option_to_list c.buffer) in
      let in_turn : (x : Cargo) → c.lease ≡ Some x → is_stray x ≡ false = λ x is.
      (leases (length (passed.sent lo)) x (ap (λ l. slice_get l (length (passed.sent lo))) (st.leases ∙ ap (λ o. passed.sent lo ++ option_to_list o) is) ∙ last_get (passed.sent lo) x)).in_turn in
      let has : is_some c.lease ≡ is_short (m.sent lo) (m.taken li) = held_is c.lease (length (m.sent lo)) (length (m.taken li)) (omega (arith, came, came_parts, took passed m h li, put passed m h lo)) in
      let wants : is_wanting c ≡ nat_lt (length (m.taken bi) + gone) (length (m.taken li)) =
      wanting_is c.lease c.buffer c.stage st.work.lease in_turn st.work.buffered (length (m.sent lo)) (length (m.sent bo) + gone) (length (m.taken bi) + gone) (length (m.taken li)) (omega (arith, came, came_parts, took passed m h li, put passed m h lo)) (omega (arith, st.puts, put passed m h bo, put passed m h lo, many)) (omega (arith, st.takes, gave_parts, took passed m h bi, put passed m h bo)) in
      let fills : is_some c.buffer ≡ is_short (m.sent bo) (m.taken bi) = held_is c.buffer (length (m.sent bo)) (length (m.taken bi)) (omega (arith, st.takes, gave_parts, took passed m h bi, put passed m h bo)) in
      let returns : is_returning c ≡ nat_lt (length (m.sent lo)) (length (m.sent bo) + gone) = bit_is (is_returning c) (length (m.sent lo)) (length (m.sent bo) + gone) (omega (arith, st.puts, put passed m h bo, put passed m h lo, many)) in (
        record { needs = none_is c.lease ∙ ap not has; agrees = f.lease_input },
        (
          record { needs = wants; agrees = f.buffer_input },
          (record { needs = fills; agrees = f.buffer_output }, (record { needs = returns; agrees = f.lease_output }, tt)),
        ),
      )
