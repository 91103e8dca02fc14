-- A response carries the buffer of the request of its place; so a disk and a driver hand buffers on.
use Rattle.std.proofs.Common.{◌≡◌, ◌+◌, ◌<◌, ◌≤◌, ℕ, Option, Some, List, [], ◌∷◌, length, map, slice_get, option_and_then, refl, sym, ap, ◌∙◌, subst, arith, inl}
use Rattle.cargo_core.specs.declared.item.Item.{Item}
use Rattle.wire_core.specs.Deeds.{Cargo}
use Rattle.wire_core.specs.Lists.{Passed}
use Rattle.play_core.specs.Moved.{Moved, Seat}
use Rattle.play_core.specs.Sheets.{Scene}
use Rattle.play_core.specs.Wants.{intake, outlet}
use Rattle.play_core.proofs.Lists.{map_get, map_from, there_is, there_below}
use Rattle.owner_law.specs.Things.{Buffer, Window, Names, Buffers, Answers, Naming, Whole, thing_of, thing_at, requests_of, buffer_of, is_named, as_buffer}
use Rattle.turn_kit.specs.declared.pipe.Pipe.{Pipe}
use Rattle.pipe_driver.specs.Drivers.{PipesRow}
use Rattle.device_model.specs.Disk.Disks.{DiskRow, req, resp}
use Rattle.device_model.specs.Disk.Serving.{answers_to}
use Rattle.device_model.specs.declared.disk.DiskDevice.{DiskDevice}
use Rattle.play_core.specs.Rests.Showing.{HaveItems}
use Rattle.owner_law.specs.Pools.Handing.{Carries, AllCarry, HandsOn}
use Rattle.net_quiet.proofs.PoolsLemmas.Carrying.{HasPage, carries_page, takes_here, takes_rest, puts_none, puts_in, puts_out, passed_on}
use Rattle.net_law.specs.Parts.Parts.{Way}
use Rattle.net_law.specs.Parts.Playing.{way_of}
use Rattle.net_law.proofs.PartsLemmas.Leasing.{prefix_get}
use Rattle.blk_law.specs.Sheets.Playing.{disk_part, blk_driver_part}
use Rattle.blk_law.specs.Sheets.Table.{blk_sheet}
use Rattle.blk_law.specs.Owners.Answering.{NamesBlk, NamesWays, IsInOrder}
use Rattle.blk_quiet.proofs.PoolsLemmas.Alike.{SamePage, answer_at}

whole_named : (b : Buffer) (o : Option Buffer) → as_buffer b (thing_of Whole o) ≡ is_named b o
whole_named b Rattle.std.proofs.Common.None = refl
whole_named b (Some c) = refl

-- the names at a driver's queues
abbrev pub DriverNames : Naming → List Window → Pipe → Pipe → Type 0
DriverNames naming ws p q = (naming p.input.queue.0 ≡ Buffers ws) × (naming p.output.queue.0 ≡ Buffers ws) × (naming q.input.queue.0 ≡ Answers p.output.queue.0 ws) × (naming q.output.queue.0 ≡ Answers p.input.queue.0 ws)

pub driver_names : (naming : Naming) (ws : List Window) (p q : Pipe) → NamesWays naming ws (map way_of (p ∷ q ∷ [])) → DriverNames naming ws p q
driver_names naming ws p q n =
    let all = n.ways_are in
    let one : way_of p ≡ record { input = n.req; output = n.disk_req } = cc in
    let two : way_of q ≡ record { input = n.disk_resp; output = n.resp } = cc in
    let pi : p.input.queue.0 ≡ n.req = ap (λ (w : Way). w.input) one in
    let po : p.output.queue.0 ≡ n.disk_req = ap (λ (w : Way). w.output) one in
    let qi : q.input.queue.0 ≡ n.disk_resp = ap (λ (w : Way). w.input) two in
    let qo : q.output.queue.0 ≡ n.resp = ap (λ (w : Way). w.output) two in
    (ap naming pi ∙ n.asked.0, ap naming po ∙ n.passed_on.0, ap naming qi ∙ (n.passed_on.1 ∙ ap (λ r. Answers r ws) (sym po)), ap naming qo ∙ (n.asked.1 ∙ ap (λ r. Answers r ws) (sym pi)))

module _ (naming : Naming) (passed : Passed) (m : Moved) (items : HaveItems passed m) (order : IsInOrder naming m) where
  -- what was put, and so what was taken, stands at its place among all items
  pub put_at : (n k : ℕ) (x : Cargo) → slice_get (passed.sent n) k ≡ Some x → slice_get (m.sent n) k ≡ Some x.0
  put_at n k x at = ap (λ l. slice_get l k) (sym (items.sent n)) ∙ map_get (λ (c : Cargo). c.0) (passed.sent n) k x at

  pub took_at : (n k : ℕ) (x : Cargo) → slice_get (passed.taken n) k ≡ Some x → slice_get (m.sent n) k ≡ Some x.0
  took_at n k x at = prefix_get (m.taken n) (m.sent n) (order.hands_over n) k x.0 (ap (λ l. slice_get l k) (sym (items.taken n)) ∙ map_get (λ (c : Cargo). c.0) (passed.taken n) k x at)

  module _ (ws : List Window) (q n : ℕ) (names : naming n ≡ Answers q ws) where
    -- a response names the buffer of its request
    answer_named : (b : Buffer) (k : ℕ) (i j : Item) → slice_get (m.sent q) k ≡ Some i → as_buffer b (thing_at (naming n) (requests_of (naming n) m) k j) ≡ is_named b (buffer_of ws i)
    answer_named b k i j at =
        subst (λ (z : Names). as_buffer b (thing_at z (requests_of z m) k j) ≡ is_named b (buffer_of ws i)) (sym names)
        (ap (λ (o : Option Item). as_buffer b (thing_of Whole (option_and_then (buffer_of ws) o))) at ∙ whole_named b (buffer_of ws i))

    pub answer_carries : (k : ℕ) (x y : Cargo) → slice_get (m.sent q) k ≡ Some x.0 → HasPage ws x → SamePage x.1 y.1 → Carries naming m n k y
    answer_carries k x y at has same b = same b ∙ (has b ∙ sym (answer_named b k x.0 y.0 at))

    pub carries_answer : (k : ℕ) (x y : Cargo) → slice_get (m.sent q) k ≡ Some x.0 → HasPage ws x → Carries naming m n k y → SamePage x.1 y.1
    carries_answer k x y at has carry b = carry b ∙ (answer_named b k x.0 y.0 at ∙ sym (has b))

  module _ (scene : Scene) where
    pub disk_on : (start : List ℕ) (d : DiskDevice) → NamesBlk naming (disk_part start d) → DiskRow start d passed → HandsOn naming m passed (blk_sheet scene (disk_part start d)).ends
    disk_on start d names row takes = puts_in naming m passed (req d) (outlet (resp d) ∷ []) (puts_out naming m passed (resp d) [] each (puts_none naming m passed))
      where
        each : (k : ℕ) (y : Cargo) → slice_get (passed.sent (resp d)) k ≡ Some y → Carries naming m (resp d) k y
        each k y at =
            let a = answer_at start row.requests k y (prefix_get (passed.sent (resp d)) (answers_to start row.requests) row.answers k y at) in
            let came : slice_get (passed.taken (req d)) k ≡ Some a.0 = prefix_get row.requests (passed.taken (req d)) (row.stray, sym row.taken) k a.0 a.1 in
            let page = carries_page naming m names.0 (req d) (inl names.1.0) k a.0 (takes_here naming m passed (req d) (outlet (resp d) ∷ []) takes k a.0 came) in
            answer_carries names.0 (req d) (resp d) names.1.1 k a.0 y (took_at (req d) k a.0 came) page a.2

    module _ (p q : Pipe) (names : NamesBlk naming (blk_driver_part (p ∷ q ∷ []))) (row : PipesRow (p ∷ q ∷ []) passed) where
      abbrev pi : ℕ
      pi = p.input.queue.0

      abbrev po : ℕ
      po = p.output.queue.0

      abbrev qi : ℕ
      qi = q.input.queue.0

      abbrev qo : ℕ
      qo = q.output.queue.0

      abbrev more : List Seat
      more = intake qi ∷ outlet qo ∷ []

      abbrev rest : List Seat
      rest = outlet po ∷ more

      abbrev ws : List Window
      ws = names.0

      named : DriverNames naming ws p q
      named = driver_names naming ws p q names.1

      back_on : AllCarry naming m qi (passed.taken qi) → AllCarry naming m qo (passed.sent qo)
      back_on carry k y at b =
          let came = prefix_get (passed.sent qo) (passed.taken qi) row.1.0 k y at in
          let below = there_below (m.sent qi) k y.0 (took_at qi k y came) in
          let few = order.answered qi po ws named.2 in
          let i = there_is (m.sent po) k (omega (arith, below, few)) in
          let z = map_from (λ (c : Cargo). c.0) (passed.sent po) k i.0 (ap (λ l. slice_get l k) (items.sent po) ∙ i.1) in
          let asked : slice_get (m.sent pi) k ≡ Some i.0 = took_at pi k z.0 (prefix_get (passed.sent po) (passed.taken pi) row.0 k z.0 z.1) ∙ ap (λ x. Some x) z.2 in
          carry k y came b ∙ (answer_named ws po qi named.2 b k i.0 y.0 i.1 ∙ sym (answer_named ws pi qo named.3 b k i.0 y.0 asked))

      pub driver_on : HandsOn naming m passed (blk_sheet scene (blk_driver_part (p ∷ q ∷ []))).ends
      driver_on takes =
          puts_in naming m passed pi rest (puts_out naming m passed po more (passed_on naming m ws pi po (inl named.0) (inl named.1) (passed.taken pi) (passed.sent po) row.0 (takes_here naming m passed pi rest takes))
          (puts_in naming m passed qi (outlet qo ∷ []) (puts_out naming m passed qo [] (back_on (takes_here naming m passed qi (outlet qo ∷ []) (takes_rest naming m passed (outlet po) more (takes_rest naming m passed (intake pi) rest takes)))) (puts_none naming m passed))))
