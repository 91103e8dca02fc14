-- How many entries are put to all queues.
use Rattle.std.proofs.Common.{◌≡◌, ◌+◌, ◌*◌, ◌<◌, ◌≤◌, ◌-◌, ◌++◌, ℕ, zero, suc, List, [], ◌∷◌, length, map, slice_index_or, sum_by, length-append, refl, ap, ◌∙◌, arith}
use Rattle.std.specs.Option.{option_to_list}
use Rattle.std.proofs.lemmas.List.{length-map}
use Rattle.std.proofs.lemmas.Option.{get_or_from_slice_get}
use Rattle.line_text.specs.declared.ports_text.ports.Ports.{Ports}
use Rattle.wire_core.specs.Ends.{Role, End}
use Rattle.wire_core.specs.Lists.{Passed}
use Rattle.wire_core.specs.Marks.{sum_below}
use Rattle.play_core.proofs.Walks.{begins_few}
use Rattle.buffer_kit.specs.Entries.{frame_of}
use Rattle.net_switch.specs.SwitchDesk.Frames.{sent_to}
use Rattle.net_switch.specs.SwitchDesk.Desks.{copy_at}
use Rattle.net_switch.proofs.SwitchDesk.Moves.{few_given}
use Rattle.net_switch.specs.declared.switch.NetSwitch.{NetSwitch}
use Rattle.switched_law.specs.SwitchMoment.Scene.{IsSwitched}
use Rattle.switched_law.specs.SwitchMoment.Puts.{all_put, puts_most}
use Rattle.switched_law.proofs.SwitchMoment.Sums.{sum_both, sum_few, sum_each, sum_lengths, sum_fours}
use Rattle.switched_law.proofs.SwitchMoment.Counting.{all_copies, times_more, times_some, times_two}
use Rattle.switched_law.proofs.SwitchMoment.Ports.{log, flow, stands, returned, gives, own, own_many}
use Rattle.switched_law.proofs.SwitchMoment.Records.{puts_first, within, few_taken}

-- the sum of what each port puts and is put, in four parts
sum_parts : (a b : ℕ → ℕ) (n : ℕ) → sum_below (λ k. a k + a k + b k + (b k + 4)) n ≡ sum_below a n + sum_below a n + sum_below b n + (sum_below b n + n * 4)
sum_parts a b n =
    let one = sum_both (λ k. a k + a k + b k) (λ k. b k + 4) n in
    let two = sum_both (λ k. a k + a k) b n in
    let three = sum_both a a n in
    let four = sum_both b (λ k. 4) n in
    let each = sum_each 4 n in
    omega (arith, one, two, three, four, each)

-- what is left of a product
product_few : (n m t copies : ℕ) → copies + m ≤ n * m → m ≤ t → (n ≡ 0 → t ≡ 0) → copies + t ≤ n * t
product_few zero m t copies few less none = let z = none refl in omega (arith, few, less, z)
product_few (suc n) m t copies few less none =
    let d = t - m in
    let parts : t ≡ m + d = omega (arith, less) in
    let times = ap (λ i. suc n * i) parts ∙ times_more (suc n) m d in
    let some = times_some (suc n) d (omega arith) in
    omega (arith, few, parts, times, some)

module _ (ports : Ports) (ends : Role → ℕ → End) (v : NetSwitch) (passed : Passed) (h : IsSwitched ports ends v passed) where
  abbrev n : ℕ
  n = length ports.macs

  -- how many frames a port sends
  abbrev sends : ℕ → ℕ
  sends port = length (slice_index_or ports.sends port [])

  -- how many go to it
  abbrev copies : ℕ → ℕ
  copies port = length (sent_to v.desk.macs.items port (log ports ends v passed h))

  module _ (port : ℕ) (less : port < n) where
    pub sends_is : sends port ≡ length (h.clients port less).is.frames
    sends_is = ap (λ l. length l) (get_or_from_slice_get ports.sends port (h.clients port less).is.frames [] (h.clients port less).is.sends)

    first_few : length (passed.sent (4 * port)) ≤ sends port
    first_few =
        let few = begins_few (map frame_of (passed.sent (4 * port))) (h.clients port less).is.frames (puts_first ports ends v passed h port less) in
        let long = length-map (passed.sent (4 * port)) frame_of in
        omega (arith, few, long, sends_is)

    second_few : length (passed.sent (4 * port + 1)) ≤ sends port
    second_few =
        let few = begins_few (passed.sent (4 * port + 1)) (passed.taken (4 * port)) (returned ports ends v passed h port less) in
        let on = begins_few (passed.taken (4 * port)) (passed.sent (4 * port)) (flow ports ends v passed h 0 port) in
        omega (arith, few, on, first_few)

    pub third_few : length (passed.sent (4 * port + 2)) ≤ copies port
    third_few =
        let st = stands ports ends v passed h port less in
        let few = few_given v.desk port (log ports ends v passed h) (passed.taken (4 * port + 3)) (passed.sent (4 * port + 2)) (passed.sent (4 * port + 1)) st in
        let parts = length-append (passed.sent (4 * port + 2)) (option_to_list (copy_at v.desk port)) in
        let takes = st.takes in
        omega (arith, few, parts, takes)

    fourth_few : length (passed.sent (4 * port + 3)) ≤ copies port + 4
    fourth_few =
        let few = begins_few (passed.sent (4 * port + 3)) (own ports ends v passed h port less ++ passed.taken (4 * port + 2)) (gives ports ends v passed h port less) in
        let parts = length-append (own ports ends v passed h port less) (passed.taken (4 * port + 2)) in
        let many = own_many ports ends v passed h port less in
        let on = begins_few (passed.taken (4 * port + 2)) (passed.sent (4 * port + 2)) (flow ports ends v passed h 2 port) in
        omega (arith, few, parts, many, on, third_few)

  none_sent : n ≡ 0 → sum_by length ports.sends ≡ 0
  none_sent none = by ports.sends (h.playable.as_many ∙ none)
    where
      by : (l : List (List (List ℕ))) → length l ≡ 0 → sum_by length l ≡ 0
      by [] e = refl
      by (x ∷ l) e = absurd (omega (arith, e))

  pub put_few : all_put n passed ≤ puts_most ports
  put_few =
      let f : ℕ → ℕ = λ q. length (passed.sent q) in
      let fours = sum_fours f n in
      let few = sum_few (λ k. f (4 * k) + f (4 * k + 1) + f (4 * k + 2) + f (4 * k + 3)) (λ k. sends k + sends k + copies k + (copies k + 4)) n
      (λ k less. let a = first_few k less in let b = second_few k less in let c = third_few k less in let d = fourth_few k less in omega (arith, a, b, c, d)) in
      let parts = sum_parts sends copies n in
      let all = sum_lengths ports.sends sends (λ k l at. let e = ap (λ (fs : List (List ℕ)). length fs) (get_or_from_slice_get ports.sends k l [] at) in omega (arith, e)) in
      let many : sum_below sends (length ports.sends) ≡ sum_below sends n = ap (sum_below sends) h.playable.as_many in
      let most = product_few n (length (log ports ends v passed h)) (sum_by length ports.sends) (sum_below copies n)
      (all_copies v.desk.macs.items n (log ports ends v passed h) (within ports ends v passed h)) (few_taken ports ends v passed h) none_sent in
      let twice = times_two n (sum_by length ports.sends) in
      omega (arith, fours, few, parts, all, many, most, twice)
