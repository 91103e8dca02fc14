-- The four queues of a port as lanes, each with its number, its ends and who has them.
use Rattle.std.proofs.Common.{◌≡◌, ◌+◌, ◌*◌, ◌<◌, ◌++◌, ◌⊎◌, inl, inr, ℕ, zero, suc, Some, List, [], ◌∷◌, length, slice_get, refl, sym, ap, ◌∙◌, subst, arith}
use Rattle.wire_core.specs.declared.names.QueueRow.{QueueRow}
use Rattle.wire_core.specs.Ends.{Role, Consumer, Producer}
use Rattle.wire_core.specs.Journal.{owner_of}
use Rattle.play_core.proofs.Lists.{some_is, there_below}
use Rattle.line_text.specs.Lists.{per_client}
use Rattle.switched_law.specs.SwitchClass.Queues.{IsQueue, GoesAt, AreQueues}

pub data Lane : Type 0 where
  TxActive : Lane
  TxFree : Lane
  RxActive : Lane
  RxFree : Lane

-- its place among the four
abbrev pub offset : Lane → ℕ
offset TxActive = 0
offset TxFree = 1
offset RxActive = 2
offset RxFree = 3

-- the client's role there
abbrev pub role_at : Lane → Role
role_at TxActive = Producer
role_at TxFree = Consumer
role_at RxActive = Consumer
role_at RxFree = Producer

abbrev pub other : Role → Role
other Consumer = Producer
other Producer = Consumer

-- who puts there, and who takes
abbrev pub from_at : Lane → (port switch : ℕ) → ℕ
from_at TxActive port switch = port
from_at TxFree port switch = switch
from_at RxActive port switch = switch
from_at RxFree port switch = port

abbrev pub to_at : Lane → (port switch : ℕ) → ℕ
to_at TxActive port switch = switch
to_at TxFree port switch = port
to_at RxActive port switch = port
to_at RxFree port switch = switch

-- the client has its end, and the switch the other
pub client_owns : (l : Lane) (port switch : ℕ) (row : QueueRow) → IsQueue (from_at l port switch) (to_at l port switch) row → owner_of row (role_at l) ≡ port
client_owns TxActive port switch row is = is.producer_is
client_owns TxFree port switch row is = is.consumer_is
client_owns RxActive port switch row is = is.consumer_is
client_owns RxFree port switch row is = is.producer_is

pub switch_owns : (l : Lane) (port switch : ℕ) (row : QueueRow) → IsQueue (from_at l port switch) (to_at l port switch) row → owner_of row (other (role_at l)) ≡ switch
switch_owns TxActive port switch row is = is.consumer_is
switch_owns TxFree port switch row is = is.producer_is
switch_owns RxActive port switch row is = is.producer_is
switch_owns RxFree port switch row is = is.consumer_is

-- each role is one of the two
pub roles : (l : Lane) (r : Role) → (r ≡ role_at l) ⊎ (r ≡ other (role_at l))
roles TxActive Consumer = inr refl
roles TxActive Producer = inl refl
roles TxFree Consumer = inl refl
roles TxFree Producer = inr refl
roles RxActive Consumer = inl refl
roles RxActive Producer = inr refl
roles RxFree Consumer = inr refl
roles RxFree Producer = inl refl

-- numbers that are the same are of one port and one lane
pub same_lane : (a b : ℕ) (l m : Lane) → 4 * a + offset l ≡ 4 * b + offset m → (a ≡ b) × (l ≡ m)
same_lane a b TxActive TxActive e = (omega (arith, e), refl)
same_lane a b TxActive TxFree e = absurd (omega (arith, e))
same_lane a b TxActive RxActive e = absurd (omega (arith, e))
same_lane a b TxActive RxFree e = absurd (omega (arith, e))
same_lane a b TxFree TxActive e = absurd (omega (arith, e))
same_lane a b TxFree TxFree e = (omega (arith, e), refl)
same_lane a b TxFree RxActive e = absurd (omega (arith, e))
same_lane a b TxFree RxFree e = absurd (omega (arith, e))
same_lane a b RxActive TxActive e = absurd (omega (arith, e))
same_lane a b RxActive TxFree e = absurd (omega (arith, e))
same_lane a b RxActive RxActive e = (omega (arith, e), refl)
same_lane a b RxActive RxFree e = absurd (omega (arith, e))
same_lane a b RxFree TxActive e = absurd (omega (arith, e))
same_lane a b RxFree TxFree e = absurd (omega (arith, e))
same_lane a b RxFree RxActive e = absurd (omega (arith, e))
same_lane a b RxFree RxFree e = (omega (arith, e), refl)

-- each number below is one of a lane
pub record InLane (ports n : ℕ) : Type 0 where
  pub port : ℕ
  pub lane : Lane
  pub below : port < ports
  pub is : n ≡ 4 * port + offset lane

next_port : (ports n : ℕ) → InLane ports n → InLane (suc ports) (suc (suc (suc (suc n))))
next_port ports n i =
    let less = i.below in
    let is = i.is in
    record { port = suc i.port; lane = i.lane; below = omega (arith, less); is = omega (arith, is) }

pub in_lane : (ports n : ℕ) → n < 4 * ports → InLane ports n
in_lane zero n lt = absurd (omega (arith, lt))
in_lane (suc ports) zero lt = record { port = 0; lane = TxActive; below = omega arith; is = refl }
in_lane (suc ports) (suc zero) lt = record { port = 0; lane = TxFree; below = omega arith; is = refl }
in_lane (suc ports) (suc (suc zero)) lt = record { port = 0; lane = RxActive; below = omega arith; is = refl }
in_lane (suc ports) (suc (suc (suc zero))) lt = record { port = 0; lane = RxFree; below = omega arith; is = refl }
in_lane (suc ports) (suc (suc (suc (suc n)))) lt = next_port ports n (in_lane ports n (omega (arith, lt)))

-- a row is that of its lane
pub record LaneRow (ports n : ℕ) (row : QueueRow) : Type 0 where
  pub in_lane : InLane ports n
  pub is : IsQueue (from_at in_lane.lane in_lane.port ports) (to_at in_lane.lane in_lane.port ports) row

module _ (ports : ℕ) (rows : List QueueRow) (q : AreQueues ports rows) where
  pub lane_row : (l : Lane) (port : ℕ) → port < ports → GoesAt rows (4 * port + offset l) (from_at l port ports) (to_at l port ports)
  lane_row TxActive port lt = let z : 4 * port ≡ 4 * port + 0 = omega arith in subst (λ k. GoesAt rows k port ports) z (q.of_ports.tx_active port lt)
  lane_row TxFree port lt = q.of_ports.tx_free port lt
  lane_row RxActive port lt = q.of_ports.rx_active port lt
  lane_row RxFree port lt = q.of_ports.rx_free port lt

  pub row_lane : (n : ℕ) (row : QueueRow) → slice_get rows n ≡ Some row → LaneRow ports n row
  row_lane n row at =
      let lt : n < length rows = there_below rows n row at in
      let many : length rows ≡ 4 * ports = q.many in
      let i : InLane ports n = in_lane ports n (omega (arith, lt, many)) in
      let g = lane_row i.lane i.port i.below in
      record {
        in_lane = i;
        is = subst (IsQueue (from_at i.lane i.port ports) (to_at i.lane i.port ports)) (some_is (sym g.at ∙ subst (λ k. slice_get rows k ≡ Some row) i.is at)) g.is;
      }

-- lists that have a value for each number
pub value_at : {T : Type 0} (n : ℕ) (value : ℕ → T) (k : ℕ) → k < n → slice_get (per_client n value) k ≡ Some (value k)
value_at zero value k lt = absurd (omega (arith, lt))
value_at (suc n) value zero lt = refl
value_at (suc n) value (suc k) lt = value_at n (λ c. value (suc c)) k (omega (arith, lt))

pub value_is : {T : Type 0} (n : ℕ) (value : ℕ → T) (k : ℕ) (x : T) → slice_get (per_client n value) k ≡ Some x → (k < n) × (x ≡ value k)
value_is zero value k x at = absurd cc
value_is (suc n) value zero x at = (omega arith, cc)
value_is (suc n) value (suc k) x at = let h = value_is n (λ c. value (suc c)) k x at in let lt = h.0 in (omega (arith, lt), h.1)

-- lists that have the same at each place
pub same_lists : {T : Type 0} (xs ys : List T) → length xs ≡ length ys → ((k : ℕ) (x : T) → slice_get xs k ≡ Some x → slice_get ys k ≡ Some x) → xs ≡ ys
same_lists [] [] n same = refl
same_lists [] (y ∷ ys) n same = absurd (omega (arith, n))
same_lists (x ∷ xs) [] n same = absurd (omega (arith, n))
same_lists (x ∷ xs) (y ∷ ys) n same =
    let head : y ≡ x = some_is (same 0 x refl) in
    let tail : xs ≡ ys = same_lists xs ys (omega (arith, n)) (λ k z at. same (suc k) z at) in
    ap (λ z. z ∷ xs) (sym head) ∙ ap (λ zs. y ∷ zs) tail

-- what stands in two lists stands in one of them
pub get_split : {X : Type 0} (xs ys : List X) (k : ℕ) (x : X) → slice_get (xs ++ ys) k ≡ Some x → (slice_get xs k ≡ Some x) ⊎ ((j : ℕ) × (slice_get ys j ≡ Some x) × (k ≡ length xs + j))
get_split [] ys k x at = inr (k, at, omega arith)
get_split (z ∷ xs) ys zero x at = inl at
get_split (z ∷ xs) ys (suc k) x at = by (get_split xs ys k x at)
  where
    by : (slice_get xs k ≡ Some x) ⊎ ((j : ℕ) × (slice_get ys j ≡ Some x) × (k ≡ length xs + j)) → (slice_get xs k ≡ Some x) ⊎ ((j : ℕ) × (slice_get ys j ≡ Some x) × (suc k ≡ length (z ∷ xs) + j))
    by (inl h) = inl h
    by (inr h) = inr (h.0, h.1, omega (arith, h.2))
