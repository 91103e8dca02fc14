use Rattle.std.proofs.Common.{◌≡◌, ℕ, zero, suc, ◌+◌, ◌≤◌, false, cond, eqb, List, [], ◌∷◌, ◌++◌, length, sum_by, count_by, Option, Some, None, get_or, refl, ap, sym, ◌∙◌, arith, add-one}
use Rattle.std.specs.List.{flat_map}
use Rattle.std.specs.Option.{option_to_list}
use Rattle.std.proofs.lemmas.Bool.{leb-false, ltb-false}
use Rattle.std.proofs.lemmas.List.{length-append}
use Rattle.std.proofs.lemmas.List.Concat.{flat_map-cons}
use Rattle.std.proofs.lemmas.List.Sums.{sum_by-cons}
use Rattle.std.proofs.lemmas.Option.{slice_get-get_or}
use Rattle.sdf_plan.specs.declared.plan.Plan.{Plan}
use Rattle.trace_text.specs.declared.class.Class.{Class}
use Rattle.trace_text.specs.declared.class.Class.TheVariants as Of
use Rattle.trace_text.specs.declared.trace.Trace.{Trace}
use Rattle.line_text.specs.Texts.{lines_of}
use Rattle.line_text.specs.Lists.{per_client}
use Rattle.trace_text.specs.Events.{Event, meaning, net_clients, serial_clients, blk_clients}
use Rattle.trace_text.specs.Traces.{frames_in, input_in, sends_in, says_in, asks_in, acts_in, trace_from, trace_of, is_frame_line, is_request_line, is_rogue_line, stream_bytes_in, is_out_of_place, is_bad_after, events_before, HasNoBadLine, IsReadFor, KeepsLimits}
use Rattle.line_text.proofs.Rows.{length_per_client, per_client_same}
use Rattle.trace_text.proofs.Grown.{sum_more, choice_here, choice_other}
use Rattle.trace_text.proofs.SoFar.{events_more, bad_line, no_events}

-- what counts towards the limits is within them
record IsWithin (events : List Event) : Type 0 where
  pub frames : count_by is_frame_line events ≤ 1024
  pub bytes : sum_by stream_bytes_in events ≤ 81920
  pub requests : count_by is_request_line events ≤ 1024
  pub acts : count_by is_rogue_line events ≤ 1024

frames_more : (events : List Event) (e : Event) → count_by is_frame_line (events ++ e ∷ []) ≡ count_by is_frame_line events + cond (is_frame_line e) 1 0
frames_more events e = sum_more (λ x. cond (is_frame_line x) 1 0) events e

bytes_more : (events : List Event) (e : Event) → sum_by stream_bytes_in (events ++ e ∷ []) ≡ sum_by stream_bytes_in events + stream_bytes_in e
bytes_more events e = sum_more stream_bytes_in events e

requests_more : (events : List Event) (e : Event) → count_by is_request_line (events ++ e ∷ []) ≡ count_by is_request_line events + cond (is_request_line e) 1 0
requests_more events e = sum_more (λ x. cond (is_request_line x) 1 0) events e

acts_more : (events : List Event) (e : Event) → count_by is_rogue_line (events ++ e ∷ []) ≡ count_by is_rogue_line events + cond (is_rogue_line e) 1 0
acts_more events e = sum_more (λ x. cond (is_rogue_line x) 1 0) events e

-- what an event adds to the counts fits in
fits : (events : List Event) (e : Event) → IsWithin events → is_out_of_place events e ≡ false
    → (count_by is_frame_line events + cond (is_frame_line e) 1 0 ≤ 1024) × (sum_by stream_bytes_in events + stream_bytes_in e ≤ 81920) × (count_by is_request_line events + cond (is_request_line e) 1 0 ≤ 1024)
    × (count_by is_rogue_line events + cond (is_rogue_line e) 1 0 ≤ 1024)
fits events Event.Skipped h taken = (omega (arith, h.frames), omega (arith, h.bytes), omega (arith, h.requests), omega (arith, h.acts))
fits events (Event.Rx frame) h taken = (omega (arith, leb-false 1024 (count_by is_frame_line events) taken), omega (arith, h.bytes), omega (arith, h.requests), omega (arith, h.acts))
fits events (Event.Send c frame) h taken = (omega (arith, leb-false 1024 (count_by is_frame_line events) taken), omega (arith, h.bytes), omega (arith, h.requests), omega (arith, h.acts))
fits events (Event.In bytes) h taken = (omega (arith, h.frames), omega (arith, ltb-false 81920 (sum_by stream_bytes_in events + length bytes) taken), omega (arith, h.requests), omega (arith, h.acts))
fits events (Event.Say c bytes) h taken = (omega (arith, h.frames), omega (arith, ltb-false 81920 (sum_by stream_bytes_in events + length bytes) taken), omega (arith, h.requests), omega (arith, h.acts))
fits events (Event.Disk n) h taken = (omega (arith, h.frames), omega (arith, h.bytes), omega (arith, h.requests), omega (arith, h.acts))
fits events (Event.Patch at bytes) h taken = (omega (arith, h.frames), omega (arith, h.bytes), omega (arith, h.requests), omega (arith, h.acts))
fits events (Event.Rogue class c act) h taken = (omega (arith, h.frames), omega (arith, h.bytes), omega (arith, h.requests), omega (arith, leb-false 1024 (count_by is_rogue_line events) taken))
fits events (Event.Request c ask) h taken = (omega (arith, h.frames), omega (arith, h.bytes), omega (arith, leb-false 1024 (count_by is_request_line events) taken), omega (arith, h.acts))

-- one more line that isn't bad
within_more : (events : List Event) (m : Option Event) → IsWithin events → is_bad_after events m ≡ false → IsWithin (events ++ option_to_list m)
within_more events None h taken = cc
within_more events (Some e) h taken = let all = fits events e h taken in record {
  frames = rw (frames_more events e) all.0;
  bytes = rw (bytes_more events e) all.1;
  requests = rw (requests_more events e) all.2;
  acts = rw (acts_more events e) all.3;
}

within_before : (plan : Plan) (text : List ℕ) (k : ℕ) → HasNoBadLine plan text → k ≤ length (lines_of text) → IsWithin (events_before plan text k)
within_before plan text zero good within = rw (no_events plan text) (record { frames = omega arith; bytes = omega arith; requests = omega arith; acts = omega arith })
within_before plan text (suc k) good within =
    let at = slice_get-get_or (lines_of text) k [] (omega (arith, within)) in
    rw (← add-one k, events_more plan text k (get_or (lines_of text) k []) at)
    (within_more (events_before plan text k) (meaning plan (get_or (lines_of text) k [])) (within_before plan text k good (omega (arith, within)))
    (sym (bad_line plan text k (get_or (lines_of text) k []) at) ∙ good k))

-- lists of clients that are all empty
none_total : {T : Type 0} (n : ℕ) (f : ℕ → List T) → ((k : ℕ) → f k ≡ []) → sum_by length (per_client n f) ≡ 0
none_total zero f h = refl
none_total (suc n) f h = sum_by-cons length (f 0) (per_client n (λ k. f (suc k))) ∙ rw (h 0, none_total n (λ k. f (suc k)) (λ k. h (suc k))) refl

-- lists of clients of which one has something
one_has : {T : Type 0} (n c : ℕ) (more : List T) (f : ℕ → List T) → ((k : ℕ) → c ≡ k → f k ≡ more) → ((k : ℕ) → (c ≡ k → ⊥) → f k ≡ [])
    → sum_by length (per_client n f) ≤ length more
one_has zero c more f here other = omega arith
one_has (suc n) zero more f here other =
    rw (sum_by-cons length (f 0) (per_client n (λ k. f (suc k))), here 0 refl, none_total n (λ k. f (suc k)) (λ k. other (suc k) (λ is. absurd (omega arith)))) (omega arith)
one_has (suc n) (suc c) more f here other =
    let rest = one_has n c more (λ k. f (suc k)) (λ k is. here (suc k) (ap suc is)) (λ k not. other (suc k) (λ is. not (omega arith))) in
    rw (sum_by-cons length (f 0) (per_client n (λ k. f (suc k))), other 0 (λ is. absurd (omega arith))) (omega arith)

one_total : {T : Type 0} (n c : ℕ) (more : List T) (f : ℕ → List T) → ((k : ℕ) → f k ≡ cond (eqb c k) more []) → sum_by length (per_client n f) ≤ length more
one_total n c more f h = one_has n c more f (λ k is. h k ∙ choice_here c k more is) (λ k isnt. h k ∙ choice_other c k more isnt)

-- what the lists of clients have together, where each is one list behind another
both_total : {T : Type 0} (n : ℕ) (f g : ℕ → List T) → sum_by length (per_client n (λ k. f k ++ g k)) ≡ sum_by length (per_client n f) + sum_by length (per_client n g)
both_total zero f g = refl
both_total (suc n) f g =
    let more = both_total n (λ k. f (suc k)) (λ k. g (suc k)) in
    rw (sum_by-cons length (f 0 ++ g 0) (per_client n (λ k. f (suc k) ++ g (suc k))), sum_by-cons length (f 0) (per_client n (λ k. f (suc k))), sum_by-cons length (g 0) (per_client n (λ k. g (suc k))), length-append (f 0) (g 0), more)
    (omega arith)

same_total : {T : Type 0} (n : ℕ) (f g : ℕ → List T) → ((k : ℕ) → f k ≡ g k) → sum_by length (per_client n f) ≡ sum_by length (per_client n g)
same_total n f g h = ap (sum_by length) (per_client_same n f g h)

-- what events give to a list and to the lists of clients is no more than what they count, where this is so of each
total : {S T : Type 0} (n : ℕ) (one : Event → List S) (f : ℕ → Event → List T) (count : Event → ℕ) (events : List Event)
    → ((e : Event) → length (one e) + sum_by length (per_client n (λ k. f k e)) ≤ count e)
    → length (flat_map one events) + sum_by length (per_client n (λ k. flat_map (f k) events)) ≤ sum_by count events
total n one f count [] h = rw (none_total n (λ k. flat_map (f k) []) (λ k. refl)) (omega arith)
total n one f count (e ∷ events) h =
    let here = h e in
    let rest = total n one f count events h in
    rw (
      flat_map-cons one e events,
      length-append (one e) (flat_map one events),
      sum_by-cons count e events,
      same_total n (λ k. flat_map (f k) (e ∷ events)) (λ k. f k e ++ flat_map (f k) events) (λ k. flat_map-cons (f k) e events),
      both_total n (λ k. f k e) (λ k. flat_map (f k) events),
    )
    (omega arith)

frames_in_all : (n : ℕ) (e : Event) → length (frames_in e) + sum_by length (per_client n (λ k. sends_in k e)) ≤ cond (is_frame_line e) 1 0
frames_in_all n Event.Skipped = rw (none_total n (λ k. sends_in k Event.Skipped) (λ k. refl)) (omega arith)
frames_in_all n (Event.Rx frame) = rw (none_total n (λ k. sends_in k (Event.Rx frame)) (λ k. refl)) (omega arith)
frames_in_all n (Event.In bytes) = rw (none_total n (λ k. sends_in k (Event.In bytes)) (λ k. refl)) (omega arith)
frames_in_all n (Event.Send c frame) = let most = one_total n c (frame ∷ []) (λ k. sends_in k (Event.Send c frame)) (λ k. refl) in omega (arith, most)
frames_in_all n (Event.Say c bytes) = rw (none_total n (λ k. sends_in k (Event.Say c bytes)) (λ k. refl)) (omega arith)
frames_in_all n (Event.Disk s) = rw (none_total n (λ k. sends_in k (Event.Disk s)) (λ k. refl)) (omega arith)
frames_in_all n (Event.Patch at bytes) = rw (none_total n (λ k. sends_in k (Event.Patch at bytes)) (λ k. refl)) (omega arith)
frames_in_all n (Event.Request c ask) = rw (none_total n (λ k. sends_in k (Event.Request c ask)) (λ k. refl)) (omega arith)
frames_in_all n (Event.Rogue class c act) = rw (none_total n (λ k. sends_in k (Event.Rogue class c act)) (λ k. refl)) (omega arith)

bytes_in_all : (n : ℕ) (e : Event) → length (input_in e) + sum_by length (per_client n (λ k. says_in k e)) ≤ stream_bytes_in e
bytes_in_all n Event.Skipped = rw (none_total n (λ k. says_in k Event.Skipped) (λ k. refl)) (omega arith)
bytes_in_all n (Event.Rx frame) = rw (none_total n (λ k. says_in k (Event.Rx frame)) (λ k. refl)) (omega arith)
bytes_in_all n (Event.In bytes) = rw (none_total n (λ k. says_in k (Event.In bytes)) (λ k. refl)) (omega arith)
bytes_in_all n (Event.Send c frame) = rw (none_total n (λ k. says_in k (Event.Send c frame)) (λ k. refl)) (omega arith)
bytes_in_all n (Event.Say c bytes) = let most = one_total n c bytes (λ k. says_in k (Event.Say c bytes)) (λ k. refl) in omega (arith, most)
bytes_in_all n (Event.Disk s) = rw (none_total n (λ k. says_in k (Event.Disk s)) (λ k. refl)) (omega arith)
bytes_in_all n (Event.Patch at bytes) = rw (none_total n (λ k. says_in k (Event.Patch at bytes)) (λ k. refl)) (omega arith)
bytes_in_all n (Event.Request c ask) = rw (none_total n (λ k. says_in k (Event.Request c ask)) (λ k. refl)) (omega arith)
bytes_in_all n (Event.Rogue class c act) = rw (none_total n (λ k. says_in k (Event.Rogue class c act)) (λ k. refl)) (omega arith)

-- nothing beside the lists of clients
abbrev no_list : Event → List ℕ
no_list e = []

requests_in_all : (n : ℕ) (e : Event) → length (no_list e) + sum_by length (per_client n (λ k. asks_in k e)) ≤ cond (is_request_line e) 1 0
requests_in_all n Event.Skipped = rw (none_total n (λ k. asks_in k Event.Skipped) (λ k. refl)) (omega arith)
requests_in_all n (Event.Rx frame) = rw (none_total n (λ k. asks_in k (Event.Rx frame)) (λ k. refl)) (omega arith)
requests_in_all n (Event.In bytes) = rw (none_total n (λ k. asks_in k (Event.In bytes)) (λ k. refl)) (omega arith)
requests_in_all n (Event.Send c frame) = rw (none_total n (λ k. asks_in k (Event.Send c frame)) (λ k. refl)) (omega arith)
requests_in_all n (Event.Say c bytes) = rw (none_total n (λ k. asks_in k (Event.Say c bytes)) (λ k. refl)) (omega arith)
requests_in_all n (Event.Disk s) = rw (none_total n (λ k. asks_in k (Event.Disk s)) (λ k. refl)) (omega arith)
requests_in_all n (Event.Patch at bytes) = rw (none_total n (λ k. asks_in k (Event.Patch at bytes)) (λ k. refl)) (omega arith)
requests_in_all n (Event.Request c ask) = let most = one_total n c (ask ∷ []) (λ k. asks_in k (Event.Request c ask)) (λ k. refl) in omega (arith, most)
requests_in_all n (Event.Rogue class c act) = rw (none_total n (λ k. asks_in k (Event.Rogue class c act)) (λ k. refl)) (omega arith)

-- the same of three lists of clients together
three_total : {T : Type 0} (n m l : ℕ) (f g h : ℕ → Event → List T) (count : Event → ℕ) (events : List Event)
    → ((e : Event) → sum_by length (per_client n (λ k. f k e)) + sum_by length (per_client m (λ k. g k e)) + sum_by length (per_client l (λ k. h k e)) ≤ count e)
    → sum_by length (per_client n (λ k. flat_map (f k) events)) + sum_by length (per_client m (λ k. flat_map (g k) events)) + sum_by length (per_client l (λ k. flat_map (h k) events)) ≤ sum_by count events
three_total n m l f g h count [] each =
    rw (none_total n (λ k. flat_map (f k) []) (λ k. refl), none_total m (λ k. flat_map (g k) []) (λ k. refl), none_total l (λ k. flat_map (h k) []) (λ k. refl)) (omega arith)
three_total n m l f g h count (e ∷ events) each =
    let here = each e in
    let rest = three_total n m l f g h count events each in
    rw (
      sum_by-cons count e events,
      same_total n (λ k. flat_map (f k) (e ∷ events)) (λ k. f k e ++ flat_map (f k) events) (λ k. flat_map-cons (f k) e events),
      both_total n (λ k. f k e) (λ k. flat_map (f k) events),
      same_total m (λ k. flat_map (g k) (e ∷ events)) (λ k. g k e ++ flat_map (g k) events) (λ k. flat_map-cons (g k) e events),
      both_total m (λ k. g k e) (λ k. flat_map (g k) events),
      same_total l (λ k. flat_map (h k) (e ∷ events)) (λ k. h k e ++ flat_map (h k) events) (λ k. flat_map-cons (h k) e events),
      both_total l (λ k. h k e) (λ k. flat_map (h k) events),
    )
    (omega arith)

-- an event that is no act
no_acts : (n m l : ℕ) (e : Event) → ((class : Class) (k : ℕ) → acts_in class k e ≡ [])
    → sum_by length (per_client n (λ k. acts_in Of.Net k e)) + sum_by length (per_client m (λ k. acts_in Of.Serial k e)) + sum_by length (per_client l (λ k. acts_in Of.Blk k e)) ≤ cond (is_rogue_line e) 1 0
no_acts n m l e none =
    rw (none_total n (λ k. acts_in Of.Net k e) (none Of.Net), none_total m (λ k. acts_in Of.Serial k e) (none Of.Serial), none_total l (λ k. acts_in Of.Blk k e) (none Of.Blk)) (omega arith)

acts_in_all : (n m l : ℕ) (e : Event)
    → sum_by length (per_client n (λ k. acts_in Of.Net k e)) + sum_by length (per_client m (λ k. acts_in Of.Serial k e)) + sum_by length (per_client l (λ k. acts_in Of.Blk k e)) ≤ cond (is_rogue_line e) 1 0
acts_in_all n m l Event.Skipped = no_acts n m l Event.Skipped (λ class k. refl)
acts_in_all n m l (Event.Rx frame) = no_acts n m l (Event.Rx frame) (λ class k. refl)
acts_in_all n m l (Event.In bytes) = no_acts n m l (Event.In bytes) (λ class k. refl)
acts_in_all n m l (Event.Send c frame) = no_acts n m l (Event.Send c frame) (λ class k. refl)
acts_in_all n m l (Event.Say c bytes) = no_acts n m l (Event.Say c bytes) (λ class k. refl)
acts_in_all n m l (Event.Disk s) = no_acts n m l (Event.Disk s) (λ class k. refl)
acts_in_all n m l (Event.Patch at bytes) = no_acts n m l (Event.Patch at bytes) (λ class k. refl)
acts_in_all n m l (Event.Request c ask) = no_acts n m l (Event.Request c ask) (λ class k. refl)
acts_in_all n m l (Event.Rogue Of.Net c act) =
    let most = one_total n c (act ∷ []) (λ k. acts_in Of.Net k (Event.Rogue Of.Net c act)) (λ k. refl) in
    rw (none_total m (λ k. acts_in Of.Serial k (Event.Rogue Of.Net c act)) (λ k. refl), none_total l (λ k. acts_in Of.Blk k (Event.Rogue Of.Net c act)) (λ k. refl)) (omega (arith, most))
acts_in_all n m l (Event.Rogue Of.Serial c act) =
    let most = one_total m c (act ∷ []) (λ k. acts_in Of.Serial k (Event.Rogue Of.Serial c act)) (λ k. refl) in
    rw (none_total n (λ k. acts_in Of.Net k (Event.Rogue Of.Serial c act)) (λ k. refl), none_total l (λ k. acts_in Of.Blk k (Event.Rogue Of.Serial c act)) (λ k. refl)) (omega (arith, most))
acts_in_all n m l (Event.Rogue Of.Blk c act) =
    let most = one_total l c (act ∷ []) (λ k. acts_in Of.Blk k (Event.Rogue Of.Blk c act)) (λ k. refl) in
    rw (none_total n (λ k. acts_in Of.Net k (Event.Rogue Of.Blk c act)) (λ k. refl), none_total m (λ k. acts_in Of.Serial k (Event.Rogue Of.Blk c act)) (λ k. refl)) (omega (arith, most))

from_kept : (plan : Plan) (events : List Event) → IsWithin events → KeepsLimits plan (trace_from plan events)
unfolding trace_from
from_kept plan events h = record {
  sends = length_per_client (length (net_clients plan)) _;
  says = length_per_client (length (serial_clients plan)) _;
  asks = length_per_client (length (blk_clients plan)) _;
  frames =
      let most = total (length (net_clients plan)) frames_in sends_in (λ x. cond (is_frame_line x) 1 0) events (frames_in_all (length (net_clients plan))) in
      omega (arith, most, h.frames);
  bytes =
      let most = total (length (serial_clients plan)) input_in says_in stream_bytes_in events (bytes_in_all (length (serial_clients plan))) in
      omega (arith, most, h.bytes);
  requests =
      let most = total (length (blk_clients plan)) no_list asks_in (λ x. cond (is_request_line x) 1 0) events (requests_in_all (length (blk_clients plan))) in
      omega (arith, most, h.requests);
  net_acts = length_per_client (length (net_clients plan)) _;
  serial_acts = length_per_client (length (serial_clients plan)) _;
  blk_acts = length_per_client (length (blk_clients plan)) _;
  acts =
      let most = three_total (length (net_clients plan)) (length (serial_clients plan)) (length (blk_clients plan)) (acts_in Of.Net) (acts_in Of.Serial) (acts_in Of.Blk) (λ x. cond (is_rogue_line x) 1 0) events
      (acts_in_all (length (net_clients plan)) (length (serial_clients plan)) (length (blk_clients plan))) in
      omega (arith, most, h.acts);
}

-- a trace that was read keeps the limits
pub limits_kept : (plan : Plan) (trace : Trace) → IsReadFor plan trace → KeepsLimits plan trace
unfolding trace_of
limits_kept plan trace h =
    rw h.given (from_kept plan (events_before plan h.text (length (lines_of h.text))) (within_before plan h.text (length (lines_of h.text)) h.good (omega arith)))
