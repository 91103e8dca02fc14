use Rattle.std.proofs.Common.{◌≡◌, ℕ, zero, suc, ◌+◌, inl, inr, true, false, cond, eqb, List, [], ◌∷◌, ◌++◌, length, sum_by, Option, Some, None, refl, ap, sym, ◌∙◌, arith, add-zero, zero-add, append-nil}
use Rattle.std.specs.List.{flat_map}
use Rattle.std.specs.Option.{option_to_list}
use Rattle.std.proofs.lemmas.Bool.{cases_Bool, eqb-true, eqb-false}
use Rattle.std.proofs.lemmas.List.Concat.{flat_map-append}
use Rattle.std.proofs.lemmas.List.Sums.{fold-append, sum_by-append}
use Rattle.cargo_core.specs.declared.act.Act.{Act}
use Rattle.cargo_core.specs.declared.item.Ask.{Ask}
use Rattle.sdf_plan.specs.declared.plan.Plan.{Plan}
use Rattle.trace_text.specs.declared.class.Class.TheVariants as Of
use Rattle.trace_text.specs.declared.reader.Reader.{Reader}
use Rattle.trace_text.specs.Events.{Event, net_clients, serial_clients, blk_clients}
use Rattle.line_text.specs.Lists.{per_client, grown_at}
use Rattle.line_text.proofs.Rows.{per_client_same, per_client_grown, length_per_client}
use Rattle.trace_text.specs.Traces.{frames_in, input_in, sends_in, says_in, asks_in, acts_in, image_after, image_of, trace_from, is_frame_line, is_request_line, is_rogue_line, is_disk_line, stream_bytes_in, is_out_of_place, is_bad_after}
use Rattle.trace_text.specs.Reading.{reader_after, is_refused, reader_with, after_line, HasLists}

-- one more event, and what it gives
pub flat_more : {T : Type 0} (f : Event → List T) (events : List Event) (e : Event) → flat_map f (events ++ e ∷ []) ≡ flat_map f events ++ f e
flat_more f events e = flat_map-append f events (e ∷ []) ∙ ap (λ more. flat_map f events ++ more) (append-nil (f e))

pub flat_same : {T : Type 0} (f : Event → List T) (events : List Event) (e : Event) → f e ≡ [] → flat_map f (events ++ e ∷ []) ≡ flat_map f events
flat_same f events e none = flat_more f events e ∙ ap (λ more. flat_map f events ++ more) none ∙ append-nil (flat_map f events)

pub sum_more : (f : Event → ℕ) (events : List Event) (e : Event) → sum_by f (events ++ e ∷ []) ≡ sum_by f events + f e
sum_more f events e = sum_by-append f events (e ∷ []) ∙ ap (λ k. sum_by f events + k) (zero-add (f e))

pub image_more : (events : List Event) (e : Event) → image_of (events ++ e ∷ []) ≡ image_after (image_of events) e
image_more events e = fold-append image_after [] events (e ∷ [])

pub has_lists : (plan : Plan) (events : List Event) → HasLists plan (reader_after plan events)
unfolding trace_from
has_lists plan events = record {
  sends = length_per_client (length (net_clients plan)) _;
  says = length_per_client (length (serial_clients plan)) _;
  asks = length_per_client (length (blk_clients plan)) _;
  net_acts = length_per_client (length (net_clients plan)) _;
  serial_acts = length_per_client (length (serial_clients plan)) _;
  blk_acts = length_per_client (length (blk_clients plan)) _;
}

pub choice_here : {T : Type 0} (c k : ℕ) (more : List T) → c ≡ k → cond (eqb c k) more [] ≡ more
choice_here c k more is = elim (cases_Bool (eqb c k)) [
  | inl same ↦ rw same refl
  | inr other ↦ absurd (eqb-false c k other is)
]

pub choice_other : {T : Type 0} (c k : ℕ) (more : List T) → (c ≡ k → ⊥) → cond (eqb c k) more [] ≡ []
choice_other c k more isnt = elim (cases_Bool (eqb c k)) [
  | inl same ↦ absurd (isnt (eqb-true c k same))
  | inr other ↦ rw other refl
]

-- the lists of a class after an event that gives one client more
pub class_grown : {T : Type 0} (n : ℕ) (f : ℕ → Event → List T) (events : List Event) (e : Event) (c : ℕ) (more : List T) → ((k : ℕ) → f k e ≡ cond (eqb c k) more [])
    → grown_at (per_client n (λ k. flat_map (f k) events)) c more ≡ per_client n (λ k. flat_map (f k) (events ++ e ∷ []))
class_grown n f events e c more h =
    per_client_grown n c more (λ k. flat_map (f k) events) (λ k. flat_map (f k) (events ++ e ∷ []))
    (λ k is. flat_more (f k) events e ∙ ap (λ x. flat_map (f k) events ++ x) (h k ∙ choice_here c k more is))
    (λ k isnt. flat_same (f k) events e (h k ∙ choice_other c k more isnt))

-- the lists of a class after an event that gives it nothing
pub class_same : {T : Type 0} (n : ℕ) (f : ℕ → Event → List T) (events : List Event) (e : Event) → ((k : ℕ) → f k e ≡ [])
    → per_client n (λ k. flat_map (f k) events) ≡ per_client n (λ k. flat_map (f k) (events ++ e ∷ []))
class_same n f events e h = per_client_same n _ _ (λ k. sym (flat_same (f k) events e (h k)))

assemble : (frames frames' : List (List ℕ)) (input input' : List ℕ) (sends sends' : List (List (List ℕ))) (says says' : List (List ℕ)) (asks asks' : List (List Ask)) (image image' : List ℕ)
    (net net' serial serial' blk blk' : List (List Act)) (a a' b b' d d' v v' x x' : ℕ)
    → frames ≡ frames' → input ≡ input' → sends ≡ sends' → says ≡ says' → asks ≡ asks' → image ≡ image' → net ≡ net' → serial ≡ serial' → blk ≡ blk'
    → a ≡ a' → b ≡ b' → d ≡ d' → v ≡ v' → x ≡ x'
    → ◌≡◌ {A = Reader}
    (record { trace = record { frames = frames; input = input; sends = sends; says = says; asks = asks; image = image; net_acts = net; serial_acts = serial; blk_acts = blk }; frame_lines = a; stream_bytes = b; request_lines = d; rogue_lines = v; disk_lines = x })
    (record { trace = record { frames = frames'; input = input'; sends = sends'; says = says'; asks = asks'; image = image'; net_acts = net'; serial_acts = serial'; blk_acts = blk' }; frame_lines = a'; stream_bytes = b'; request_lines = d'; rogue_lines = v'; disk_lines = x' })
assemble f f' i i' s s' y y' k k' m m' p p' q q' r r' a a' b b' d d' v v' x x' e1 e2 e3 e4 e5 e6 e7 e8 e9 e10 e11 e12 e13 e14 =
    rw (e1, e2, e3, e4, e5, e6, e7, e8, e9, e10, e11, e12, e13, e14) refl

-- the reader after one more event
pub grown_after : (plan : Plan) (events : List Event) (e : Event) → reader_with (reader_after plan events) e ≡ reader_after plan (events ++ e ∷ [])
unfolding trace_from
grown_after plan events Event.Skipped = assemble _ _ _ _ _ _ _ _ _ _ _ _ _ _ _ _ _ _ _ _ _ _ _ _ _ _ _ _
    (sym (flat_same frames_in events Event.Skipped refl))
    (sym (flat_same input_in events Event.Skipped refl))
    (class_same (length (net_clients plan)) sends_in events Event.Skipped (λ k. refl))
    (class_same (length (serial_clients plan)) says_in events Event.Skipped (λ k. refl))
    (class_same (length (blk_clients plan)) asks_in events Event.Skipped (λ k. refl))
    (sym (image_more events Event.Skipped))
    (class_same (length (net_clients plan)) (acts_in Of.Net) events Event.Skipped (λ k. refl))
    (class_same (length (serial_clients plan)) (acts_in Of.Serial) events Event.Skipped (λ k. refl))
    (class_same (length (blk_clients plan)) (acts_in Of.Blk) events Event.Skipped (λ k. refl))
    (sym (sum_more (λ x. cond (is_frame_line x) 1 0) events Event.Skipped ∙ add-zero (sum_by (λ x. cond (is_frame_line x) 1 0) events)))
    (sym (sum_more stream_bytes_in events Event.Skipped ∙ add-zero (sum_by stream_bytes_in events)))
    (sym (sum_more (λ x. cond (is_request_line x) 1 0) events Event.Skipped ∙ add-zero (sum_by (λ x. cond (is_request_line x) 1 0) events)))
    (sym (sum_more (λ x. cond (is_rogue_line x) 1 0) events Event.Skipped ∙ add-zero (sum_by (λ x. cond (is_rogue_line x) 1 0) events)))
    (sym (sum_more (λ x. cond (is_disk_line x) 1 0) events Event.Skipped ∙ add-zero (sum_by (λ x. cond (is_disk_line x) 1 0) events)))
grown_after plan events (Event.Rx frame) = assemble _ _ _ _ _ _ _ _ _ _ _ _ _ _ _ _ _ _ _ _ _ _ _ _ _ _ _ _
    (sym (flat_more frames_in events (Event.Rx frame)))
    (sym (flat_same input_in events (Event.Rx frame) refl))
    (class_same (length (net_clients plan)) sends_in events (Event.Rx frame) (λ k. refl))
    (class_same (length (serial_clients plan)) says_in events (Event.Rx frame) (λ k. refl))
    (class_same (length (blk_clients plan)) asks_in events (Event.Rx frame) (λ k. refl))
    (sym (image_more events (Event.Rx frame)))
    (class_same (length (net_clients plan)) (acts_in Of.Net) events (Event.Rx frame) (λ k. refl))
    (class_same (length (serial_clients plan)) (acts_in Of.Serial) events (Event.Rx frame) (λ k. refl))
    (class_same (length (blk_clients plan)) (acts_in Of.Blk) events (Event.Rx frame) (λ k. refl))
    (sym (sum_more (λ x. cond (is_frame_line x) 1 0) events (Event.Rx frame)))
    (sym (sum_more stream_bytes_in events (Event.Rx frame) ∙ add-zero (sum_by stream_bytes_in events)))
    (sym (sum_more (λ x. cond (is_request_line x) 1 0) events (Event.Rx frame) ∙ add-zero (sum_by (λ x. cond (is_request_line x) 1 0) events)))
    (sym (sum_more (λ x. cond (is_rogue_line x) 1 0) events (Event.Rx frame) ∙ add-zero (sum_by (λ x. cond (is_rogue_line x) 1 0) events)))
    (sym (sum_more (λ x. cond (is_disk_line x) 1 0) events (Event.Rx frame) ∙ add-zero (sum_by (λ x. cond (is_disk_line x) 1 0) events)))
grown_after plan events (Event.In bytes) = assemble _ _ _ _ _ _ _ _ _ _ _ _ _ _ _ _ _ _ _ _ _ _ _ _ _ _ _ _
    (sym (flat_same frames_in events (Event.In bytes) refl))
    (sym (flat_more input_in events (Event.In bytes)))
    (class_same (length (net_clients plan)) sends_in events (Event.In bytes) (λ k. refl))
    (class_same (length (serial_clients plan)) says_in events (Event.In bytes) (λ k. refl))
    (class_same (length (blk_clients plan)) asks_in events (Event.In bytes) (λ k. refl))
    (sym (image_more events (Event.In bytes)))
    (class_same (length (net_clients plan)) (acts_in Of.Net) events (Event.In bytes) (λ k. refl))
    (class_same (length (serial_clients plan)) (acts_in Of.Serial) events (Event.In bytes) (λ k. refl))
    (class_same (length (blk_clients plan)) (acts_in Of.Blk) events (Event.In bytes) (λ k. refl))
    (sym (sum_more (λ x. cond (is_frame_line x) 1 0) events (Event.In bytes) ∙ add-zero (sum_by (λ x. cond (is_frame_line x) 1 0) events)))
    (sym (sum_more stream_bytes_in events (Event.In bytes)))
    (sym (sum_more (λ x. cond (is_request_line x) 1 0) events (Event.In bytes) ∙ add-zero (sum_by (λ x. cond (is_request_line x) 1 0) events)))
    (sym (sum_more (λ x. cond (is_rogue_line x) 1 0) events (Event.In bytes) ∙ add-zero (sum_by (λ x. cond (is_rogue_line x) 1 0) events)))
    (sym (sum_more (λ x. cond (is_disk_line x) 1 0) events (Event.In bytes) ∙ add-zero (sum_by (λ x. cond (is_disk_line x) 1 0) events)))
grown_after plan events (Event.Send c frame) = assemble _ _ _ _ _ _ _ _ _ _ _ _ _ _ _ _ _ _ _ _ _ _ _ _ _ _ _ _
    (sym (flat_same frames_in events (Event.Send c frame) refl))
    (sym (flat_same input_in events (Event.Send c frame) refl))
    (class_grown (length (net_clients plan)) sends_in events (Event.Send c frame) c (frame ∷ []) (λ k. refl))
    (class_same (length (serial_clients plan)) says_in events (Event.Send c frame) (λ k. refl))
    (class_same (length (blk_clients plan)) asks_in events (Event.Send c frame) (λ k. refl))
    (sym (image_more events (Event.Send c frame)))
    (class_same (length (net_clients plan)) (acts_in Of.Net) events (Event.Send c frame) (λ k. refl))
    (class_same (length (serial_clients plan)) (acts_in Of.Serial) events (Event.Send c frame) (λ k. refl))
    (class_same (length (blk_clients plan)) (acts_in Of.Blk) events (Event.Send c frame) (λ k. refl))
    (sym (sum_more (λ x. cond (is_frame_line x) 1 0) events (Event.Send c frame)))
    (sym (sum_more stream_bytes_in events (Event.Send c frame) ∙ add-zero (sum_by stream_bytes_in events)))
    (sym (sum_more (λ x. cond (is_request_line x) 1 0) events (Event.Send c frame) ∙ add-zero (sum_by (λ x. cond (is_request_line x) 1 0) events)))
    (sym (sum_more (λ x. cond (is_rogue_line x) 1 0) events (Event.Send c frame) ∙ add-zero (sum_by (λ x. cond (is_rogue_line x) 1 0) events)))
    (sym (sum_more (λ x. cond (is_disk_line x) 1 0) events (Event.Send c frame) ∙ add-zero (sum_by (λ x. cond (is_disk_line x) 1 0) events)))
grown_after plan events (Event.Say c bytes) = assemble _ _ _ _ _ _ _ _ _ _ _ _ _ _ _ _ _ _ _ _ _ _ _ _ _ _ _ _
    (sym (flat_same frames_in events (Event.Say c bytes) refl))
    (sym (flat_same input_in events (Event.Say c bytes) refl))
    (class_same (length (net_clients plan)) sends_in events (Event.Say c bytes) (λ k. refl))
    (class_grown (length (serial_clients plan)) says_in events (Event.Say c bytes) c bytes (λ k. refl))
    (class_same (length (blk_clients plan)) asks_in events (Event.Say c bytes) (λ k. refl))
    (sym (image_more events (Event.Say c bytes)))
    (class_same (length (net_clients plan)) (acts_in Of.Net) events (Event.Say c bytes) (λ k. refl))
    (class_same (length (serial_clients plan)) (acts_in Of.Serial) events (Event.Say c bytes) (λ k. refl))
    (class_same (length (blk_clients plan)) (acts_in Of.Blk) events (Event.Say c bytes) (λ k. refl))
    (sym (sum_more (λ x. cond (is_frame_line x) 1 0) events (Event.Say c bytes) ∙ add-zero (sum_by (λ x. cond (is_frame_line x) 1 0) events)))
    (sym (sum_more stream_bytes_in events (Event.Say c bytes)))
    (sym (sum_more (λ x. cond (is_request_line x) 1 0) events (Event.Say c bytes) ∙ add-zero (sum_by (λ x. cond (is_request_line x) 1 0) events)))
    (sym (sum_more (λ x. cond (is_rogue_line x) 1 0) events (Event.Say c bytes) ∙ add-zero (sum_by (λ x. cond (is_rogue_line x) 1 0) events)))
    (sym (sum_more (λ x. cond (is_disk_line x) 1 0) events (Event.Say c bytes) ∙ add-zero (sum_by (λ x. cond (is_disk_line x) 1 0) events)))
grown_after plan events (Event.Disk n) = assemble _ _ _ _ _ _ _ _ _ _ _ _ _ _ _ _ _ _ _ _ _ _ _ _ _ _ _ _
    (sym (flat_same frames_in events (Event.Disk n) refl))
    (sym (flat_same input_in events (Event.Disk n) refl))
    (class_same (length (net_clients plan)) sends_in events (Event.Disk n) (λ k. refl))
    (class_same (length (serial_clients plan)) says_in events (Event.Disk n) (λ k. refl))
    (class_same (length (blk_clients plan)) asks_in events (Event.Disk n) (λ k. refl))
    (sym (image_more events (Event.Disk n)))
    (class_same (length (net_clients plan)) (acts_in Of.Net) events (Event.Disk n) (λ k. refl))
    (class_same (length (serial_clients plan)) (acts_in Of.Serial) events (Event.Disk n) (λ k. refl))
    (class_same (length (blk_clients plan)) (acts_in Of.Blk) events (Event.Disk n) (λ k. refl))
    (sym (sum_more (λ x. cond (is_frame_line x) 1 0) events (Event.Disk n) ∙ add-zero (sum_by (λ x. cond (is_frame_line x) 1 0) events)))
    (sym (sum_more stream_bytes_in events (Event.Disk n) ∙ add-zero (sum_by stream_bytes_in events)))
    (sym (sum_more (λ x. cond (is_request_line x) 1 0) events (Event.Disk n) ∙ add-zero (sum_by (λ x. cond (is_request_line x) 1 0) events)))
    (sym (sum_more (λ x. cond (is_rogue_line x) 1 0) events (Event.Disk n) ∙ add-zero (sum_by (λ x. cond (is_rogue_line x) 1 0) events)))
    (sym (sum_more (λ x. cond (is_disk_line x) 1 0) events (Event.Disk n)))
grown_after plan events (Event.Patch at bytes) = assemble _ _ _ _ _ _ _ _ _ _ _ _ _ _ _ _ _ _ _ _ _ _ _ _ _ _ _ _
    (sym (flat_same frames_in events (Event.Patch at bytes) refl))
    (sym (flat_same input_in events (Event.Patch at bytes) refl))
    (class_same (length (net_clients plan)) sends_in events (Event.Patch at bytes) (λ k. refl))
    (class_same (length (serial_clients plan)) says_in events (Event.Patch at bytes) (λ k. refl))
    (class_same (length (blk_clients plan)) asks_in events (Event.Patch at bytes) (λ k. refl))
    (sym (image_more events (Event.Patch at bytes)))
    (class_same (length (net_clients plan)) (acts_in Of.Net) events (Event.Patch at bytes) (λ k. refl))
    (class_same (length (serial_clients plan)) (acts_in Of.Serial) events (Event.Patch at bytes) (λ k. refl))
    (class_same (length (blk_clients plan)) (acts_in Of.Blk) events (Event.Patch at bytes) (λ k. refl))
    (sym (sum_more (λ x. cond (is_frame_line x) 1 0) events (Event.Patch at bytes) ∙ add-zero (sum_by (λ x. cond (is_frame_line x) 1 0) events)))
    (sym (sum_more stream_bytes_in events (Event.Patch at bytes) ∙ add-zero (sum_by stream_bytes_in events)))
    (sym (sum_more (λ x. cond (is_request_line x) 1 0) events (Event.Patch at bytes) ∙ add-zero (sum_by (λ x. cond (is_request_line x) 1 0) events)))
    (sym (sum_more (λ x. cond (is_rogue_line x) 1 0) events (Event.Patch at bytes) ∙ add-zero (sum_by (λ x. cond (is_rogue_line x) 1 0) events)))
    (sym (sum_more (λ x. cond (is_disk_line x) 1 0) events (Event.Patch at bytes) ∙ add-zero (sum_by (λ x. cond (is_disk_line x) 1 0) events)))
grown_after plan events (Event.Request c ask) = assemble _ _ _ _ _ _ _ _ _ _ _ _ _ _ _ _ _ _ _ _ _ _ _ _ _ _ _ _
    (sym (flat_same frames_in events (Event.Request c ask) refl))
    (sym (flat_same input_in events (Event.Request c ask) refl))
    (class_same (length (net_clients plan)) sends_in events (Event.Request c ask) (λ k. refl))
    (class_same (length (serial_clients plan)) says_in events (Event.Request c ask) (λ k. refl))
    (class_grown (length (blk_clients plan)) asks_in events (Event.Request c ask) c (ask ∷ []) (λ k. refl))
    (sym (image_more events (Event.Request c ask)))
    (class_same (length (net_clients plan)) (acts_in Of.Net) events (Event.Request c ask) (λ k. refl))
    (class_same (length (serial_clients plan)) (acts_in Of.Serial) events (Event.Request c ask) (λ k. refl))
    (class_same (length (blk_clients plan)) (acts_in Of.Blk) events (Event.Request c ask) (λ k. refl))
    (sym (sum_more (λ x. cond (is_frame_line x) 1 0) events (Event.Request c ask) ∙ add-zero (sum_by (λ x. cond (is_frame_line x) 1 0) events)))
    (sym (sum_more stream_bytes_in events (Event.Request c ask) ∙ add-zero (sum_by stream_bytes_in events)))
    (sym (sum_more (λ x. cond (is_request_line x) 1 0) events (Event.Request c ask)))
    (sym (sum_more (λ x. cond (is_rogue_line x) 1 0) events (Event.Request c ask) ∙ add-zero (sum_by (λ x. cond (is_rogue_line x) 1 0) events)))
    (sym (sum_more (λ x. cond (is_disk_line x) 1 0) events (Event.Request c ask) ∙ add-zero (sum_by (λ x. cond (is_disk_line x) 1 0) events)))
grown_after plan events (Event.Rogue Of.Net c act) = assemble _ _ _ _ _ _ _ _ _ _ _ _ _ _ _ _ _ _ _ _ _ _ _ _ _ _ _ _
    (sym (flat_same frames_in events (Event.Rogue Of.Net c act) refl))
    (sym (flat_same input_in events (Event.Rogue Of.Net c act) refl))
    (class_same (length (net_clients plan)) sends_in events (Event.Rogue Of.Net c act) (λ k. refl))
    (class_same (length (serial_clients plan)) says_in events (Event.Rogue Of.Net c act) (λ k. refl))
    (class_same (length (blk_clients plan)) asks_in events (Event.Rogue Of.Net c act) (λ k. refl))
    (sym (image_more events (Event.Rogue Of.Net c act)))
    (class_grown (length (net_clients plan)) (acts_in Of.Net) events (Event.Rogue Of.Net c act) c (act ∷ []) (λ k. refl))
    (class_same (length (serial_clients plan)) (acts_in Of.Serial) events (Event.Rogue Of.Net c act) (λ k. refl))
    (class_same (length (blk_clients plan)) (acts_in Of.Blk) events (Event.Rogue Of.Net c act) (λ k. refl))
    (sym (sum_more (λ x. cond (is_frame_line x) 1 0) events (Event.Rogue Of.Net c act) ∙ add-zero (sum_by (λ x. cond (is_frame_line x) 1 0) events)))
    (sym (sum_more stream_bytes_in events (Event.Rogue Of.Net c act) ∙ add-zero (sum_by stream_bytes_in events)))
    (sym (sum_more (λ x. cond (is_request_line x) 1 0) events (Event.Rogue Of.Net c act) ∙ add-zero (sum_by (λ x. cond (is_request_line x) 1 0) events)))
    (sym (sum_more (λ x. cond (is_rogue_line x) 1 0) events (Event.Rogue Of.Net c act)))
    (sym (sum_more (λ x. cond (is_disk_line x) 1 0) events (Event.Rogue Of.Net c act) ∙ add-zero (sum_by (λ x. cond (is_disk_line x) 1 0) events)))
grown_after plan events (Event.Rogue Of.Serial c act) = assemble _ _ _ _ _ _ _ _ _ _ _ _ _ _ _ _ _ _ _ _ _ _ _ _ _ _ _ _
    (sym (flat_same frames_in events (Event.Rogue Of.Serial c act) refl))
    (sym (flat_same input_in events (Event.Rogue Of.Serial c act) refl))
    (class_same (length (net_clients plan)) sends_in events (Event.Rogue Of.Serial c act) (λ k. refl))
    (class_same (length (serial_clients plan)) says_in events (Event.Rogue Of.Serial c act) (λ k. refl))
    (class_same (length (blk_clients plan)) asks_in events (Event.Rogue Of.Serial c act) (λ k. refl))
    (sym (image_more events (Event.Rogue Of.Serial c act)))
    (class_same (length (net_clients plan)) (acts_in Of.Net) events (Event.Rogue Of.Serial c act) (λ k. refl))
    (class_grown (length (serial_clients plan)) (acts_in Of.Serial) events (Event.Rogue Of.Serial c act) c (act ∷ []) (λ k. refl))
    (class_same (length (blk_clients plan)) (acts_in Of.Blk) events (Event.Rogue Of.Serial c act) (λ k. refl))
    (sym (sum_more (λ x. cond (is_frame_line x) 1 0) events (Event.Rogue Of.Serial c act) ∙ add-zero (sum_by (λ x. cond (is_frame_line x) 1 0) events)))
    (sym (sum_more stream_bytes_in events (Event.Rogue Of.Serial c act) ∙ add-zero (sum_by stream_bytes_in events)))
    (sym (sum_more (λ x. cond (is_request_line x) 1 0) events (Event.Rogue Of.Serial c act) ∙ add-zero (sum_by (λ x. cond (is_request_line x) 1 0) events)))
    (sym (sum_more (λ x. cond (is_rogue_line x) 1 0) events (Event.Rogue Of.Serial c act)))
    (sym (sum_more (λ x. cond (is_disk_line x) 1 0) events (Event.Rogue Of.Serial c act) ∙ add-zero (sum_by (λ x. cond (is_disk_line x) 1 0) events)))
grown_after plan events (Event.Rogue Of.Blk c act) = assemble _ _ _ _ _ _ _ _ _ _ _ _ _ _ _ _ _ _ _ _ _ _ _ _ _ _ _ _
    (sym (flat_same frames_in events (Event.Rogue Of.Blk c act) refl))
    (sym (flat_same input_in events (Event.Rogue Of.Blk c act) refl))
    (class_same (length (net_clients plan)) sends_in events (Event.Rogue Of.Blk c act) (λ k. refl))
    (class_same (length (serial_clients plan)) says_in events (Event.Rogue Of.Blk c act) (λ k. refl))
    (class_same (length (blk_clients plan)) asks_in events (Event.Rogue Of.Blk c act) (λ k. refl))
    (sym (image_more events (Event.Rogue Of.Blk c act)))
    (class_same (length (net_clients plan)) (acts_in Of.Net) events (Event.Rogue Of.Blk c act) (λ k. refl))
    (class_same (length (serial_clients plan)) (acts_in Of.Serial) events (Event.Rogue Of.Blk c act) (λ k. refl))
    (class_grown (length (blk_clients plan)) (acts_in Of.Blk) events (Event.Rogue Of.Blk c act) c (act ∷ []) (λ k. refl))
    (sym (sum_more (λ x. cond (is_frame_line x) 1 0) events (Event.Rogue Of.Blk c act) ∙ add-zero (sum_by (λ x. cond (is_frame_line x) 1 0) events)))
    (sym (sum_more stream_bytes_in events (Event.Rogue Of.Blk c act) ∙ add-zero (sum_by stream_bytes_in events)))
    (sym (sum_more (λ x. cond (is_request_line x) 1 0) events (Event.Rogue Of.Blk c act) ∙ add-zero (sum_by (λ x. cond (is_request_line x) 1 0) events)))
    (sym (sum_more (λ x. cond (is_rogue_line x) 1 0) events (Event.Rogue Of.Blk c act)))
    (sym (sum_more (λ x. cond (is_disk_line x) 1 0) events (Event.Rogue Of.Blk c act) ∙ add-zero (sum_by (λ x. cond (is_disk_line x) 1 0) events)))

refused_same : (plan : Plan) (events : List Event) (e : Event) → is_refused (reader_after plan events) e ≡ is_out_of_place events e
unfolding trace_from
refused_same plan events Event.Skipped = refl
refused_same plan events (Event.Rx frame) = refl
refused_same plan events (Event.In bytes) = refl
refused_same plan events (Event.Send c frame) = refl
refused_same plan events (Event.Say c bytes) = refl
refused_same plan events (Event.Disk n) = refl
refused_same plan events (Event.Patch at bytes) = refl
refused_same plan events (Event.Request c ask) = refl
refused_same plan events (Event.Rogue class c act) = refl

-- a line that was taken
pub taken_after : (plan : Plan) (events : List Event) (e : Option Event) (r : Reader) → after_line (reader_after plan events) e ≡ Some r
    → (is_bad_after events e ≡ false) × (r ≡ reader_after plan (events ++ option_to_list e))
taken_after plan events None r h = cc
taken_after plan events (Some e) r h = elim (cases_Bool (is_refused (reader_after plan events) e)) [
  | inl is ↦ absurd (let none = rw is at h in cc)
  | inr isnt ↦ (sym (refused_same plan events e) ∙ isnt, (let some = rw isnt at h in let same : reader_with (reader_after plan events) e ≡ r = cc in sym same ∙ grown_after plan events e))
]

-- a line that was found bad
pub bad_after : (plan : Plan) (events : List Event) (e : Option Event) → after_line (reader_after plan events) e ≡ None → is_bad_after events e ≡ true
bad_after plan events None h = refl
bad_after plan events (Some e) h = elim (cases_Bool (is_refused (reader_after plan events) e)) [
  | inl is ↦ sym (refused_same plan events e) ∙ is
  | inr isnt ↦ absurd (let some = rw isnt at h in cc)
]
