-- A client of a class is there where the class is, and what it recorded is of what it must get.
use Rattle.std.proofs.Common.{◌≡◌, ◌<◌, ◌+◌, ◌++◌, ℕ, Bool, true, false, cond, Option, Some, None, List, [], ◌∷◌, length, slice_get, refl, sym, ap, ◌∙◌, subst, arith, eqb-true}
use Rattle.std.specs.Prelude.{◌==◌}
use Rattle.std.specs.Option.{option_map_or}
use Rattle.cargo_core.specs.Lists.{IsPrefix}
use Rattle.cargo_core.specs.declared.item.Reply.{Reply}
use Rattle.wire_core.specs.declared.names.Event.{Event}
use Rattle.frame_core.specs.declared.mac.Mac.{Mac}
use Rattle.frame_core.specs.Frames.{turned_round}
use Rattle.wire_core.specs.Fates.{without}
use Rattle.wire_core.proofs.Fating.{without-map}
use Rattle.std.proofs.lemmas.List.{append-nil}
use Rattle.serial_virt.specs.Shares.{byte_fate}
use Rattle.play_core.proofs.Lists.{some_is}
use Rattle.net_law.specs.Dropped.{left_for, sends_upon, told_leases}
use Rattle.net_quiet.specs.TxCast.Casting.{net_marks}
use Rattle.net_law.specs.Parts.Numbers.{client_first}
use Rattle.serial_law.specs.Dropped.{taker}
use Rattle.serial_law.specs.Serial.{SerialClass}
use Rattle.sdf_plan.specs.declared.plan.Plan.{Plan}
use Rattle.sdf_plan.specs.declared.plan.Net.{Net}
use Rattle.sdf_plan.specs.declared.plan.Serial.{Serial}
use Rattle.sdf_plan.specs.declared.plan.Blk.{Blk}
use Rattle.trace_text.specs.declared.trace.Trace.{Trace}
use Rattle.trace_text.specs.Events.{net_clients, serial_clients, blk_clients}
use Rattle.class_expect.specs.NetExpect.Expecting.{Program, Echo, answers_for, frames_for}
use Rattle.class_expect.specs.SerialSwitch.Switching.{input_of}
use Rattle.expect_core.specs.Expected.{client_asks, client_entry, replies_in}
use Rattle.expect_core.specs.Isolation.{AreOfOne, IsRecordOf}
use Rattle.cast_core.specs.Casts.{client_pools, net_place}
use Rattle.cast_core.specs.Sources.{client_mac, client_program}
use Rattle.cast_core.proofs.Listing.{value_at}
use Rattle.system_core.specs.Shows.{Shown, wild_by}
use Rattle.system_core.specs.Plays.{runnable_now}
use Rattle.system_core.specs.Reports.{report_of}
use Rattle.system_core.specs.PlanPlays.{IsSystemOf, net_dropped}
use Rattle.system_core.specs.Builds.{class_of}
use Rattle.system_core.specs.Dropped.{calls_by, dropped_by}
use Rattle.system_core.specs.Isolation.{AreOfOneList, BlkRests, IsEchoAt, IsLeftOf, IsRecordBut, IsRecordIn, NetRests, SerialRests, echo_expected, may_drop, net_may_drop, net_sends}
use Rattle.system_core.proofs.Scripts.{nets, serials}
use Rattle.system_core.proofs.Sending.{sent_there}

-- where a list has no elements there are none
none_are : (xs : List ℕ) → (length xs == 0) ≡ true → xs ≡ []
none_are [] h = refl
none_are (x ∷ xs) h = let e : length (x ∷ xs) ≡ 0 = eqb-true (length (x ∷ xs)) 0 h in absurd (omega (arith, e))

still : (s : Shown) → (report_of s).quiet ≡ true → runnable_now s ≡ []
still s h = none_are (runnable_now s) h

-- two lists that are one begin with the same, and go on so
same_heads : {T : Type 0} (x y : T) (xs ys : List T) → x ∷ xs ≡ y ∷ ys → (x ≡ y) × (xs ≡ ys)
same_heads x y xs ys e = (cc, cc)

whole_left : {T : Type 0} (xs : List T) → without [] xs ≡ xs
whole_left xs = refl

-- a class is there where it has a client
there_in : {T U : Type 0} (f : T → List U) (class : Option T) (c : ℕ) → c < length (option_map_or f class []) → (x : T) × (class ≡ Some x)
there_in f None c lt = absurd (omega (arith, lt))
there_in f (Some x) c lt = (x, refl)

-- of two records of lists that agree in what is for a client, as a law has it
module _ {T : Type 0} (whole over : List T) (Rests Ends : Type 0) (got seen : List T) (law : (quiet rests : Bool) → IsRecordOf whole quiet got → IsRecordOf over rests seen → AreOfOne whole quiet got rests seen) where
  as_begins : {list : List T} {Is : Type 0} {some : List T} → IsRecordIn list Is some → IsRecordOf list false some
  as_begins x = record { begins = x.begins; all = λ e. cc }

  pub of_one : IsRecordIn whole Rests got → IsRecordIn over Ends seen → AreOfOneList whole Rests got Ends seen
  of_one x y = record {
    one = x;
    other = record {
      begins = (law false false (as_begins x) (as_begins y)).other.begins;
      all = λ ends. (law false true (as_begins x) (record { begins = y.begins; all = λ e. y.all ends })).other.all refl;
    };
  }

-- a beginning of what is left of a list is left of it
nothing_left : {T : Type 0} (xs : List T) → (marks : List Bool) × ([] ≡ without marks xs)
nothing_left [] = ([], refl)
nothing_left (x ∷ xs) = let r = nothing_left xs in (true ∷ r.0, r.1)

left_begins : {T : Type 0} (got : List T) (marks : List Bool) (whole : List T) → IsPrefix got (without marks whole) → IsLeftOf got whole
left_begins [] marks whole begins = nothing_left whole
left_begins (g ∷ got) [] [] begins = let none = begins.1 in cc
left_begins (g ∷ got) (m ∷ marks) [] begins = let none = begins.1 in cc
left_begins (g ∷ got) [] (x ∷ whole) begins =
    let heads = same_heads g x (got ++ begins.0) whole begins.1 in
    let r = left_begins got [] whole (begins.0, heads.1 ∙ sym (whole_left whole)) in
    (false ∷ r.0, λ i. heads.0 i ∷ r.1 i)
left_begins (g ∷ got) (true ∷ marks) (x ∷ whole) begins = let r = left_begins (g ∷ got) marks whole begins in (true ∷ r.0, r.1)
left_begins (g ∷ got) (false ∷ marks) (x ∷ whole) begins =
    let heads = same_heads g x (got ++ begins.0) (without marks whole) begins.1 in
    let r = left_begins got marks whole (begins.0, heads.1) in
    (false ∷ r.0, λ i. heads.0 i ∷ r.1 i)

pub frames_of : (plan : Plan) (trace : Trace) (s : Shown) (c : ℕ) (got : List (List ℕ)) → IsSystemOf plan trace s → c < length (net_clients plan) → slice_get s.state.net c ≡ Some got → IsRecordBut (frames_for (client_mac plan c) trace.frames) (net_may_drop plan c) (NetRests plan s) got
frames_of plan trace s c got h lt at =
    let has = there_in (λ (net : Net). net.client) plan.net c lt in
    let mac = value_at (length (net_clients plan)) (client_mac plan) c lt in
    let due : List (List ℕ) = frames_for (client_mac plan c) trace.frames in
    let calls : List Event = calls_by h.stands.calls.past s.journal in
    let none : net_may_drop plan c ≡ false → net_dropped plan trace calls c ≡ [] = (λ kept. ap (λ (b : Bool). told_leases b (client_first 0 c) (client_first 0 c + 3) calls) kept) in
    let kept_all : net_may_drop plan c ≡ false → without (net_dropped plan trace calls c) due ≡ due = (λ kept. ap (λ (bs : List Bool). without bs due) (none kept)) in
    record {
      left = left_begins got (net_dropped plan trace calls c) due ((h.shows_net has.0 has.1).records c (client_mac plan c) got mac at);
      kept = λ kept. record {
        begins = subst (IsPrefix got) (kept_all kept) ((h.shows_net has.0 has.1).records c (client_mac plan c) got mac at);
        all = λ rests. (h.whole_net (still s rests.0) rests.1 has.0 has.1).records c (client_mac plan c) got mac at ∙ kept_all kept;
      };
    }

-- an echo sends the answers to what is left of the frames for it
echo_left : (mac : Mac) (marks : List Bool) (frames : List (List ℕ)) → sends_upon Echo mac (left_for marks mac frames) ≡ without marks (answers_for mac frames)
echo_left mac marks frames = without-map (λ (frame : List ℕ). turned_round frame mac) marks (frames_for mac frames)

pub echoes_of : (plan : Plan) (trace : Trace) (s : Shown) (c : ℕ) (sent : List (List ℕ)) → (h : IsSystemOf plan trace s) → c < length (net_clients plan) → IsEchoAt plan trace c → slice_get (net_sends plan trace s h) c ≡ Some sent → IsRecordBut (echo_expected plan trace c) (net_may_drop plan c) (Unit {0}) sent
echoes_of plan trace s c sent h lt is at =
    let has = there_in (λ (net : Net). net.client) plan.net c lt in
    let many : length (net_clients plan) ≡ length has.0.client = ap (λ cs. length cs) (nets plan has.0 has.1) in
    let n : ℕ = length (net_clients plan) in
    let mac : Mac = client_mac plan c in
    let calls : List Event = h.stands.told.passed.calls in
    let marks : List Bool = net_dropped plan trace calls c in
    let below : c < length has.0.client = omega (arith, lt, many) in
    let plus : 0 + c ≡ c = omega arith in
    let calm : wild_by s.setting (client_first 0 (0 + c) + 4) ≡ false = ap (λ k. wild_by s.setting (client_first 0 k + 4)) plus ∙ (h.wild_net has.0 has.1 c below ∙ is.calm) in
    let there = sent_there (wild_by s.setting) 0 (net_place plan trace).most (net_marks (net_place plan trace) calls) trace.frames h.stands.told.passed 0 (net_place plan trace).programs (net_place plan trace).macs (net_place plan trace).pools c (client_program plan trace c) mac (client_pools plan c)
    (value_at n (client_program plan trace) c lt) (value_at n (client_mac plan) c lt) (value_at n (client_pools plan) c lt) calm in
    let own : sent ≡ without marks (answers_for mac trace.frames) = some_is (sym at ∙ there)
    ∙ (ap (λ k. sends_upon (client_program plan trace c) mac (left_for (net_dropped plan trace calls k) mac trace.frames)) plus
    ∙ (ap (λ (p : Program). sends_upon p mac (left_for marks mac trace.frames)) is.echo ∙ echo_left mac marks trace.frames)) in
    let all : net_may_drop plan c ≡ false → sent ≡ answers_for mac trace.frames = (λ kept. own ∙ ap (λ (b : Bool). without (told_leases b (client_first 0 c) (client_first 0 c + 3) calls) (answers_for mac trace.frames)) kept) in
    record {
      left = (marks, own);
      kept = λ kept. record { begins = ([], append-nil sent ∙ all kept); all = λ always. all kept };
    }

pub input_for : (plan : Plan) (trace : Trace) (s : Shown) (c : ℕ) (got : List ℕ) → IsSystemOf plan trace s → c < length (serial_clients plan) → slice_get s.state.serial c ≡ Some got → IsRecordBut (input_of (length (serial_clients plan)) c trace.input) (may_drop plan c) (SerialRests plan s) got
input_for plan trace s c got h lt at =
    let has = there_in (λ (serial : Serial). serial.client) plan.serial c lt in
    let class : SerialClass = class_of plan trace has.0 in
    let calls : List Event = calls_by h.stands.calls.past s.journal in
    let none : may_drop plan c ≡ false → dropped_by class calls c ≡ [] = (λ kept. ap (λ (b : Bool). cond b (byte_fate class.rx (taker class.client_rx class.drops c) calls).dropped []) kept) in
    let kept_all : may_drop plan c ≡ false → without (dropped_by class calls c) (input_of (length has.0.client) c trace.input) ≡ input_of (length has.0.client) c trace.input = (λ kept. ap (λ (bs : List Bool). without bs (input_of (length has.0.client) c trace.input)) (none kept)) in
    let own : IsRecordBut (input_of (length has.0.client) c trace.input) (may_drop plan c) (SerialRests plan s) got = record {
      left = left_begins got (dropped_by class calls c) (input_of (length has.0.client) c trace.input) ((h.shows has.0 has.1).records c got at);
      kept = λ kept. record {
        begins = subst (IsPrefix got) (kept_all kept) ((h.shows has.0 has.1).records c got at);
        all = λ rests. (h.whole (still s rests.0) rests.1 has.0 has.1).records c got at ∙ kept_all kept;
      };
    } in
    let many : length (serial_clients plan) ≡ length has.0.client = ap (λ cs. length cs) (serials plan has.0 has.1) in
    subst (λ n. IsRecordBut (input_of n c trace.input) (may_drop plan c) (SerialRests plan s) got) (sym many) own

pub replies_for : (plan : Plan) (trace : Trace) (s : Shown) (c : ℕ) (got : List Reply) → IsSystemOf plan trace s → c < length (blk_clients plan) → slice_get s.state.blk c ≡ Some got → IsRecordIn (replies_in plan trace c) (BlkRests plan s) got
replies_for plan trace s c got h lt at =
    let has = there_in (λ (blk : Blk). blk.client) plan.blk c lt in
    let entry = value_at (length (blk_clients plan)) (client_entry plan) c lt in
    let asks = value_at (length (blk_clients plan)) (client_asks trace) c lt in
    record {
      begins = (h.shows_blk has.0 has.1).records c (client_entry plan c) (client_asks trace c) got entry asks at;
      all = λ rests. (h.whole_blk (still s rests.0) rests.1 has.0 has.1).records c (client_entry plan c) (client_asks trace c) got entry asks at;
    }
