use Rattle.std.proofs.Common.{◌≡◌, ℕ, inl, inr, zero, suc, ◌+◌, ◌-◌, ◌*◌, ◌/◌, ◌%◌, ◌<◌, ◌≤◌, Bool, true, false, cond, eqb, leb, ltb, ◌&&◌, ◌||◌, List, [], ◌∷◌, ◌++◌, length, count_by, Option, Some, None, is_some, get_or, take, drop, refl, ap, sym, ◌∙◌, arith, add-one, codes, MatchOption, IfSome, All, length-append, length-take-le, length-drop}
use Rattle.std.specs.List.{flat_map, filter_map, cons_option}
use Rattle.std.specs.Option.{option_to_list, option_and_then, option_map}
use Rattle.std.proofs.lemmas.Bool.{cases_Bool, leb-true, ltb-true, ltb-false, eqb-true, and_parts}
use Rattle.std.proofs.lemmas.List.Elements.{All-nil, All-cons, All-head, All-tail, All-append}
use Rattle.std.proofs.lemmas.List.{length-replicate}
use Rattle.std.proofs.lemmas.Nat.{div-add-mod'}
use Rattle.std.proofs.lemmas.Option.{slice_get-get_or}
use Rattle.cargo_core.specs.Lists.{replaced}
use Rattle.cargo_core.specs.declared.act.Act.{Act}
use Rattle.cargo_core.specs.declared.item.Code.{Code}
use Rattle.cargo_core.specs.declared.item.Code.TheVariants as Asked
use Rattle.frame_core.specs.Frames.{is_frame_of}
use Rattle.trace_text.specs.Limits.{frame_most}
use Rattle.sdf_plan.specs.declared.plan.Plan.{Plan}
use Rattle.sdf_plan.specs.declared.plan.Blk.{Blk}
use Rattle.trace_text.specs.declared.class.Class.{Class}
use Rattle.trace_text.specs.declared.class.Class.TheVariants as Of
use Rattle.trace_text.specs.declared.trace.Trace.{Trace}
use Rattle.line_text.specs.Texts.{lines_of, words_of, number_of, same_text, is_skipped}
use Rattle.line_text.specs.Lists.{per_client}
use Rattle.line_text.specs.Data.{data_of}
use Rattle.trace_text.specs.Events.{Event, kept_if, is_source, is_script, is_reach, bare_ask, rx_line, in_line, send_line, say_line, disk_line, bytes_line, blk_order_line, blk_read_line, blk_write_line, blk_line, class_of, number_where, inputs_of, is_input, is_output, is_queue, is_place, is_value, word_named, take_said, put_said, give_said, store_said, act_said, is_rogue, rogue_line, words_say, meaning, net_clients, serial_clients, blk_clients}
use Rattle.trace_text.specs.Traces.{frames_in, sends_in, asks_in, acts_in, is_same_class, image_after, image_of, trace_from, trace_of, is_disk_line, is_out_of_place, is_bad_after, events_before, HasNoBadLine, IsReadFor}
use Rattle.trace_text.specs.Shapes.{IsFrame, IsDisk, IsAsk, IsActOn, HasShapes}
use Rattle.trace_text.proofs.Forms.{equal_length}
use Rattle.trace_text.proofs.Grown.{sum_more, image_more}
use Rattle.trace_text.proofs.SoFar.{events_more, bad_line, bad_end, no_events}

-- ---- what one line says has its shape

-- the number of sectors of a disk of the plan
abbrev IsSectors : Plan → ℕ → Type 0
IsSectors plan n = (is_some plan.blk ≡ true) × ((blocks : ℕ) × (1 ≤ blocks) × (n ≡ blocks * 8) × (blocks ≤ 8192))

abbrev IsShaped : Plan → Event → Type 0
IsShaped plan (Event.Rx frame) = IsFrame (frame_most plan) frame
IsShaped plan (Event.Send c frame) = IsFrame (frame_most plan) frame
IsShaped plan (Event.Disk n) = IsSectors plan n
IsShaped plan (Event.Request c ask) = IsAsk ask
IsShaped plan (Event.Rogue class c act) = IsActOn class act
IsShaped plan _ = Unit {0}

if-says : (P : Event → Type 0) (b : Bool) (one other : Option Event) → IfSome one P → IfSome other P → IfSome (cond b one other) P
if-says P true one other h k = h
if-says P false one other h k = k

kept-says : (P : Event → Type 0) (b : Bool) (e : Event) → (b ≡ true → P e) → IfSome (kept_if b (Some e)) P
kept-says P true e h = h refl
kept-says P false e h = tt

then-says : {T : Type 0} (P : Event → Type 0) (f : T → Option Event) (o : Option T) → ((x : T) → o ≡ Some x → IfSome (f x) P) → IfSome (option_and_then f o) P
then-says P f None h = tt
then-says P f (Some x) h = h x refl

frame-shape : (most : ℕ) (frame : List ℕ) → is_frame_of frame most ≡ true → IsFrame most frame
frame-shape most frame h =
    let both = and_parts (leb 14 (length frame)) (leb (length frame) most) h in
    (leb-true 14 (length frame) both.0, leb-true (length frame) most both.1)

rx-shape : (plan : Plan) (word : List ℕ) → IfSome (rx_line plan word) (IsShaped plan)
unfolding rx_line
rx-shape plan word =
    then-says (IsShaped plan) _ (data_of word) (λ frame _. kept-says (IsShaped plan) _ (Event.Rx frame) (λ h. frame-shape (frame_most plan) frame (and_parts (is_some plan.net) (is_frame_of frame (frame_most plan)) h).1))

in-shape : (plan : Plan) (word : List ℕ) → IfSome (in_line plan word) (IsShaped plan)
unfolding in_line
in-shape plan word = then-says (IsShaped plan) _ (data_of word) (λ bytes _. kept-says (IsShaped plan) _ (Event.In bytes) (λ h. tt))

send-shape : (plan : Plan) (client word : List ℕ) → IfSome (send_line plan client word) (IsShaped plan)
unfolding send_line
send-shape plan client word =
    then-says (IsShaped plan) _ (number_of client) (λ c _. then-says (IsShaped plan) _ (data_of word) (λ frame _.
    kept-says (IsShaped plan) _ (Event.Send c frame) (λ h. frame-shape (frame_most plan) frame (and_parts (is_source plan c) (is_frame_of frame (frame_most plan)) h).1)))

say-shape : (plan : Plan) (client word : List ℕ) → IfSome (say_line plan client word) (IsShaped plan)
unfolding say_line
say-shape plan client word =
    then-says (IsShaped plan) _ (number_of client) (λ c _. then-says (IsShaped plan) _ (data_of word) (λ bytes _. kept-says (IsShaped plan) _ (Event.Say c bytes) (λ h. tt)))

sectors-shape : (plan : Plan) (n : ℕ) → (is_some plan.blk && eqb (n % 8) 0 && leb 8 n && leb n 65536) ≡ true → IsSectors plan n
sectors-shape plan n h =
    let three = and_parts (is_some plan.blk && eqb (n % 8) 0 && leb 8 n) (leb n 65536) h in
    let two = and_parts (is_some plan.blk && eqb (n % 8) 0) (leb 8 n) three.0 in
    let one = and_parts (is_some plan.blk) (eqb (n % 8) 0) two.0 in
    let whole : n % 8 ≡ 0 = eqb-true (n % 8) 0 one.1 in
    let some : 8 ≤ n = leb-true 8 n two.1 in
    let parts : n / 8 * 8 + n % 8 ≡ n = div-add-mod' n 8 in
    let most : n ≤ 65536 = leb-true n 65536 three.1 in
    (one.0, (n / 8, omega (arith, whole, some, parts), omega (arith, whole, parts), omega (arith, most, parts)))

disk-shape : (plan : Plan) (word : List ℕ) → IfSome (disk_line plan word) (IsShaped plan)
unfolding disk_line
disk-shape plan word = then-says (IsShaped plan) _ (number_of word) (λ n _. kept-says (IsShaped plan) _ (Event.Disk n) (sectors-shape plan n))

bytes-shape : (plan : Plan) (place word : List ℕ) → IfSome (bytes_line plan place word) (IsShaped plan)
unfolding bytes_line
bytes-shape plan place word =
    then-says (IsShaped plan) _ (number_of place) (λ at _. then-says (IsShaped plan) _ (data_of word) (λ bytes _. kept-says (IsShaped plan) _ (Event.Patch at bytes) (λ h. tt)))

flush-shape : (plan : Plan) (c : ℕ) → IfSome (kept_if (is_script plan c) (Some (Event.Request c (bare_ask Asked.Flush 0 0)))) (IsShaped plan)
flush-shape plan c = kept-says (IsShaped plan) (is_script plan c) _ (λ h. (refl, refl, refl))

barrier-shape : (plan : Plan) (c : ℕ) → IfSome (kept_if (is_script plan c) (Some (Event.Request c (bare_ask Asked.Barrier 0 0)))) (IsShaped plan)
barrier-shape plan c = kept-says (IsShaped plan) (is_script plan c) _ (λ h. (refl, refl, refl))

-- what follows from a code that is one of two, if one at all
code-says : (P : Event → Type 0) (f : Code → Option Event) (flush barrier : Bool) → IfSome (f Asked.Flush) P → IfSome (f Asked.Barrier) P
    → IfSome (option_and_then f (cond flush (Some Asked.Flush) (cond barrier (Some Asked.Barrier) None))) P
code-says P f true barrier h k = h
code-says P f false true h k = k
code-says P f false false h k = tt

order-shape : (plan : Plan) (client order : List ℕ) → IfSome (blk_order_line plan client order) (IsShaped plan)
unfolding blk_order_line
order-shape plan client order =
    then-says (IsShaped plan) _ (number_of client) (λ c _. code-says (IsShaped plan)
    (λ code. kept_if (is_script plan c) (Some (Event.Request c (bare_ask code 0 0)))) (same_text order (codes "flush")) (same_text order (codes "barrier"))
    (flush-shape plan c) (barrier-shape plan c))

reach-shape : (block count : ℕ) → is_reach block count ≡ true → (block ≤ 4294967295) × (1 ≤ count) × (count ≤ 8)
reach-shape block count h =
    let two = and_parts (leb block 4294967295 && leb 1 count) (leb count 8) h in
    let one = and_parts (leb block 4294967295) (leb 1 count) two.0 in
    (leb-true block 4294967295 one.0, leb-true 1 count one.1, leb-true count 8 two.1)

read-shape : (plan : Plan) (client first many : List ℕ) → IfSome (blk_read_line plan client first many) (IsShaped plan)
unfolding blk_read_line
read-shape plan client first many =
    then-says (IsShaped plan) _ (number_of client) (λ c _. then-says (IsShaped plan) _ (number_of first) (λ block _. then-says (IsShaped plan) _ (number_of many) (λ count _.
    kept-says (IsShaped plan) _ (Event.Request c (bare_ask Asked.Read block count)) (λ h. (reach-shape block count (and_parts (is_script plan c) (is_reach block count) h).1, refl)))))

write-shape : (plan : Plan) (client first many word : List ℕ) → IfSome (blk_write_line plan client first many word) (IsShaped plan)
unfolding blk_write_line
write-shape plan client first many word =
    then-says (IsShaped plan) _ (number_of client) (λ c _. then-says (IsShaped plan) _ (number_of first) (λ block _. then-says (IsShaped plan) _ (number_of many) (λ count _.
    then-says (IsShaped plan) _ (data_of word) (λ bytes _. kept-says (IsShaped plan) _ (Event.Request c (record { code = Asked.Write; block = block; count = count; fill = bytes })) (λ h.
    let two = and_parts (is_script plan c && is_reach block count) (eqb (length bytes) (count * 4096)) h in
    (reach-shape block count (and_parts (is_script plan c) (is_reach block count) two.0).1, eqb-true (length bytes) (count * 4096) two.1))))))

blk-shape : (plan : Plan) (client code : List ℕ) (words : List (List ℕ)) → IfSome (blk_line plan client code words) (IsShaped plan)
blk-shape plan client code [] = tt
blk-shape plan client code (first ∷ []) = tt
blk-shape plan client code (first ∷ many ∷ []) = if-says (IsShaped plan) (same_text code (codes "read")) (blk_read_line plan client first many) None (read-shape plan client first many) tt
blk-shape plan client code (first ∷ many ∷ word ∷ []) =
    if-says (IsShaped plan) (same_text code (codes "write")) (blk_write_line plan client first many word) None (write-shape plan client first many word) tt
blk-shape plan client code (first ∷ many ∷ word ∷ more ∷ rest) = tt

-- what an act is, if one is said
if-acts : (P : Act → Type 0) (b : Bool) (one other : Option Act) → IfSome one P → IfSome other P → IfSome (cond b one other) P
if-acts P true one other h k = h
if-acts P false one other h k = k

then-acts : {T : Type 0} (P : Act → Type 0) (f : T → Option Act) (o : Option T) → ((x : T) → o ≡ Some x → IfSome (f x) P) → IfSome (option_and_then f o) P
then-acts P f None h = tt
then-acts P f (Some x) h = h x refl

last-acts : {T : Type 0} (P : Act → Type 0) (f : T → Act) (o : Option T) → ((x : T) → o ≡ Some x → P (f x)) → IfSome (option_map f o) P
last-acts P f None h = tt
last-acts P f (Some x) h = h x refl

tested : (test : ℕ → Bool) (m n : ℕ) → cond (test m) (Some m) None ≡ Some n → test n ≡ true
tested test m n h = elim (cases_Bool (test m)) [
  | inl is ↦ let some = rw is at h in let same : m ≡ n = cc in rw (← same) is
  | inr isnt ↦ absurd (let none = rw isnt at h in cc)
]

passed : (test : ℕ → Bool) (number : Option ℕ) (n : ℕ) → option_and_then (λ m. cond (test m) (Some m) None) number ≡ Some n → test n ≡ true
passed test None n h = cc
passed test (Some m) n h = tested test m n h

-- the number that a word spells passes the test
where-passed : (test : ℕ → Bool) (word : List ℕ) (n : ℕ) → number_where test word ≡ Some n → test n ≡ true
where-passed test word n h = passed test (number_of word) n h

output-shape : (class : Class) (n : ℕ) → is_output class n ≡ true → (inputs_of class ≤ n) × (n < 2 * inputs_of class)
output-shape class n h =
    let both = and_parts (leb (inputs_of class) n) (ltb n (2 * inputs_of class)) h in
    (leb-true (inputs_of class) n both.0, ltb-true n (2 * inputs_of class) both.1)

take-shape : (class : Class) (words : List (List ℕ)) → IfSome (take_said class words) (IsActOn class)
unfolding take_said
take-shape class [] = tt
take-shape class (k ∷ []) =
    last-acts (IsActOn class) _ (number_where (is_input class) k) (λ q is. ltb-true q (inputs_of class) (where-passed (is_input class) k q is))
take-shape class (k ∷ a ∷ more) = tt

put-shape : (class : Class) (words : List (List ℕ)) → IfSome (put_said class words) (IsActOn class)
unfolding put_said
put-shape class [] = tt
put-shape class (k ∷ []) = tt
put-shape class (k ∷ a ∷ []) = tt
put-shape class (k ∷ a ∷ l ∷ []) =
    then-acts (IsActOn class) _ (number_where (is_output class) k) (λ q is. then-acts (IsActOn class) _ (number_where is_value a) (λ address _.
    last-acts (IsActOn class) _ (number_where is_value l) (λ long _. output-shape class q (where-passed (is_output class) k q is))))
put-shape class (k ∷ a ∷ l ∷ x ∷ more) = tt

give-shape : (class : Class) (words : List (List ℕ)) → IfSome (give_said class words) (IsActOn class)
unfolding give_said
give-shape class [] = tt
give-shape class (k ∷ []) = tt
give-shape class (k ∷ p ∷ []) = tt
give-shape class (k ∷ p ∷ a ∷ []) = tt
give-shape class (k ∷ p ∷ a ∷ l ∷ []) =
    then-acts (IsActOn class) _ (number_where (is_output class) k) (λ q is. then-acts (IsActOn class) _ (number_where is_place p) (λ place _.
    then-acts (IsActOn class) _ (number_where is_value a) (λ address _.
    last-acts (IsActOn class) _ (number_where is_value l) (λ long _. output-shape class q (where-passed (is_output class) k q is)))))
give-shape class (k ∷ p ∷ a ∷ l ∷ x ∷ more) = tt

store-shape : (class : Class) (words : List (List ℕ)) → IfSome (store_said class words) (IsActOn class)
unfolding store_said
store-shape class [] = tt
store-shape class (k ∷ []) = tt
store-shape class (k ∷ w ∷ []) = tt
store-shape class (k ∷ w ∷ v ∷ []) =
    then-acts (IsActOn class) _ (number_where (is_queue class) k) (λ q is. then-acts (IsActOn class) _ (word_named w) (λ word _.
    last-acts (IsActOn class) _ (number_where is_value v) (λ value _. ltb-true q (2 * inputs_of class) (where-passed (is_queue class) k q is))))
store-shape class (k ∷ w ∷ v ∷ x ∷ more) = tt

act-shape : (class : Class) (words : List (List ℕ)) → IfSome (act_said class words) (IsActOn class)
unfolding act_said
act-shape class [] = tt
act-shape class (name ∷ []) = tt
act-shape class (name ∷ k ∷ more) =
    if-acts (IsActOn class) (same_text name (codes "take")) (take_said class (k ∷ more)) _ (take-shape class (k ∷ more))
    (if-acts (IsActOn class) (same_text name (codes "put")) (put_said class (k ∷ more)) _ (put-shape class (k ∷ more))
    (if-acts (IsActOn class) (same_text name (codes "give")) (give_said class (k ∷ more)) _ (give-shape class (k ∷ more))
    (if-acts (IsActOn class) (same_text name (codes "store")) (store_said class (k ∷ more)) None (store-shape class (k ∷ more)) tt)))

some-act : (class : Class) (o : Option Act) (act : Act) → o ≡ Some act → IfSome o (IsActOn class) → IsActOn class act
some-act class o act is h = rw is at h

rogue-shape : (plan : Plan) (name client : List ℕ) (words : List (List ℕ)) → IfSome (rogue_line plan name client words) (IsShaped plan)
unfolding rogue_line
rogue-shape plan name client words =
    then-says (IsShaped plan) _ (class_of name) (λ class _. then-says (IsShaped plan) _ (number_of client) (λ c _. then-says (IsShaped plan) _ (act_said class words) (λ act is.
    kept-says (IsShaped plan) (is_rogue plan class c) (Event.Rogue class c act) (λ h. some-act class (act_said class words) act is (act-shape class words)))))

-- a line of this name, or else what another name makes of it
named-says : (P : Event → Type 0) (name word : List ℕ) (one other : Option Event) → IfSome one P → IfSome other P → IfSome (cond (same_text name word) one other) P
named-says P name word one other h k = if-says P (same_text name word) one other h k

no-line : (P : Event → Type 0) → IfSome None P
no-line P = tt

two-words : (plan : Plan) (name a : List ℕ)
    → IfSome (cond (same_text name (codes "rx")) (rx_line plan a) (cond (same_text name (codes "in")) (in_line plan a) (cond (same_text name (codes "disk")) (disk_line plan a) None))) (IsShaped plan)
two-words plan name a =
    let third = named-says (IsShaped plan) name (codes "disk") (disk_line plan a) None (disk-shape plan a) (no-line (IsShaped plan)) in
    let second = named-says (IsShaped plan) name (codes "in") (in_line plan a) (cond (same_text name (codes "disk")) (disk_line plan a) None) (in-shape plan a) third in
    named-says (IsShaped plan) name (codes "rx") (rx_line plan a) (cond (same_text name (codes "in")) (in_line plan a) (cond (same_text name (codes "disk")) (disk_line plan a) None)) (rx-shape plan a) second

three-words : (plan : Plan) (name a b : List ℕ)
    → IfSome (cond (same_text name (codes "send")) (send_line plan a b) (cond (same_text name (codes "say")) (say_line plan a b) (cond (same_text name (codes "bytes")) (bytes_line plan a b)
    (cond (same_text name (codes "blk")) (blk_order_line plan a b) None)))) (IsShaped plan)
three-words plan name a b =
    let fourth = named-says (IsShaped plan) name (codes "blk") (blk_order_line plan a b) None (order-shape plan a b) (no-line (IsShaped plan)) in
    let third = named-says (IsShaped plan) name (codes "bytes") (bytes_line plan a b) (cond (same_text name (codes "blk")) (blk_order_line plan a b) None) (bytes-shape plan a b) fourth in
    let second =
    named-says (IsShaped plan) name (codes "say") (say_line plan a b) (cond (same_text name (codes "bytes")) (bytes_line plan a b) (cond (same_text name (codes "blk")) (blk_order_line plan a b) None))
    (say-shape plan a b) third in
    named-says (IsShaped plan) name (codes "send") (send_line plan a b)
    (cond (same_text name (codes "say")) (say_line plan a b) (cond (same_text name (codes "bytes")) (bytes_line plan a b) (cond (same_text name (codes "blk")) (blk_order_line plan a b) None)))
    (send-shape plan a b) second

line-shape : (plan : Plan) (words : List (List ℕ)) → IfSome (words_say plan words) (IsShaped plan)
unfolding words_say
line-shape plan [] = no-line (IsShaped plan)
line-shape plan (name ∷ []) = no-line (IsShaped plan)
line-shape plan (name ∷ a ∷ []) = two-words plan name a
line-shape plan (name ∷ a ∷ b ∷ []) = three-words plan name a b
line-shape plan (name ∷ a ∷ b ∷ c ∷ more) =
    if-says (IsShaped plan) (same_text name (codes "blk")) (blk_line plan a b (c ∷ more)) (cond (same_text name (codes "rogue")) (rogue_line plan a b (c ∷ more)) None) (blk-shape plan a b (c ∷ more))
    (if-says (IsShaped plan) (same_text name (codes "rogue")) (rogue_line plan a b (c ∷ more)) None (rogue-shape plan a b (c ∷ more)) (no-line (IsShaped plan)))

meaning-shape : (plan : Plan) (line : List ℕ) → IfSome (meaning plan line) (IsShaped plan)
unfolding meaning
meaning-shape plan line = if-says (IsShaped plan) (is_skipped line) (Some Event.Skipped) (words_say plan (words_of line)) tt (line-shape plan (words_of line))

-- ---- what all lines say

one-more : (P : Event → Type 0) (o : Option Event) (events : List Event) → IfSome o P → All P events → All P (cons_option o events)
one-more P None events h all = all
one-more P (Some e) events h all = All-cons P e events h all

lines-shape : (plan : Plan) (lines : List (List ℕ)) → All (IsShaped plan) (filter_map (meaning plan) lines)
lines-shape plan [] = All-nil (IsShaped plan)
lines-shape plan (line ∷ lines) = one-more (IsShaped plan) (meaning plan line) (filter_map (meaning plan) lines) (meaning-shape plan line) (lines-shape plan lines)

before-shape : (plan : Plan) (text : List ℕ) (k : ℕ) → All (IsShaped plan) (events_before plan text k)
unfolding events_before
before-shape plan text k = lines-shape plan (take k (lines_of text))

flat-all : {T : Type 0} (P : Event → Type 0) (Q : T → Type 0) (f : Event → List T) → ((e : Event) → P e → All Q (f e)) → (events : List Event) → All P events
    → All Q (flat_map f events)
flat-all P Q f h [] all = All-nil Q
flat-all P Q f h (e ∷ events) all =
    All-append Q (f e) (flat_map f events) (h e (All-head P e events all)) (flat-all P Q f h events (All-tail P e events all))

client-all : {T : Type 0} (Q : T → Type 0) (n : ℕ) (f : ℕ → T) → ((k : ℕ) → Q (f k)) → All Q (per_client n f)
client-all Q zero f h = All-nil Q
client-all Q (suc n) f h = All-cons Q (f 0) (per_client n (λ k. f (suc k))) (h 0) (client-all Q n (λ k. f (suc k)) (λ k. h (suc k)))

one-all : {T : Type 0} (Q : T → Type 0) (x : T) → Q x → All Q (x ∷ [])
one-all Q x h = All-cons Q x [] h (All-nil Q)

if-all : {T : Type 0} (Q : T → Type 0) (b : Bool) (x : T) → Q x → All Q (cond b (x ∷ []) [])
if-all Q true x h = one-all Q x h
if-all Q false x h = All-nil Q

frames-all : (plan : Plan) (e : Event) → IsShaped plan e → All (IsFrame (frame_most plan)) (frames_in e)
frames-all plan Event.Skipped h = All-nil (IsFrame (frame_most plan))
frames-all plan (Event.Rx frame) h = one-all (IsFrame (frame_most plan)) frame h
frames-all plan (Event.In bytes) h = All-nil (IsFrame (frame_most plan))
frames-all plan (Event.Send c frame) h = All-nil (IsFrame (frame_most plan))
frames-all plan (Event.Say c bytes) h = All-nil (IsFrame (frame_most plan))
frames-all plan (Event.Disk n) h = All-nil (IsFrame (frame_most plan))
frames-all plan (Event.Patch at bytes) h = All-nil (IsFrame (frame_most plan))
frames-all plan (Event.Request c ask) h = All-nil (IsFrame (frame_most plan))
frames-all plan (Event.Rogue class c act) h = All-nil (IsFrame (frame_most plan))

sends-all : (plan : Plan) (k : ℕ) (e : Event) → IsShaped plan e → All (IsFrame (frame_most plan)) (sends_in k e)
sends-all plan k Event.Skipped h = All-nil (IsFrame (frame_most plan))
sends-all plan k (Event.Rx frame) h = All-nil (IsFrame (frame_most plan))
sends-all plan k (Event.In bytes) h = All-nil (IsFrame (frame_most plan))
sends-all plan k (Event.Send c frame) h = if-all (IsFrame (frame_most plan)) (eqb c k) frame h
sends-all plan k (Event.Say c bytes) h = All-nil (IsFrame (frame_most plan))
sends-all plan k (Event.Disk n) h = All-nil (IsFrame (frame_most plan))
sends-all plan k (Event.Patch at bytes) h = All-nil (IsFrame (frame_most plan))
sends-all plan k (Event.Request c ask) h = All-nil (IsFrame (frame_most plan))
sends-all plan k (Event.Rogue class c act) h = All-nil (IsFrame (frame_most plan))

asks-all : (plan : Plan) (k : ℕ) (e : Event) → IsShaped plan e → All IsAsk (asks_in k e)
asks-all plan k Event.Skipped h = All-nil IsAsk
asks-all plan k (Event.Rx frame) h = All-nil IsAsk
asks-all plan k (Event.In bytes) h = All-nil IsAsk
asks-all plan k (Event.Send c frame) h = All-nil IsAsk
asks-all plan k (Event.Say c bytes) h = All-nil IsAsk
asks-all plan k (Event.Disk n) h = All-nil IsAsk
asks-all plan k (Event.Patch at bytes) h = All-nil IsAsk
asks-all plan k (Event.Request c ask) h = if-all IsAsk (eqb c k) ask h
asks-all plan k (Event.Rogue class c act) h = All-nil IsAsk

same-class-all : (own class : Class) (b : Bool) (act : Act) → IsActOn own act → All (IsActOn class) (cond (is_same_class own class && b) (act ∷ []) [])
same-class-all Of.Net Of.Net b act h = if-all (IsActOn Of.Net) b act h
same-class-all Of.Net Of.Serial b act h = All-nil (IsActOn Of.Serial)
same-class-all Of.Net Of.Blk b act h = All-nil (IsActOn Of.Blk)
same-class-all Of.Serial Of.Net b act h = All-nil (IsActOn Of.Net)
same-class-all Of.Serial Of.Serial b act h = if-all (IsActOn Of.Serial) b act h
same-class-all Of.Serial Of.Blk b act h = All-nil (IsActOn Of.Blk)
same-class-all Of.Blk Of.Net b act h = All-nil (IsActOn Of.Net)
same-class-all Of.Blk Of.Serial b act h = All-nil (IsActOn Of.Serial)
same-class-all Of.Blk Of.Blk b act h = if-all (IsActOn Of.Blk) b act h

acts-all : (plan : Plan) (class : Class) (k : ℕ) (e : Event) → IsShaped plan e → All (IsActOn class) (acts_in class k e)
acts-all plan class k Event.Skipped h = All-nil (IsActOn class)
acts-all plan class k (Event.Rx frame) h = All-nil (IsActOn class)
acts-all plan class k (Event.In bytes) h = All-nil (IsActOn class)
acts-all plan class k (Event.Send c frame) h = All-nil (IsActOn class)
acts-all plan class k (Event.Say c bytes) h = All-nil (IsActOn class)
acts-all plan class k (Event.Disk n) h = All-nil (IsActOn class)
acts-all plan class k (Event.Patch at bytes) h = All-nil (IsActOn class)
acts-all plan class k (Event.Request c ask) h = All-nil (IsActOn class)
acts-all plan class k (Event.Rogue own c act) h = same-class-all own class (eqb c k) act h

-- ---- the disk

record HasDisk (plan : Plan) (image : List ℕ) (lines : ℕ) : Type 0 where
  pub none : lines ≡ 0 → image ≡ []
  pub some : 1 ≤ lines → (is_some plan.blk ≡ true) × IsDisk image

length-replaced : (xs : List ℕ) (at : ℕ) (from : List ℕ) → at + length from ≤ length xs → length (replaced xs at from) ≡ length xs
length-replaced xs at from h =
    let front : length (take at xs) ≡ at = length-take-le at xs (omega (arith, h)) in
    let both : length (take at xs ++ from) ≡ length (take at xs) + length from = length-append (take at xs) from in
    let back : length (drop (at + length from) xs) ≡ length xs - (at + length from) = length-drop (at + length from) xs in
    length-append (take at xs ++ from) (drop (at + length from) xs) ∙ omega (arith, h, front, both, back)

or-false : (a b : Bool) → (a || b) ≡ false → (a ≡ false) × (b ≡ false)
or-false true b h = cc
or-false false b h = (refl, h)

one-or-more : (n : ℕ) → eqb n 0 ≡ false → 1 ≤ n
one-or-more zero h = cc
one-or-more (suc n) h = omega arith

lines-more : (events : List Event) (e : Event) → count_by is_disk_line (events ++ e ∷ []) ≡ count_by is_disk_line events + cond (is_disk_line e) 1 0
lines-more events e = sum_more (λ x. cond (is_disk_line x) 1 0) events e

disk-more : (plan : Plan) (events : List Event) (e : Event) → IsShaped plan e → is_out_of_place events e ≡ false
    → HasDisk plan (image_of events) (count_by is_disk_line events)
    → HasDisk plan (image_after (image_of events) e) (count_by is_disk_line events + cond (is_disk_line e) 1 0)
disk-more plan events Event.Skipped shape good h = record { none = λ is. h.none (omega (arith, is)); some = λ is. h.some (omega (arith, is)) }
disk-more plan events (Event.Rx frame) shape good h = record { none = λ is. h.none (omega (arith, is)); some = λ is. h.some (omega (arith, is)) }
disk-more plan events (Event.In bytes) shape good h = record { none = λ is. h.none (omega (arith, is)); some = λ is. h.some (omega (arith, is)) }
disk-more plan events (Event.Send c frame) shape good h = record { none = λ is. h.none (omega (arith, is)); some = λ is. h.some (omega (arith, is)) }
disk-more plan events (Event.Say c bytes) shape good h = record { none = λ is. h.none (omega (arith, is)); some = λ is. h.some (omega (arith, is)) }
disk-more plan events (Event.Request c ask) shape good h = record { none = λ is. h.none (omega (arith, is)); some = λ is. h.some (omega (arith, is)) }
disk-more plan events (Event.Rogue class c act) shape good h = record { none = λ is. h.none (omega (arith, is)); some = λ is. h.some (omega (arith, is)) }
disk-more plan events (Event.Disk n) shape good h =
    let blocks = shape.1.0 in
    record {
      none = λ is. absurd (omega (arith, is));
      some = λ is. (shape.0, (blocks, shape.1.1, length-replicate (512 * n) 0 ∙ omega (arith, shape.1.2), shape.1.3));
    }
disk-more plan events (Event.Patch at bytes) shape good h =
    let both = or-false (eqb (count_by is_disk_line events) 0) (ltb (length (image_of events)) (at + length bytes)) good in
    let there : 1 ≤ count_by is_disk_line events = one-or-more (count_by is_disk_line events) both.0 in
    let fits : at + length bytes ≤ length (image_of events) = ltb-false (length (image_of events)) (at + length bytes) both.1 in
    let was = h.some there in
    record {
      none = λ is. absurd (omega (arith, is, there));
      some = λ is. (was.0, (was.1.0, was.1.1, length-replaced (image_of events) at bytes fits ∙ was.1.2, was.1.3));
    }

disk-after : (plan : Plan) (events : List Event) (m : Option Event) → IfSome m (IsShaped plan) → is_bad_after events m ≡ false
    → HasDisk plan (image_of events) (count_by is_disk_line events)
    → HasDisk plan (image_of (events ++ option_to_list m)) (count_by is_disk_line (events ++ option_to_list m))
disk-after plan events None shape good h = cc
disk-after plan events (Some e) shape good h =
    rw (image_more events e, lines-more events e) (disk-more plan events e shape good h)

disk-before : (plan : Plan) (text : List ℕ) (k : ℕ) → HasNoBadLine plan text → k ≤ length (lines_of text)
    → HasDisk plan (image_of (events_before plan text k)) (count_by is_disk_line (events_before plan text k))
disk-before plan text zero good within = rw (no_events plan text) (record { none = λ is. refl; some = λ is. absurd (omega (arith, is)) })
disk-before plan text (suc k) good within =
    let at = slice_get-get_or (lines_of text) k [] (omega (arith, within)) in
    rw (← add-one k, events_more plan text k (get_or (lines_of text) k []) at)
    (disk-after plan (events_before plan text k) (meaning plan (get_or (lines_of text) k [])) (meaning-shape plan (get_or (lines_of text) k []))
    (sym (bad_line plan text k (get_or (lines_of text) k []) at) ∙ good k)
    (disk-before plan text k good (omega (arith, within))))

-- a disk where there is a class for it, and none else
disk-there : (plan : Plan) (blk : Option Blk) (image : List ℕ) (lines : ℕ) → plan.blk ≡ blk → (is_some blk && eqb lines 0) ≡ false → HasDisk plan image lines
    → MatchOption blk (image ≡ []) (λ _. IsDisk image)
disk-there plan None image zero is wanted h = h.none refl
disk-there plan None image (suc lines) is wanted h = let no : false ≡ true = sym (ap is_some is) ∙ (h.some (omega arith)).0 in cc
disk-there plan (Some blk) image lines is wanted h =
    (h.some (one-or-more lines wanted)).1

end-good : (plan : Plan) (text : List ℕ) → HasNoBadLine plan text
    → (is_some plan.blk && eqb (count_by is_disk_line (events_before plan text (length (lines_of text)))) 0) ≡ false
end-good plan text good =
    let n = length (lines_of text) in
    let end : (eqb n n && (is_some plan.blk && eqb (count_by is_disk_line (events_before plan text n)) 0)) ≡ false = sym (bad_end plan text n (omega arith)) ∙ good n in
    rw (equal_length n n refl) at end

from-shapes : (plan : Plan) (events : List Event) → All (IsShaped plan) events → MatchOption plan.blk (image_of events ≡ []) (λ _. IsDisk (image_of events))
    → HasShapes plan (trace_from plan events)
unfolding trace_from
from-shapes plan events shaped disk = record {
  frames = flat-all (IsShaped plan) (IsFrame (frame_most plan)) frames_in (frames-all plan) events shaped;
  sends = client-all (All (IsFrame (frame_most plan))) (length (net_clients plan)) _ (λ k. flat-all (IsShaped plan) (IsFrame (frame_most plan)) (sends_in k) (sends-all plan k) events shaped);
  asks = client-all (All IsAsk) (length (blk_clients plan)) _ (λ k. flat-all (IsShaped plan) IsAsk (asks_in k) (asks-all plan k) events shaped);
  net_acts = client-all (All (IsActOn Of.Net)) (length (net_clients plan)) _ (λ k. flat-all (IsShaped plan) (IsActOn Of.Net) (acts_in Of.Net k) (acts-all plan Of.Net k) events shaped);
  serial_acts = client-all (All (IsActOn Of.Serial)) (length (serial_clients plan)) _ (λ k. flat-all (IsShaped plan) (IsActOn Of.Serial) (acts_in Of.Serial k) (acts-all plan Of.Serial k) events shaped);
  blk_acts = client-all (All (IsActOn Of.Blk)) (length (blk_clients plan)) _ (λ k. flat-all (IsShaped plan) (IsActOn Of.Blk) (acts_in Of.Blk k) (acts-all plan Of.Blk k) events shaped);
  image = disk;
}

-- a trace that was read has its shapes
pub shapes-read : (plan : Plan) (trace : Trace) → IsReadFor plan trace → HasShapes plan trace
unfolding trace_of
shapes-read plan trace h =
    let n = length (lines_of h.text) in
    rw h.given (from-shapes plan (events_before plan h.text n) (before-shape plan h.text n)
    (disk-there plan plan.blk _ _ refl (end-good plan h.text h.good) (disk-before plan h.text n h.good (omega arith))))
