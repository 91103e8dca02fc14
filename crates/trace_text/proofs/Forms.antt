use Rattle.std.proofs.Common.{◌≡◌, ℕ, ◌+◌, ◌*◌, ◌%◌, ◌<◌, ◌≤◌, inl, inr, Bool, true, false, leb, ltb, eqb, ◌&&◌, List, length, Some, None, is_some, refl, arith}
use Rattle.std.proofs.lemmas.Bool.{lt-leb, le-leb, ltb-true, ltb-false, eqb-true, eqb-false, cases_Bool}
use Rattle.std.proofs.lemmas.Option.{slice_get_past}
use Rattle.cargo_core.specs.declared.item.Ask.{Ask}
use Rattle.cargo_core.specs.declared.item.Code.{Code}
use Rattle.cargo_core.specs.declared.item.Code.TheVariants as Asked
use Rattle.sdf_plan.specs.declared.plan.Plan.{Plan}
use Rattle.frame_core.specs.Frames.{is_frame_of}
use Rattle.trace_text.specs.Limits.{frame_most}
use Rattle.trace_text.specs.declared.reader.Reader.{Reader}
use Rattle.line_text.specs.Texts.{number_of}
use Rattle.line_text.proofs.Pieces.{not_equal}
use Rattle.line_text.specs.Data.{data_of}
use Rattle.trace_text.specs.Events.{Event, net_clients, serial_clients, blk_clients, is_source, is_speaker, is_script, is_reach, bare_ask, order_code, rx_line, in_line, send_line, say_line, disk_line, bytes_line, blk_order_line, blk_read_line, blk_write_line}
use Rattle.trace_text.specs.Reading.{after_line, is_refused, reader_with}
use Rattle.trace_text.proofs.Judged.{Fails, judged_none, number_none, data_none, kept_none, kept_taken}

pub rx_none : (r : Reader) (plan : Plan) (word : List ℕ)
    → ((frame : List ℕ) → data_of word ≡ Some frame → Fails r (is_some plan.net && is_frame_of frame (frame_most plan)) (Event.Rx frame)) → after_line r (rx_line plan word) ≡ None
unfolding rx_line
rx_none r plan word h = data_none r word _ (λ frame e. kept_none r _ (Event.Rx frame) (h frame e))

pub rx_taken : (r : Reader) (plan : Plan) (word frame : List ℕ) → data_of word ≡ Some frame → (is_some plan.net && is_frame_of frame (frame_most plan)) ≡ true
    → is_refused r (Event.Rx frame) ≡ false → after_line r (rx_line plan word) ≡ Some (reader_with r (Event.Rx frame))
unfolding rx_line
rx_taken r plan word frame e holds taken = rw e (kept_taken r _ (Event.Rx frame) holds taken)

pub in_none : (r : Reader) (plan : Plan) (word : List ℕ)
    → ((bytes : List ℕ) → data_of word ≡ Some bytes → Fails r (is_some plan.serial) (Event.In bytes)) → after_line r (in_line plan word) ≡ None
unfolding in_line
in_none r plan word h = data_none r word _ (λ bytes e. kept_none r _ (Event.In bytes) (h bytes e))

pub in_taken : (r : Reader) (plan : Plan) (word bytes : List ℕ) → data_of word ≡ Some bytes → (is_some plan.serial) ≡ true
    → is_refused r (Event.In bytes) ≡ false → after_line r (in_line plan word) ≡ Some (reader_with r (Event.In bytes))
unfolding in_line
in_taken r plan word bytes e holds taken = rw e (kept_taken r _ (Event.In bytes) holds taken)

pub send_none : (r : Reader) (plan : Plan) (client word : List ℕ)
    → ((c : ℕ) (frame : List ℕ) → number_of client ≡ Some c → data_of word ≡ Some frame → Fails r (is_source plan c && is_frame_of frame (frame_most plan)) (Event.Send c frame))
    → after_line r (send_line plan client word) ≡ None
unfolding send_line
send_none r plan client word h = number_none r client _ (λ c n. data_none r word _ (λ frame e. kept_none r _ (Event.Send c frame) (h c frame n e)))

pub send_taken : (r : Reader) (plan : Plan) (client word : List ℕ) (c : ℕ) (frame : List ℕ) → number_of client ≡ Some c → data_of word ≡ Some frame
    → (is_source plan c && is_frame_of frame (frame_most plan)) ≡ true → is_refused r (Event.Send c frame) ≡ false → after_line r (send_line plan client word) ≡ Some (reader_with r (Event.Send c frame))
unfolding send_line
send_taken r plan client word c frame n e holds taken = rw (n, e) (kept_taken r _ (Event.Send c frame) holds taken)

pub say_none : (r : Reader) (plan : Plan) (client word : List ℕ)
    → ((c : ℕ) (bytes : List ℕ) → number_of client ≡ Some c → data_of word ≡ Some bytes → Fails r (is_speaker plan c) (Event.Say c bytes))
    → after_line r (say_line plan client word) ≡ None
unfolding say_line
say_none r plan client word h = number_none r client _ (λ c n. data_none r word _ (λ bytes e. kept_none r _ (Event.Say c bytes) (h c bytes n e)))

pub say_taken : (r : Reader) (plan : Plan) (client word : List ℕ) (c : ℕ) (bytes : List ℕ) → number_of client ≡ Some c → data_of word ≡ Some bytes
    → is_speaker plan c ≡ true → is_refused r (Event.Say c bytes) ≡ false → after_line r (say_line plan client word) ≡ Some (reader_with r (Event.Say c bytes))
unfolding say_line
say_taken r plan client word c bytes n e holds taken = rw (n, e) (kept_taken r _ (Event.Say c bytes) holds taken)

-- whether so many sectors can be a disk of the plan
abbrev pub is_disk : Plan → ℕ → Bool
is_disk plan n = is_some plan.blk && eqb (n % 8) 0 && leb 8 n && leb n 65536

pub disk_none : (r : Reader) (plan : Plan) (word : List ℕ) → ((n : ℕ) → number_of word ≡ Some n → Fails r (is_disk plan n) (Event.Disk n)) → after_line r (disk_line plan word) ≡ None
unfolding disk_line
disk_none r plan word h = number_none r word _ (λ n e. kept_none r _ (Event.Disk n) (h n e))

pub disk_taken : (r : Reader) (plan : Plan) (word : List ℕ) (n : ℕ) → number_of word ≡ Some n → is_disk plan n ≡ true → is_refused r (Event.Disk n) ≡ false
    → after_line r (disk_line plan word) ≡ Some (reader_with r (Event.Disk n))
unfolding disk_line
disk_taken r plan word n e holds taken = rw e (kept_taken r _ (Event.Disk n) holds taken)

pub is_disk_all : (plan : Plan) (n : ℕ) → is_some plan.blk ≡ true → n % 8 ≡ 0 → 8 ≤ n → n ≤ 65536 → is_disk plan n ≡ true
is_disk_all plan n there whole some most = rw (there, whole, le-leb 8 n some, le-leb n 65536 most) refl

pub bytes_none : (r : Reader) (plan : Plan) (place word : List ℕ)
    → ((at : ℕ) (bytes : List ℕ) → number_of place ≡ Some at → data_of word ≡ Some bytes → Fails r (is_some plan.blk) (Event.Patch at bytes)) → after_line r (bytes_line plan place word) ≡ None
unfolding bytes_line
bytes_none r plan place word h = number_none r place _ (λ at n. data_none r word _ (λ bytes e. kept_none r _ (Event.Patch at bytes) (h at bytes n e)))

pub bytes_taken : (r : Reader) (plan : Plan) (place word : List ℕ) (at : ℕ) (bytes : List ℕ) → number_of place ≡ Some at → data_of word ≡ Some bytes → is_some plan.blk ≡ true
    → is_refused r (Event.Patch at bytes) ≡ false → after_line r (bytes_line plan place word) ≡ Some (reader_with r (Event.Patch at bytes))
unfolding bytes_line
bytes_taken r plan place word at bytes n e holds taken = rw (n, e) (kept_taken r _ (Event.Patch at bytes) holds taken)

pub order_none : (r : Reader) (plan : Plan) (client order : List ℕ)
    → ((c : ℕ) (code : Code) → number_of client ≡ Some c → order_code order ≡ Some code → Fails r (is_script plan c) (Event.Request c (bare_ask code 0 0)))
    → after_line r (blk_order_line plan client order) ≡ None
unfolding blk_order_line
order_none r plan client order h =
    number_none r client _ (λ c n. judged_none r (order_code order) _ (λ code e. kept_none r _ (Event.Request c (bare_ask code 0 0)) (h c code n e)))

pub order_taken : (r : Reader) (plan : Plan) (client order : List ℕ) (c : ℕ) (code : Code) → number_of client ≡ Some c → order_code order ≡ Some code → is_script plan c ≡ true
    → is_refused r (Event.Request c (bare_ask code 0 0)) ≡ false → after_line r (blk_order_line plan client order) ≡ Some (reader_with r (Event.Request c (bare_ask code 0 0)))
unfolding blk_order_line
order_taken r plan client order c code n e holds taken = rw (n, e) (kept_taken r _ (Event.Request c (bare_ask code 0 0)) holds taken)

pub read_none : (r : Reader) (plan : Plan) (client first many : List ℕ)
    → ((c block count : ℕ) → number_of client ≡ Some c → number_of first ≡ Some block → number_of many ≡ Some count
    → Fails r (is_script plan c && is_reach block count) (Event.Request c (bare_ask Asked.Read block count)))
    → after_line r (blk_read_line plan client first many) ≡ None
unfolding blk_read_line
read_none r plan client first many h =
    number_none r client _ (λ c n. number_none r first _ (λ block b. number_none r many _ (λ count m. kept_none r _ (Event.Request c (bare_ask Asked.Read block count)) (h c block count n b m))))

pub read_taken : (r : Reader) (plan : Plan) (client first many : List ℕ) (c block count : ℕ) → number_of client ≡ Some c → number_of first ≡ Some block → number_of many ≡ Some count
    → (is_script plan c && is_reach block count) ≡ true → is_refused r (Event.Request c (bare_ask Asked.Read block count)) ≡ false
    → after_line r (blk_read_line plan client first many) ≡ Some (reader_with r (Event.Request c (bare_ask Asked.Read block count)))
unfolding blk_read_line
read_taken r plan client first many c block count n b m holds taken = rw (n, b, m) (kept_taken r _ (Event.Request c (bare_ask Asked.Read block count)) holds taken)

abbrev pub write_ask : ℕ → ℕ → List ℕ → Ask
write_ask block count bytes = record { code = Asked.Write; block = block; count = count; fill = bytes }

pub write_none : (r : Reader) (plan : Plan) (client first many word : List ℕ)
    → ((c block count : ℕ) (bytes : List ℕ) → number_of client ≡ Some c → number_of first ≡ Some block → number_of many ≡ Some count → data_of word ≡ Some bytes
    → Fails r (is_script plan c && is_reach block count && eqb (length bytes) (count * 4096)) (Event.Request c (write_ask block count bytes)))
    → after_line r (blk_write_line plan client first many word) ≡ None
unfolding blk_write_line
write_none r plan client first many word h =
    number_none r client _ (λ c n. number_none r first _ (λ block b. number_none r many _ (λ count m. data_none r word _ (λ bytes e. kept_none r _ (Event.Request c (write_ask block count bytes)) (h c block count bytes n b m e)))))

pub write_taken : (r : Reader) (plan : Plan) (client first many word : List ℕ) (c block count : ℕ) (bytes : List ℕ) → number_of client ≡ Some c → number_of first ≡ Some block
    → number_of many ≡ Some count → data_of word ≡ Some bytes → (is_script plan c && is_reach block count && eqb (length bytes) (count * 4096)) ≡ true
    → is_refused r (Event.Request c (write_ask block count bytes)) ≡ false → after_line r (blk_write_line plan client first many word) ≡ Some (reader_with r (Event.Request c (write_ask block count bytes)))
unfolding blk_write_line
write_taken r plan client first many word c block count bytes n b m e holds taken = rw (n, b, m, e) (kept_taken r _ (Event.Request c (write_ask block count bytes)) holds taken)

-- a number past the clients of a class
pub no_source : (plan : Plan) (c : ℕ) → length (net_clients plan) ≤ c → is_source plan c ≡ false
unfolding is_source
no_source plan c past = rw (slice_get_past (net_clients plan) c past) refl

pub no_speaker : (plan : Plan) (c : ℕ) → length (serial_clients plan) ≤ c → is_speaker plan c ≡ false
unfolding is_speaker
no_speaker plan c past = rw (slice_get_past (serial_clients plan) c past) refl

pub no_script : (plan : Plan) (c : ℕ) → length (blk_clients plan) ≤ c → is_script plan c ≡ false
unfolding is_script
no_script plan c past = rw (slice_get_past (blk_clients plan) c past) refl

-- what the tests of orders give
pub is_above : (a b : ℕ) → a < b → ltb a b ≡ true
is_above a b h = elim (cases_Bool (ltb a b)) [
  | inl is ↦ is
  | inr isnt ↦ absurd (let e = ltb-false a b isnt in omega arith)
]

pub not_above : (a b : ℕ) → b ≤ a → ltb a b ≡ false
not_above a b h = elim (cases_Bool (ltb a b)) [
  | inl is ↦ absurd (let e = ltb-true a b is in omega arith)
  | inr isnt ↦ isnt
]

pub too_long_frame : (most : ℕ) (frame : List ℕ) → most < length frame → is_frame_of frame most ≡ false
too_long_frame most frame long = elim (cases_Bool (leb 14 (length frame))) [
  | inl is ↦ rw (is, lt-leb (length frame) most long) refl
  | inr isnt ↦ rw isnt refl
]

pub patch_without_disk : (r : Reader) (at : ℕ) (bytes : List ℕ) → r.disk_lines ≡ 0 → is_refused r (Event.Patch at bytes) ≡ true
patch_without_disk r at bytes h = rw h refl

pub patch_outside : (r : Reader) (at : ℕ) (bytes : List ℕ) → length r.trace.image < at + length bytes → is_refused r (Event.Patch at bytes) ≡ true
patch_outside r at bytes h = elim (cases_Bool (eqb r.disk_lines 0)) [
  | inl is ↦ rw is refl
  | inr isnt ↦ rw (isnt, is_above (length r.trace.image) (at + length bytes) h) refl
]

pub patch_inside : (r : Reader) (at : ℕ) (bytes : List ℕ) → (r.disk_lines ≡ 0 → ⊥) → at + length bytes ≤ length r.trace.image → is_refused r (Event.Patch at bytes) ≡ false
patch_inside r at bytes disk h = rw (not_equal r.disk_lines 0 disk, not_above (length r.trace.image) (at + length bytes) h) refl

pub is_reach_all : (block count : ℕ) → block < 4294967296 → 1 ≤ count → count < 9 → is_reach block count ≡ true
is_reach_all block count b some most =
    let in_range : block ≤ 4294967295 = omega arith in
    let few : count ≤ 8 = omega arith in
    rw (le-leb block 4294967295 in_range, le-leb 1 count some, le-leb count 8 few) refl

pub no_blocks : (block count : ℕ) → count ≡ 0 → is_reach block count ≡ false
no_blocks block count h = elim (cases_Bool (leb block 4294967295)) [
  | inl is ↦ rw (is, h) refl
  | inr isnt ↦ rw isnt refl
]

pub equal_length : (n m : ℕ) → n ≡ m → eqb n m ≡ true
equal_length n m h = elim (cases_Bool (eqb n m)) [
  | inl is ↦ is
  | inr isnt ↦ absurd (eqb-false n m isnt h)
]
