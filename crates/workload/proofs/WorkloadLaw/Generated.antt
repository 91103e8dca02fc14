-- No line of a generated trace is bad.
use Rattle.std.proofs.Common.{◌≡◌, refl, ap, sym, ◌∙◌, ℕ, zero, suc, ◌+◌, ◌*◌, ◌%◌, ◌<◌, ◌≤◌, ◌⊎◌, inl, inr, true, false, eqb, List, [], ◌∷◌, ◌++◌, length, drop, replicate, subst, Some, is_some, codes, arith, append_assoc, append-nil, length-append}
use Rattle.std.specs.Fmt.{decimal, digits}
use Rattle.std.proofs.lemmas.Bool.{le-leb, cases_lt}
use Rattle.std.proofs.lemmas.List.{length-replicate}
use Rattle.cargo_core.specs.declared.item.Code.TheVariants as Asked
use Rattle.hex.specs.Hex.{IsBytes, encode_lower, decode_pairs, lower_digits}
use Rattle.hex.proofs.HexLemmas.{length-encode_with}
use Rattle.sdf_model.specs.Counts.{text_most}
use Rattle.frame_core.specs.Frames.{is_frame_of, broadcast}
use Rattle.sdf_plan.specs.declared.plan.Plan.{Plan}
use Rattle.trace_text.specs.Limits.{frame_most}
use Rattle.line_text.specs.Texts.{words_of, number_of, is_skipped}
use Rattle.line_text.specs.Data.{piece_of, data_of}
use Rattle.trace_text.specs.Events.{Event, meaning, is_source, is_speaker, is_script, is_reach, bare_ask, words_say, rx_line as rx_meaning, in_line as in_meaning, send_line as send_meaning, say_line as say_meaning, disk_line, bytes_line, blk_read_line, blk_write_line}
use Rattle.trace_text.specs.Traces.{HasNoBadLine, trace_from}
use Rattle.trace_text.specs.Reading.{reader_after}
use Rattle.trace_text.proofs.Judged.{and_right}
use Rattle.trace_text.proofs.SoFar.{so_far_none, so_far_good}
use Rattle.wire_core.specs.Picks.{next_seed}
use Rattle.line_text.proofs.Pieces.{not_equal}
use Rattle.trace_text.proofs.Forms.{write_ask}
use Rattle.trace_text.proofs.Words.{meaning_words, two_rx, two_in, three_send, three_say, six_write}
use Rattle.workload.specs.Draws.{moved, drawn, drawn_behind}
use Rattle.workload.specs.Lines.{station, frame, destination, rx_line, send_line, letters, in_line, say_line, disk_lines, write_line, read_line, blk_lines}
use Rattle.workload.specs.Generated.{numbered, generated_text}
use Rattle.workload.specs.WorkloadLaw.Clients.{HasClients}
use Rattle.workload.proofs.WorkloadLaw.Texts.{Lacks, lacks, lacks_both, bytes_none, bytes_cons, bytes_both, bytes_replicate, bytes_all, bytes_if, length_if, hex_lacks, next_word, last_word, data_hex, data_block}
use Rattle.workload.proofs.WorkloadLaw.Lines.{IsAt, weaken, rx_read, send_read, in_read, say_read, disk_read, patch_read, ask_read}

-- ---- the words of lines with DATA

hex_words : (name bytes : List ℕ) → Lacks 32 name → IsBytes bytes → words_of (name ++ 32 ∷ encode_lower bytes) ≡ name ∷ encode_lower bytes ∷ []
hex_words name bytes h is =
    next_word name (encode_lower bytes) h ∙ ap (λ rest. name ∷ rest) (last_word (encode_lower bytes) (hex_lacks 32 refl bytes is))

hex_three : (name client bytes : List ℕ) → Lacks 32 name → Lacks 32 client → IsBytes bytes
    → words_of (name ++ 32 ∷ (client ++ 32 ∷ encode_lower bytes)) ≡ name ∷ client ∷ encode_lower bytes ∷ []
hex_three name client bytes h k is =
    next_word name (client ++ 32 ∷ encode_lower bytes) h ∙ ap (λ rest. name ∷ rest) (hex_words client bytes k is)

is_zero : number_of (codes "0") ≡ Some 0
unfolding number_of
is_zero = refl

is_one : number_of (codes "1") ≡ Some 1
unfolding number_of
is_one = refl

not_skipped : (c : ℕ) (rest : List ℕ) → eqb c 35 ≡ false → is_skipped (c ∷ rest) ≡ false
not_skipped c rest h = rw (not_equal (length (c ∷ rest)) 0 (λ none. omega (arith, none)), h) refl

-- ---- what the lines say

rx_says : (plan : Plan) (bytes : List ℕ) → is_some plan.net ≡ true → IsBytes bytes → 0 < length bytes → is_frame_of bytes (frame_most plan) ≡ true
    → meaning plan (codes "rx " ++ encode_lower bytes) ≡ Some (Event.Rx bytes)
unfolding rx_meaning
rx_says plan bytes net is some whole =
    meaning_words plan (codes "rx " ++ encode_lower bytes) (not_skipped 114 (drop 1 (codes "rx " ++ encode_lower bytes)) refl)
    ∙ ap (words_say plan) (hex_words (codes "rx") bytes (lacks 32 (codes "rx") refl) is)
    ∙ two_rx plan (codes "rx") (encode_lower bytes) refl
    ∙ rw (data_hex bytes is some, net, whole) refl

send_says : (plan : Plan) (bytes : List ℕ) → is_source plan 0 ≡ true → IsBytes bytes → 0 < length bytes → is_frame_of bytes (frame_most plan) ≡ true
    → meaning plan (codes "send 0 " ++ encode_lower bytes) ≡ Some (Event.Send 0 bytes)
unfolding send_meaning
send_says plan bytes source is some whole =
    meaning_words plan (codes "send 0 " ++ encode_lower bytes) (not_skipped 115 (drop 1 (codes "send 0 " ++ encode_lower bytes)) refl)
    ∙ ap (words_say plan) (hex_three (codes "send") (codes "0") bytes (lacks 32 (codes "send") refl) (lacks 32 (codes "0") refl) is)
    ∙ three_send plan (codes "send") (codes "0") (encode_lower bytes) refl
    ∙ rw (is_zero, data_hex bytes is some, source, whole) refl

in_says : (plan : Plan) (bytes : List ℕ) → is_some plan.serial ≡ true → IsBytes bytes → 0 < length bytes
    → meaning plan (codes "in " ++ encode_lower bytes) ≡ Some (Event.In bytes)
unfolding in_meaning
in_says plan bytes serial is some =
    meaning_words plan (codes "in " ++ encode_lower bytes) (not_skipped 105 (drop 1 (codes "in " ++ encode_lower bytes)) refl)
    ∙ ap (words_say plan) (hex_words (codes "in") bytes (lacks 32 (codes "in") refl) is)
    ∙ two_in plan (codes "in") (encode_lower bytes) refl refl
    ∙ rw (data_hex bytes is some, serial) refl

say_says : (plan : Plan) (bytes : List ℕ) → is_speaker plan 0 ≡ true → IsBytes bytes → 0 < length bytes
    → meaning plan (codes "say 0 " ++ encode_lower bytes) ≡ Some (Event.Say 0 bytes)
unfolding say_meaning
say_says plan bytes speaker is some =
    meaning_words plan (codes "say 0 " ++ encode_lower bytes) (not_skipped 115 (drop 1 (codes "say 0 " ++ encode_lower bytes)) refl)
    ∙ ap (words_say plan) (hex_three (codes "say") (codes "0") bytes (lacks 32 (codes "say") refl) (lacks 32 (codes "0") refl) is)
    ∙ three_say plan (codes "say") (codes "0") (encode_lower bytes) refl refl
    ∙ rw (is_zero, data_hex bytes is some, speaker) refl

-- the bytes of an entry of the partition table
abbrev patch : ℕ → ℕ → List ℕ
patch first many = 0 ∷ 0 ∷ 0 ∷ 0 ∷ 0x83 ∷ 0 ∷ 0 ∷ 0 ∷ first ∷ 0 ∷ 0 ∷ 0 ∷ many ∷ 0 ∷ 0 ∷ 0 ∷ []

first_patch : (plan : Plan) → is_some plan.blk ≡ true → meaning plan (codes "bytes 446 00000000830000000800000010000000") ≡ Some (Event.Patch 446 (patch 8 16))
unfolding meaning words_say bytes_line number_of data_of piece_of decode_pairs
first_patch plan blk = rw blk refl

second_patch : (plan : Plan) → is_some plan.blk ≡ true → meaning plan (codes "bytes 462 00000000830000001800000008000000") ≡ Some (Event.Patch 462 (patch 24 8))
unfolding meaning words_say bytes_line number_of data_of piece_of decode_pairs
second_patch plan blk = rw blk refl

last_patch : (plan : Plan) → is_some plan.blk ≡ true → meaning plan (codes "bytes 510 55aa") ≡ Some (Event.Patch 510 (0x55 ∷ 0xaa ∷ []))
unfolding meaning words_say bytes_line number_of data_of piece_of decode_pairs
last_patch plan blk = rw blk refl

disk_says : (plan : Plan) → is_some plan.blk ≡ true → meaning plan (codes "disk 64") ≡ Some (Event.Disk 64)
unfolding meaning words_say disk_line number_of
disk_says plan blk = rw blk refl

abbrev IsLow : ℕ → Type 0
IsLow block = (block ≡ 0) ⊎ (block ≡ 1)

read_low : (plan : Plan) (block : ℕ) → IsLow block → is_script plan 0 ≡ true
    → meaning plan (codes "blk 0 read " ++ (decimal block ++ codes " 1")) ≡ Some (Event.Request 0 (bare_ask Asked.Read block 1))
unfolding meaning words_say blk_read_line number_of digits
read_low plan block (inl e) there = rw (e, there) refl
read_low plan block (inr e) there = rw (e, there) refl

read_other : (plan : Plan) → is_script plan 1 ≡ true → meaning plan (codes "blk 1 read 0 1") ≡ Some (Event.Request 1 (bare_ask Asked.Read 0 1))
unfolding meaning words_say blk_read_line number_of
read_other plan there = rw there refl

low_number : (block : ℕ) → IsLow block → number_of (decimal block) ≡ Some block
unfolding number_of digits
low_number block (inl e) = rw e refl
low_number block (inr e) = rw e refl

low_lacks : (v block : ℕ) → eqb 48 v ≡ false → eqb 49 v ≡ false → IsLow block → Lacks v (decimal block)
unfolding digits
low_lacks v block a b (inl e) = rw e (lacks v (codes "0") (rw a refl))
low_lacks v block a b (inr e) = rw e (lacks v (codes "1") (rw b refl))

low_reach : (block : ℕ) → IsLow block → is_reach block 1 ≡ true
low_reach block (inl e) = rw e refl
low_reach block (inr e) = rw e refl

write_words : (block value : ℕ) → IsLow block → value < 256
    → words_of (codes "blk" ++ 32 ∷ (codes "0" ++ 32 ∷ (codes "write" ++ 32 ∷ (decimal block ++ 32 ∷ (codes "1" ++ 32 ∷ (codes "4096*" ++ encode_lower (value ∷ [])))))))
    ≡ codes "blk" ∷ codes "0" ∷ codes "write" ∷ decimal block ∷ codes "1" ∷ (codes "4096*" ++ encode_lower (value ∷ [])) ∷ []
write_words block value low small =
    let fill = codes "4096*" ++ encode_lower (value ∷ []) in
    let one = codes "1" ++ 32 ∷ fill in
    let number = decimal block ++ 32 ∷ one in
    next_word (codes "blk") (codes "0" ++ 32 ∷ (codes "write" ++ 32 ∷ number)) (lacks 32 (codes "blk") refl)
    ∙ ap (λ rest. codes "blk" ∷ rest) (next_word (codes "0") (codes "write" ++ 32 ∷ number) (lacks 32 (codes "0") refl)
    ∙ ap (λ rest. codes "0" ∷ rest) (next_word (codes "write") number (lacks 32 (codes "write") refl)
    ∙ ap (λ rest. codes "write" ∷ rest) (next_word (decimal block) one (low_lacks 32 block refl refl low)
    ∙ ap (λ rest. decimal block ∷ rest) (next_word (codes "1") fill (lacks 32 (codes "1") refl)
    ∙ ap (λ rest. codes "1" ∷ rest) (last_word fill (lacks_both 32 (codes "4096*") (encode_lower (value ∷ [])) (lacks 32 (codes "4096*") refl) (hex_lacks 32 refl (value ∷ []) (bytes_cons value [] small bytes_none))))))))

write_says : (plan : Plan) (block value : ℕ) → IsLow block → value < 256 → is_script plan 0 ≡ true
    → meaning plan (codes "blk 0 write " ++ (decimal block ++ (codes " 1 4096*" ++ encode_lower (value ∷ [])))) ≡ Some (Event.Request 0 (write_ask block 1 (replicate 4096 value)))
unfolding blk_write_line
write_says plan block value low small there =
    meaning_words plan (codes "blk 0 write " ++ (decimal block ++ (codes " 1 4096*" ++ encode_lower (value ∷ [])))) (not_skipped 98 (drop 1 (codes "blk 0 write " ++ (decimal block ++ (codes " 1 4096*" ++ encode_lower (value ∷ []))))) refl)
    ∙ ap (words_say plan) (write_words block value low small)
    ∙ six_write plan (codes "blk") (codes "0") (codes "write") (decimal block) (codes "1") (codes "4096*" ++ encode_lower (value ∷ [])) refl refl
    ∙ rw (is_zero, low_number block low, is_one, data_block value small, there, low_reach block low) refl

-- ---- frames

frame_bytes : (to from : List ℕ) (many value : ℕ) → IsBytes to → IsBytes from → value < 256 → IsBytes (frame to from many value)
frame_bytes to from many value t f v =
    let rest = replicate many value in
    bytes_both (to ++ from) (8 ∷ 0 ∷ rest) (bytes_both to from t f) (bytes_cons 8 (0 ∷ rest) (omega arith) (bytes_cons 0 rest (omega arith) (bytes_replicate many value v)))

frame_long : (to from : List ℕ) (many value : ℕ) → length to ≡ 6 → length from ≡ 6 → length (frame to from many value) ≡ 14 + many
frame_long to from many value t f =
    let rest = replicate many value in
    omega (arith, t, f, length-append (to ++ from) (8 ∷ 0 ∷ rest), length-append to from, length-replicate {A = ℕ} many value)

frame_is : (plan : Plan) (bytes : List ℕ) (many : ℕ) → 1514 ≤ frame_most plan → length bytes ≡ 14 + many → many < 64 → is_frame_of bytes (frame_most plan) ≡ true
frame_is plan bytes many longest long few =
    let least : 14 ≤ length bytes = omega (arith, long) in
    let most : length bytes ≤ frame_most plan = omega (arith, long, few, longest) in
    rw (le-leb 14 (length bytes) least, le-leb (length bytes) (frame_most plan) most) refl

destination_bytes : (i : ℕ) → IsBytes (destination i)
destination_bytes i =
    bytes_if (eqb (i % 4) 0) (station 1) _ (bytes_all (station 1) refl)
    (bytes_if (eqb (i % 4) 1) (station 2) _ (bytes_all (station 2) refl)
    (bytes_if (eqb (i % 4) 2) broadcast (station 0x63) (bytes_all broadcast refl) (bytes_all (station 0x63) refl)))

destination_long : (i : ℕ) → length (destination i) ≡ 6
destination_long i =
    length_if (eqb (i % 4) 0) (station 1) _ 6 refl (length_if (eqb (i % 4) 1) (station 2) _ 6 refl (length_if (eqb (i % 4) 2) broadcast (station 0x63) 6 refl refl))

rx_next : (plan : Plan) (text : List ℕ) → is_some plan.net ≡ true → 1514 ≤ frame_most plan → (b a d l i draw : ℕ) (rest : List ℕ) (f : ℕ) → i < 256 → f < 1024
    → IsAt plan text (rx_line i draw ++ rest) f b a d l → IsAt plan text rest (f + 1) b a d l
unfolding rx_line
rx_next plan text net longest b a d l i draw rest f byte room at =
    let bytes = frame (destination i) (station 0x99) (draw % 64) i in
    let is : IsBytes bytes = frame_bytes (destination i) (station 0x99) (draw % 64) i (destination_bytes i) (bytes_all (station 0x99) refl) byte in
    let long : length bytes ≡ 14 + draw % 64 = frame_long (destination i) (station 0x99) (draw % 64) i (destination_long i) refl in
    let whole = ap (λ rest'. codes "rx " ++ rest') (append_assoc (encode_lower bytes) (codes "\n") rest) in
    rx_read plan text (codes "rx " ++ encode_lower bytes) rest bytes f b a d l
    (lacks_both 10 (codes "rx ") (encode_lower bytes) (lacks 10 (codes "rx ") refl) (hex_lacks 10 refl bytes is))
    (rx_says plan bytes net is (omega (arith, long)) (frame_is plan bytes (draw % 64) longest long (omega arith))) room
    (subst (λ rest'. IsAt plan text rest' f b a d l) whole at)

send_next : (plan : Plan) (text : List ℕ) → is_source plan 0 ≡ true → 1514 ≤ frame_most plan → (b a d l i draw : ℕ) (rest : List ℕ) (f : ℕ) → i < 256 → f < 1024
    → IsAt plan text (send_line i draw ++ rest) f b a d l → IsAt plan text rest (f + 1) b a d l
unfolding send_line
send_next plan text source longest b a d l i draw rest f byte room at =
    let bytes = frame (station 0x99) (station 1) (draw % 64) i in
    let is : IsBytes bytes = frame_bytes (station 0x99) (station 1) (draw % 64) i (bytes_all (station 0x99) refl) (bytes_all (station 1) refl) byte in
    let long : length bytes ≡ 14 + draw % 64 = frame_long (station 0x99) (station 1) (draw % 64) i refl refl in
    let whole = ap (λ rest'. codes "send 0 " ++ rest') (append_assoc (encode_lower bytes) (codes "\n") rest) in
    send_read plan text (codes "send 0 " ++ encode_lower bytes) rest bytes 0 f b a d l
    (lacks_both 10 (codes "send 0 ") (encode_lower bytes) (lacks 10 (codes "send 0 ") refl) (hex_lacks 10 refl bytes is))
    (send_says plan bytes source is (omega (arith, long)) (frame_is plan bytes (draw % 64) longest long (omega arith))) room
    (subst (λ rest'. IsAt plan text rest' f b a d l) whole at)

-- a line of frames after another
frames_all : (plan : Plan) (text : List ℕ) (line : ℕ → ℕ → List ℕ) (b a d l : ℕ)
    → ((i draw : ℕ) (rest : List ℕ) (f : ℕ) → i < 256 → f < 1024 → IsAt plan text (line i draw ++ rest) f b a d l → IsAt plan text rest (f + 1) b a d l)
    → (draws : List ℕ) (i : ℕ) (rest : List ℕ) (f : ℕ) → i + length draws ≤ 256 → f + length draws ≤ 1024
    → IsAt plan text (numbered line i draws ++ rest) f b a d l → IsAt plan text rest (f + length draws) b a d l
unfolding numbered
frames_all plan text line b a d l step [] i rest f byte room at = weaken plan text rest f b a (f + 0) b a d l (omega arith) (omega arith) (omega arith) at
frames_all plan text line b a d l step (x ∷ xs) i rest f byte room at =
    let whole = append_assoc (line i x) (numbered line (i + 1) xs) rest in
    let next = step i x (numbered line (i + 1) xs ++ rest) f (omega (arith, byte)) (omega (arith, room)) (subst (λ rest'. IsAt plan text rest' f b a d l) whole at) in
    weaken plan text rest (f + 1 + length xs) b a (f + suc (length xs)) b a d l (omega arith) (omega arith) (omega arith)
    (frames_all plan text line b a d l step xs (i + 1) rest (f + 1) (omega (arith, byte)) (omega (arith, room)) next)

-- ---- bytes of the serial class

letters_bytes : (draws : List ℕ) → IsBytes (letters draws)
letters_bytes [] = bytes_none
letters_bytes (x ∷ xs) = bytes_cons (97 + x % 26) (letters xs) (omega arith) (letters_bytes xs)

letters_long : (draws : List ℕ) → length (letters draws) ≡ length draws
letters_long [] = refl
letters_long (x ∷ xs) = ap suc (letters_long xs)

in_next : (plan : Plan) (text : List ℕ) → is_some plan.serial ≡ true → (draws more rest : List ℕ) (f b a d l : ℕ) → length draws ≡ 1024 → length more ≡ 1024 → b ≤ 1000
    → IsAt plan text (in_line draws more ++ rest) f b a d l → IsAt plan text rest f (b + 2051) a d l
unfolding in_line
in_next plan text serial draws more rest f b a d l first second low at =
    let bytes = letters draws ++ 28 ∷ 49 ∷ 13 ∷ letters more in
    let is : IsBytes bytes = bytes_both (letters draws) (28 ∷ 49 ∷ 13 ∷ letters more) (letters_bytes draws)
    (bytes_cons 28 (49 ∷ 13 ∷ letters more) (omega arith) (bytes_cons 49 (13 ∷ letters more) (omega arith) (bytes_cons 13 (letters more) (omega arith) (letters_bytes more)))) in
    let long : length bytes ≡ 2051 = omega (arith, length-append (letters draws) (28 ∷ 49 ∷ 13 ∷ letters more), letters_long draws, letters_long more, first, second) in
    let whole = ap (λ rest'. codes "in " ++ rest') (append_assoc (encode_lower bytes) (codes "\n") rest) in
    weaken plan text rest f (b + length bytes) a f (b + 2051) a d l (omega arith) (omega (arith, long)) (omega arith)
    (in_read plan text (codes "in " ++ encode_lower bytes) rest bytes f b a d l
    (lacks_both 10 (codes "in ") (encode_lower bytes) (lacks 10 (codes "in ") refl) (hex_lacks 10 refl bytes is))
    (in_says plan bytes serial is (omega (arith, long))) (omega (arith, long, low))
    (subst (λ rest'. IsAt plan text rest' f b a d l) whole at))

say_next : (plan : Plan) (text : List ℕ) → is_speaker plan 0 ≡ true → (draws rest : List ℕ) (f b a d l : ℕ) → length draws ≡ 512 → b ≤ 10000
    → IsAt plan text (say_line draws ++ rest) f b a d l → IsAt plan text rest f (b + 512) a d l
unfolding say_line
say_next plan text speaker draws rest f b a d l many low at =
    let bytes = letters draws in
    let is : IsBytes bytes = letters_bytes draws in
    let long : length bytes ≡ 512 = letters_long draws ∙ many in
    let whole = ap (λ rest'. codes "say 0 " ++ rest') (append_assoc (encode_lower bytes) (codes "\n") rest) in
    weaken plan text rest f (b + length bytes) a f (b + 512) a d l (omega arith) (omega (arith, long)) (omega arith)
    (say_read plan text (codes "say 0 " ++ encode_lower bytes) rest bytes 0 f b a d l
    (lacks_both 10 (codes "say 0 ") (encode_lower bytes) (lacks 10 (codes "say 0 ") refl) (hex_lacks 10 refl bytes is))
    (say_says plan bytes speaker is (omega (arith, long))) (omega (arith, long, low))
    (subst (λ rest'. IsAt plan text rest' f b a d l) whole at))

-- ---- the disk and its requests

disk_next : (plan : Plan) (text : List ℕ) → is_some plan.blk ≡ true → (rest : List ℕ) (f b a l : ℕ) → IsAt plan text (disk_lines ++ rest) f b a 0 l → IsAt plan text rest f b a 1 32768
unfolding disk_lines
disk_next plan text blk rest f b a l at =
    let fourth = codes "bytes 510 55aa" ++ 10 ∷ rest in
    let third = codes "bytes 462 00000000830000001800000008000000" ++ 10 ∷ fourth in
    let second = codes "bytes 446 00000000830000000800000010000000" ++ 10 ∷ third in
    patch_read plan text (codes "bytes 510 55aa") rest (0x55 ∷ 0xaa ∷ []) 510 f b a (lacks 10 (codes "bytes 510 55aa") refl) (last_patch plan blk) (omega arith)
    (patch_read plan text (codes "bytes 462 00000000830000001800000008000000") fourth (patch 24 8) 462 f b a (lacks 10 (codes "bytes 462 00000000830000001800000008000000") refl) (second_patch plan blk) (omega arith)
    (patch_read plan text (codes "bytes 446 00000000830000000800000010000000") third (patch 8 16) 446 f b a (lacks 10 (codes "bytes 446 00000000830000000800000010000000") refl) (first_patch plan blk) (omega arith)
    (disk_read plan text (codes "disk 64") second f b a l (lacks 10 (codes "disk 64") refl) (disk_says plan blk) at)))

low_block : (draw : ℕ) → IsLow (draw % 2)
low_block draw = elim (cases_lt (draw % 2) 1) [
  | inl low ↦ inl (omega (arith, low))
  | inr high ↦ inr (omega (arith, high))
]

write_next : (plan : Plan) (text : List ℕ) → is_script plan 0 ≡ true → (f b d l block value : ℕ) (rest : List ℕ) (a : ℕ) → IsLow block → value < 256 → a < 1024
    → IsAt plan text (write_line block value ++ rest) f b a d l → IsAt plan text rest f b (a + 1) d l
unfolding write_line
write_next plan text there f b d l block value rest a low small room at =
    let fill = encode_lower (value ∷ []) in
    let word = decimal block in
    let is : IsBytes (value ∷ []) = bytes_cons value [] small bytes_none in
    let line = codes "blk 0 write " ++ (word ++ (codes " 1 4096*" ++ fill)) in
    let inner = ap (λ rest'. codes " 1 4096*" ++ rest') (append_assoc fill (codes "\n") rest) in
    let middle = append_assoc word (codes " 1 4096*" ++ (fill ++ codes "\n")) rest ∙ ap (λ rest'. word ++ rest') inner in
    let back = append_assoc word (codes " 1 4096*" ++ fill) (10 ∷ rest) in
    let whole = ap (λ rest'. codes "blk 0 write " ++ rest') (middle ∙ sym back) in
    ask_read plan text line rest 0 (write_ask block 1 (replicate 4096 value)) f b a d l
    (lacks_both 10 (codes "blk 0 write ") (word ++ (codes " 1 4096*" ++ fill)) (lacks 10 (codes "blk 0 write ") refl)
    (lacks_both 10 word (codes " 1 4096*" ++ fill) (low_lacks 10 block refl refl low) (lacks_both 10 (codes " 1 4096*") fill (lacks 10 (codes " 1 4096*") refl) (hex_lacks 10 refl (value ∷ []) is))))
    (write_says plan block value low small there) room (subst (λ rest'. IsAt plan text rest' f b a d l) whole at)

read_next : (plan : Plan) (text : List ℕ) → is_script plan 0 ≡ true → (f b d l block : ℕ) (rest : List ℕ) (a : ℕ) → IsLow block → a < 1024
    → IsAt plan text (read_line block ++ rest) f b a d l → IsAt plan text rest f b (a + 1) d l
unfolding read_line
read_next plan text there f b d l block rest a low room at =
    let word = decimal block in
    let line = codes "blk 0 read " ++ (word ++ codes " 1") in
    let whole = ap (λ rest'. codes "blk 0 read " ++ rest') (append_assoc word (codes " 1\n") rest ∙ sym (append_assoc word (codes " 1") (10 ∷ rest))) in
    ask_read plan text line rest 0 (bare_ask Asked.Read block 1) f b a d l
    (lacks_both 10 (codes "blk 0 read ") (word ++ codes " 1") (lacks 10 (codes "blk 0 read ") refl)
    (lacks_both 10 word (codes " 1") (low_lacks 10 block refl refl low) (lacks 10 (codes " 1") refl)))
    (read_low plan block low there) room (subst (λ rest'. IsAt plan text rest' f b a d l) whole at)

asks_next : (plan : Plan) (text : List ℕ) → HasClients plan → (f b d l i draw : ℕ) (rest : List ℕ) (a : ℕ) → i < 256 → a + 3 ≤ 1024
    → IsAt plan text (blk_lines i draw ++ rest) f b a d l → IsAt plan text rest f b (a + 1 + 1 + 1) d l
unfolding blk_lines
asks_next plan text has f b d l i draw rest a byte room at =
    let block = draw % 2 in
    let other = codes "blk 1 read 0 1\n" in
    let whole = append_assoc (write_line block i) (read_line block ++ other) rest ∙ ap (λ rest'. write_line block i ++ rest') (append_assoc (read_line block) other rest) in
    let first = write_next plan text has.first_disk f b d l block i (read_line block ++ (other ++ rest)) a (low_block draw) byte (omega (arith, room)) (subst (λ rest'. IsAt plan text rest' f b a d l) whole at) in
    let second = read_next plan text has.first_disk f b d l block (other ++ rest) (a + 1) (low_block draw) (omega (arith, room)) first in
    ask_read plan text (codes "blk 1 read 0 1") rest 1 (bare_ask Asked.Read 0 1) f b (a + 1 + 1) d l (lacks 10 (codes "blk 1 read 0 1") refl) (read_other plan has.second_disk) (omega (arith, room)) second

asks_all : (plan : Plan) (text : List ℕ) → HasClients plan → (f b d l : ℕ) (draws : List ℕ) (i : ℕ) (rest : List ℕ) (a : ℕ) → i + length draws ≤ 256 → a + 3 * length draws ≤ 1024
    → IsAt plan text (numbered blk_lines i draws ++ rest) f b a d l → IsAt plan text rest f b (a + 3 * length draws) d l
unfolding numbered
asks_all plan text has f b d l [] i rest a byte room at = weaken plan text rest f b a f b (a + 3 * 0) d l (omega arith) (omega arith) (omega arith) at
asks_all plan text has f b d l (x ∷ xs) i rest a byte room at =
    let whole = append_assoc (blk_lines i x) (numbered blk_lines (i + 1) xs) rest in
    let next = asks_next plan text has f b d l i x (numbered blk_lines (i + 1) xs ++ rest) a (omega (arith, byte)) (omega (arith, room)) (subst (λ rest'. IsAt plan text rest' f b a d l) whole at) in
    weaken plan text rest f b (a + 1 + 1 + 1 + 3 * length xs) f b (a + 3 * suc (length xs)) d l (omega arith) (omega arith) (omega arith)
    (asks_all plan text has f b d l xs (i + 1) rest (a + 1 + 1 + 1) (omega (arith, byte)) (omega (arith, room)) next)

-- ---- the whole trace

drawn_long : (x n : ℕ) → length (drawn x n) ≡ n
unfolding drawn
drawn_long x zero = refl
drawn_long x (suc n) = ap suc (drawn_long (next_seed x) n)

begin : (plan : Plan) (text : List ℕ) → IsAt plan text text 0 0 0 0 0
unfolding trace_from
begin plan text = record {
  number = 0;
  reader = reader_after plan [];
  so_far = so_far_none plan text (reader_after plan []) refl;
  frames_most = omega arith;
  bytes_most = omega arith;
  asks_most = omega arith;
  disks_are = refl;
  image = refl;
}

finish : (plan : Plan) (text : List ℕ) (f b a l : ℕ) → IsAt plan text [] f b a 1 l → HasNoBadLine plan text
finish plan text f b a l at =
    so_far_good plan text at.number at.reader at.so_far
    (and_right (is_some plan.blk) (eqb at.reader.disk_lines 0) (not_equal at.reader.disk_lines 0 (λ none. (let one = at.disks_are in omega (arith, none, one)))))

generated_is : (n : ℕ) → generated_text n ≡ numbered rx_line 0 (drawn_behind 0 n 256) ++ (numbered send_line 0 (drawn_behind 256 n 32)
    ++ (in_line (drawn_behind 288 n 1024) (drawn_behind 1312 n 1024) ++ (say_line (drawn_behind 2336 n 512) ++ (disk_lines ++ (numbered blk_lines 0 (drawn_behind 2848 n 32) ++ [])))))
unfolding generated_text
generated_is n =
    ap (λ last. numbered rx_line 0 (drawn_behind 0 n 256) ++ (numbered send_line 0 (drawn_behind 256 n 32)
    ++ (in_line (drawn_behind 288 n 1024) (drawn_behind 1312 n 1024) ++ (say_line (drawn_behind 2336 n 512) ++ (disk_lines ++ last)))))
    (sym (append-nil (numbered blk_lines 0 (drawn_behind 2848 n 32))))

pub generated_good : (plan : Plan) (n : ℕ) → HasClients plan → HasNoBadLine plan (generated_text n)
generated_good plan n has =
    let text = generated_text n in
    let frames = drawn_behind 0 n 256 in
    let sends = drawn_behind 256 n 32 in
    let input = drawn_behind 288 n 1024 in
    let more = drawn_behind 1312 n 1024 in
    let said = drawn_behind 2336 n 512 in
    let asks = drawn_behind 2848 n 32 in
    let last : List ℕ = numbered blk_lines 0 asks ++ [] in
    let whole : text ≡ numbered rx_line 0 frames ++ (numbered send_line 0 sends ++ (in_line input more ++ (say_line said ++ (disk_lines ++ last)))) = generated_is n in
    let at_0 = subst (λ rest. IsAt plan text rest 0 0 0 0 0) whole (begin plan text) in
    let many_0 : length frames ≡ 256 = drawn_long _ 256 in
    let many_1 : length sends ≡ 32 = drawn_long _ 32 in
    let many_2 : length asks ≡ 32 = drawn_long _ 32 in
    let at_1 = frames_all plan text rx_line 0 0 0 0 (rx_next plan text has.net has.longest 0 0 0 0) frames 0 (numbered send_line 0 sends ++ (in_line input more ++ (say_line said ++ (disk_lines ++ last)))) 0 (omega (arith, many_0)) (omega (arith, many_0)) at_0 in
    let at_2 = frames_all plan text send_line 0 0 0 0 (send_next plan text has.source has.longest 0 0 0 0) sends 0 (in_line input more ++ (say_line said ++ (disk_lines ++ last))) (0 + length frames) (omega (arith, many_1)) (omega (arith, many_0, many_1)) at_1 in
    let f = 0 + length frames + length sends in
    let at_3 = in_next plan text has.serial input more (say_line said ++ (disk_lines ++ last)) f 0 0 0 0 (drawn_long _ 1024) (drawn_long _ 1024) (omega arith) at_2 in
    let at_4 = say_next plan text has.speaker said (disk_lines ++ last) f (0 + 2051) 0 0 0 (drawn_long _ 512) (omega arith) at_3 in
    let at_5 = disk_next plan text has.blk last f (0 + 2051 + 512) 0 0 at_4 in
    let at_6 = asks_all plan text has f (0 + 2051 + 512) 1 32768 asks 0 [] 0 (omega (arith, many_2)) (omega (arith, many_2)) at_5 in
    finish plan text f (0 + 2051 + 512) (0 + 3 * length asks) 32768 at_6

-- ---- the length of the trace

rx_long : (i draw : ℕ) → length (rx_line i draw) ≤ 200
unfolding rx_line
rx_long i draw =
    let bytes = frame (destination i) (station 0x99) (draw % 64) i in
    let long : length bytes ≡ 14 + draw % 64 = frame_long (destination i) (station 0x99) (draw % 64) i (destination_long i) refl in
    omega (arith, long, length-append (encode_lower bytes) (codes "\n"), length-encode_with lower_digits bytes)

send_long : (i draw : ℕ) → length (send_line i draw) ≤ 200
unfolding send_line
send_long i draw =
    let bytes = frame (station 0x99) (station 1) (draw % 64) i in
    let long : length bytes ≡ 14 + draw % 64 = frame_long (station 0x99) (station 1) (draw % 64) i refl refl in
    omega (arith, long, length-append (encode_lower bytes) (codes "\n"), length-encode_with lower_digits bytes)

low_long : (block : ℕ) → IsLow block → length (decimal block) ≡ 1
unfolding digits
low_long block (inl e) = rw e refl
low_long block (inr e) = rw e refl

write_long : (block value : ℕ) → IsLow block → length (write_line block value) ≤ 50
unfolding write_line
write_long block value low =
    let fill = encode_lower (value ∷ []) in
    let word = decimal block in
    omega (arith, low_long block low, length-append word (codes " 1 4096*" ++ (fill ++ codes "\n")), length-append fill (codes "\n"), length-encode_with lower_digits (value ∷ []))

read_long : (block : ℕ) → IsLow block → length (read_line block) ≤ 50
unfolding read_line
read_long block low = let word = decimal block in omega (arith, low_long block low, length-append word (codes " 1\n"))

asks_long : (i draw : ℕ) → length (blk_lines i draw) ≤ 200
unfolding blk_lines
asks_long i draw =
    let block = draw % 2 in
    let other = codes "blk 1 read 0 1\n" in
    omega (arith, write_long block i (low_block draw), read_long block (low_block draw), length-append (write_line block i) (read_line block ++ other), length-append (read_line block) other)

numbered_long : (line : ℕ → ℕ → List ℕ) → ((i draw : ℕ) → length (line i draw) ≤ 200) → (i : ℕ) (draws : List ℕ) → length (numbered line i draws) ≤ 200 * length draws
unfolding numbered
numbered_long line long i [] = omega arith
numbered_long line long i (x ∷ xs) = omega (arith, long i x, numbered_long line long (i + 1) xs, length-append (line i x) (numbered line (i + 1) xs))

in_long : (draws more : List ℕ) → length draws ≡ 1024 → length more ≡ 1024 → length (in_line draws more) ≤ 5000
unfolding in_line
in_long draws more first second =
    let bytes = letters draws ++ 28 ∷ 49 ∷ 13 ∷ letters more in
    let long : length bytes ≡ 2051 = omega (arith, length-append (letters draws) (28 ∷ 49 ∷ 13 ∷ letters more), letters_long draws, letters_long more, first, second) in
    omega (arith, long, length-append (encode_lower bytes) (codes "\n"), length-encode_with lower_digits bytes)

say_long : (draws : List ℕ) → length draws ≡ 512 → length (say_line draws) ≤ 5000
unfolding say_line
say_long draws many =
    let long : length (letters draws) ≡ 512 = letters_long draws ∙ many in
    omega (arith, long, length-append (encode_lower (letters draws)) (codes "\n"), length-encode_with lower_digits (letters draws))

disk_long : length disk_lines ≤ 200
unfolding disk_lines
disk_long = omega arith

pub generated_short : (n : ℕ) → length (generated_text n) ≤ text_most
unfolding generated_text
generated_short n =
    let frames = drawn_behind 0 n 256 in
    let sends = drawn_behind 256 n 32 in
    let input = drawn_behind 288 n 1024 in
    let more = drawn_behind 1312 n 1024 in
    let said = drawn_behind 2336 n 512 in
    let asks = drawn_behind 2848 n 32 in
    let last = numbered blk_lines 0 asks in
    omega (
      arith,
      numbered_long rx_line rx_long 0 frames,
      numbered_long send_line send_long 0 sends,
      numbered_long blk_lines asks_long 0 asks,
      drawn_long (moved n 0) 256,
      drawn_long (moved n 256) 32,
      drawn_long (moved n 2848) 32,
      in_long input more (drawn_long (moved n 288) 1024) (drawn_long (moved n 1312) 1024),
      say_long said (drawn_long (moved n 2336) 512),
      disk_long,
      length-append (numbered rx_line 0 frames) (numbered send_line 0 sends ++ (in_line input more ++ (say_line said ++ (disk_lines ++ last)))),
      length-append (numbered send_line 0 sends) (in_line input more ++ (say_line said ++ (disk_lines ++ last))),
      length-append (in_line input more) (say_line said ++ (disk_lines ++ last)),
      length-append (say_line said) (disk_lines ++ last),
      length-append disk_lines last,
    )
