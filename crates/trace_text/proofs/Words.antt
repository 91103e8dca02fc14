use Rattle.std.proofs.Common.{◌≡◌, ℕ, true, false, eqb, List, [], ◌∷◌, length, Some, None, codes, refl, ◌∙◌}
use Rattle.sdf_plan.specs.declared.plan.Plan.{Plan}
use Rattle.line_text.specs.Texts.{parts_of, words_of, lines_of, same_text, is_skipped}
use Rattle.trace_text.specs.Events.{Event, words_say, meaning, rx_line, in_line, send_line, say_line, disk_line, bytes_line, blk_order_line, blk_read_line, blk_write_line, blk_line, rogue_line}
use Rattle.line_text.proofs.Pieces.{parts_cons}

pub meaning_skipped : (plan : Plan) (line : List ℕ) → is_skipped line ≡ true → meaning plan line ≡ Some Event.Skipped
unfolding meaning
meaning_skipped plan line h = rw h refl

pub meaning_words : (plan : Plan) (line : List ℕ) → is_skipped line ≡ false → meaning plan line ≡ words_say plan (words_of line)
unfolding meaning
meaning_words plan line h = rw h refl

pub one_word : (plan : Plan) (a : List ℕ) → words_say plan (a ∷ []) ≡ None
unfolding words_say
one_word plan a = refl

pub two_rx : (plan : Plan) (name a : List ℕ) → same_text name (codes "rx") ≡ true → words_say plan (name ∷ a ∷ []) ≡ rx_line plan a
unfolding words_say
two_rx plan name a h = rw h refl

pub two_in : (plan : Plan) (name a : List ℕ) → same_text name (codes "rx") ≡ false → same_text name (codes "in") ≡ true → words_say plan (name ∷ a ∷ []) ≡ in_line plan a
unfolding words_say
two_in plan name a h i = rw (h, i) refl

pub two_disk : (plan : Plan) (name a : List ℕ) → same_text name (codes "rx") ≡ false → same_text name (codes "in") ≡ false → same_text name (codes "disk") ≡ true
    → words_say plan (name ∷ a ∷ []) ≡ disk_line plan a
unfolding words_say
two_disk plan name a h i j = rw (h, i, j) refl

pub two_other : (plan : Plan) (name a : List ℕ) → same_text name (codes "rx") ≡ false → same_text name (codes "in") ≡ false → same_text name (codes "disk") ≡ false
    → words_say plan (name ∷ a ∷ []) ≡ None
unfolding words_say
two_other plan name a h i j = rw (h, i, j) refl

pub three_send : (plan : Plan) (name a b : List ℕ) → same_text name (codes "send") ≡ true → words_say plan (name ∷ a ∷ b ∷ []) ≡ send_line plan a b
unfolding words_say
three_send plan name a b h = rw h refl

pub three_say : (plan : Plan) (name a b : List ℕ) → same_text name (codes "send") ≡ false → same_text name (codes "say") ≡ true → words_say plan (name ∷ a ∷ b ∷ []) ≡ say_line plan a b
unfolding words_say
three_say plan name a b h i = rw (h, i) refl

pub three_bytes : (plan : Plan) (name a b : List ℕ) → same_text name (codes "send") ≡ false → same_text name (codes "say") ≡ false → same_text name (codes "bytes") ≡ true
    → words_say plan (name ∷ a ∷ b ∷ []) ≡ bytes_line plan a b
unfolding words_say
three_bytes plan name a b h i j = rw (h, i, j) refl

pub three_blk : (plan : Plan) (name a b : List ℕ) → same_text name (codes "send") ≡ false → same_text name (codes "say") ≡ false → same_text name (codes "bytes") ≡ false
    → same_text name (codes "blk") ≡ true → words_say plan (name ∷ a ∷ b ∷ []) ≡ blk_order_line plan a b
unfolding words_say
three_blk plan name a b h i j k = rw (h, i, j, k) refl

pub three_other : (plan : Plan) (name a b : List ℕ) → same_text name (codes "send") ≡ false → same_text name (codes "say") ≡ false → same_text name (codes "bytes") ≡ false
    → same_text name (codes "blk") ≡ false → words_say plan (name ∷ a ∷ b ∷ []) ≡ None
unfolding words_say
three_other plan name a b h i j k = rw (h, i, j, k) refl

-- a line of four words or more
blk_named : (plan : Plan) (name a b c : List ℕ) (more : List (List ℕ)) → same_text name (codes "blk") ≡ true → words_say plan (name ∷ a ∷ b ∷ c ∷ more) ≡ blk_line plan a b (c ∷ more)
unfolding words_say
blk_named plan name a b c more h = rw h refl

rogue_named : (plan : Plan) (name a b c : List ℕ) (more : List (List ℕ)) → same_text name (codes "blk") ≡ false → same_text name (codes "rogue") ≡ true
    → words_say plan (name ∷ a ∷ b ∷ c ∷ more) ≡ rogue_line plan a b (c ∷ more)
unfolding words_say
rogue_named plan name a b c more h i = rw (h, i) refl

other_named : (plan : Plan) (name a b c : List ℕ) (more : List (List ℕ)) → same_text name (codes "blk") ≡ false → same_text name (codes "rogue") ≡ false
    → words_say plan (name ∷ a ∷ b ∷ c ∷ more) ≡ None
unfolding words_say
other_named plan name a b c more h i = rw (h, i) refl

pub long_blk : (plan : Plan) (name a b text : List ℕ) → same_text name (codes "blk") ≡ true → words_say plan (name ∷ a ∷ b ∷ words_of text) ≡ blk_line plan a b (words_of text)
long_blk plan name a b text h =
    let more = parts_cons (λ x. eqb x 32) text in
    rw more.2 (blk_named plan name a b more.0 more.1 h)

pub long_rogue : (plan : Plan) (name a b text : List ℕ) → same_text name (codes "blk") ≡ false → same_text name (codes "rogue") ≡ true
    → words_say plan (name ∷ a ∷ b ∷ words_of text) ≡ rogue_line plan a b (words_of text)
long_rogue plan name a b text h i =
    let more = parts_cons (λ x. eqb x 32) text in
    rw more.2 (rogue_named plan name a b more.0 more.1 h i)

pub long_other : (plan : Plan) (name a b text : List ℕ) → same_text name (codes "blk") ≡ false → same_text name (codes "rogue") ≡ false
    → words_say plan (name ∷ a ∷ b ∷ words_of text) ≡ None
long_other plan name a b text h i =
    let more = parts_cons (λ x. eqb x 32) text in
    rw more.2 (other_named plan name a b more.0 more.1 h i)

pub blk_read : (plan : Plan) (a b c d : List ℕ) → same_text b (codes "read") ≡ true → blk_line plan a b (c ∷ d ∷ []) ≡ blk_read_line plan a c d
blk_read plan a b c d h = rw h refl

pub blk_not_read : (plan : Plan) (a b c d : List ℕ) → same_text b (codes "read") ≡ false → blk_line plan a b (c ∷ d ∷ []) ≡ None
blk_not_read plan a b c d h = rw h refl

pub blk_write : (plan : Plan) (a b c d e : List ℕ) → same_text b (codes "write") ≡ true → blk_line plan a b (c ∷ d ∷ e ∷ []) ≡ blk_write_line plan a c d e
blk_write plan a b c d e h = rw h refl

pub six_write : (plan : Plan) (name a b c d e : List ℕ) → same_text name (codes "blk") ≡ true → same_text b (codes "write") ≡ true
    → words_say plan (name ∷ a ∷ b ∷ c ∷ d ∷ e ∷ []) ≡ blk_write_line plan a c d e
six_write plan name a b c d e h i = blk_named plan name a b c (d ∷ e ∷ []) h ∙ blk_write plan a b c d e i

-- the words of a `blk` line are too many
pub blk_too_many : (plan : Plan) (a b c d e text : List ℕ) → blk_line plan a b (c ∷ d ∷ e ∷ words_of text) ≡ None
blk_too_many plan a b c d e text =
    let more = parts_cons (λ x. eqb x 32) text in
    rw more.2 refl

-- a `blk` line of six words or more that isn't a write
six_other : (plan : Plan) (a b c d e : List ℕ) (more : List (List ℕ)) → same_text b (codes "write") ≡ false → blk_line plan a b (c ∷ d ∷ e ∷ more) ≡ None
six_other plan a b c d e [] h = rw h refl
six_other plan a b c d e (f ∷ more) h = refl

pub blk_not_write : (plan : Plan) (a b c d text : List ℕ) → same_text b (codes "write") ≡ false → blk_line plan a b (c ∷ d ∷ words_of text) ≡ None
blk_not_write plan a b c d text h =
    let more = parts_cons (λ x. eqb x 32) text in
    rw more.2 (six_other plan a b c d more.0 more.1 h)
