use Rattle.std.proofs.Common.{◌≡◌, ℕ, ◌≤◌, true, false, eqb, List, [], ◌∷◌, length, Some, None, codes, refl}
use Rattle.std.proofs.lemmas.Option.{slice_get_past}
use Rattle.cargo_core.specs.declared.act.Act.{Act}
use Rattle.cargo_core.specs.declared.act.Act.TheVariants as Does
use Rattle.cargo_core.specs.declared.act.Word.{Word}
use Rattle.sdf_plan.specs.declared.plan.Plan.{Plan}
use Rattle.trace_text.specs.declared.class.Class.{Class}
use Rattle.trace_text.specs.declared.class.Class.TheVariants as Of
use Rattle.trace_text.specs.declared.reader.Reader.{Reader}
use Rattle.line_text.specs.Texts.{number_of, words_of, same_text}
use Rattle.trace_text.specs.Events.{Event, number_where, is_input, is_output, is_queue, is_place, is_value, word_named, class_of, take_said, put_said, give_said, store_said, act_said, net_clients, serial_clients, blk_clients, is_net_rogue, is_serial_rogue, is_blk_rogue, is_rogue, rogue_line}
use Rattle.trace_text.specs.Reading.{HasLists, clients_in, after_line, is_refused, reader_with}
use Rattle.trace_text.specs.Traces.{acts_in_class}
use Rattle.trace_text.proofs.Judged.{Fails, judged_none, number_none, kept_none, kept_taken}
use Rattle.line_text.proofs.Pieces.{parts_cons}

-- four words or more aren't three
pub four_words : (text rest third last a b d : List ℕ) → words_of text ≡ a ∷ words_of rest → words_of rest ≡ b ∷ words_of third → words_of third ≡ d ∷ words_of last
    → (x y z : List ℕ) → words_of text ≡ x ∷ y ∷ z ∷ [] → ⊥
four_words text rest third last a b d h i j x y z is =
    let more = parts_cons (λ c. eqb c 32) last in
    let all : a ∷ b ∷ d ∷ more.0 ∷ more.1 ≡ x ∷ y ∷ z ∷ [] = rw (h, i, j, more.2) at is in
    cc

-- what the words of each act say
take_two : (class : Class) (k a : List ℕ) (more : List (List ℕ)) → take_said class (k ∷ a ∷ more) ≡ None
unfolding take_said
take_two class k a more = refl

pub take_more : (class : Class) (k text : List ℕ) → take_said class (k ∷ words_of text) ≡ None
take_more class k text =
    let more = parts_cons (λ x. eqb x 32) text in
    rw more.2 (take_two class k more.0 more.1)

pub take_none : (class : Class) (k : List ℕ) → number_where (is_input class) k ≡ None → take_said class (k ∷ []) ≡ None
unfolding take_said
take_none class k h = rw h refl

pub take_all : (class : Class) (k : List ℕ) (q : ℕ) → number_where (is_input class) k ≡ Some q → take_said class (k ∷ []) ≡ Some (Does.Take q)
unfolding take_said
take_all class k q h = rw h refl

pub put_other : (class : Class) (words : List (List ℕ)) → ((a b c : List ℕ) → words ≡ a ∷ b ∷ c ∷ [] → ⊥) → put_said class words ≡ None
unfolding put_said
put_other class [] h = refl
put_other class (a ∷ []) h = refl
put_other class (a ∷ b ∷ []) h = refl
put_other class (a ∷ b ∷ c ∷ []) h = absurd (h a b c refl)
put_other class (a ∷ b ∷ c ∷ d ∷ more) h = refl

pub give_one : (class : Class) (k : List ℕ) → give_said class (k ∷ []) ≡ None
unfolding give_said
give_one class k = refl

pub give_other : (class : Class) (k : List ℕ) (words : List (List ℕ)) → ((a b c : List ℕ) → words ≡ a ∷ b ∷ c ∷ [] → ⊥) → give_said class (k ∷ words) ≡ None
unfolding give_said
give_other class k [] h = refl
give_other class k (a ∷ []) h = refl
give_other class k (a ∷ b ∷ []) h = refl
give_other class k (a ∷ b ∷ c ∷ []) h = absurd (h a b c refl)
give_other class k (a ∷ b ∷ c ∷ d ∷ more) h = refl

pub store_other : (class : Class) (words : List (List ℕ)) → ((a b c : List ℕ) → words ≡ a ∷ b ∷ c ∷ [] → ⊥) → store_said class words ≡ None
unfolding store_said
store_other class [] h = refl
store_other class (a ∷ []) h = refl
store_other class (a ∷ b ∷ []) h = refl
store_other class (a ∷ b ∷ c ∷ []) h = absurd (h a b c refl)
store_other class (a ∷ b ∷ c ∷ d ∷ more) h = refl

pub put_queue : (class : Class) (k a l : List ℕ) → number_where (is_output class) k ≡ None → put_said class (k ∷ a ∷ l ∷ []) ≡ None
unfolding put_said
put_queue class k a l h0 = rw (h0) refl

pub put_address : (class : Class) (k a l : List ℕ) (q : ℕ) → number_where (is_output class) k ≡ Some q → number_where is_value a ≡ None → put_said class (k ∷ a ∷ l ∷ []) ≡ None
unfolding put_said
put_address class k a l q h0 h1 = rw (h0, h1) refl

pub put_long : (class : Class) (k a l : List ℕ) (q : ℕ) (address : ℕ) → number_where (is_output class) k ≡ Some q → number_where is_value a ≡ Some address → number_where is_value l ≡ None → put_said class (k ∷ a ∷ l ∷ []) ≡ None
unfolding put_said
put_long class k a l q address h0 h1 h2 = rw (h0, h1, h2) refl

pub put_all : (class : Class) (k a l : List ℕ) (q : ℕ) (address : ℕ) (long : ℕ) → number_where (is_output class) k ≡ Some q → number_where is_value a ≡ Some address → number_where is_value l ≡ Some long → put_said class (k ∷ a ∷ l ∷ []) ≡ Some (Does.Put q address long)
unfolding put_said
put_all class k a l q address long h0 h1 h2 = rw (h0, h1, h2) refl

pub give_queue : (class : Class) (k p a l : List ℕ) → number_where (is_output class) k ≡ None → give_said class (k ∷ p ∷ a ∷ l ∷ []) ≡ None
unfolding give_said
give_queue class k p a l h0 = rw (h0) refl

pub give_place : (class : Class) (k p a l : List ℕ) (q : ℕ) → number_where (is_output class) k ≡ Some q → number_where is_place p ≡ None → give_said class (k ∷ p ∷ a ∷ l ∷ []) ≡ None
unfolding give_said
give_place class k p a l q h0 h1 = rw (h0, h1) refl

pub give_address : (class : Class) (k p a l : List ℕ) (q : ℕ) (place : ℕ) → number_where (is_output class) k ≡ Some q → number_where is_place p ≡ Some place → number_where is_value a ≡ None → give_said class (k ∷ p ∷ a ∷ l ∷ []) ≡ None
unfolding give_said
give_address class k p a l q place h0 h1 h2 = rw (h0, h1, h2) refl

pub give_long : (class : Class) (k p a l : List ℕ) (q : ℕ) (place : ℕ) (address : ℕ) → number_where (is_output class) k ≡ Some q → number_where is_place p ≡ Some place → number_where is_value a ≡ Some address → number_where is_value l ≡ None → give_said class (k ∷ p ∷ a ∷ l ∷ []) ≡ None
unfolding give_said
give_long class k p a l q place address h0 h1 h2 h3 = rw (h0, h1, h2, h3) refl

pub give_all : (class : Class) (k p a l : List ℕ) (q : ℕ) (place : ℕ) (address : ℕ) (long : ℕ) → number_where (is_output class) k ≡ Some q → number_where is_place p ≡ Some place → number_where is_value a ≡ Some address → number_where is_value l ≡ Some long → give_said class (k ∷ p ∷ a ∷ l ∷ []) ≡ Some (Does.Give q place address long)
unfolding give_said
give_all class k p a l q place address long h0 h1 h2 h3 = rw (h0, h1, h2, h3) refl

pub store_queue : (class : Class) (k w v : List ℕ) → number_where (is_queue class) k ≡ None → store_said class (k ∷ w ∷ v ∷ []) ≡ None
unfolding store_said
store_queue class k w v h0 = rw (h0) refl

pub store_word : (class : Class) (k w v : List ℕ) (q : ℕ) → number_where (is_queue class) k ≡ Some q → word_named w ≡ None → store_said class (k ∷ w ∷ v ∷ []) ≡ None
unfolding store_said
store_word class k w v q h0 h1 = rw (h0, h1) refl

pub store_value : (class : Class) (k w v : List ℕ) (q : ℕ) (word : Word) → number_where (is_queue class) k ≡ Some q → word_named w ≡ Some word → number_where is_value v ≡ None → store_said class (k ∷ w ∷ v ∷ []) ≡ None
unfolding store_said
store_value class k w v q word h0 h1 h2 = rw (h0, h1, h2) refl

pub store_all : (class : Class) (k w v : List ℕ) (q : ℕ) (word : Word) (value : ℕ) → number_where (is_queue class) k ≡ Some q → word_named w ≡ Some word → number_where is_value v ≡ Some value → store_said class (k ∷ w ∷ v ∷ []) ≡ Some (Does.Store q word value)
unfolding store_said
store_all class k w v q word value h0 h1 h2 = rw (h0, h1, h2) refl

take_named : (class : Class) (name k : List ℕ) (more : List (List ℕ)) → same_text name (codes "take") ≡ true → act_said class (name ∷ k ∷ more) ≡ take_said class (k ∷ more)
unfolding act_said
take_named class name k more h0 = rw h0 refl

pub act_take : (class : Class) (name text : List ℕ) → same_text name (codes "take") ≡ true → act_said class (name ∷ words_of text) ≡ take_said class (words_of text)
act_take class name text h0 =
    let more = parts_cons (λ x. eqb x 32) text in
    rw more.2 (take_named class name more.0 more.1 h0)

put_named : (class : Class) (name k : List ℕ) (more : List (List ℕ)) → same_text name (codes "take") ≡ false → same_text name (codes "put") ≡ true → act_said class (name ∷ k ∷ more) ≡ put_said class (k ∷ more)
unfolding act_said
put_named class name k more h0 h1 = rw (h0, h1) refl

pub act_put : (class : Class) (name text : List ℕ) → same_text name (codes "take") ≡ false → same_text name (codes "put") ≡ true → act_said class (name ∷ words_of text) ≡ put_said class (words_of text)
act_put class name text h0 h1 =
    let more = parts_cons (λ x. eqb x 32) text in
    rw more.2 (put_named class name more.0 more.1 h0 h1)

give_named : (class : Class) (name k : List ℕ) (more : List (List ℕ)) → same_text name (codes "take") ≡ false → same_text name (codes "put") ≡ false → same_text name (codes "give") ≡ true → act_said class (name ∷ k ∷ more) ≡ give_said class (k ∷ more)
unfolding act_said
give_named class name k more h0 h1 h2 = rw (h0, h1, h2) refl

pub act_give : (class : Class) (name text : List ℕ) → same_text name (codes "take") ≡ false → same_text name (codes "put") ≡ false → same_text name (codes "give") ≡ true → act_said class (name ∷ words_of text) ≡ give_said class (words_of text)
act_give class name text h0 h1 h2 =
    let more = parts_cons (λ x. eqb x 32) text in
    rw more.2 (give_named class name more.0 more.1 h0 h1 h2)

store_named : (class : Class) (name k : List ℕ) (more : List (List ℕ)) → same_text name (codes "take") ≡ false → same_text name (codes "put") ≡ false → same_text name (codes "give") ≡ false → same_text name (codes "store") ≡ true → act_said class (name ∷ k ∷ more) ≡ store_said class (k ∷ more)
unfolding act_said
store_named class name k more h0 h1 h2 h3 = rw (h0, h1, h2, h3) refl

pub act_store : (class : Class) (name text : List ℕ) → same_text name (codes "take") ≡ false → same_text name (codes "put") ≡ false → same_text name (codes "give") ≡ false → same_text name (codes "store") ≡ true → act_said class (name ∷ words_of text) ≡ store_said class (words_of text)
act_store class name text h0 h1 h2 h3 =
    let more = parts_cons (λ x. eqb x 32) text in
    rw more.2 (store_named class name more.0 more.1 h0 h1 h2 h3)

none_named : (class : Class) (name k : List ℕ) (more : List (List ℕ)) → same_text name (codes "take") ≡ false → same_text name (codes "put") ≡ false → same_text name (codes "give") ≡ false → same_text name (codes "store") ≡ false → act_said class (name ∷ k ∷ more) ≡ None
unfolding act_said
none_named class name k more h0 h1 h2 h3 = rw (h0, h1, h2, h3) refl

pub act_none : (class : Class) (name text : List ℕ) → same_text name (codes "take") ≡ false → same_text name (codes "put") ≡ false → same_text name (codes "give") ≡ false → same_text name (codes "store") ≡ false → act_said class (name ∷ words_of text) ≡ None
act_none class name text h0 h1 h2 h3 =
    let more = parts_cons (λ x. eqb x 32) text in
    rw more.2 (none_named class name more.0 more.1 h0 h1 h2 h3)

pub act_one : (class : Class) (name : List ℕ) → act_said class (name ∷ []) ≡ None
unfolding act_said
act_one class name = refl

-- the lists of a class have one for each of its clients
pub has_acts : (plan : Plan) (r : Reader) (class : Class) → HasLists plan r → length (acts_in_class r.trace class) ≡ clients_in plan class
has_acts plan r Of.Net h = h.net_acts
has_acts plan r Of.Serial h = h.serial_acts
has_acts plan r Of.Blk h = h.blk_acts

-- a number past the clients of a class
pub no_rogue : (plan : Plan) (class : Class) (c : ℕ) → clients_in plan class ≤ c → is_rogue plan class c ≡ false
unfolding is_net_rogue is_serial_rogue is_blk_rogue
no_rogue plan Of.Net c past = rw (slice_get_past (net_clients plan) c past) refl
no_rogue plan Of.Serial c past = rw (slice_get_past (serial_clients plan) c past) refl
no_rogue plan Of.Blk c past = rw (slice_get_past (blk_clients plan) c past) refl

pub rogue_none : (r : Reader) (plan : Plan) (name client : List ℕ) (words : List (List ℕ))
    → ((class : Class) (c : ℕ) (act : Act) → class_of name ≡ Some class → number_of client ≡ Some c → act_said class words ≡ Some act → Fails r (is_rogue plan class c) (Event.Rogue class c act))
    → after_line r (rogue_line plan name client words) ≡ None
unfolding rogue_line
rogue_none r plan name client words h =
    judged_none r (class_of name) _ (λ class k. number_none r client _ (λ c n. judged_none r (act_said class words) _ (λ act a. kept_none r _ (Event.Rogue class c act) (h class c act k n a))))

pub rogue_taken : (r : Reader) (plan : Plan) (name client : List ℕ) (words : List (List ℕ)) (class : Class) (c : ℕ) (act : Act) → class_of name ≡ Some class → number_of client ≡ Some c
    → act_said class words ≡ Some act → is_rogue plan class c ≡ true → is_refused r (Event.Rogue class c act) ≡ false → after_line r (rogue_line plan name client words) ≡ Some (reader_with r (Event.Rogue class c act))
unfolding rogue_line
rogue_taken r plan name client words class c act k n a holds taken = rw (k, n, a) (kept_taken r _ (Event.Rogue class c act) holds taken)
