-- The calls of a wild ring, of their two steps.
use Rattle.std.proofs.Common.{◌≡◌, ℕ, Bool, true, false, nat_eq, [], ◌∷◌, length, length-append, refl, sym, ap, ◌∙◌, subst}
use Rattle.wire_core.specs.declared.names.Answer.TheVariants.{No}
use Rattle.wire_core.specs.Deeds.{Cargo, answer_of}
use Rattle.spsc_queue.specs.declared.view.Half.{Half}
use Rattle.spsc_queue.specs.Rule.{wrap, head_word, tail_word, guard_word}
use Rattle.spsc_queue.specs.Steps.{after_look, empty_if, index_read, passed, fits_entry, fits_room, Granted, EntryTold, RoomTold, SeeDid, RoomDid, took_one, sent_one, took, sent, last_value}

-- the index of the other end doesn't fit
pub tail_refused : (n : ℕ) (h h' : Half) (b : Bool) → b ≡ false → h' ≡ index_read b tail_word (last_value h') h → b ≡ fits_entry n (length h.entries) (last_value h') → SeeDid true n h (last_value h') No [] h'
tail_refused n h h' b is did fits = let x : ℕ = last_value h' in (x, refl, subst (λ (z : Bool). EntryTold z n h x x No h') (sym is ∙ fits) (did ∙ ap (λ (z : Bool). index_read z tail_word x h) is, refl))

pub head_refused : (n : ℕ) (h h' : Half) (b : Bool) → b ≡ false → h' ≡ index_read b head_word (last_value h') h → b ≡ fits_room n (length h.entries) (last_value h') → RoomDid true n h (last_value h') No [] h'
head_refused n h h' b is did fits = let x : ℕ = last_value h' in (x, refl, subst (λ (z : Bool). RoomTold z n h x x No h') (sym is ∙ fits) (did ∙ ap (λ (z : Bool). index_read z head_word x h) is, refl))

-- it fits, and the guard answers
pub entry_told : (n n' : ℕ) (h m h' : Half) (b answer : Bool) → b ≡ true → m ≡ index_read b tail_word (last_value m) h → b ≡ fits_entry n (length h.entries) (last_value m) → n' ≡ n
    → h' ≡ after_look (nat_eq (last_value h') 1) (guard_word n' (length m.entries)) (last_value h') h'.grant m.ahead m → answer ≡ nat_eq (last_value h') 1 → Granted m.kind (nat_eq (last_value h') 1) h'.grant → SeeDid true n h (last_value h') (answer_of answer) [] h'
entry_told n n' h m h' b answer is did fits size told said granted = let x : ℕ = last_value m in let r : ℕ = last_value h' in let m_is : m ≡ passed tail_word x h = did ∙ ap (λ (z : Bool). index_read z tail_word x h) is in (
  x,
  refl,
  subst (λ (z : Bool). EntryTold z n h x r (answer_of answer) h') (sym is ∙ fits)
      (told ∙ (λ i. after_look (nat_eq r 1) (guard_word (size i) (length (m_is i).entries)) r h'.grant (m_is i).ahead (m_is i)), ap answer_of said, subst (λ (z : Half). Granted z.kind (nat_eq r 1) h'.grant) m_is granted),
)

pub room_told : (n n' : ℕ) (h m h' : Half) (b answer : Bool) → b ≡ true → m ≡ index_read b head_word (last_value m) h → b ≡ fits_room n (length h.entries) (last_value m) → n' ≡ n
    → h' ≡ after_look (nat_eq (last_value h') 0) (guard_word n' (length m.entries)) (last_value h') (empty_if (nat_eq (last_value h') 0)) m.ahead m → answer ≡ nat_eq (last_value h') 0 → RoomDid true n h (last_value h') (answer_of answer) [] h'
room_told n n' h m h' b answer is did fits size told said = let x : ℕ = last_value m in let r : ℕ = last_value h' in let m_is : m ≡ passed head_word x h = did ∙ ap (λ (z : Bool). index_read z head_word x h) is in (
  x,
  refl,
  subst (λ (z : Bool). RoomTold z n h x r (answer_of answer) h') (sym is ∙ fits)
      (told ∙ (λ i. after_look (nat_eq r 0) (guard_word (size i) (length (m_is i).entries)) r (empty_if (nat_eq r 0)) (m_is i).ahead (m_is i)), ap answer_of said),
)

-- the guard, and then the index of its own end
pub took_both : (n : ℕ) (h m h' : Half) (x : Cargo) (t : ℕ) → h.wild ≡ true → m ≡ took_one x t (guard_word n (length h.entries)) 0 h → h' ≡ passed head_word (wrap (length m.entries)) m → h' ≡ took h.wild n x t h
took_both n h m h' x t sort did told = told ∙ (ap (λ (z : Half). passed head_word (wrap (length z.entries)) z) did ∙ (ap (λ (z : ℕ). passed head_word (wrap z) (took_one x t (guard_word n (length h.entries)) 0 h)) (length-append h.entries (x ∷ [])) ∙ ap (λ (z : Bool). took z n x t h) (sym sort)))

pub sent_both : (n : ℕ) (h m h' : Half) (x : Cargo) (t : ℕ) → h.wild ≡ true → m ≡ sent_one x t (guard_word n (length h.entries)) 1 h → h' ≡ passed tail_word (wrap (length m.entries)) m → h' ≡ sent h.wild n x t h
sent_both n h m h' x t sort did told = told ∙ (ap (λ (z : Half). passed tail_word (wrap (length z.entries)) z) did ∙ (ap (λ (z : ℕ). passed tail_word (wrap z) (sent_one x t (guard_word n (length h.entries)) 1 h)) (length-append h.entries (x ∷ [])) ∙ ap (λ (z : Bool). sent z n x t h) (sym sort)))
