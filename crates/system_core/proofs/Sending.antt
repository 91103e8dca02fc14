-- What the network's clients send by their programs: how many frames, where as much came to each as is
-- left of the frames for it, and which.
use Rattle.std.proofs.Common.{◌≡◌, ◌+◌, ℕ, zero, suc, Bool, false, Some, List, [], ◌∷◌, length, slice_get, refl, sym, ap, ◌∙◌, subst, arith}
use Rattle.std.proofs.lemmas.List.{length-map}
use Rattle.cargo_core.specs.declared.item.Item.{Item}
use Rattle.frame_core.specs.declared.mac.Mac.{Mac}
use Rattle.frame_core.specs.Frames.{turned_round}
use Rattle.class_expect.specs.NetExpect.Expecting.{Program, Sink, Source, Echo}
use Rattle.buffer_kit.specs.Entries.{len_of}
use Rattle.wire_core.specs.Lists.{Passed}
use Rattle.play_core.specs.Moved.{Moved}
use Rattle.play_core.specs.Names.{Wild, by_sort}
use Rattle.play_core.specs.Totals.{total}
use Rattle.play_core.proofs.Lists.{some_is}
use Rattle.net_law.specs.Dropped.{Marks, left_for, sends_upon}
use Rattle.net_law.specs.Owners.Names.{ClientPools}
use Rattle.net_law.specs.Parts.Numbers.{client_first}
use Rattle.net_law.specs.Parts.Rows.{answer_len, sent_lens}
use Rattle.net_quiet.specs.Still.{lens_from}
use Rattle.net_quiet.specs.TxCast.Casting.{good_frames, sends_at, sends_from}

-- a client sends as many frames as it has lengths of them
upon_long : (program : Program) (mac : Mac) (got : List (List ℕ)) (came : List Item) → length got ≡ length came → length (sends_upon program mac got) ≡ length (sent_lens program mac came)
upon_long Sink mac got came same = refl
upon_long (Source script) mac got came same = sym (length-map script (λ (frame : List ℕ). length frame))
upon_long Echo mac got came same = length-map got (λ (frame : List ℕ). turned_round frame mac) ∙ (same ∙ sym (length-map came (λ (item : Item). answer_len mac (len_of item))))

-- so all do together
pub total_upon : (marks : Marks) (frames : List (List ℕ)) (first : ℕ) (m : Moved) (k : ℕ) (programs : List Program) (macs : List Mac) → ((j : ℕ) (mac : Mac) → slice_get macs j ≡ Some mac → length (left_for (marks (k + j)) mac frames) ≡ length (m.taken (client_first first (k + j) + 2)))
    → total (sends_at marks k programs macs frames) ≡ total (lens_from first m k programs macs)
total_upon marks frames first m k [] macs each = refl
total_upon marks frames first m k (program ∷ programs) [] each = refl
total_upon marks frames first m k (program ∷ programs) (mac ∷ macs) each =
    let plus : k + 0 ≡ k = omega arith in
    let came : length (left_for (marks k) mac frames) ≡ length (m.taken (client_first first k + 2)) = subst (λ n. length (left_for (marks n) mac frames) ≡ length (m.taken (client_first first n + 2))) plus (each 0 mac refl) in
    let long = upon_long program mac (left_for (marks k) mac frames) (m.taken (client_first first k + 2)) came in
    let rest = total_upon marks frames first m (k + 1) programs macs (λ j other at.
    let shift : k + suc j ≡ k + 1 + j = omega arith in
    subst (λ n. length (left_for (marks n) other frames) ≡ length (m.taken (client_first first n + 2))) shift (each (suc j) other at)) in
    omega (arith, long, rest)

-- what one sends at whose queue no hostile actor has an end
module _ (wild : Wild) (first most : ℕ) (marks : Marks) (frames : List (List ℕ)) (passed : Passed) where
  pub sent_there : (k : ℕ) (programs : List Program) (macs : List Mac) (pools : List ClientPools) (j : ℕ) (program : Program) (mac : Mac) (q : ClientPools) → slice_get programs j ≡ Some program → slice_get macs j ≡ Some mac → slice_get pools j ≡ Some q → wild (client_first first (k + j) + 4) ≡ false
      → slice_get (sends_from wild first most marks frames passed k programs macs pools) j ≡ Some (sends_upon program mac (left_for (marks (k + j)) mac frames))
  sent_there k [] macs pools j program mac q plays address pooled calm = cc
  sent_there k (p ∷ ps) [] pools j program mac q plays address pooled calm = cc
  sent_there k (p ∷ ps) (m ∷ ms) [] j program mac q plays address pooled calm = cc
  sent_there k (p ∷ ps) (m ∷ ms) (r ∷ rs) zero program mac q plays address pooled calm =
      let plus : k ≡ k + 0 = omega arith in
      let own : wild (client_first first k + 4) ≡ false = ap (λ n. wild (client_first first n + 4)) plus ∙ calm in
      ap (λ (b : Bool). Some (by_sort b (good_frames first most passed k r.tx) (sends_upon p m (left_for (marks k) m frames)))) own
      ∙ (ap (λ (x : Program). Some (sends_upon x m (left_for (marks k) m frames))) (some_is plays)
      ∙ (ap (λ (x : Mac). Some (sends_upon program x (left_for (marks k) x frames))) (some_is address)
      ∙ ap (λ n. Some (sends_upon program mac (left_for (marks n) mac frames))) plus))
  sent_there k (p ∷ ps) (m ∷ ms) (r ∷ rs) (suc j) program mac q plays address pooled calm =
      let shift : k + 1 + j ≡ k + suc j = omega arith in
      sent_there (k + 1) ps ms rs j program mac q plays address pooled (ap (λ n. wild (client_first first n + 4)) shift ∙ calm)
      ∙ ap (λ n. Some (sends_upon program mac (left_for (marks n) mac frames))) shift
