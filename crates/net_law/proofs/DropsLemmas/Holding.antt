use Rattle.std.proofs.Common.{◌≡◌, ◌+◌, ◌++◌, ◌&&◌, ℕ, zero, suc, Bool, true, false, not, nat_lt, List, [], ◌∷◌, length, map, take, add-zero, refl, sym, ap, ◌∙◌, subst, arith}
use Rattle.std.proofs.Math.Seq.{take-append_seam}
use Rattle.std.proofs.lemmas.List.{length-map, map-append}
use Rattle.cargo_core.specs.Lists.{IsPrefix}
use Rattle.cargo_core.specs.declared.item.Item.{Item}
use Rattle.frame_core.specs.declared.mac.Mac.{Mac}
use Rattle.wire_core.specs.Fates.{without}
use Rattle.wire_core.proofs.Fating.{without_none}
use Rattle.play_core.specs.Moved.{Moved}
use Rattle.play_core.specs.Sheets.{Scene, Due}
use Rattle.play_core.specs.Wants.{intake_want, outlet_want}
use Rattle.owner_law.specs.Things.{Window}
use Rattle.owner_law.specs.Pools.Places.{PoolAt, by_offset}
use Rattle.class_expect.specs.NetExpect.Expecting.{Program, Sink, Source, Echo, answers_for, frames_for}
use Rattle.buffer_kit.specs.Entries.{len_of}
use Rattle.client_programs.specs.Net.Programs.{answer_to}
use Rattle.net_law.specs.Parts.Parts.{NetDevice, NetCopier, NetClient}
use Rattle.net_law.specs.Parts.Rows.{CopiesSome, SendsItems, answer_len, given_items, is_answering, sent_items, sent_lens, sized_items}
use Rattle.net_law.specs.Parts.Table.{client_items, is_short, net_sheet}
use Rattle.net_law.specs.Holding.{HoldingSends, holding_client_items, holding_client_sheet, holding_copier_sheet, holding_device_sheet, holding_items, sent_where}
use Rattle.net_law.proofs.Answering.{answers_are}
use Rattle.net_law.proofs.PartsLemmas.Items.{answer_long}

-- a device
module _ (scene : Scene) (rf ra ta tf : ℕ) (frames : List (List ℕ)) (m : Moved) where
  pub device_holds : (net_sheet scene (NetDevice rf ra ta tf frames false)).row m → (holding_device_sheet rf ra ta tf frames).row m
  device_holds row = record { filled = row.out.filled; takes = row.out.takes; returns = row.out.returns }

  pub device_held : (holding_device_sheet rf ra ta tf frames).row m → (net_sheet scene (NetDevice rf ra ta tf frames false)).row m
  device_held row = record {
    marks = [];
    out = record {
      filled = row.filled;
      takes = row.takes;
      used = let t = row.takes in omega (arith, t);
      settled = omega arith;
      as_many = refl;
      returns = row.returns;
    };
  }

  pub device_wants : (net_sheet scene (NetDevice rf ra ta tf frames false)).wants m ≡ (holding_device_sheet rf ra ta tf frames).wants m
  device_wants = ap (λ n. intake_want rf (nat_lt n (length frames) && not (is_short (m.sent ra) (m.taken rf))) ∷ outlet_want ra (is_short (m.sent ra) (m.taken rf)) ∷ intake_want ta (not (is_short (m.sent tf) (m.taken ta))) ∷ outlet_want tf (is_short (m.sent tf) (m.taken ta)) ∷ []) (add-zero (length (m.taken rf)))

-- a copier
module _ (scene : Scene) (la lf ra rf : ℕ) (m : Moved) where
  pub copier_holds : (net_sheet scene (NetCopier la lf ra rf false)).row m → (holding_copier_sheet la lf ra rf).row m
  copier_holds row =
      let all : without row.marks (m.taken la) ≡ m.taken la = without_none row.marks (m.taken la) row.out.as_many in
      record {
        copies = subst (λ xs. IsPrefix (m.sent ra) (sized_items (map len_of xs) (m.taken rf))) all row.out.copies;
        takes_for = let t = row.out.takes_for in omega (arith, t);
        gives_back = row.out.gives_back;
        after_copy = let t = row.out.after_copy in omega (arith, t);
      }

  pub copier_held : (holding_copier_sheet la lf ra rf).row m → (net_sheet scene (NetCopier la lf ra rf false)).row m
  copier_held row = record {
    marks = [];
    out = record {
      copies = row.copies;
      takes_for = let t = row.takes_for in omega (arith, t);
      gives_back = row.gives_back;
      after_copy = let t = row.after_copy in omega (arith, t);
      settled = omega arith;
      as_many = refl;
    };
  }

  pub copier_wants : (net_sheet scene (NetCopier la lf ra rf false)).wants m ≡ (holding_copier_sheet la lf ra rf).wants m
  copier_wants =
      ap (λ n. intake_want la (not (is_short (m.sent lf) (m.taken la))) ∷ intake_want rf (nat_lt n (length (m.taken la))) ∷ outlet_want ra (is_short (m.sent ra) (m.taken rf)) ∷ outlet_want lf (nat_lt (length (m.sent lf)) (length (m.sent ra) + 0)) ∷ []) (add-zero (length (m.taken rf)))
      ∙ ap (λ n. intake_want la (not (is_short (m.sent lf) (m.taken la))) ∷ intake_want rf (is_short (m.taken rf) (m.taken la)) ∷ outlet_want ra (is_short (m.sent ra) (m.taken rf)) ∷ outlet_want lf (nat_lt (length (m.sent lf)) n) ∷ []) (add-zero (length (m.sent ra)))

  pub copier_dues : (net_sheet scene (NetCopier la lf ra rf false)).dues m ≡ (holding_copier_sheet la lf ra rf).dues m
  copier_dues = ap both_due (add-zero (length (m.sent ra)))
    where
      both_due : ℕ → List Due
      both_due n = record { queue = ra; number = length (m.taken rf) } ∷ record { queue = lf; number = n } ∷ []

-- a client
map_take : {S T : Type 0} (f : S → T) (n : ℕ) (xs : List S) → map f (take n xs) ≡ take n (map f xs)
map_take f zero xs = refl
map_take f (suc n) [] = refl
map_take f (suc n) (x ∷ xs) = ap (λ l. f x ∷ l) (map_take f n xs)

answers_long : (mac : Mac) (fs : List (List ℕ)) → map (λ (f : List ℕ). length f) (map (answer_to mac) fs) ≡ map (answer_len mac) (map (λ (f : List ℕ). length f) fs)
answers_long mac [] = refl
answers_long mac (f ∷ fs) = ap (λ n. n ∷ map (λ (f : List ℕ). length f) (map (answer_to mac) fs)) (answer_long mac f) ∙ ap (λ l. answer_len mac (length f) ∷ l) (answers_long mac fs)

each_len : (mac : Mac) (items : List Item) → map (answer_len mac) (map len_of items) ≡ map (λ (item : Item). answer_len mac (len_of item)) items
each_len mac [] = refl
each_len mac (x ∷ items) = ap (λ l. answer_len mac (len_of x) ∷ l) (each_len mac items)

-- what came to an echo is as long as the first of the frames for it
abbrev AreFirst : Program → Mac → List (List ℕ) → List Item → Type 0
AreFirst program mac frames came = is_answering program ≡ true → IsPrefix (map len_of came) (map (λ (frame : List ℕ). length frame) (frames_for mac frames))

lens_are : (program : Program) (mac : Mac) (frames : List (List ℕ)) (came : List Item) → AreFirst program mac frames came → map (λ (frame : List ℕ). length frame) (sent_where program mac frames (length came)) ≡ sent_lens program mac came
lens_are Sink mac frames came first = refl
lens_are (Source script) mac frames came first = refl
lens_are Echo mac frames came first =
    let begins = first refl in
    let lens = map (λ (item : Item). answer_len mac (len_of item)) came in
    let rest = map (answer_len mac) begins.0 in
    let parts : lens ++ rest ≡ map (λ (f : List ℕ). length f) (answers_for mac frames) =
    ap (λ l. l ++ rest) (sym (each_len mac came))
    ∙ (sym (map-append (answer_len mac) (map len_of came) begins.0)
    ∙ (ap (map (answer_len mac)) begins.1
    ∙ (sym (answers_long mac (frames_for mac frames)) ∙ ap (map (λ (f : List ℕ). length f)) (answers_are mac frames)))) in
    let many : length came ≡ length lens = sym (length-map came (λ (item : Item). answer_len mac (len_of item))) in
    map_take (λ (f : List ℕ). length f) (length came) (answers_for mac frames)
    ∙ (ap (take (length came)) (sym parts) ∙ (ap (λ n. take n (lens ++ rest)) many ∙ take-append_seam lens rest))

module _ (scene : Scene) (frames : List (List ℕ)) (program : Program) (mac : Mac) (ra rf ta tf : ℕ) (rx tx : PoolAt) (m : Moved) (first : AreFirst program mac frames (m.taken ra)) where
  abbrev sends : List (List ℕ)
  sends = sent_where program mac frames (length (m.taken ra))

  abbrev lens : List ℕ
  lens = sent_lens program mac (m.taken ra)

  same : map (λ (frame : List ℕ). length frame) sends ≡ lens
  same = lens_are program mac frames (m.taken ra) first

  many : length lens ≡ length sends
  many = ap length (sym same) ∙ length-map sends (λ (frame : List ℕ). length frame)

  items_are : (own : Window) (back : List Item) → sent_items lens own back ≡ holding_items sends own back
  items_are own back = ap (λ ns. sized_items ns (given_items own ++ back)) (sym same)

  pub client_holds : (net_sheet scene (NetClient program mac ra rf ta tf rx tx)).row m → (holding_client_sheet frames program mac ra rf ta tf rx tx).row m
  client_holds row = record {
    sized = row.sized;
    spare_sized = row.spare_sized;
    given = row.given;
    sends = record {
      filled = subst (IsPrefix (m.sent ta)) (items_are (by_offset tx) (m.taken tf)) row.sends.filled;
      needed = λ some. let n = row.sends.needed some in omega (arith, n, many);
      none_in_hand = row.sends.none_in_hand;
    };
    answered = row.answered;
  }

  pub client_held : (holding_client_sheet frames program mac ra rf ta tf rx tx).row m → (net_sheet scene (NetClient program mac ra rf ta tf rx tx)).row m
  client_held row = record {
    sized = row.sized;
    spare_sized = row.spare_sized;
    given = row.given;
    sends = record {
      filled = subst (IsPrefix (m.sent ta)) (sym (items_are (by_offset tx) (m.taken tf))) row.sends.filled;
      needed = λ some. let n = row.sends.needed some in omega (arith, n, many);
      none_in_hand = row.sends.none_in_hand;
    };
    answered = row.answered;
  }

  pub client_wants : (net_sheet scene (NetClient program mac ra rf ta tf rx tx)).wants m ≡ (holding_client_sheet frames program mac ra rf ta tf rx tx).wants m
  client_wants =
      let gives = intake_want ra (not (nat_lt 0 (length (m.taken ra)) && nat_lt (length (m.sent rf)) (rx.buffers + length (m.taken ra))) && not (is_answering program && is_short (m.sent ta) (m.taken ra))) in
      let owes = outlet_want rf (nat_lt (length (m.sent rf)) (rx.buffers + length (m.taken ra))) in
      let had = not (nat_lt (length (m.sent ta)) (tx.buffers + length (m.taken tf))) in
      ap (λ n. gives ∷ owes ∷ intake_want tf (nat_lt (length (m.sent ta)) n && had) ∷ outlet_want ta (is_short (m.sent ta) (client_items program mac (m.taken ra) tx (m.taken tf))) ∷ []) many
      ∙ ap (λ (l : List Item). gives ∷ owes ∷ intake_want tf (nat_lt (length (m.sent ta)) (length sends) && had) ∷ outlet_want ta (is_short (m.sent ta) l) ∷ []) (items_are (by_offset tx) (m.taken tf))

  pub client_dues : (net_sheet scene (NetClient program mac ra rf ta tf rx tx)).dues m ≡ (holding_client_sheet frames program mac ra rf ta tf rx tx).dues m
  client_dues = ap both_due (ap length (items_are (by_offset tx) (m.taken tf)))
    where
      both_due : ℕ → List Due
      both_due n = record { queue = rf; number = rx.buffers + length (m.taken ra) } ∷ record { queue = ta; number = n } ∷ []
