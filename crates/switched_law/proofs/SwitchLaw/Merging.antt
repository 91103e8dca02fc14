use Rattle.std.proofs.Common.{◌≡◌, ◌==◌, ◌+◌, ◌++◌, ◌<◌, ℕ, zero, suc, Bool, true, false, cond, Some, List, [], ◌∷◌, length, map, slice_get, slice_set, refl, sym, ap, ◌∙◌, subst, arith, eq-eqb, eqb-true}
use Rattle.std.specs.List.{filter}
use Rattle.cargo_core.specs.Lists.{IsPrefix, Merge, merge_none, merge_next, PrefixMerge}
use Rattle.frame_core.specs.declared.mac.Mac.{Mac}
use Rattle.wire_core.specs.Deeds.{Cargo}
use Rattle.buffer_kit.specs.Entries.{frame_of}
use Rattle.class_expect.specs.NetExpect.Expecting.{is_for_client, frames_for}
use Rattle.play_core.proofs.Lists.{there_below}
use Rattle.net_switch.specs.SwitchDesk.Frames.{Sent, goes_to, frames_to, entries_from}
use Rattle.switched_law.specs.SwitchLaw.Ports.{to_from, all_to, AreFirst, AreAll}
use Rattle.switched_law.proofs.SwitchLaw.Going.{goes_own, goes_other}

-- What goes to one port, by the ports from which it came.

some_of : {T : Type 0} {x y : T} → Some x ≡ Some y → x ≡ y
some_of h = cc

abbrev of_port : ℕ → Sent → Bool
of_port s x = x.0 == s

is_of : (s : ℕ) (x : Sent) → x.0 ≡ s → of_port s x ≡ true
is_of s x e = eq-eqb x.0 s e

not_of : (s : ℕ) (x : Sent) → (x.0 ≡ s → ⊥) → of_port s x ≡ false
not_of s x off = by (of_port s x) refl
  where
    by : (t : Bool) → of_port s x ≡ t → of_port s x ≡ false
    by true e = absurd (off (eqb-true x.0 s e))
    by false e = e

front : {T : Type 0} {x y : T} {xs ys : List T} → x ≡ y → xs ≡ ys → x ∷ xs ≡ y ∷ ys
front e f = cc

module _ (macs : List Mac) (r : ℕ) where
  abbrev goes : Sent → Bool
  goes x = goes_to macs r x

  abbrev frame : Sent → List ℕ
  frame x = frame_of x.1

  -- what goes there from one port
  abbrev part : ℕ → List Sent → List (List ℕ)
  part s sent = map frame (filter goes (filter (of_port s) sent))

  part_other : (s : ℕ) (x : Sent) (xs : List Sent) → (x.0 ≡ s → ⊥) → part s (x ∷ xs) ≡ part s xs
  part_other s x xs off = ap (λ (t : Bool). map frame (filter goes (cond t (x ∷ filter (of_port s) xs) (filter (of_port s) xs)))) (not_of s x off)

  part_here : (s : ℕ) (x : Sent) (xs : List Sent) → x.0 ≡ s → goes x ≡ true → part s (x ∷ xs) ≡ frame x ∷ part s xs
  part_here s x xs e g =
      ap (λ (t : Bool). map frame (filter goes (cond t (x ∷ filter (of_port s) xs) (filter (of_port s) xs)))) (is_of s x e)
      ∙ ap (λ (t : Bool). map frame (cond t (x ∷ filter goes (filter (of_port s) xs)) (filter goes (filter (of_port s) xs)))) g

  part_lost : (s : ℕ) (x : Sent) (xs : List Sent) → goes x ≡ false → part s (x ∷ xs) ≡ part s xs
  part_lost s x xs g = by (of_port s x) refl
    where
      by : (t : Bool) → of_port s x ≡ t → part s (x ∷ xs) ≡ part s xs
      by true e =
          ap (λ (t : Bool). map frame (filter goes (cond t (x ∷ filter (of_port s) xs) (filter (of_port s) xs)))) e
          ∙ ap (λ (t : Bool). map frame (cond t (x ∷ filter goes (filter (of_port s) xs)) (filter goes (filter (of_port s) xs)))) g
      by false e = ap (λ (t : Bool). map frame (filter goes (cond t (x ∷ filter (of_port s) xs) (filter (of_port s) xs)))) e

  -- from so many ports, the first of which has this number
  abbrev parts : ℕ → ℕ → List Sent → List (List (List ℕ))
  parts s zero sent = []
  parts s (suc n) sent = part s sent ∷ parts (s + 1) n sent

  parts_many : (s n : ℕ) (sent : List Sent) → length (parts s n sent) ≡ n
  parts_many s zero sent = refl
  parts_many s (suc n) sent = ap suc (parts_many (s + 1) n sent)

  parts_at : (s n k : ℕ) (sent : List Sent) → k < n → slice_get (parts s n sent) k ≡ Some (part (s + k) sent)
  parts_at s zero k sent lt = absurd (omega (arith, lt))
  parts_at s (suc n) zero sent lt = let z : s ≡ s + 0 = omega arith in ap (λ i. Some (part i sent)) z
  parts_at s (suc n) (suc k) sent lt = let z : (s + 1) + k ≡ s + suc k = omega arith in parts_at (s + 1) n k sent (omega (arith, lt)) ∙ ap (λ i. Some (part i sent)) z

  parts_past : (s n : ℕ) (x : Sent) (xs : List Sent) → x.0 < s → parts s n (x ∷ xs) ≡ parts s n xs
  parts_past s zero x xs lt = refl
  parts_past s (suc n) x xs lt = front (part_other s x xs (λ e. omega (arith, e, lt))) (parts_past (s + 1) n x xs (omega (arith, lt)))

  parts_set : (s n k : ℕ) (x : Sent) (xs : List Sent) → k < n → x.0 ≡ s + k → slice_set (parts s n (x ∷ xs)) k (part (s + k) xs) ≡ parts s n xs
  parts_set s zero k x xs lt e = absurd (omega (arith, lt))
  parts_set s (suc n) zero x xs lt e = let z : s + 0 ≡ s = omega arith in front (ap (λ i. part i xs) z) (parts_past (s + 1) n x xs (omega (arith, e)))
  parts_set s (suc n) (suc k) x xs lt e =
      let z : s + suc k ≡ (s + 1) + k = omega arith in
      front (part_other s x xs (λ h. omega (arith, h, e)))
      (ap (λ i. slice_set (parts (s + 1) n (x ∷ xs)) k (part i xs)) z ∙ parts_set (s + 1) n k x xs (omega (arith, lt)) (e ∙ z))

  parts_lost : (s n : ℕ) (x : Sent) (xs : List Sent) → goes x ≡ false → parts s n (x ∷ xs) ≡ parts s n xs
  parts_lost s zero x xs g = refl
  parts_lost s (suc n) x xs g = front (part_lost s x xs g) (parts_lost (s + 1) n x xs g)

  none_at : (s n k : ℕ) (l : List (List ℕ)) → slice_get (parts s n []) k ≡ Some l → l ≡ []
  none_at s zero k l at = cc
  none_at s (suc n) zero l at = sym (some_of at)
  none_at s (suc n) (suc k) l at = none_at (s + 1) n k l at

  -- all together are a merge of what goes there from each port
  merges : (n : ℕ) (sent : List Sent) → ((k : ℕ) (x : Sent) → slice_get sent k ≡ Some x → x.0 < n) → Merge (parts 0 n sent) (frames_to macs r sent)
  merges n [] within = merge_none (parts 0 n []) (λ k l at. none_at 0 n k l at)
  merges n (x ∷ xs) within = by (goes x) refl (merges n xs (λ k y at. within (suc k) y at))
    where
      lt : x.0 < n
      lt = within 0 x refl

      by : (t : Bool) → goes x ≡ t → Merge (parts 0 n xs) (frames_to macs r xs) → Merge (parts 0 n (x ∷ xs)) (frames_to macs r (x ∷ xs))
      by true g rest =
          let z : 0 + x.0 ≡ x.0 = omega arith in
          let at : slice_get (parts 0 n (x ∷ xs)) x.0 ≡ Some (frame x ∷ part x.0 xs) = parts_at 0 n x.0 (x ∷ xs) lt ∙ (ap (λ i. Some (part i (x ∷ xs))) z ∙ ap (λ l. Some l) (part_here x.0 x xs refl g)) in
          let left : slice_set (parts 0 n (x ∷ xs)) x.0 (part x.0 xs) ≡ parts 0 n xs = ap (λ i. slice_set (parts 0 n (x ∷ xs)) x.0 (part i xs)) (sym z) ∙ parts_set 0 n x.0 x xs lt (sym z) in
          subst (λ (t : Bool). Merge (parts 0 n (x ∷ xs)) (map frame (cond t (x ∷ filter goes xs) (filter goes xs)))) (sym g)
          (merge_next (parts 0 n (x ∷ xs)) x.0 (frame x) (part x.0 xs) (frames_to macs r xs) at (subst (λ ls. Merge ls (frames_to macs r xs)) (sym left) rest))
      by false g rest =
          subst (λ (t : Bool). Merge (parts 0 n (x ∷ xs)) (map frame (cond t (x ∷ filter goes xs) (filter goes xs)))) (sym g)
          (subst (λ ls. Merge ls (frames_to macs r xs)) (sym (parts_lost 0 n x xs g)) rest)

  module _ (mac : Mac) (at : slice_get macs r ≡ Some mac) where
    abbrev fits : List ℕ → Bool
    fits bytes = is_for_client mac bytes

    -- of one port, what goes there is what is for it
    same_filter : (s : ℕ) (sent : List Sent) → (s ≡ r → ⊥) → part s sent ≡ filter fits (map (λ (c : Cargo). frame_of c) (entries_from s sent))
    same_filter s [] off = refl
    same_filter s (x ∷ xs) off = by (of_port s x) refl (same_filter s xs off)
      where
        by : (t : Bool) → of_port s x ≡ t → part s xs ≡ filter fits (map (λ (c : Cargo). frame_of c) (entries_from s xs)) → part s (x ∷ xs) ≡ filter fits (map (λ (c : Cargo). frame_of c) (entries_from s (x ∷ xs)))
        by false e rest =
            ap (λ (t : Bool). map frame (filter goes (cond t (x ∷ filter (of_port s) xs) (filter (of_port s) xs)))) e
            ∙ (rest ∙ sym (ap (λ (t : Bool). filter fits (map (λ (c : Cargo). frame_of c) (map (λ (y : Sent). y.1) (cond t (x ∷ filter (of_port s) xs) (filter (of_port s) xs))))) e))
        by true e rest =
            let here : x.0 ≡ s = eqb-true x.0 s e in
            let so : goes x ≡ fits (frame x) = goes_other macs r mac at x (λ h. off (sym here ∙ h)) in
            ap (λ (t : Bool). map frame (filter goes (cond t (x ∷ filter (of_port s) xs) (filter (of_port s) xs)))) e
            ∙ (step (goes x) (fits (frame x)) so rest
            ∙ sym (ap (λ (t : Bool). filter fits (map (λ (c : Cargo). frame_of c) (map (λ (y : Sent). y.1) (cond t (x ∷ filter (of_port s) xs) (filter (of_port s) xs))))) e))
          where
            step : (t u : Bool) → t ≡ u → part s xs ≡ filter fits (map (λ (c : Cargo). frame_of c) (entries_from s xs)) → map frame (cond t (x ∷ filter goes (filter (of_port s) xs)) (filter goes (filter (of_port s) xs))) ≡ cond u (frame x ∷ filter fits (map (λ (c : Cargo). frame_of c) (entries_from s xs))) (filter fits (map (λ (c : Cargo). frame_of c) (entries_from s xs)))
            step true true h rest = ap (λ l. frame x ∷ l) rest
            step false false h rest = rest
            step true false h rest = cc
            step false true h rest = cc

    own_none : (s : ℕ) (sent : List Sent) → s ≡ r → part s sent ≡ []
    own_none s [] e = refl
    own_none s (x ∷ xs) e = by (of_port s x) refl (own_none s xs e)
      where
        by : (t : Bool) → of_port s x ≡ t → part s xs ≡ [] → part s (x ∷ xs) ≡ []
        by false f rest = ap (λ (t : Bool). map frame (filter goes (cond t (x ∷ filter (of_port s) xs) (filter (of_port s) xs)))) f ∙ rest
        by true f rest = part_lost s x xs (goes_own macs r x (eqb-true x.0 s f ∙ e)) ∙ rest

    filter_first : (xs rest : List (List ℕ)) → IsPrefix (filter fits xs) (filter fits (xs ++ rest))
    filter_first [] rest = (filter fits rest, refl)
    filter_first (x ∷ xs) rest = by (fits x) refl (filter_first xs rest)
      where
        by : (t : Bool) → fits x ≡ t → IsPrefix (filter fits xs) (filter fits (xs ++ rest)) → IsPrefix (filter fits (x ∷ xs)) (filter fits (x ∷ (xs ++ rest)))
        by true e more = subst (λ (t : Bool). IsPrefix (cond t (x ∷ filter fits xs) (filter fits xs)) (cond t (x ∷ filter fits (xs ++ rest)) (filter fits (xs ++ rest)))) (sym e) (more.0, ap (λ l. x ∷ l) more.1)
        by false e more = subst (λ (t : Bool). IsPrefix (cond t (x ∷ filter fits xs) (filter fits xs)) (cond t (x ∷ filter fits (xs ++ rest)) (filter fits (xs ++ rest)))) (sym e) more

    -- so it is a beginning of all that the port sends to it
    part_begins : (s : ℕ) (sent : List Sent) (frames : List (List ℕ)) → IsPrefix (map (λ (c : Cargo). frame_of c) (entries_from s sent)) frames → IsPrefix (part s sent) (to_from s r mac frames)
    part_begins s sent frames pre = by (s == r) refl
      where
        by : (t : Bool) → (s == r) ≡ t → IsPrefix (part s sent) (to_from s r mac frames)
        by true e = subst (λ (t : Bool). IsPrefix (part s sent) (cond t [] (frames_for mac frames))) (sym e) ([], ap (λ l. l ++ []) (own_none s sent (eqb-true s r e)))
        by false e =
            let off : s ≡ r → ⊥ = (λ h. let bad : true ≡ false = sym (eq-eqb s r h) ∙ e in cc) in
            let more : IsPrefix (filter fits (map (λ (c : Cargo). frame_of c) (entries_from s sent))) (filter fits frames) = subst (λ l. IsPrefix (filter fits (map (λ (c : Cargo). frame_of c) (entries_from s sent))) (filter fits l)) pre.1 (filter_first (map (λ (c : Cargo). frame_of c) (entries_from s sent)) pre.0) in
            subst (λ (t : Bool). IsPrefix (part s sent) (cond t [] (frames_for mac frames))) (sym e) (subst (λ l. IsPrefix l (filter fits frames)) (sym (same_filter s sent off)) more)

    all_at : (s : ℕ) (sends : List (List (List ℕ))) (k : ℕ) (whole : List (List ℕ)) → slice_get (all_to s r mac sends) k ≡ Some whole → (frames : List (List ℕ)) × (slice_get sends k ≡ Some frames) × (whole ≡ to_from (s + k) r mac frames)
    all_at s [] k whole h = cc
    all_at s (frames ∷ sends) zero whole h = let z : s ≡ s + 0 = omega arith in (frames, refl, sym (some_of h) ∙ ap (λ i. to_from i r mac frames) z)
    all_at s (frames ∷ sends) (suc k) whole h =
        let more = all_at (s + 1) sends k whole h in
        let z : (s + 1) + k ≡ s + suc k = omega arith in
        (more.0, more.1, more.2 ∙ ap (λ i. to_from i r mac more.0) z)

    all_many : (s : ℕ) (sends : List (List (List ℕ))) → length (all_to s r mac sends) ≡ length sends
    all_many s [] = refl
    all_many s (frames ∷ sends) = ap suc (all_many (s + 1) sends)

    pub merged : (sends : List (List (List ℕ))) (sent : List Sent) → AreFirst sends sent → PrefixMerge (all_to 0 r mac sends) (frames_to macs r sent)
    merged sends sent first = record {
      parts = parts 0 (length sends) sent;
      as_many = parts_many 0 (length sends) sent ∙ sym (all_many 0 sends);
      begins = λ k one whole one_at whole_at.
          let w = all_at 0 sends k whole whole_at in
          let lt : k < length sends = there_below sends k w.0 w.1 in
          let is : one ≡ part (0 + k) sent = some_of (sym one_at ∙ parts_at 0 (length sends) k sent lt) in
          let z : 0 + k ≡ k = omega arith in
          subst (λ l. IsPrefix l whole) (sym (is ∙ ap (λ i. part i sent) z)) (subst (IsPrefix (part k sent)) (sym (w.2 ∙ ap (λ i. to_from i r mac w.0) z)) (part_begins k sent w.0 (first.firsts k w.0 w.1)));
      merged = merges (length sends) sent first.ports;
    }

    -- where all was taken that a port sends, what goes there from it is all that it sends there
    part_whole : (s : ℕ) (sent : List Sent) (frames : List (List ℕ)) → map (λ (c : Cargo). frame_of c) (entries_from s sent) ≡ frames → part s sent ≡ to_from s r mac frames
    part_whole s sent frames all = by (s == r) refl
      where
        by : (t : Bool) → (s == r) ≡ t → part s sent ≡ to_from s r mac frames
        by true e = own_none s sent (eqb-true s r e) ∙ sym (ap (λ (t : Bool). cond t [] (frames_for mac frames)) e)
        by false e =
            let off : s ≡ r → ⊥ = (λ h. let bad : true ≡ false = sym (eq-eqb s r h) ∙ e in cc) in
            same_filter s sent off ∙ (ap (filter fits) all ∙ sym (ap (λ (t : Bool). cond t [] (frames_for mac frames)) e))

    parts_whole : (s : ℕ) (sends : List (List (List ℕ))) (sent : List Sent) → ((k : ℕ) (frames : List (List ℕ)) → slice_get sends k ≡ Some frames → map (λ (c : Cargo). frame_of c) (entries_from (s + k) sent) ≡ frames)
        → parts s (length sends) sent ≡ all_to s r mac sends
    parts_whole s [] sent all = refl
    parts_whole s (frames ∷ sends) sent all =
        let z : s + 0 ≡ s = omega arith in
        front (part_whole s sent frames (subst (λ i. map (λ (c : Cargo). frame_of c) (entries_from i sent) ≡ frames) z (all 0 frames refl)))
        (parts_whole (s + 1) sends sent (λ k fs at. let next : s + suc k ≡ (s + 1) + k = omega arith in subst (λ i. map (λ (c : Cargo). frame_of c) (entries_from i sent) ≡ fs) next (all (suc k) fs at)))

    pub merged_whole : (sends : List (List (List ℕ))) (sent : List Sent) → AreAll sends sent → Merge (all_to 0 r mac sends) (frames_to macs r sent)
    merged_whole sends sent all =
        subst (λ ls. Merge ls (frames_to macs r sent)) (parts_whole 0 sends sent (λ k frames at. let z : k ≡ 0 + k = omega arith in subst (λ i. map (λ (c : Cargo). frame_of c) (entries_from i sent) ≡ frames) z (all.all k frames at)))
        (merges (length sends) sent all.first.ports)
