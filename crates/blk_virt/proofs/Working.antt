-- What the virtualiser stands for after each entry that it took.
use Rattle.std.proofs.Common.{◌≡◌, ◌+◌, ◌==◌, ◌&&◌, ℕ, Bool, true, false, is_some, is_none, Option, Some, None, List, [], ◌∷◌, ◌++◌, length, drop, slice_get, refl, sym, ap, ◌∙◌, subst, arith}
use Rattle.std.specs.Option.{option_to_list}
use Rattle.std.proofs.lemmas.List.{append-nil}
use Rattle.cargo_core.specs.Pages.{Paged}
use Rattle.wire_core.specs.Deeds.{Cargo}
use Rattle.wire_core.specs.Lists.{if_there}
use Rattle.blk_mbr.specs.declared.part.Part.{Part}
use Rattle.blk_mbr.specs.Partitions.{part_of}
use Rattle.buffer_kit.specs.Conserving.{Count, weighed}
use Rattle.buffer_kit.proofs.Conserving.{weighed-append}
use Rattle.buffer_kit.proofs.ManyClients.{some_eq}
use Rattle.blk_virt.specs.declared.client.Client.{Client}
use Rattle.blk_virt.specs.declared.client.Current.{Current}
use Rattle.blk_virt.specs.declared.desk.Desk.{Desk}
use Rattle.blk_virt.specs.declared.opening.Block.{Block}
use Rattle.blk_virt.specs.declared.requests.PageName.{PageName}
use Rattle.blk_virt.specs.declared.work.Work.{Work}
use Rattle.blk_virt.specs.Requests.{brings}
use Rattle.blk_virt.specs.Clients.{is_away, is_idle, brought}
use Rattle.blk_virt.specs.Openings.{OpeningStands, KnowsParts, IsOutOfTurn, IsLate, first_read, has_sector, sector_of, block_of, block_cargo, is_first, is_open}
use Rattle.blk_virt.specs.Desks.{DeskStands, OneMoved, AreOf, due_for, brought_in, is_due, with_more}
use Rattle.blk_virt.specs.Works.{IsWork, WorkStands}
use Rattle.blk_virt.proofs.Desking.{first_is}
use Rattle.blk_virt.proofs.Answering.{same_holders, stays, answers}

-- the parts of the hand
pub work_parts : (f : Count) (first : Option Cargo) (block : Option Block) (desk : List Cargo) (stray : Option Cargo) → weighed f (option_to_list first ++ (block_cargo block ++ (desk ++ option_to_list stray))) ≡ weighed f (option_to_list first) + (weighed f (block_cargo block) + (weighed f desk + weighed f (option_to_list stray)))
work_parts f first block desk stray =
    let a = weighed-append f (option_to_list first) (block_cargo block ++ (desk ++ option_to_list stray)) in
    let b = weighed-append f (block_cargo block) (desk ++ option_to_list stray) in
    let d = weighed-append f desk (option_to_list stray) in
    omega (arith, a, b, d)

pub none_lists : (lists : ℕ → List Cargo) (k : ℕ) → with_more lists k [] ≡ lists
none_lists lists k = λ i j. (by j (k == j)) i
  where
    by : (j : ℕ) (b : Bool) → lists j ++ if_there b [] ≡ lists j
    by j true = append-nil (lists j)
    by j false = append-nil (lists j)

pub first_parts : (first : Option Cargo) (block : Option Block) (p q : Bool) → (is_none first && (is_none block && (p && q))) ≡ true → (first ≡ None) × (block ≡ None)
first_parts None None p q h = (refl, refl)
first_parts None (Some b) p q h = cc
first_parts (Some x) block p q h = cc

open_block : (block : Option Block) → is_some block ≡ true → (b : Block) × (block ≡ Some b)
open_block None h = cc
open_block (Some b) h = (b, refl)

-- at the driver is the first read alone
module _ (w : Work) (start : Paged) (back sent : List Cargo) (came gave : ℕ → List Cargo) (h : WorkStands w start back came sent gave) where
  read_alone : w.opening.first ≡ None → w.opening.block ≡ None → (sent ≡ first_read w.opening.base start ∷ []) × (back ≡ [])
  read_alone f b = subst (λ (v : Option Block). OpeningStands w.opening None v start sent back) b (subst (λ (o : Option Cargo). OpeningStands w.opening o w.opening.block start sent back) f h.opens)

  -- the first block came
  pub first_came : (y : Cargo) → is_first w.opening y ≡ true → WorkStands (record w { opening = record w.opening { block = Some (block_of w.opening.disk_sectors y) } }) start (back ++ y ∷ []) came sent gave
  first_came y is =
      let p = first_parts w.opening.first w.opening.block (brings (Some w.opening.own) y.1) (has_sector y.1) is in
      let a = read_alone p.0 p.1 in
      let one : back ++ y ∷ [] ≡ y ∷ [] = ap (λ (l : List Cargo). l ++ y ∷ []) a.1 in
      record {
        is_start = h.is_start;
        opens = subst (λ (o : Option Cargo). OpeningStands w.opening o (Some (block_of w.opening.disk_sectors y)) start sent (back ++ y ∷ [])) (sym p.0) (y, [], [], a.0, one, refl);
        serves = λ parts knows. subst (λ l. DeskStands w.desk parts came (drop 1 sent) l gave) (ap (drop 1) a.1 ∙ sym (ap (drop 1) one)) (h.serves parts (subst (λ l. KnowsParts w.opening.disk_sectors l parts) (sym a.1) tt));
        quiet = λ none. let e : y ∷ [] ≡ [] = sym one ∙ none in absurd cc;
        numbered = h.numbered;
        number = h.number;
      }

  -- it is open
  pub opened : is_open w.opening ≡ true → (y : Cargo) × (later : List Cargo) × (backs : List Cargo) × (sent ≡ first_read w.opening.base start ∷ later) × (back ≡ y ∷ backs) × (w.opening.block ≡ Some (block_of w.opening.disk_sectors y)) × (w.opening.first ≡ None)
  opened is = by w.opening.first refl (open_block w.opening.block is)
    where
      by : (f : Option Cargo) → w.opening.first ≡ f → ((b : Block) × (w.opening.block ≡ Some b)) → (y : Cargo) × (later : List Cargo) × (backs : List Cargo) × (sent ≡ first_read w.opening.base start ∷ later) × (back ≡ y ∷ backs) × (w.opening.block ≡ Some (block_of w.opening.disk_sectors y)) × (w.opening.first ≡ None)
      by None f (b, e) =
          let s = subst (λ (v : Option Block). OpeningStands w.opening None v start sent back) e (subst (λ (o : Option Cargo). OpeningStands w.opening o w.opening.block start sent back) f h.opens) in
          (s.0, s.1, s.2, s.3, s.4, e ∙ ap Some s.5, f)
      by (Some x) f (b, e) = absurd (subst (λ (v : Option Block). OpeningStands w.opening (Some x) v start sent back) e (subst (λ (o : Option Cargo). OpeningStands w.opening o w.opening.block start sent back) f h.opens))

  -- a later response came
  pub later_came : (work : IsWork w) (y : Cargo) (d : Desk) (k : ℕ) → is_open w.opening ≡ true → w.desk.line.shown ≡ k ∷ d.line.shown → ((part : Option Part) → OneMoved w.desk d k part [] [] (y ∷ []) []) → WorkStands (record w { desk = d }) start (back ++ y ∷ []) came sent gave
  later_came work y d k is line moves =
      let o = opened is in
      let f = first_is w.desk work.desk k d.line.shown line in
      let more : back ++ y ∷ [] ≡ o.0 ∷ (o.2 ++ y ∷ []) = ap (λ (l : List Cargo). l ++ y ∷ []) o.4 in
      let rest : drop 1 (back ++ y ∷ []) ≡ drop 1 back ++ y ∷ [] = ap (drop 1) more ∙ sym (ap (λ (l : List Cargo). drop 1 l ++ y ∷ []) o.4) in
      let same = same_holders w.desk d work.desk k None [] [] (y ∷ []) [] (moves None) in
      record {
        is_start = h.is_start;
        opens = subst (λ (v : Option Block). OpeningStands w.opening w.opening.first v start sent (back ++ y ∷ [])) (sym o.5) (subst (λ (x : Option Cargo). OpeningStands w.opening x (Some (block_of w.opening.disk_sectors o.0)) start sent (back ++ y ∷ [])) (sym o.6)
            (o.0, o.1, o.2 ++ y ∷ [], o.3, more, refl));
        serves = λ parts knows.
            let known : KnowsParts w.opening.disk_sectors back parts = subst (λ l. KnowsParts w.opening.disk_sectors l parts) (sym o.4) (subst (λ l. KnowsParts w.opening.disk_sectors l parts) more knows) in
            let m = moves (parts f.0.holder.partition) in
            subst (λ l. DeskStands d parts came (drop 1 sent) l gave) (sym rest)
            (subst (λ l. DeskStands d parts l (drop 1 sent) (drop 1 back ++ y ∷ []) gave) (none_lists came k)
            (subst (λ l. DeskStands d parts (with_more came k []) (drop 1 sent) (drop 1 back ++ y ∷ []) l) (none_lists gave k)
            (answers w.desk d work.desk k (parts f.0.holder.partition) [] [] (y ∷ []) [] m parts (ap (λ (v : Client). parts v.holder.partition) (some_eq (sym m.there ∙ f.1))) came gave (drop 1 sent) (drop 1 back) (h.serves parts known) y refl refl line)));
        quiet = λ none. let e : o.0 ∷ (o.2 ++ y ∷ []) ≡ [] = sym more ∙ none in absurd cc;
        numbered = h.numbered;
        number = h.number;
      }

  -- a request came
  pub request_came : (work : IsWork w) (x : Cargo) (d : Desk) (k : ℕ) (part : Option Part) → is_open w.opening ≡ true → (m : OneMoved w.desk d k part (x ∷ []) [] [] []) → is_away m.was ≡ false → d.line.shown ≡ w.desk.line.shown
      → ((y : Cargo) → w.opening.block ≡ Some (block_of w.opening.disk_sectors y) → part ≡ part_of (sector_of y.1) w.opening.disk_sectors m.was.holder.partition) → WorkStands (record w { desk = d }) start back (with_more came k (x ∷ [])) sent gave
  request_came work x d k part is m idle line told =
      let o = opened is in
      record {
        is_start = h.is_start;
        opens = h.opens;
        serves = λ parts knows.
            let known = subst (λ l. KnowsParts w.opening.disk_sectors l parts) o.4 knows in
            subst (λ l. DeskStands d parts (with_more came k (x ∷ [])) (drop 1 sent) (drop 1 back) l) (none_lists gave k)
            (stays w.desk d work.desk k part (x ∷ []) [] [] [] m parts (known m.was.holder.partition ∙ sym (told o.0 o.5)) came gave (drop 1 sent) (drop 1 back) (h.serves parts knows) idle refl refl line);
        quiet = λ none. let e : o.0 ∷ o.2 ≡ [] = sym o.4 ∙ none in absurd cc;
        numbered = h.numbered;
        number = h.number;
      }

  -- a response is out of turn
  late_at : (cs : List Client) (ks : List ℕ) (answered rest backs : List Cargo) (y : Cargo) → length answered ≡ length backs → AreOf cs ks rest → due_for cs ks y ≡ false → ((k : ℕ) (js : List ℕ) → ks ≡ k ∷ js → (c : Client) × (slice_get cs k ≡ Some c) × (is_away c ≡ true)) → IsLate (answered ++ rest) backs y
  late_at cs ks [] [] [] y e of due away = tt
  late_at cs [] [] (x ∷ rest) [] y e of due away = absurd of
  late_at cs (k ∷ ks) [] (x ∷ rest) [] y e of due away =
      let a = away k ks refl in
      let c : Client = of.0.0 in
      let cur = current_there c.current c.leaving (ap is_away (some_eq (sym of.0.1 ∙ a.1)) ∙ a.2) in
      ap (λ (n : Option PageName). brings n y.1) (of.0.2.page cur.0 cur.1) ∙ (sym (ap (λ (o : Option Current). brought o y.1) cur.1) ∙ (sym (ap (λ (o : Option Client). brought_in o y) of.0.1) ∙ due))
    where
      current_there : (p : Option Current) (l : Option Cargo) → (is_some p && is_none l) ≡ true → (v : Current) × (p ≡ Some v)
      current_there None l t = cc
      current_there (Some v) l t = (v, refl)
  late_at cs ks [] rest (z ∷ backs) y e of due away = absurd (omega (arith, e))
  late_at cs ks (a ∷ answered) rest [] y e of due away = absurd (omega (arith, e))
  late_at cs ks (a ∷ answered) rest (z ∷ backs) y e of due away = late_at cs ks answered rest backs y (omega (arith, e)) of due away

  pub strays : (work : IsWork w) (y : Cargo) → is_first w.opening y ≡ false → (is_open w.opening && is_due w.desk y) ≡ false → IsOutOfTurn sent back y
  strays work y not_first not_due = by w.opening.first refl w.opening.block refl
    where
      open_late : is_open w.opening ≡ true → is_due w.desk y ≡ false → IsOutOfTurn sent back y
      open_late is due =
          let o = opened is in
          let parts : ℕ → Option Part = λ n. part_of (sector_of o.0.1) w.opening.disk_sectors n in
          let s = h.serves parts (subst (λ l. KnowsParts w.opening.disk_sectors l parts) (sym o.4) (λ n. refl)) in
          let late = late_at w.desk.clients.items w.desk.line.shown s.answered s.unanswered (drop 1 back) y s.as_many s.are_of due (λ k js e. let f = first_is w.desk work.desk k js e in (f.0, f.1, f.2)) in
          let later : drop 1 sent ≡ o.1 = ap (drop 1) o.3 in
          let backs : drop 1 back ≡ o.2 = ap (drop 1) o.4 in
          subst (λ l. IsOutOfTurn l back y) (sym o.3) (subst (λ l. IsOutOfTurn (first_read w.opening.base start ∷ o.1) l y) (sym o.4)
          (subst (λ l. IsLate l o.2 y) later (subst (λ l. IsLate (drop 1 sent) l y) backs (subst (λ l. IsLate l (drop 1 back) y) s.sent_are late))))

      not_open : (b : Block) → w.opening.block ≡ Some b → is_due w.desk y ≡ false
      not_open b e = ap (λ (v : Option Block). is_some v && is_due w.desk y) (sym e) ∙ not_due

      by : (f : Option Cargo) → w.opening.first ≡ f → (b : Option Block) → w.opening.block ≡ b → IsOutOfTurn sent back y
      by (Some x) f None b =
          let s = subst (λ (v : Option Block). OpeningStands w.opening (Some x) v start sent back) b (subst (λ (o : Option Cargo). OpeningStands w.opening o w.opening.block start sent back) f h.opens) in
          subst (λ l. IsOutOfTurn l back y) (sym s.1) tt
      by None f None b =
          let a = read_alone f b in
          let t = ap (λ (n : PageName). brings (Some n) y.1 && has_sector y.1) (sym h.is_start) ∙ (sym (ap (λ (o : Option Cargo). is_none o && (is_none w.opening.block && (brings (Some w.opening.own) y.1 && has_sector y.1))) f ∙ ap (λ (v : Option Block). is_none v && (brings (Some w.opening.own) y.1 && has_sector y.1)) b) ∙ not_first) in
          subst (λ l. IsOutOfTurn l back y) (sym a.0) (subst (λ l. IsOutOfTurn (first_read w.opening.base start ∷ []) l y) (sym a.1) t)
      by f e (Some b) is = open_late (ap (λ (v : Option Block). is_some v) is) (not_open b is)

pub idle_not_away : (c : Client) → is_idle c ≡ true → is_away c ≡ false
idle_not_away c e = by c.current (is_none c.held) (is_none c.leaving) e
  where
    by : (p : Option Current) (a b : Bool) → (is_none p && a) ≡ true → (is_some p && b) ≡ false
    by None a b t = refl
    by (Some v) a b t = cc
