use Rattle.std.proofs.Common.{◌≡◌, ◌⊎◌, inl, inr, ◌+◌, ◌≤◌, ◌&&◌, Bool, true, false, not, cond, Option, Some, None, is_some, is_none, List, [], ◌∷◌, ◌++◌, All, length, map, slice_get, refl, sym, ap, ◌∙◌, arith}
use Rattle.std.specs.Option.{option_to_list}
use Rattle.std.proofs.lemmas.List.{append-nil, map-append, length-append, length-map}
use Rattle.std.proofs.lemmas.List.Elements.{All-push}
use Rattle.wire_core.specs.Bells.{bit}
use Rattle.wire_core.specs.Deeds.{Cargo}
use Rattle.buffer_kit.specs.Entries.{filled, all_filled}
use Rattle.buffer_kit.proofs.Filling.{filled_more, filled_still, last_at}
use Rattle.wire_core.specs.Fates.{Fate, Came, Served, Refused, fate_after, without, marked}
use Rattle.wire_core.proofs.Fating.{marked-append, settled_none, settled_length, without_length, without_last, without_left, without_more, without_past, without_settled}
use Rattle.net_copier.specs.declared.Stage.{Stage}
use Rattle.net_copier.specs.declared.Stage.TheVariants as At
use Rattle.net_copier.specs.Copying.{IsAt, IfThere, is_copied, is_stray, leased_bytes}

-- what a copier stands for, of the lists at its four ends: leases that came, buffers that came,
-- buffers that went, leases that went
pub record Core (drops : Bool) (f : Fate) (tla trf sra slf : List Cargo) (lease buffer : Option Cargo) (stage : Stage) : Type 0 where
  pub leases : tla ≡ slf ++ option_to_list lease
  pub copies : sra ++ option_to_list buffer ≡ all_filled (map leased_bytes (without f.dropped tla)) trf
  pub takes : length trf ≡ length (sra ++ option_to_list buffer)
  pub puts : length sra + marked f.dropped ≡ length slf + bit (is_some lease && is_copied stage)
  pub none : drops ≡ false → marked f.dropped ≡ 0
  pub came : drops ≡ true → length f.dropped + bit (is_some lease && (is_none buffer && not (is_copied stage))) ≡ length tla
  pub waits : drops ≡ true → f.waits ≡ (is_some lease && (is_none buffer && not (is_copied stage)))
  pub in_turn : All (λ (x : Cargo). is_stray x ≡ false) slf
  pub lease_at : IfThere lease (IsAt stage)
  pub buffered : is_some buffer ≡ true → (is_some lease ≡ true) × (stage ≡ At.Taken)

not_copied : (s : Stage) → is_copied s ≡ false → bit (not (is_copied s)) ≡ 1
not_copied s e = ap (λ b. bit (not b)) e

-- no more leases are settled than came, or none is dropped
pub fits_all : (drops : Bool) (f : Fate) (tla trf sra slf : List Cargo) (l b : Option Cargo) (s : Stage) → Core drops f tla trf sra slf l b s → (length f.dropped ≤ length tla) ⊎ (marked f.dropped ≡ 0)
fits_all true f tla trf sra slf l b s h = inl (let k = h.came refl in omega (arith, k))
fits_all false f tla trf sra slf l b s h = inr (h.none refl)

-- the same of those that went back, where one waits
pub fits_back : (drops : Bool) (f : Fate) (tla trf sra slf : List Cargo) (x : Cargo) (s : Stage) → is_copied s ≡ false → Core drops f tla trf sra slf (Some x) None s → (length f.dropped ≤ length slf) ⊎ (marked f.dropped ≡ 0)
fits_back true f tla trf sra slf x s new h = inl (let n = ap length h.leases ∙ length-append slf (x ∷ []) in let k = h.came refl in let b = not_copied s new in omega (arith, n, k, b))
fits_back false f tla trf sra slf x s new h = inr (h.none refl)

-- so many are settled where one waits
pub back_settled : (drops : Bool) → drops ≡ true → (f : Fate) (tla trf sra slf : List Cargo) (x : Cargo) (s : Stage) → is_copied s ≡ false → Core drops f tla trf sra slf (Some x) None s → length f.dropped ≤ length slf
back_settled drops on f tla trf sra slf x s new h = let n = ap length h.leases ∙ length-append slf (x ∷ []) in let k = h.came on in let b = not_copied s new in omega (arith, n, k, b)

-- a lease came
pub came_core : (drops : Bool) (ds : List Bool) (w : Bool) (tla trf sra slf : List Cargo) (s0 s : Stage) (x : Cargo) → IsAt s x → is_copied s ≡ false → Core drops (record { dropped = ds; waits = w }) tla trf sra slf None None s0 → Core drops (fate_after (record { dropped = ds; waits = w }) Came) (tla ++ x ∷ []) trf sra slf (Some x) None s
came_core drops ds w tla trf sra slf s0 s x at new h =
    let all : tla ≡ slf = h.leases ∙ append-nil slf in
    let put : length trf ≡ length sra = h.takes ∙ ap length (append-nil sra) in
    let fits = fits_all drops (record { dropped = ds; waits = w }) tla trf sra slf None None s0 h in
    let long = without_left ds tla fits in
    let same = ap length all in
    let maps = length-map (without ds tla) leased_bytes in
    let p = h.puts in
    let z = settled_none w ds in
    let room : length trf ≤ length (map leased_bytes (without ds tla)) = omega (arith, long, same, maps, put, p) in
    let kept : without (ds ++ cond w (false ∷ []) []) (tla ++ x ∷ []) ≡ without ds tla ++ x ∷ [] = without_settled w ds (tla ++ x ∷ []) ∙ without_past ds tla (x ∷ []) fits in
    record {
      leases = ap (λ xs. xs ++ x ∷ []) all;
      copies = h.copies ∙ sym (ap (λ xs. all_filled (map leased_bytes xs) trf) kept ∙ (ap (λ fs. all_filled fs trf) (map-append leased_bytes (without ds tla) (x ∷ [])) ∙ filled_still (map leased_bytes (without ds tla)) (leased_bytes x ∷ []) trf room));
      takes = h.takes;
      puts = rw new (omega (arith, p, z));
      none = λ off. z ∙ h.none off;
      came = λ on.
          let n = length-append tla (x ∷ []) in
          let k = h.came on in
          let b = not_copied s new in
          let v = ap bit (h.waits on) in
          let l = settled_length w false ds in
          omega (arith, n, k, b, v, l);
      waits = λ on. rw new refl;
      in_turn = h.in_turn;
      lease_at = at;
      buffered = λ b. let t : is_some {T = Cargo} None ≡ true = b in absurd cc;
    }

-- a buffer came for the lease, and was filled
pub served_core : (drops : Bool) (ds : List Bool) (w : Bool) (tla trf sra slf : List Cargo) (x e : Cargo) → Core drops (record { dropped = ds; waits = w }) tla trf sra slf (Some x) None At.Taken → Core drops (fate_after (record { dropped = ds; waits = w }) Served) tla (trf ++ e ∷ []) sra slf (Some x) (Some (filled (leased_bytes x) e)) At.Taken
served_core drops ds w tla trf sra slf x e h =
    let put : sra ++ [] ≡ sra = append-nil sra in
    let fits = fits_back drops (record { dropped = ds; waits = w }) tla trf sra slf x At.Taken refl h in
    let long = without_left ds slf fits in
    let t = h.takes ∙ ap length put in
    let p = h.puts in
    let place : length trf ≡ length (without ds slf) = omega (arith, long, t, p) in
    let kept : without ds tla ≡ without ds slf ++ x ∷ [] = ap (without ds) h.leases ∙ without_past ds slf (x ∷ []) fits in
    let its : slice_get (map leased_bytes (without ds tla)) (length trf) ≡ Some (leased_bytes x) = rw (kept, place) (last_at leased_bytes (without ds slf) x) in
    let two = length-append trf (e ∷ []) in
    let three = length-append sra (filled (leased_bytes x) e ∷ []) in
    let z = settled_none w ds in
    record {
      leases = h.leases;
      copies = rw (without_settled w ds tla) (ap (λ cs. cs ++ filled (leased_bytes x) e ∷ []) (sym put ∙ h.copies) ∙ sym (filled_more (map leased_bytes (without ds tla)) trf (leased_bytes x) e its));
      takes = omega (arith, two, three, t);
      puts = omega (arith, z, p);
      none = λ off. z ∙ h.none off;
      came = λ on.
          let k = h.came on in
          let v = ap bit (h.waits on) in
          let l = settled_length w false ds in
          omega (arith, k, v, l);
      waits = λ on. refl;
      in_turn = h.in_turn;
      lease_at = h.lease_at;
      buffered = λ b. (refl, refl);
    }

-- no buffer was there for the lease, and it was dropped
pub refused_core : (drops : Bool) → drops ≡ true → (ds : List Bool) (w : Bool) (tla trf sra slf : List Cargo) (x : Cargo) → Core drops (record { dropped = ds; waits = w }) tla trf sra slf (Some x) None At.Taken → Core drops (fate_after (record { dropped = ds; waits = w }) Refused) tla trf sra slf (Some x) None At.Copied
refused_core drops on ds false tla trf sra slf x h = let no : false ≡ true = h.waits on in absurd cc
refused_core drops on ds true tla trf sra slf x h =
    let n = ap length h.leases ∙ length-append slf (x ∷ []) in
    let k = h.came on in
    let same : length ds ≡ length slf = omega (arith, n, k) in
    let few : length ds ≤ length slf = omega (arith, same) in
    let long = without_length ds slf few in
    let t = h.takes ∙ ap length (append-nil sra) in
    let p = h.puts in
    let maps = length-map (without ds slf) leased_bytes in
    let room : length trf ≤ length (map leased_bytes (without ds slf)) = omega (arith, long, t, p, maps) in
    let before : without ds tla ≡ without ds slf ++ x ∷ [] = ap (without ds) h.leases ∙ without_more ds slf (x ∷ []) few in
    let after : without (ds ++ true ∷ []) tla ≡ without ds slf = ap (without (ds ++ true ∷ [])) h.leases ∙ without_last ds slf x same in
    let more = length-append ds (true ∷ []) in
    let one = marked-append ds (true ∷ []) in
    record {
      leases = h.leases;
      copies = rw after (h.copies ∙ (ap (λ xs. all_filled (map leased_bytes xs) trf) before ∙ (ap (λ fs. all_filled fs trf) (map-append leased_bytes (without ds slf) (x ∷ [])) ∙ filled_still (map leased_bytes (without ds slf)) (leased_bytes x ∷ []) trf room)));
      takes = h.takes;
      puts = omega (arith, one, p);
      none = λ off. let no : true ≡ false = sym on ∙ off in absurd cc;
      came = λ o. omega (arith, more, k);
      waits = λ o. refl;
      in_turn = h.in_turn;
      lease_at = h.lease_at;
      buffered = λ b. let no : is_some {T = Cargo} None ≡ true = b in absurd cc;
    }

-- the filled buffer was put
pub put_core : (drops : Bool) (f : Fate) (tla trf sra slf : List Cargo) (x b : Cargo) → Core drops f tla trf sra slf (Some x) (Some b) At.Taken → Core drops f tla trf (sra ++ b ∷ []) slf (Some x) None At.Copied
put_core drops f tla trf sra slf x b h =
    let n = length-append sra (b ∷ []) in
    let p = h.puts in
    let all = append-nil (sra ++ b ∷ []) in
    record {
      leases = h.leases;
      copies = all ∙ h.copies;
      takes = h.takes ∙ sym (ap length all);
      puts = omega (arith, n, p);
      none = h.none;
      came = h.came;
      waits = h.waits;
      in_turn = h.in_turn;
      lease_at = h.lease_at;
      buffered = λ t. let no : is_some {T = Cargo} None ≡ true = t in absurd cc;
    }

-- the lease went back
pub back_core : (drops : Bool) (f : Fate) (tla trf sra slf : List Cargo) (x : Cargo) (b : Option Cargo) → Core drops f tla trf sra slf (Some x) b At.Copied → Core drops f tla trf sra (slf ++ x ∷ []) None b At.Copied
back_core drops f tla trf sra slf x (Some b) h = let no : At.Copied ≡ At.Taken = (h.buffered refl).1 in absurd cc
back_core drops f tla trf sra slf x None h =
    let n = length-append slf (x ∷ []) in
    let p = h.puts in
    record {
      leases = h.leases ∙ sym (append-nil (slf ++ x ∷ []));
      copies = h.copies;
      takes = h.takes;
      puts = omega (arith, n, p);
      none = h.none;
      came = h.came;
      waits = h.waits;
      in_turn = All-push (λ (z : Cargo). is_stray z ≡ false) slf x h.in_turn h.lease_at;
      lease_at = tt;
      buffered = λ t. let no : is_some {T = Cargo} None ≡ true = t in absurd cc;
    }
