-- Which requests go on to the disk, and the addresses at which they are there.
use Rattle.std.proofs.Common.{◌≡◌, ◌+◌, ◌*◌, ◌<◌, ◌≤◌, ◌==◌, ◌&&◌, ℕ, nat_le, nat_lt, Bool, true, false, ◌⊎◌, inl, inr, length-append, if◌then◌else◌, Option, Some, None, List, ◌∷◌, ◌++◌, [], length, refl, sym, ap, ◌∙◌, arith}
use Rattle.std.specs.List.{filter}
use Rattle.std.proofs.lemmas.Bool.{and_parts, and_from, eqb-true, ltb-true, lt-ltb, le-leb, cases_Bool}
use Rattle.cargo_core.specs.declared.item.Body.TheVariants as Carried
use Rattle.cargo_core.specs.declared.item.BlkStatus.TheVariants as Answered
use Rattle.cargo_core.specs.declared.item.Code.{Code}
use Rattle.cargo_core.specs.declared.item.Code.TheVariants as Asked
use Rattle.wire_core.specs.Deeds.{Cargo}
use Rattle.blk_mbr.specs.declared.part.Part.{Part}
use Rattle.class_expect.specs.BlkExpect.Judging.{status_of, can_move}
use Rattle.blk_virt.specs.declared.requests.Holder.{Holder}
use Rattle.blk_virt.specs.Requests.{request_of, moves_blocks, is_own, is_bad, is_ok, goes_on, asked_of_disk, first_block, for_disk, is_at}
use Rattle.blk_virt.specs.Clients.{capped, counted}
use Rattle.blk_virt.proofs.Serving.{filter_yes, filter_no}

ok_then : (t : Bool) → is_ok (if t then Answered.Ok else Answered.Invalid) ≡ true → t ≡ true
ok_then true h = refl
ok_then false h = cc

-- a request that goes on and moves blocks has a buffer of the client's own
own_of_goes : (own : Bool) (part : Option Part) (code : Code) (block count : ℕ) → is_ok (status_of own part code block count) ≡ true → moves_blocks code ≡ true → own ≡ true
own_of_goes own None code block count h m = cc
own_of_goes own (Some p) Asked.Read block count h m = (and_parts own _ (ok_then (can_move own p.blocks block count) h)).0
own_of_goes own (Some p) Asked.Write block count h m = (and_parts own _ (ok_then (can_move own p.blocks block count) h)).0
own_of_goes own (Some p) Asked.Flush block count h m = cc
own_of_goes own (Some p) Asked.Barrier block count h m = cc

-- where its own buffer is
own_address : (h : Holder) (x : Cargo) → is_own h x ≡ true → (n : ℕ) × (n < h.buffers) × ((request_of x.0).addr ≡ n * 32768)
own_address h (item, Carried.Page page) e =
    let a = and_parts (page.pool.0 == h.pool.0) _ e in
    let b = and_parts (nat_lt page.no h.buffers) _ a.1 in
    (page.no, ltb-true page.no h.buffers b.0, eqb-true (request_of item).addr (page.no * 32768) b.1)
own_address h (item, Carried.Lease lease) e = cc
own_address h (item, Carried.Empty) e = cc

within : (base n size a : ℕ) → base ≤ a → a < base + size → (nat_le base a && nat_lt a (base + size)) ≡ true
within base n size a low high = and_from (nat_le base a) (nat_lt a (base + size)) (le-leb base a low) (lt-ltb a (base + size) high)

-- what goes to the disk is at one of the client's buffers
pub at_disk : (h : Holder) (part : Option Part) (x : Cargo) → 0 < h.buffers → goes_on h part x ≡ true → is_at h (for_disk h part x) ≡ true
at_disk h part x some goes = by (request_of x.0).code refl
  where
    at : ℕ → Bool
    at a = nat_le h.base a && nat_lt a (h.base + h.buffers * 32768)

    moved : moves_blocks (request_of x.0).code ≡ true → at (h.base + (request_of x.0).addr) ≡ true
    moved m =
        let own = own_address h x (own_of_goes (is_own h x) part (request_of x.0).code (request_of x.0).block (request_of x.0).count goes m) in
        within h.base 0 (h.buffers * 32768) (h.base + (request_of x.0).addr) (omega arith) (omega (arith, own.1, own.2))

    first : at h.base ≡ true
    first = within h.base 0 (h.buffers * 32768) h.base (omega arith) (omega (arith, some))

    by : (c : Code) → (request_of x.0).code ≡ c → at (asked_of_disk c h.base (first_block part) (request_of x.0)).addr ≡ true
    by Asked.Read e = moved (ap moves_blocks e)
    by Asked.Write e = moved (ap moves_blocks e)
    by Asked.Flush e = first
    by Asked.Barrier e = first

-- the count of bad ones
capped_more : (k : ℕ) → capped (capped k + 1) ≡ capped (k + 1)
capped_more k = omega arith

pub bad_more : (h : Holder) (n : ℕ) (cs : List Cargo) (x : Cargo) → n ≡ capped (length (filter (is_bad h) cs)) → counted h n x ≡ capped (length (filter (is_bad h) (cs ++ x ∷ [])))
bad_more h n cs x e = by (cases_Bool (is_bad h x))
  where
    by : (is_bad h x ≡ true) ⊎ (is_bad h x ≡ false) → counted h n x ≡ capped (length (filter (is_bad h) (cs ++ x ∷ [])))
    by (inl t) =
        let l = length-append (filter (is_bad h) cs) (x ∷ []) in
        ap (λ b. if b then capped (n + 1) else n) t ∙ (ap (λ k. capped (k + 1)) e ∙ (capped_more (length (filter (is_bad h) cs)) ∙ ap capped (omega (arith, l)) ∙ ap (λ l. capped (length l)) (sym (filter_yes (is_bad h) cs x t))))
    by (inr f) = ap (λ b. if b then capped (n + 1) else n) f ∙ (e ∙ ap (λ l. capped (length l)) (sym (filter_no (is_bad h) cs x f)))
