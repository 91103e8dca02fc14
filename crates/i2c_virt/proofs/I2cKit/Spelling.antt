use Rattle.std.proofs.Common.{◌≡◌, ℕ, zero, suc, ◌+◌, ◌<◌, ◌≤◌, Bool, true, false, cond, eqb, List, [], ◌∷◌, ◌++◌, length, take, drop, Option, Some, None, refl, ap, sym, subst, ◌∙◌, arith, inl, inr}
use Rattle.std.proofs.lemmas.Bool.{eq-eqb}
use Rattle.i2c_text.specs.declared.bus.BusAsk.{BusAsk}
use Rattle.i2c_text.specs.declared.report.BusReply.{BusReply}
use Rattle.i2c_text.specs.declared.report.BusStatus.{BusStatus}
use Rattle.i2c_text.specs.declared.report.BusStatus.TheVariants as Ended
use Rattle.i2c_virt.specs.I2cKit.Pages.{status_of, status_number, bytes_due, SpellsReply, reply_in, status_in, with_reply}

-- A page with a reply in it spells that reply.

four_more : (n : ℕ) → 4 + n ≡ suc (suc (suc (suc n)))
four_more n = omega arith

take_front : (xs ys : List ℕ) → take (length xs) (xs ++ ys) ≡ xs
take_front [] ys = refl
take_front (x ∷ xs) ys = ap (λ rest. x ∷ rest) (take_front xs ys)

-- as many bytes, some of them replaced
as_long : (bytes rest : List ℕ) → length bytes ≤ length rest → length (bytes ++ drop (length bytes) rest) ≡ length rest
as_long [] rest h = refl
as_long (b ∷ bytes) [] h = absurd (omega arith)
as_long (b ∷ bytes) (x ∷ rest) h = ap suc (as_long bytes rest (omega arith))

status_known : (s : BusStatus) → status_of (status_number s) ≡ Some s
status_known Ended.Ok = refl
status_known Ended.Taken = refl
status_known Ended.Unclaimed = refl
status_known Ended.NoAck = refl

-- a page by its parts
with_reply_in : (o a t c : ℕ) (rest : List ℕ) (s : BusStatus) (bytes : List ℕ) → with_reply (o ∷ a ∷ t ∷ c ∷ rest) s bytes ≡ o ∷ a ∷ status_number s ∷ c ∷ (bytes ++ drop (length bytes) rest)
unfolding with_reply
with_reply_in o a t c rest s bytes = rw (four_more (length bytes)) refl

reply_spelled : (ask : BusAsk) (s : BusStatus) (o a c : ℕ) (bytes rest : List ℕ) → length rest ≡ 60 → length bytes ≤ 60 → length bytes ≡ bytes_due s ask
    → SpellsReply (o ∷ a ∷ status_number s ∷ c ∷ (bytes ++ drop (length bytes) rest)) ask (record { status = s; bytes = bytes })
unfolding reply_in status_in
reply_spelled ask s o a c bytes rest long few due =
    let whole : length (o ∷ a ∷ status_number s ∷ c ∷ (bytes ++ drop (length bytes) rest)) ≡ 64 = omega (arith, as_long bytes rest (omega arith)) in
    rw (eq-eqb _ 64 whole, status_known s, ← due, take_front bytes (drop (length bytes) rest)) refl

pub page_with_reply : (page : List ℕ) (s : BusStatus) (bytes : List ℕ) → length page ≡ 64 → length bytes ≤ 32 → (ask : BusAsk) → length bytes ≡ bytes_due s ask
    → SpellsReply (with_reply page s bytes) ask (record { status = s; bytes = bytes })
page_with_reply [] s bytes h few ask due = absurd (omega arith)
page_with_reply (a ∷ []) s bytes h few ask due = absurd (omega arith)
page_with_reply (a ∷ b ∷ []) s bytes h few ask due = absurd (omega arith)
page_with_reply (a ∷ b ∷ c ∷ []) s bytes h few ask due = absurd (omega arith)
page_with_reply (a ∷ b ∷ c ∷ d ∷ rest) s bytes h few ask due =
    let P : List ℕ → Type 0 = λ page. SpellsReply page ask (record { status = s; bytes = bytes }) in
    subst P (sym (with_reply_in a b c d rest s bytes)) (reply_spelled ask s a b d bytes rest (omega arith) (omega arith) due)
