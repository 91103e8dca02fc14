-- What a hostile client of the block class puts are writes.
use Rattle.std.proofs.Common.{◌≡◌, ℕ, zero, suc, Bool, true, false, Some, List, [], ◌∷◌, slice_get, refl, sym, ap, ◌∙◌, subst}
use Rattle.cargo_core.specs.declared.act.Act.{Act}
use Rattle.cargo_core.specs.declared.act.Act.TheVariants as Acts
use Rattle.cargo_core.specs.declared.item.Item.{Item}
use Rattle.cargo_core.specs.declared.item.QueueKind.TheVariants as Kind
use Rattle.wire_core.specs.declared.names.Event.{Event}
use Rattle.wire_core.specs.declared.names.Op.{Op}
use Rattle.wire_core.specs.declared.names.Op.TheVariants as Do
use Rattle.wire_core.specs.declared.names.QueueId.{QueueId}
use Rattle.play_core.proofs.Lists.{some_is}
use Rattle.client_programs.specs.Rogue.Acts.{Follows, IsCall, IsNextOf, Left, item_for, left_after, next_acts}
use Rattle.wired_law.specs.PageLaw.WildPages.Rounds.{IsMove}

-- a call that isn't a put
other : (e : Event) (o : Op) → e.op ≡ o → e.op ≡ Do.Put → o ≡ Do.Put
other e o is put = sym is ∙ put

of_act : (ends : List QueueId) (looked : Bool) (x : Act) (e : Event) → IsCall Kind.Req ends looked x e → e.op ≡ Do.Put → IsMove e.item
of_act ends true (Acts.Take k) e c put = let no = other e Do.Take c.op put in absurd cc
of_act ends false (Acts.Take k) e c put = let no = other e Do.See c.op put in absurd cc
of_act ends true (Acts.Put k a l) e c put = (item_for Kind.Req a l, c.item, refl)
of_act ends false (Acts.Put k a l) e c put = let no = other e Do.Room c.op put in absurd cc
of_act ends true (Acts.Give k p a l) e c put = (item_for Kind.Req a l, c.item, refl)
of_act ends false (Acts.Give k p a l) e c put = let no = other e Do.Room c.op put in absurd cc
of_act ends looked (Acts.Store k w v) e c put = let no = other e (Do.Store w v) c.op put in absurd cc

of_next : (ends : List QueueId) (looked : Bool) (xs : List Act) (e : Event) → IsNextOf Kind.Req ends looked xs e → e.op ≡ Do.Put → IsMove e.item
of_next ends looked [] e n put = absurd n
of_next ends looked (x ∷ xs) e n put = of_act ends looked x e n put

pub writes : (ends : List QueueId) (p : Left) (es : List Event) (k : ℕ) (e : Event) → Follows Kind.Req ends p es → slice_get es k ≡ Some e → e.op ≡ Do.Put → IsMove e.item
writes ends p [] k e h at put = cc
writes ends p (x ∷ es) zero e h at put =
    let same : x ≡ e = some_is at in
    subst (λ (z : Event). IsMove z.item) same (of_next ends p.looked (next_acts p.kept p.acts) x h.0 (ap (λ (z : Event). z.op) same ∙ put))
writes ends p (x ∷ es) (suc k) e h at put = writes ends (left_after p x.answer) es k e h.1 at put
