use Rattle.std.proofs.Common.{◌≡◌, ◌==◌, ℕ, Bool, true, false, List, [], refl}
use Rattle.wire_core.specs.declared.names.Op.{Op}
use Rattle.wire_core.specs.declared.names.Op.TheVariants as Do
use Rattle.wire_core.specs.Deeds.{Deed, Cargo, cargo_of}
use Rattle.wire_core.specs.Ends.{Consumer, Producer, role_of}
use Rattle.wire_core.specs.Lists.{if_there, if_taken, if_put, taken_by, put_by}
use Rattle.std.proofs.lemmas.Bool.{eqb-true}

no_take : (b : Bool) (o : Op) (c : List Cargo) → (role_of o ≡ Consumer → b ≡ true → ⊥) → if_there b (if_taken o c) ≡ []
no_take false o c h = refl
no_take true Do.Take c h = absurd (h refl refl)
no_take true Do.Put c h = refl
no_take true Do.See c h = refl
no_take true Do.Room c h = refl
no_take true (Do.Ask s) c h = refl
no_take true (Do.Waive s) c h = refl
no_take true (Do.Wake s) c h = refl
no_take true (Do.Wanted s) c h = refl
no_take true (Do.Settle s) c h = refl
no_take true (Do.Ring s) c h = refl
no_take true (Do.Store w v) c h = refl

no_put : (b : Bool) (o : Op) (c : List Cargo) → (role_of o ≡ Producer → b ≡ true → ⊥) → if_there b (if_put o c) ≡ []
no_put false o c h = refl
no_put true Do.Put c h = absurd (h refl refl)
no_put true Do.Take c h = refl
no_put true Do.See c h = refl
no_put true Do.Room c h = refl
no_put true (Do.Ask s) c h = refl
no_put true (Do.Waive s) c h = refl
no_put true (Do.Wake s) c h = refl
no_put true (Do.Wanted s) c h = refl
no_put true (Do.Settle s) c h = refl
no_put true (Do.Ring s) c h = refl
no_put true (Do.Store w v) c h = refl

-- a call takes nothing from where it isn't made
pub take_beside : (d : Deed) (n : ℕ) → (role_of d.event.op ≡ Consumer → d.event.queue.0 ≡ n → ⊥) → taken_by d n ≡ []
take_beside d n h = no_take (d.event.queue.0 == n) d.event.op (cargo_of d) (λ r b. h r (eqb-true d.event.queue.0 n b))

pub put_beside : (d : Deed) (n : ℕ) → (role_of d.event.op ≡ Producer → d.event.queue.0 ≡ n → ⊥) → put_by d n ≡ []
put_beside d n h = no_put (d.event.queue.0 == n) d.event.op (cargo_of d) (λ r b. h r (eqb-true d.event.queue.0 n b))
