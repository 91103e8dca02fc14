-- What a call leaves as the last name is what it adds to those that are kept.
use Rattle.std.proofs.Common.{◌≡◌, ℕ, Bool, true, false, cond, map, Option, Some, None, [], refl}
use Rattle.cargo_core.specs.declared.item.Item.{Item}
use Rattle.cargo_core.specs.declared.item.Body.{Body}
use Rattle.wire_core.specs.declared.names.Op.{Op}
use Rattle.wire_core.specs.declared.names.Op.TheVariants as Do
use Rattle.wire_core.specs.Deeds.{Cargo, Deed, cargo_of, joined}
use Rattle.wire_core.specs.Lists.{if_put}
use Rattle.play_core.specs.Names.{Name, Noted, Wild, name_of, notes_of}
use Rattle.player_kit.specs.Calls.Noting.{last_put, notes_in}

noted : ℕ → Cargo → Noted
noted queue c = record { queue = queue; name = name_of c.1 }

of_joined : (queue : ℕ) (i : Option Item) (b : Option Body) → notes_in queue (last_put true (joined i b) None) ≡ map (noted queue) (joined i b)
unfolding noted
of_joined queue None b = refl
of_joined queue (Some i) None = refl
of_joined queue (Some i) (Some b) = refl

by : (queue : ℕ) (d : Deed) (b : Bool) (o : Op) → notes_in queue (last_put b (if_put o (cargo_of d)) None) ≡ cond b (map (noted queue) (if_put o (cargo_of d))) []
by queue d false o = refl
by queue d true Do.Put = of_joined queue d.event.item d.body
by queue d true Do.Take = refl
by queue d true Do.See = refl
by queue d true Do.Room = refl
by queue d true (Do.Ask s) = refl
by queue d true (Do.Waive s) = refl
by queue d true (Do.Wake s) = refl
by queue d true (Do.Wanted s) = refl
by queue d true (Do.Settle s) = refl
by queue d true (Do.Ring s) = refl
by queue d true (Do.Store x v) = refl

pub last_notes : (wild : Wild) (d : Deed) (last : Option Name) → last ≡ last_put (wild d.event.queue.0) (if_put d.event.op (cargo_of d)) None → notes_in d.event.queue.0 last ≡ notes_of wild d
unfolding noted
last_notes wild d last is = rw is (by d.event.queue.0 d (wild d.event.queue.0) d.event.op)
