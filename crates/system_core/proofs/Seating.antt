use Rattle.std.proofs.Common.{List, ap, sym, ◌∙◌}
use Rattle.wire_core.specs.declared.names.QueueRow.{QueueRow}
use Rattle.wire_core.specs.Journal.{owner_of}
use Rattle.actor_set.specs.declared.actor.Actor.{Actor}
use Rattle.actor_set.specs.declared.actor.Actor.TheVariants as Kinds
use Rattle.play_core.proofs.Lists.{some_is}
use Rattle.actor_set.proofs.LawsLemmas.Paces.{start_round}
use Rattle.actor_set.proofs.LawsLemmas.Starts.{new_stands, new_fits}
use Rattle.cast_law.specs.Seats.{AreSeated}
use Rattle.system_core.specs.Starts.{AreStarting}

-- seated actors are in their start state at queues in theirs
pub seated_start : (rows : List QueueRow) (actors : List Actor) → AreSeated rows actors → AreStarting rows actors
seated_start rows actors s = record {
  fits = λ k x at. new_fits rows k x (s.new k x at) (s.apart k x at) (s.seats k x at);
  stands = λ k x at. new_stands x (s.new k x at);
  owners = λ k x at r n own row there. let seat = s.seats k x at r n own in ap (λ q. owner_of q r) (some_is (sym there ∙ seat.there)) ∙ seat.owner;
  rounds = λ k x at calm. start_round x calm (s.apart k x at) (s.split k x at);
  acts = λ k r at. (s.new k (Kinds.Rogue r) at).start;
  peers = s.peers;
  few = s.few;
}
