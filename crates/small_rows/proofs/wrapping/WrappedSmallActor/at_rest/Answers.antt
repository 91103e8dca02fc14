use Rattle.std.proofs.Common.{◌∙◌, sym}
use Rattle.actor_set.specs.Actors.{actor_round}
use Rattle.small_rows.proofs.Acting.{rests_waiting}
use Rattle.actor_set.proofs.LawsLemmas.Rounds.{rests_is}
use Rattle.small_rows.proofs.wrapping.WrappedSmallActor.at_rest.Goals as goal

pub returns : goal.returns
returns c = c.at_rest.ensures ∙ (rests_is c.args.self.now.actor c.requires.1.1 ∙ sym (rests_waiting (actor_round c.args.self.now.actor)))
