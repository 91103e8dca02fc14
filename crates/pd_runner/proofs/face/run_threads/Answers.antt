use Rattle.std.proofs.Common.{map}
use Rattle.order_law.specs.ActorParts.Given.{apart_of}
use Rattle.pd_runner.proofs.Faced.{all_stayed, no_wants}
use Rattle.pd_runner.proofs.face.run_threads.Goals as goal

pub returns-then-all_rest-clause-memory : goal.returns-then-all_rest-clause-memory
returns-then-all_rest-clause-memory g c = no_wants c.args.layout.now.queues c.args.parts.rings.items (map apart_of c.args.parts.actors.items) c.requires.apart

pub returns-then-all_rest-clause-came : goal.returns-then-all_rest-clause-came
returns-then-all_rest-clause-came g c = all_stayed c.args.layout.now.queues c.args.parts.rings.items c.args.limit c.args.parts.actors.items c.requires.apart
