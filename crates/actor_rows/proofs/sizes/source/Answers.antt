use Rattle.std.proofs.Common.{refl}
use Rattle.actor_rows.specs.Standings.{queue}
use Rattle.actor_rows.proofs.sizes.source.Goals as goal

pub returns : goal.returns
returns c = record {
  program = _;
  mac = _;
  pages = _;
  spare = _;
  script = _;
  new = c.new.ensures.new (queue 0) (queue 1) (queue 3) (queue 2) refl refl;
  one = c.in_ok-pages.ensures.few;
  one_spare = c.in_ok-spare.ensures.few;
  short = c.in_ok-script.ensures;
}
