use Rattle.std.proofs.Common.{◌≡◌, ◌&&◌, sym, ap, ◌∙◌}
use Rattle.net_switch.proofs.Rounds.{rest_of}
use Rattle.net_switch.proofs.ends.SwitchEnds.settled.Goals as goal

pub returns : goal.returns
returns g c = c.are_all.ensures ∙ rest_of c.args.self.now (g.T.Needs.need c.args.taking.now) (g.R.Needs.need c.args.returning.now) (g.N.Needs.need c.args.wanting.now) (g.L.Needs.need c.args.loaded.now)
    c.settled-come.result c.settled-back.result c.settled-room.result c.settled-copy.result c.settled-come.ensures c.settled-back.ensures c.settled-room.ensures c.settled-copy.ensures
