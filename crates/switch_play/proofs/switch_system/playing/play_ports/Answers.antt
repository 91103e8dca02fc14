use Rattle.std.proofs.Common.{◌≡◌, ◌+◌, ◌*◌, ◌<◌, ◌≤◌, [], length, sym, ap, ◌∙◌, subst, arith}
use Rattle.wire_core.specs.Queues.{starts}
use Rattle.switched_law.specs.SwitchClass.Queues.{AreQueues}
use Rattle.small_system.specs.Shows.{shown}
use Rattle.switch_play.specs.SwitchSystem.Reporting.{Tells}
use Rattle.switch_play.specs.SwitchSystem.Playing.{PortsPlayed}
use Rattle.switch_play.proofs.SwitchSystem.Able.{can_be_made}
use Rattle.switch_play.proofs.SwitchSystem.Played.{Laws, is_played, its_turns, actors_many, few_queued, told, if_told}
use Rattle.switch_play.proofs.switch_system.playing.play_ports.Goals as goal

pub switch_actors-requires : goal.switch_actors-requires
switch_actors-requires c = can_be_made c.args.ports.now (c.ports_limits_law.ensures c.args.ports.now c.requires) (c.ports_frames_law.ensures c.args.ports.now c.requires)

pub report-requires-clause-actors : goal.report-requires-clause-actors
report-requires-clause-actors c =
    let ports = c.args.ports.now in
    let rows = c.in_ok-rows.rows.items in
    let q = subst (λ k. AreQueues k rows) c.len-count.ensures c.in_ok-rows.ensures in
    let start = c.in_ok-actors.actors.items in
    let made = c.in_ok-actors.ensures.made in
    let begins = c.in_ok-actors.ensures.begins rows q in
    let old = c.in_ok-small.small in
    let s = c.play.new.self in
    let state = subst (λ r. c.in_ok-small.small ≡ shown r start (starts r) start []) c.deref.ensures.value c.in_ok-small.ensures.state in
    actors_many ports c.args.seed c.args.limit rows start q made begins old s state c.play.ensures.played ∙ ap (λ k. k + 1) (sym c.len-count.ensures)

pub report-requires-clause-few : goal.report-requires-clause-few
report-requires-clause-few c = λ pool lt.
    let ports = c.args.ports.now in
    let rows = c.in_ok-rows.rows.items in
    let q = subst (λ k. AreQueues k rows) c.len-count.ensures c.in_ok-rows.ensures in
    let start = c.in_ok-actors.actors.items in
    let made = c.in_ok-actors.ensures.made in
    let begins = c.in_ok-actors.ensures.begins rows q in
    let old = c.in_ok-small.small in
    let s = c.play.new.self in
    let state = subst (λ r. c.in_ok-small.small ≡ shown r start (starts r) start []) c.deref.ensures.value c.in_ok-small.ensures.state in
    let can = can_be_made ports (c.ports_limits_law.ensures ports c.requires) (c.ports_frames_law.ensures ports c.requires) in
    let ts = its_turns ports c.args.seed c.args.limit rows start q made begins old s state c.play.ensures.played in
    let p = is_played ports c.args.seed c.args.limit rows start q made begins old s state c.play.ensures.played (c.playable_law.ensures ports c.requires) in
    let laws : Laws ports rows start ts = record {
      lines = λ pool lt. c.switch_owner_law.ensures.lines ports rows start ts can q made begins p.tale pool lt;
      owners = c.switch_owner_law.ensures.owners ports rows start ts can q made begins p.tale;
      clients = c.place_law.ensures.clients ports rows start ts p;
      switch = c.place_law.ensures.switch ports rows start ts p;
      taken = c.records_law.ensures.taken ports rows start ts p;
      records = c.records_law.ensures.records ports rows start ts p;
      merges = c.records_law.ensures.merges ports rows start ts p;
      lost = c.records_law.ensures.lost ports rows start ts p;
      bound = c.hops_law.ensures.bound ports rows start ts p;
      all_taken = c.whole_law.ensures.taken ports rows start ts p;
      all_records = c.whole_law.ensures.records ports rows start ts p;
      all_merges = c.whole_law.ensures.merges ports rows start ts p;
      runs = c.wants_law.ensures.runs ports rows start ts p;
      picks = λ seed by. c.wants_law.ensures.picks ports rows start ts seed p by;
      still = c.wants_law.ensures.quiet ports rows start ts p;
    } in
    few_queued ports c.args.seed c.args.limit rows start q made begins old s state c.play.ensures.played laws pool (subst (λ k. pool < 2 * k) c.len-count.ensures lt)

pub returns : goal.returns
returns c =
    let ports = c.args.ports.now in
    let rows = c.in_ok-rows.rows.items in
    let q = subst (λ k. AreQueues k rows) c.len-count.ensures c.in_ok-rows.ensures in
    let start = c.in_ok-actors.actors.items in
    let made = c.in_ok-actors.ensures.made in
    let begins = c.in_ok-actors.ensures.begins rows q in
    let old = c.in_ok-small.small in
    let s = c.play.new.self in
    let state = subst (λ r. c.in_ok-small.small ≡ shown r start (starts r) start []) c.deref.ensures.value c.in_ok-small.ensures.state in
    let can = can_be_made ports (c.ports_limits_law.ensures ports c.requires) (c.ports_frames_law.ensures ports c.requires) in
    let ts = its_turns ports c.args.seed c.args.limit rows start q made begins old s state c.play.ensures.played in
    let p = is_played ports c.args.seed c.args.limit rows start q made begins old s state c.play.ensures.played (c.playable_law.ensures ports c.requires) in
    let laws : Laws ports rows start ts = record {
      lines = λ pool lt. c.switch_owner_law.ensures.lines ports rows start ts can q made begins p.tale pool lt;
      owners = c.switch_owner_law.ensures.owners ports rows start ts can q made begins p.tale;
      clients = c.place_law.ensures.clients ports rows start ts p;
      switch = c.place_law.ensures.switch ports rows start ts p;
      taken = c.records_law.ensures.taken ports rows start ts p;
      records = c.records_law.ensures.records ports rows start ts p;
      merges = c.records_law.ensures.merges ports rows start ts p;
      lost = c.records_law.ensures.lost ports rows start ts p;
      bound = c.hops_law.ensures.bound ports rows start ts p;
      all_taken = c.whole_law.ensures.taken ports rows start ts p;
      all_records = c.whole_law.ensures.records ports rows start ts p;
      all_merges = c.whole_law.ensures.merges ports rows start ts p;
      runs = c.wants_law.ensures.runs ports rows start ts p;
      picks = λ seed by. c.wants_law.ensures.picks ports rows start ts seed p by;
      still = c.wants_law.ensures.quiet ports rows start ts p;
    } in
    if_told (Tells s c.len-count.result c.in_ok-quiet.quiet) (PortsPlayed ports c.args.seed c.args.limit) c.report.result
    (λ report tells.
    told ports c.args.seed c.args.limit rows start q made begins old s state c.play.ensures.played laws c.play.ensures.lawful
    c.in_ok-quiet.quiet c.in_ok-quiet.ensures.quiet c.in_ok-quiet.ensures.spent report (subst (λ k. Tells s k c.in_ok-quiet.quiet report) c.len-count.ensures tells))
    c.report.ensures
