-- Where nobody is runnable, all frames of the network went through but those that were dropped, and all
-- replies of the block class.
use Rattle.std.proofs.Common.{◌≡◌, ◌∙◌, Some, [], sym, subst, arith}
use Rattle.std.proofs.lemmas.List.{length-map}
use Rattle.wire_core.specs.Journal.{BellsHold, QueuesFlow}
use Rattle.sdf_plan.specs.declared.plan.Plan.{Plan}
use Rattle.sdf_plan.specs.declared.plan.Net.{Net}
use Rattle.sdf_plan.specs.declared.plan.Blk.{Blk}
use Rattle.sdf_check.specs.Valid.{Valid}
use Rattle.trace_text.specs.declared.trace.Trace.{Trace}
use Rattle.play_core.specs.Names.{told_by}
use Rattle.play_core.specs.Wants.{Needful}
use Rattle.play_core.specs.Sheets.{needful}
use Rattle.play_core.specs.Still.{IsStill}
use Rattle.play_core.proofs.Moments.{last_moment}
use Rattle.play_core.proofs.Quieting.{quiet_still}
use Rattle.net_law.specs.TxParts.Numbers.{NetPlace}
use Rattle.net_quiet.specs.Still.{HasRooms, IsNetwork}
use Rattle.net_quiet.specs.TxCast.Casting.{NoneHostile}
use Rattle.net_quiet.proofs.Receiving.{arrives_all, sends_all}
use Rattle.blk_law.specs.Sheets.Numbers.{BlkPlace}
use Rattle.blk_quiet.specs.Still.{HasBlkRooms, IsBlock, AnswersAll}
use Rattle.blk_quiet.proofs.Answering.{answers_all}
use Rattle.wired_law.proofs.QuietLemmas.Quieting.{network_there, none_wild}
use Rattle.wired_law.proofs.QuietLemmas.Answering.{block_there}
use Rattle.cast_core.specs.Casts.{net_place, blk_place}
use Rattle.cast_law.proofs.QuietLemmas.Rooms.{pools_are, rooms_are}
use Rattle.cast_law.proofs.QuietLemmas.Blocks.{blk_pools_are, blk_rooms_are}
use Rattle.system_core.specs.Shows.{Setting, Shown, manner_in, hostile_in, moved_in, sheet_in, wild_by, RowsStand}
use Rattle.system_core.proofs.Telling.{runs_plain}
use Rattle.actor_set.specs.Laws.Kinds.{AllCalm, sheet}
use Rattle.system_core.specs.Plays.{runnable_now}
use Rattle.system_core.specs.Lawful.{StandsLawful}
use Rattle.system_core.specs.Builds.{IsCastOf}
use Rattle.system_core.specs.GivesBack.{BlkGivesBack, NetGivesBack}
use Rattle.system_core.specs.Dropped.{NetDropsAsMany, calls_by}
use Rattle.system_core.specs.PlanPlays.{ShowsAllFrames, ShowsAllReplies, net_dropped}
use Rattle.system_core.proofs.Leasing.{net_drops_so, net_few}
use Rattle.system_core.proofs.Networking.{shows_all_frames}
use Rattle.system_core.proofs.Replying.{shows_all_replies}

-- the queues of a network of which no client is hostile have no hostile end
module _ (plan : Plan) (trace : Trace) (s : Setting) (valid : Valid plan) (gives : NetGivesBack plan) (net : Net) (has : plan.net ≡ Some net) (cast : IsCastOf plan trace s) where
  pub net_rooms : HasRooms (hostile_in s) s.rows (net_place plan trace)
  net_rooms = subst (λ rows. HasRooms (hostile_in s) rows (net_place plan trace)) (sym cast.rows) (rooms_are plan trace net has valid s.cast cast.parts gives)

  pub none_there : NoneHostile (wild_by s) (net_place plan trace)
  none_there = none_wild (hostile_in s) s.rows (net_place plan trace) (pools_are plan trace net has valid) net_rooms

-- where nobody is hostile and nobody runnable
module _ (s : Shown) (stands : StandsLawful s) (calm : AllCalm s.setting.cast) (quiet : runnable_now s ≡ []) where
  abbrev actors : Needful
  actors = needful (sheet s.setting.scene) s.setting.cast (moved_in s.setting s.journal)

  pub still_now : IsStill (hostile_in s.setting) s.setting.history s.setting.rows actors s.journal
  still_now = quiet_still (manner_in s.setting) s.setting.history s.setting.rows actors s.journal (record {
    bells_hold = last_moment (BellsHold (hostile_in s.setting) s.setting.history s.setting.rows) s.journal stands.lawful.bells_hold;
    flows = last_moment (QueuesFlow s.setting.history s.setting.rows) s.journal stands.lawful.flows;
    peopled = λ n row at r. let lt = stands.fitted.peopled n row at r in let size = length-map s.setting.cast (λ p. (sheet s.setting.scene p).wants (moved_in s.setting s.journal)) in omega (arith, lt, size);
    quiet = sym (runs_plain s.setting calm s.journal) ∙ quiet;
  })

-- where nobody is runnable, but perhaps hostile clients of other classes
module _ (s : Shown) (stands : StandsLawful s) (quiet : runnable_now s ≡ []) where
  abbrev needs : Needful
  needs = needful (sheet_in s.setting) s.setting.cast (moved_in s.setting s.journal)

  pub still_beside : IsStill (hostile_in s.setting) s.setting.history s.setting.rows needs s.journal
  still_beside = quiet_still (manner_in s.setting) s.setting.history s.setting.rows needs s.journal (record {
    bells_hold = last_moment (BellsHold (hostile_in s.setting) s.setting.history s.setting.rows) s.journal stands.lawful.bells_hold;
    flows = last_moment (QueuesFlow s.setting.history s.setting.rows) s.journal stands.lawful.flows;
    peopled = λ n row at r. let lt = stands.fitted.peopled n row at r in let size = length-map s.setting.cast (λ p. (sheet_in s.setting p).wants (moved_in s.setting s.journal)) in omega (arith, lt, size);
    quiet = quiet;
  })

  rows_now : RowsStand s.setting s.journal
  rows_now = last_moment (RowsStand s.setting) s.journal stands.lawful.rows_hold

  -- the network of a plan
  module _ (plan : Plan) (valid : Valid plan) (gives : NetGivesBack plan) (net : Net) (has : plan.net ≡ Some net) (trace : Trace) (cast : IsCastOf plan trace s.setting) where
    abbrev place : NetPlace
    place = net_place plan trace

    network : IsNetwork (hostile_in s.setting) s.setting.scene s.setting.scene.frames [] s.setting.rows needs place (moved_in s.setting s.journal)
    network = network_there s.setting.scene s.setting.rows s.setting.cast (told_by s.setting.names) (moved_in s.setting s.journal) place (cast.whole net has) (pools_are plan trace net has valid) (net_rooms plan trace s.setting valid gives net has cast) rows_now

    pub shows_whole_net : ShowsAllFrames place trace.frames (net_dropped plan trace (calls_by stands.calls.past s.journal)) s.state
    shows_whole_net =
        shows_all_frames plan net trace s cast has stands.told (calls_by stands.calls.past s.journal) stands.calls.calls_are (none_there plan trace s.setting valid gives net has cast) gives
        (arrives_all (hostile_in s.setting) s.setting.history s.setting.rows needs s.journal s.setting.scene s.setting.scene.frames [] place still_beside network)
        (sends_all (hostile_in s.setting) s.setting.history s.setting.rows needs s.journal s.setting.scene s.setting.scene.frames [] place still_beside network)
        (last_moment (λ j. NetDropsAsMany place (net_dropped plan trace (calls_by stands.calls.past j)) (moved_in s.setting j)) s.journal (net_drops_so plan trace s cast stands net has))
        (net_few plan trace s cast stands net has)

  -- the block class of a plan
  module _ (plan : Plan) (valid : Valid plan) (gives : BlkGivesBack plan) (blk : Blk) (has : plan.blk ≡ Some blk) (trace : Trace) (cast : IsCastOf plan trace s.setting) where
    abbrev disk_place : BlkPlace
    disk_place = blk_place plan trace

    blk_rooms : HasBlkRooms (hostile_in s.setting) s.setting.rows disk_place
    blk_rooms = subst (λ rows. HasBlkRooms (hostile_in s.setting) rows disk_place) (sym cast.rows) (blk_rooms_are plan trace valid blk has s.setting.cast cast.parts gives)

    block : IsBlock (hostile_in s.setting) s.setting.scene s.setting.rows needs disk_place (moved_in s.setting s.journal)
    block = block_there s.setting.scene s.setting.rows s.setting.cast (told_by s.setting.names) (moved_in s.setting s.journal) disk_place (cast.whole_block blk has) (blk_pools_are plan trace valid blk has) blk_rooms rows_now

    answers : AnswersAll s.setting.scene disk_place (moved_in s.setting s.journal)
    answers = answers_all (hostile_in s.setting) s.setting.history s.setting.rows needs s.journal s.setting.scene disk_place still_beside block

    pub shows_whole_blk : ShowsAllReplies disk_place s.state
    shows_whole_blk = shows_all_replies plan blk trace s cast has stands.told gives answers.answered
