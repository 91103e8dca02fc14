use Rattle.std.proofs.Common.{◌<◌, ℕ, List, map, sym, subst}
use Rattle.frame_core.specs.declared.mac.Mac.{Mac}
use Rattle.cargo_core.specs.declared.item.Ask.{Ask}
use Rattle.frame_core.specs.Frames.{turned_round}
use Rattle.class_expect.specs.NetExpect.Expecting.{answers_for, frames_for}
use Rattle.class_expect.specs.SerialSwitch.Switching.{input_of}
use Rattle.class_expect.specs.BlkExpect.Replies.{replies_of}
use Rattle.expect_core.specs.Expected.{client_asks, client_entry}
use Rattle.cast_core.specs.Sources.{client_mac}
use Rattle.system_core.specs.Isolation.{BlkRests, IsRecordBut, IsRecordIn, NetRests, SerialRests, may_drop, net_may_drop}
use Rattle.system_core.proofs.Isolating.{echoes_of, frames_of, input_for, of_one, replies_for}
use Rattle.system_core.proofs.isolation.isolation_law.Goals as goal

pub returns-clause-net : goal.returns-clause-net
returns-clause-net k plan other trace told s t c d got seen h g same at to = record {
  one = frames_of plan trace s c got h same.here at;
  other = subst (λ (xs : List (List ℕ)). IsRecordBut xs (net_may_drop other d) (NetRests other t) seen) (sym same.frames)
      (subst (λ (m : Mac). IsRecordBut (frames_for m told.frames) (net_may_drop other d) (NetRests other t) seen) (sym same.mac) (frames_of other told t d seen g same.there to));
}

pub returns-clause-echoes : goal.returns-clause-echoes
returns-clause-echoes k plan other trace told s t c d sent seen h g same is_echo and_there at to = record {
  one = echoes_of plan trace s c sent h same.here is_echo at;
  other = subst (λ (xs : List (List ℕ)). IsRecordBut (map (λ (frame : List ℕ). turned_round frame (client_mac plan c)) xs) (net_may_drop other d) (Unit {0}) seen) (sym same.frames)
      (subst (λ (m : Mac). IsRecordBut (answers_for m told.frames) (net_may_drop other d) (Unit {0}) seen) (sym same.mac) (echoes_of other told t d seen g same.there and_there to));
}

pub returns-clause-serial : goal.returns-clause-serial
returns-clause-serial k plan other trace told s t c got seen h g same at to =
    let lt = same.here in
    let below = subst (λ n. c < n) same.many lt in
    record {
      one = input_for plan trace s c got h lt at;
      other = subst (λ (xs : List ℕ). IsRecordBut xs (may_drop other c) (SerialRests other t) seen) (sym same.input)
          (subst (λ n. IsRecordBut (input_of n c told.input) (may_drop other c) (SerialRests other t) seen) (sym same.many) (input_for other told t c seen g below to));
    }

pub returns-clause-blk : goal.returns-clause-blk
returns-clause-blk k plan other trace told s t c d got seen h g same at to =
    let asks = client_asks trace c in
    of_one (replies_of trace.image (client_entry plan c) asks) (replies_of told.image (client_entry other d) asks) (BlkRests plan s) (BlkRests other t) got seen
    (λ quiet rests. k.isolation_law.ensures.blk trace.image told.image (client_entry plan c) (client_entry other d) asks quiet rests got seen same.partition)
    (replies_for plan trace s c got h same.here at)
    (subst (λ (xs : List Ask). IsRecordIn (replies_of told.image (client_entry other d) xs) (BlkRests other t) seen) (sym same.asks) (replies_for other told t d seen g same.there to))
