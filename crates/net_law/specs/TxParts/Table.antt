-- The table of the sending virtualiser: all that is said of it.
use Rattle.std.specs.Prelude.{true, not, nat_lt, List, [], ◌∷◌, length, map, flat_map}
use Rattle.play_core.specs.Moved.{Moved, Seat}
use Rattle.play_core.specs.Wants.{Want, intake, outlet, intake_want, outlet_want}
use Rattle.play_core.specs.Sheets.{Sheet}
use Rattle.net_law.specs.Parts.Table.{is_short}
use Rattle.net_law.specs.TxParts.Parts.{SendPart, Shipper}
use Rattle.net_law.specs.TxParts.Rows.{MergesSends, at_home, sends_due}

-- the ends at a client's queues
abbrev pub shipper_ends : Shipper → List Seat
shipper_ends c = intake c.active ∷ outlet c.free ∷ []

-- what came from the client is still to be put, or its next descriptor is needed; and what came
-- back for it is owed to it
abbrev pub shipper_wants : SendPart → Moved → Shipper → List Want
shipper_wants p m c =
    intake_want c.active (not (is_short (at_home c.pool (m.sent p.active)) (m.taken c.active)))
    ∷ outlet_want c.free (is_short (m.sent c.free) (at_home c.pool (m.taken p.free))) ∷ []

-- what is said of a sending virtualiser: it owes the driver what came from its clients, and each
-- client what came back for it; it needs what comes back, and the next descriptor of a client while
-- none of that client is still to be put
abbrev pub send_sheet : SendPart → Sheet
send_sheet p = record {
  ends = intake p.free ∷ outlet p.active ∷ flat_map shipper_ends p.clients;
  row = MergesSends p;
  wants = λ m. intake_want p.free true
      ∷ outlet_want p.active (nat_lt (length (m.sent p.active)) (sends_due p.clients m))
      ∷ flat_map (shipper_wants p m) p.clients;
  dues = λ m. record { queue = p.active; number = sends_due p.clients m }
      ∷ map (λ (c : Shipper). record {
        queue = c.free;
        number = length (at_home c.pool (m.taken p.free));
      }) p.clients;
  hand = λ pool. [];
}
