-- The table of the sending virtualiser for clients of both sorts: all that is said of it, by the
-- names that are told of the pages of its hostile clients' entries.
use Rattle.std.specs.Prelude.{◌≡◌, ◌≤◌, ◌&&◌, ℕ, Bool, true, false, not, nat_lt, Some, List, []}
use Rattle.std.specs.Prelude.{◌∷◌, length, map, flat_map, slice_get}
use Rattle.play_core.specs.Moved.{Moved}
use Rattle.play_core.specs.Names.{Names, Wild}
use Rattle.play_core.specs.Wants.{Want, intake, outlet, intake_want, outlet_want}
use Rattle.play_core.specs.Sheets.{Sheet}
use Rattle.net_law.specs.Parts.Table.{is_short}
use Rattle.net_law.specs.TxParts.Parts.{SendPart, Shipper}
use Rattle.net_law.specs.TxParts.Rows.{at_home}
use Rattle.net_law.specs.TxParts.Table.{shipper_ends}
use Rattle.net_law.specs.TxScene.Rows.{ServesBoth, back_due, bads, bads_back, goods, goods_due}

-- nothing that came from the client is still to be put: its good descriptors went to the driver,
-- and its bad ones back to it
abbrev pub is_served : Wild → Names → SendPart → Moved → Shipper → Bool
is_served wild names p m c =
    not (is_short (at_home c.pool (m.sent p.active)) (goods wild names m c))
    && not (is_short (bads_back wild names m c) (bads wild names m c))

-- the client's next descriptor is needed once all that came from it is put; and its bad ones are
-- owed to it, and what came back for it
abbrev pub both_wants : Wild → Names → SendPart → Moved → Shipper → List Want
both_wants wild names p m c = intake_want c.active (is_served wild names p m c)
    ∷ outlet_want c.free (nat_lt (length (m.sent c.free)) (back_due wild names p m c)) ∷ []

-- what is said of a sending virtualiser, whoever its clients are
abbrev pub both_sheet : Wild → Names → SendPart → Sheet
both_sheet wild names p = record {
  ends = intake p.free ∷ outlet p.active ∷ flat_map shipper_ends p.clients;
  row = ServesBoth wild names p;
  wants = λ m. intake_want p.free true
      ∷ outlet_want p.active
      (nat_lt (length (m.sent p.active)) (goods_due wild names p.clients m))
      ∷ flat_map (both_wants wild names p m) p.clients;
  dues = λ m. record { queue = p.active; number = goods_due wild names p.clients m }
      ∷ map (λ (c : Shipper). record {
        queue = c.free;
        number = back_due wild names p m c;
      }) p.clients;
  hand = λ pool. [];
}

-- all that passed at its hostile clients' queues has a name that is told
abbrev pub LiesWithin : Wild → Names → SendPart → Moved → Type 0
LiesWithin wild names p m = (k : ℕ) (c : Shipper) → slice_get p.clients k ≡ Some c
    → wild c.active ≡ true
    → (length (m.taken c.active) ≤ length (names c.active))
    × (length (m.sent c.free) ≤ length (names c.free))

-- no client is hostile
abbrev pub NoneWild : Wild → SendPart → Type 0
NoneWild wild p = (k : ℕ) (c : Shipper) → slice_get p.clients k ≡ Some c → wild c.active ≡ false
