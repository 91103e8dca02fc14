-- What a client puts to be sent, by its row and by the frames that came to it.
use Rattle.std.specs.Prelude.{◌≡◌, ℕ, List, ◌++◌, map}
use Rattle.cargo_core.specs.Lists.{IsPrefix}
use Rattle.frame_core.specs.declared.mac.Mac.{Mac}
use Rattle.wire_core.specs.Lists.{Passed}
use Rattle.class_expect.specs.NetExpect.Expecting.{frames_for}
use Rattle.buffer_kit.specs.Entries.{frame_of}
use Rattle.buffer_kit.specs.Pools.{given_entry}
use Rattle.client_programs.specs.Net.Programs.{frames_out}
use Rattle.client_programs.specs.Net.Clients.{ClientRow, rx_active, tx_free}
use Rattle.client_programs.specs.declared.net.NetClient.{NetClient}
use Rattle.net_law.specs.Receiving.{AreRoomy}

-- a client of an address whose row holds; what it recorded is a beginning of those of some frames
-- that are for it; and each buffer that it fills is long enough
pub record IsSending (c : NetClient) (mac : Mac) (frames : List (List ℕ))
    (passed : Passed) : Type 0 where
  pub row : ClientRow c passed
  pub address : c.program.mac ≡ mac
  pub came : IsPrefix c.frames.tape.shown (frames_for mac frames)
  pub room : AreRoomy (frames_out c.program (map frame_of (passed.taken (rx_active c))))
      (map (given_entry c.outbox.stock.base c.outbox.stock.size) row.spare
      ++ passed.taken (tx_free c))
