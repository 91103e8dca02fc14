-- What is named at the network's queues is named by each naming that says so there.
use Rattle.std.proofs.Common.{◌≡◌, ◌⊎◌, ℕ, List, ◌∙◌, sym, inl, inr}
use Rattle.play_core.specs.Sheets.{Scene}
use Rattle.owner_law.specs.Things.{Window, NoBuffers, Buffers, Frames, Leases, Returns, Naming}
use Rattle.net_law.specs.Owners.Ends.{NameBuffers}
use Rattle.net_law.specs.Parts.Naming.{NamePair, NameWay, NamesPart}
use Rattle.net_law.specs.Parts.Parts.{NetPart, NetDevice, NetDriver, NetReceiver, NetCopier, NetClient, Way}
use Rattle.net_law.specs.TxParts.Parts.{SendPart}
use Rattle.net_quiet.specs.TxOwners.Shipping.{NamesSend}

-- a naming says the same wherever the other names something
abbrev pub SaysSo : Naming → Naming → Type 0
SaysSo a naming = (n : ℕ) → (a n ≡ naming n) ⊎ (naming n ≡ NoBuffers)

module _ (a naming : Naming) (so : SaysSo a naming) where
  pub buffers_so : (n : ℕ) (ws : List Window) → naming n ≡ Buffers ws → a n ≡ Buffers ws
  buffers_so n ws h = by (so n)
    where
      by : (a n ≡ naming n) ⊎ (naming n ≡ NoBuffers) → a n ≡ Buffers ws
      by (inl e) = e ∙ h
      by (inr none) = let no : NoBuffers ≡ Buffers ws = sym none ∙ h in absurd cc

  frames_so : (n : ℕ) (ws : List Window) (r : ℕ → ℕ) → naming n ≡ Frames ws r → a n ≡ Frames ws r
  frames_so n ws r h = by (so n)
    where
      by : (a n ≡ naming n) ⊎ (naming n ≡ NoBuffers) → a n ≡ Frames ws r
      by (inl e) = e ∙ h
      by (inr none) = let no : NoBuffers ≡ Frames ws r = sym none ∙ h in absurd cc

  leases_so : (n : ℕ) (ws : List Window) → naming n ≡ Leases ws → a n ≡ Leases ws
  leases_so n ws h = by (so n)
    where
      by : (a n ≡ naming n) ⊎ (naming n ≡ NoBuffers) → a n ≡ Leases ws
      by (inl e) = e ∙ h
      by (inr none) = let no : NoBuffers ≡ Leases ws = sym none ∙ h in absurd cc

  returns_so : (n : ℕ) (ws : List Window) → naming n ≡ Returns ws → a n ≡ Returns ws
  returns_so n ws h = by (so n)
    where
      by : (a n ≡ naming n) ⊎ (naming n ≡ NoBuffers) → a n ≡ Returns ws
      by (inl e) = e ∙ h
      by (inr none) = let no : NoBuffers ≡ Returns ws = sym none ∙ h in absurd cc

  pair_so : (ws : List Window) (p q : ℕ) → NamePair naming ws p q → NamePair a ws p q
  pair_so ws p q h = (buffers_so p ws h.0, buffers_so q ws h.1)

  way_so : (w : Way) → NameWay naming w → NameWay a w
  way_so w h = (h.0, buffers_so w.input h.0 h.1, out h.2)
    where
      out : NameBuffers h.0 (naming w.output) → NameBuffers h.0 (a w.output)
      out (inl e) = inl (buffers_so w.output h.0 e)
      out (inr x) = inr (x.0, frames_so w.output h.0 x.0 x.1)

  pub part_so : (scene : Scene) (p : NetPart) → NamesPart naming scene p → NamesPart a scene p
  part_so scene (NetDevice rx_free rx_active tx_active tx_free frames drops) h = ((h.0.0, pair_so h.0.0 rx_free rx_active h.0.1), (h.1.0, pair_so h.1.0 tx_active tx_free h.1.1))
  part_so scene (NetDriver ways) h = λ k w at. way_so w (h k w at)
  part_so scene (NetReceiver active free pool clients) h = record {
    frames = frames_so active _ _ h.frames;
    free = buffers_so free _ h.free;
    leases = λ k c at. leases_so c.active _ (h.leases k c at);
    returns = λ k c at. returns_so c.free _ (h.returns k c at);
  }
  part_so scene (NetCopier lease_active lease_free rx_active rx_free drops) h = ((h.0.0, leases_so lease_active h.0.0 h.0.1, returns_so lease_free h.0.0 h.0.2), (h.1.0, pair_so h.1.0 rx_free rx_active h.1.1))
  part_so scene (NetClient program mac rx_active rx_free tx_active tx_free rx tx) h = (pair_so _ rx_active rx_free h.0, pair_so _ tx_active tx_free h.1)

  pub send_so : (p : SendPart) → NamesSend naming p → NamesSend a p
  send_so p h = record {
    active = buffers_so p.active _ h.active;
    free = buffers_so p.free _ h.free;
    sends = λ k c at. buffers_so c.active _ (h.sends k c at);
    returns = λ k c at. buffers_so c.free _ (h.returns k c at);
  }
