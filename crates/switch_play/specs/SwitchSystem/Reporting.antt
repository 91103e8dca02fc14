-- What a report tells of a player's last moment, for the contracts of this crate alone.
use Rattle.std.specs.Prelude.{◌≡◌, ℕ, Bool, Some, List, length, slice_get}
use Rattle.client_programs.specs.declared.net.NetClient.{NetClient}
use Rattle.net_switch.specs.declared.switch.NetSwitch.{NetSwitch}
use Rattle.line_text.specs.declared.ports_text.report.PortReport.{PortReport}
use Rattle.small_system.specs.Shows.{Shown}
use Rattle.switched_law.specs.declared.switch_class.member.Member.{Member}
use Rattle.switched_law.specs.declared.switch_class.member.Member.TheVariants as Members
use Rattle.switch_play.specs.SwitchSystem.Lines.{lines_from, counted}

-- what the client of a place recorded
abbrev pub IsRecord : List Member → (place : ℕ) → List (List ℕ) → Type 0
IsRecord actors place frames = (c : NetClient) → slice_get actors place ≡ Some (Members.Client c)
    → frames ≡ c.frames.tape.shown

-- how many frames the switch of a place counted as lost
abbrev pub IsLost : List Member → (place lost : ℕ) → Type 0
IsLost actors place lost = (v : NetSwitch) → slice_get actors place ≡ Some (Members.Switch v)
    → lost ≡ v.desk.lost

-- what the clients of the first places recorded
pub record AreRecords (actors : List Member) (places : ℕ) (records : List (List (List ℕ))) : Type 0
  where
    pub many : length records ≡ places
    pub each : (k : ℕ) (frames : List (List ℕ)) → slice_get records k ≡ Some frames
        → IsRecord actors k frames

-- a report of what a player shows
pub record Tells (s : Shown Member) (ports : ℕ) (quiet : Bool) (report : PortReport) : Type 0 where
  pub ending : report.quiet ≡ quiet
  pub steps : report.steps ≡ length report.journal
  pub journal : report.journal ≡ s.journal
  pub records : AreRecords s.moment.actors ports report.records
  pub lost : IsLost s.moment.actors ports report.lost
  pub pools : report.pools ≡ lines_from (counted s.moment.world) 0 ports
