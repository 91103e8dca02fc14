-- What a play of a switch's ports comes to.
use Rattle.std.specs.Prelude.{◌≡◌, ◌+◌, ◌≤◌, ℕ, true, false, Some, List, [], length, slice_get}
use Rattle.std.specs.List.{count_by}
use Rattle.cargo_core.specs.Lists.{IsPrefix, Merge, PrefixMerge}
use Rattle.frame_core.specs.declared.mac.Mac.{Mac}
use Rattle.wire_core.specs.declared.names.QueueRow.{QueueRow}
use Rattle.wire_core.specs.declared.names.Entry.{Entry}
use Rattle.wire_core.specs.Journal.{start_history, EachMoment}
use Rattle.wire_core.specs.Picks.{PickedFrom}
use Rattle.play_core.specs.Still.{IsQuiet}
use Rattle.owner_law.specs.Owners.{OneOwner}
use Rattle.owner_law.specs.Keeping.{start_table}
use Rattle.owner_law.specs.Census.{census}
use Rattle.line_text.specs.declared.ports_text.ports.Ports.{Ports}
use Rattle.line_text.specs.declared.ports_text.report.PortReport.{PortReport}
use Rattle.small_system.specs.Standing.{IsLawful}
use Rattle.small_system.specs.Wants.{runs_by, wanted_by, calm}
use Rattle.switched_law.specs.SwitchLaw.Ports.{all_to}
use Rattle.switched_law.specs.declared.switch_class.actors.TheConstants.{BUFFERS}
use Rattle.switched_law.specs.SwitchClass.Queues.{AreQueues}
use Rattle.switched_law.specs.SwitchMoment.Takes.{reaches_none, reaching, frames_in, sent_by}
use Rattle.switched_law.specs.SwitchMoment.Wants.{port_wants}
use Rattle.switched_law.specs.Playing.{taken_by}
use Rattle.switched_law.specs.SwitchOwners.Owning.{switch_naming, switch_keepers}
use Rattle.switched_law.specs.SwitchOwners.Lines.{table_after}
use Rattle.switch_play.specs.SwitchSystem.Bounds.{count_of, ports_bound}
use Rattle.switch_play.specs.SwitchSystem.Lines.{lines_from}

-- the actors that are runnable after a journal: the clients of the ports, and the switch
abbrev pub runs_after : Ports → List QueueRow → List Entry → List ℕ
runs_after ports rows journal = runs_by (port_wants ports) rows (count_of ports + 1) journal

-- nobody is runnable after a journal
abbrev pub IsStill : Ports → List QueueRow → List Entry → Type 0
IsStill ports rows journal = IsQuiet calm (start_history rows) rows
    (wanted_by (port_wants ports) rows (count_of ports + 1) journal) journal

-- each queue hands over what was put, once and in order, each call is in discipline, bells hold,
-- and between two marks no actor makes more than 8 calls on an end; each buffer has one owner at
-- each moment; and the lines of the pools are those of the table of owners after the journal
pub record IsOwned (ports : Ports) (rows : List QueueRow) (report : PortReport) : Type 0 where
  pub lawful : IsLawful rows report.journal
  pub owners : EachMoment (OneOwner (switch_naming (count_of ports)) (start_history rows)
      (start_table (switch_keepers (count_of ports)))) report.journal
  pub pools : report.pools ≡ lines_from (λ pool. census (table_after (count_of ports) rows
      report.journal) pool BUFFERS) 0 (count_of ports)

-- the switch took the first frames of each port; each port recorded the first of those that go
-- there, in the order in which the switch took them: a merge of beginnings of what each other port
-- sends to it; and those that go to no port were lost
pub record ShowsFrames (ports : Ports) (report : PortReport) : Type 0 where
  pub many : length report.records ≡ count_of ports
  pub taken : (port : ℕ) (frames : List (List ℕ)) → slice_get ports.sends port ≡ Some frames
      → IsPrefix (sent_by port (taken_by ports report.journal)) frames
  pub records : (port : ℕ) (got : List (List ℕ)) → slice_get report.records port ≡ Some got
      → IsPrefix got (frames_in (reaching ports.macs port (taken_by ports report.journal)))
  pub merges : (port : ℕ) (mac : Mac) (got : List (List ℕ)) → slice_get ports.macs port ≡ Some mac
      → slice_get report.records port ≡ Some got → PrefixMerge (all_to 0 port mac ports.sends) got
  pub lost : report.lost
      ≡ count_by (reaches_none ports.macs) (taken_by ports report.journal)

-- the switch took every frame, and each port recorded all that go there: a merge of all that each
-- other port sends to it
pub record ShowsAll (ports : Ports) (report : PortReport) : Type 0 where
  pub taken : (port : ℕ) (frames : List (List ℕ)) → slice_get ports.sends port ≡ Some frames
      → sent_by port (taken_by ports report.journal) ≡ frames
  pub records : (port : ℕ) (got : List (List ℕ)) → slice_get report.records port ≡ Some got
      → got ≡ frames_in (reaching ports.macs port (taken_by ports report.journal))
  pub merges : (port : ℕ) (mac : Mac) (got : List (List ℕ)) → slice_get ports.macs port ≡ Some mac
      → slice_get report.records port ≡ Some got → Merge (all_to 0 port mac ports.sends) got

-- the ports of a switch were played with a seed and a limit of steps, at the queues between their
-- clients and the switch
pub record PortsPlayed (ports : Ports) (seed limit : ℕ) (report : PortReport) : Type 0 where
  pub rows : List QueueRow
  pub queues : AreQueues (count_of ports) rows
  -- the steps are the calls of the journal, each by the actor that the seed picks among those that
  -- are runnable then, until nobody is or so many were made
  pub counted : report.steps ≡ length report.journal
  pub picked : PickedFrom (runs_after ports rows) seed [] report.journal
  pub within : report.steps ≤ limit
  pub quiet : report.quiet ≡ true → IsStill ports rows report.journal
  pub goes_on : report.quiet ≡ false → runs_after ports rows report.journal ≡ [] → ⊥
  pub spent : report.quiet ≡ false → report.steps ≡ limit
  -- it is quiet where it may make as many steps as are enough
  pub enough : ports_bound ports ≤ limit → report.quiet ≡ true
  pub owned : IsOwned ports rows report
  pub shows : ShowsFrames ports report
  pub whole : report.quiet ≡ true → ShowsAll ports report
