-- What a play of a switch's ports comes to, where it was reported.
use Rattle.std.proofs.Common.{◌≡◌, ◌+◌, ◌*◌, ◌-◌, ◌<◌, ◌≤◌, ◌++◌, ℕ, Bool, true, false, Some, List, [], ◌∷◌, Result, Ok, Err, IfOk, length, slice_get, refl, sym, ap, ap₂, ◌∙◌, subst, arith}
use Rattle.std.specs.List.{count_by}
use Rattle.std.proofs.lemmas.List.{length-map}
use Rattle.cargo_core.specs.Lists.{IsPrefix, Merge, PrefixMerge}
use Rattle.cargo_core.specs.declared.memory.Memory.{Memory}
use Rattle.frame_core.specs.declared.mac.Mac.{Mac}
use Rattle.wire_core.specs.declared.names.QueueRow.{QueueRow}
use Rattle.wire_core.specs.declared.names.Entry.{Entry}
use Rattle.wire_core.specs.Queues.{starts}
use Rattle.wire_core.specs.Journal.{start_history, EachMoment}
use Rattle.wire_core.specs.Picks.{PickedFrom}
use Rattle.play_core.proofs.Lists.{there_below}
use Rattle.owner_law.specs.Owners.{OneOwner}
use Rattle.owner_law.specs.Keeping.{start_table}
use Rattle.owner_law.specs.Census as Counts
use Rattle.line_text.specs.declared.ports_text.ports.Ports.{Ports}
use Rattle.line_text.specs.declared.ports_text.report.PortReport.{PortReport}
use Rattle.small_system.specs.Tales.{Moment, Turn, start_of, running_in, IsTale, after_tale, journal_of, entry_of, PickedBy}
use Rattle.small_system.specs.Standing.{Begins, IsLawful}
use Rattle.small_system.specs.Shows.{Shown, shown, Played, IsQuiet, IsSpent}
use Rattle.small_system.proofs.Telling.{tale_count}
use Rattle.client_programs.specs.declared.net.NetClient.{NetClient}
use Rattle.net_switch.specs.declared.switch.NetSwitch.{NetSwitch}
use Rattle.switched_law.specs.SwitchLaw.Ports.{all_to}
use Rattle.switched_law.specs.declared.switch_class.member.Member.{Member}
use Rattle.switched_law.specs.declared.switch_class.member.Member.TheVariants as Members
use Rattle.switched_law.specs.SwitchClass.Members.{member_means}
use Rattle.switched_law.specs.SwitchClass.Queues.{AreQueues}
use Rattle.switched_law.specs.SwitchClass.Casting.{AreMade}
use Rattle.switched_law.specs.SwitchMoment.Scene.{ArePlayable}
use Rattle.switched_law.specs.SwitchMoment.Takes.{reaches_none, reaching, frames_in, sent_by}
use Rattle.switched_law.specs.Playing.{IsPlayed, actors_after, taken_by}
use Rattle.switched_law.specs.SwitchOwners.Owning.{switch_naming, switch_keepers}
use Rattle.switched_law.specs.SwitchOwners.Lines.{table_after, queued, IsLine}
use Rattle.switch_play.specs.SwitchSystem.Bounds.{ports_bound}
use Rattle.switch_play.specs.SwitchSystem.Lines.{lines_from, counted}
use Rattle.switch_play.specs.SwitchSystem.Reporting.{Tells}
use Rattle.switch_play.specs.SwitchSystem.Playing.{runs_after, IsStill, IsOwned, ShowsFrames, ShowsAll, PortsPlayed}
use Rattle.switch_play.proofs.SwitchSystem.Reports.{lines_alike}

-- a line tells the counts
line_counts : (q : ℕ) (c : Counts.Census) → IsLine q c → record { queues = q; hands = 4 - q; lent = 0 } ≡ c
line_counts q c line =
    let a : q ≡ c.queues = sym line.queues_are in
    let all : c.queues + c.hands ≡ 4 = line.all in
    let b : 4 - q ≡ c.hands = omega (arith, a, all) in
    ap₂ (λ x y. let z : Counts.Census = record { queues = x; hands = y; lent = 0 } in z) a b ∙ ap (λ x. let z : Counts.Census = record { queues = c.queues; hands = c.hands; lent = x } in z) (sym line.none_lent)

-- what holds of each play of ports, by the laws on them
pub record Laws (ports : Ports) (rows : List QueueRow) (start : List Member) (turns : List (Turn Member)) : Type 0 where
  pub lines : (pool : ℕ) → pool < 2 * length ports.macs → IsLine (queued (after_tale (start_of rows start) turns).world pool) (Counts.census (table_after (length ports.macs) rows (journal_of turns)) pool 4)
  pub owners : EachMoment (OneOwner (switch_naming (length ports.macs)) (start_history rows) (start_table (switch_keepers (length ports.macs)))) (journal_of turns)
  pub clients : (port : ℕ) → port < length ports.macs → (c : NetClient) × (slice_get (actors_after rows start turns) port ≡ Some (Members.Client c))
  pub switch : (v : NetSwitch) × (slice_get (actors_after rows start turns) (length ports.macs) ≡ Some (Members.Switch v))
  pub taken : (port : ℕ) (frames : List (List ℕ)) → slice_get ports.sends port ≡ Some frames → IsPrefix (sent_by port (taken_by ports (journal_of turns))) frames
  pub records : (port : ℕ) (c : NetClient) → slice_get (actors_after rows start turns) port ≡ Some (Members.Client c) → IsPrefix c.frames.tape.shown (frames_in (reaching ports.macs port (taken_by ports (journal_of turns))))
  pub merges : (port : ℕ) (mac : Mac) → slice_get ports.macs port ≡ Some mac → (c : NetClient) → slice_get (actors_after rows start turns) port ≡ Some (Members.Client c) → PrefixMerge (all_to 0 port mac ports.sends) c.frames.tape.shown
  pub lost : (v : NetSwitch) → slice_get (actors_after rows start turns) (length ports.macs) ≡ Some (Members.Switch v) → v.desk.lost ≡ count_by (reaches_none ports.macs) (taken_by ports (journal_of turns))
  pub bound : length (journal_of turns) < ports_bound ports
  pub all_taken : running_in member_means (after_tale (start_of rows start) turns) ≡ [] → (port : ℕ) (frames : List (List ℕ)) → slice_get ports.sends port ≡ Some frames → sent_by port (taken_by ports (journal_of turns)) ≡ frames
  pub all_records : running_in member_means (after_tale (start_of rows start) turns) ≡ [] → (port : ℕ) (c : NetClient) → slice_get (actors_after rows start turns) port ≡ Some (Members.Client c) → c.frames.tape.shown ≡ frames_in (reaching ports.macs port (taken_by ports (journal_of turns)))
  pub all_merges : running_in member_means (after_tale (start_of rows start) turns) ≡ [] → (port : ℕ) (mac : Mac) → slice_get ports.macs port ≡ Some mac → (c : NetClient) → slice_get (actors_after rows start turns) port ≡ Some (Members.Client c) → Merge (all_to 0 port mac ports.sends) c.frames.tape.shown
  pub runs : running_in member_means (after_tale (start_of rows start) turns) ≡ runs_after ports rows (journal_of turns)
  pub picks : (seed : ℕ) → PickedBy member_means (start_of rows start) seed turns → PickedFrom (runs_after ports rows) seed [] (journal_of turns)
  pub still : running_in member_means (after_tale (start_of rows start) turns) ≡ [] → IsStill ports rows (journal_of turns)

module _ (ports : Ports) (seed limit : ℕ) (rows : List QueueRow) (start : List Member) (q : AreQueues (length ports.macs) rows) (made : AreMade ports start) (begins : Begins member_means rows start) (old s : Shown Member) (old_is : old ≡ shown rows start (starts rows) start []) (was : Played member_means old s seed limit) where
  abbrev n : ℕ
  n = length ports.macs

  abbrev pub played : Played member_means (shown rows start (starts rows) start []) s seed limit
  played = subst (λ o. Played member_means o s seed limit) old_is was

  abbrev pub its_turns : List (Turn Member)
  its_turns = played.turns

  pub is_played : ArePlayable ports → IsPlayed ports rows start its_turns
  is_played playable = record { playable = playable; queues = q; made = made; begins = begins; tale = played.tale }

  pub actors_many : length s.moment.actors ≡ n + 1
  actors_many = ap (λ (mo : Moment Member). length mo.actors) played.moment ∙ (tale_count member_means (start_of rows start) played.turns played.tale ∙ made.many)

  module _ (laws : Laws ports rows start its_turns) where
    line_here : (pool : ℕ) → pool < 2 * n → IsLine (queued s.moment.world pool) (Counts.census (table_after n rows s.journal) pool 4)
    line_here pool lt =
        subst (λ (mo : Moment Member). IsLine (queued mo.world pool) (Counts.census (table_after n rows s.journal) pool 4)) (sym played.moment)
        (subst (λ j. IsLine (queued (after_tale (start_of rows start) played.turns).world pool) (Counts.census (table_after n rows j) pool 4)) (sym played.journal) (laws.lines pool lt))

    pub few_queued : (pool : ℕ) → pool < 2 * n → queued s.moment.world pool ≤ 4
    few_queued pool lt =
        let line = line_here pool lt in
        let same = line.queues_are in
        let all = line.all in
        omega (arith, same, all)

    module _ (lawful : IsLawful s.rows s.journal) (quiet : Bool) (is_quiet : quiet ≡ true → IsQuiet member_means s) (is_spent : quiet ≡ false → IsSpent member_means old s limit) (report : PortReport) (tells : Tells s n quiet report) where
      journal_is : report.journal ≡ journal_of played.turns
      journal_is = tells.journal ∙ played.journal

      steps_are : report.steps ≡ length s.journal
      steps_are = tells.steps ∙ ap (λ l. length l) tells.journal

      none_runs : report.quiet ≡ true → running_in member_means (after_tale (start_of rows start) played.turns) ≡ []
      none_runs h = subst (λ m. running_in member_means m ≡ []) played.moment (is_quiet (sym tells.ending ∙ h))

      all_steps : report.quiet ≡ false → report.steps ≡ limit
      all_steps h =
          let count : length s.journal ≡ length old.journal + limit = (is_spent (sym tells.ending ∙ h)).count in
          let none : length old.journal ≡ 0 = ap (λ (o : Shown Member). length o.journal) old_is in
          let steps = steps_are in
          omega (arith, count, none, steps)

      is_within : report.steps ≤ limit
      is_within =
          let most = played.within in
          let many : length (journal_of played.turns) ≡ length played.turns = length-map played.turns entry_of in
          let same : length s.journal ≡ length (journal_of played.turns) = ap (λ l. length l) played.journal in
          let steps = steps_are in
          omega (arith, most, many, same, steps)

      is_enough : ports_bound ports ≤ limit → report.quiet ≡ true
      is_enough le = by report.quiet refl
        where
          by : (b : Bool) → report.quiet ≡ b → report.quiet ≡ true
          by true h = h
          by false h =
              let steps = all_steps h in
              let count : report.steps ≡ length (journal_of played.turns) = steps_are ∙ ap (λ l. length l) played.journal in
              let less = laws.bound in
              absurd (omega (arith, steps, count, less, le))

      is_owned : IsOwned ports rows report
      is_owned = record {
        lawful = subst (λ j. IsLawful rows j) (sym tells.journal) (subst (λ r. IsLawful r s.journal) played.rows lawful);
        owners = subst (EachMoment (OneOwner (switch_naming n) (start_history rows) (start_table (switch_keepers n)))) (sym journal_is) laws.owners;
        pools = tells.pools
            ∙ (lines_alike (counted s.moment.world) (λ pool. Counts.census (table_after n rows s.journal) pool 4) n 0 (λ pool lt. line_counts (queued s.moment.world pool) (Counts.census (table_after n rows s.journal) pool 4) (line_here pool (omega (arith, lt))))
            ∙ ap (λ j. lines_from (λ pool. Counts.census (table_after n rows j) pool 4) 0 n) (sym tells.journal));
      }

      -- the client of a port, whose record is told
      record At (port : ℕ) (got : List (List ℕ)) : Type 0 where
        pub client : NetClient
        pub there : slice_get (actors_after rows start its_turns) port ≡ Some (Members.Client client)
        pub recorded : client.frames.tape.shown ≡ got

      client_at : (port : ℕ) (got : List (List ℕ)) → slice_get report.records port ≡ Some got → At port got
      client_at port got at =
          let lt : port < length report.records = there_below report.records port got at in
          let many = tells.records.many in
          let c = laws.clients port (omega (arith, lt, many)) in
          let here : slice_get s.moment.actors port ≡ Some (Members.Client c.0) = ap (λ (mo : Moment Member). slice_get mo.actors port) played.moment ∙ c.1 in
          record { client = c.0; there = c.1; recorded = sym (tells.records.each port got at c.0 here) }

      is_lost : report.lost ≡ count_by (reaches_none ports.macs) (taken_by ports report.journal)
      is_lost =
          let v = laws.switch in
          let here : slice_get s.moment.actors n ≡ Some (Members.Switch v.0) = ap (λ (mo : Moment Member). slice_get mo.actors n) played.moment ∙ v.1 in
          tells.lost v.0 here ∙ (laws.lost v.0 v.1 ∙ ap (λ j. count_by (reaches_none ports.macs) (taken_by ports j)) (sym journal_is))

      shows_frames : ShowsFrames ports report
      shows_frames = record {
        many = tells.records.many;
        taken = λ port frames at. subst (λ j. IsPrefix (sent_by port (taken_by ports j)) frames) (sym journal_is) (laws.taken port frames at);
        records = λ port got at. (let c = client_at port got at in
            subst (λ j. IsPrefix got (frames_in (reaching ports.macs port (taken_by ports j)))) (sym journal_is)
            (subst (λ fs. IsPrefix fs (frames_in (reaching ports.macs port (taken_by ports (journal_of its_turns))))) c.recorded (laws.records port c.client c.there)));
        merges = λ port mac got address at. (let c = client_at port got at in subst (PrefixMerge (all_to 0 port mac ports.sends)) c.recorded (laws.merges port mac address c.client c.there));
        lost = is_lost;
      }

      shows_all : report.quiet ≡ true → ShowsAll ports report
      shows_all h = record {
        taken = λ port frames at. subst (λ j. sent_by port (taken_by ports j) ≡ frames) (sym journal_is) (laws.all_taken (none_runs h) port frames at);
        records = λ port got at. (let c = client_at port got at in
            sym c.recorded ∙ (laws.all_records (none_runs h) port c.client c.there ∙ ap (λ j. frames_in (reaching ports.macs port (taken_by ports j))) (sym journal_is)));
        merges = λ port mac got address at. (let c = client_at port got at in subst (Merge (all_to 0 port mac ports.sends)) c.recorded (laws.all_merges (none_runs h) port mac address c.client c.there));
      }

      pub told : PortsPlayed ports seed limit report
      told = record {
        rows = rows;
        queues = q;
        counted = tells.steps;
        picked = subst (PickedFrom (runs_after ports rows) seed []) (sym journal_is) (laws.picks seed played.picked);
        within = is_within;
        quiet = λ h. subst (IsStill ports rows) (sym journal_is) (laws.still (none_runs h));
        goes_on = λ h none. (is_spent (sym tells.ending ∙ h)).goes_on (subst (λ m. running_in member_means m ≡ []) (sym played.moment) (laws.runs ∙ (ap (runs_after ports rows) (sym journal_is) ∙ none)));
        spent = all_steps;
        enough = is_enough;
        owned = is_owned;
        shows = shows_frames;
        whole = shows_all;
      }

-- where it was reported
pub if_told : (P Q : PortReport → Type 0) (r : Result PortReport Memory) → ((report : PortReport) → P report → Q report) → IfOk r P → IfOk r Q
if_told P Q (Ok report) f h = f report h
if_told P Q (Err e) f h = tt
