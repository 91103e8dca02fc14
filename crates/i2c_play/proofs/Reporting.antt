-- What a player shows of a bus and a report tells is what the play of a bus promises.
use Rattle.std.proofs.Common.{◌≡◌, ◌+◌, ◌*◌, ◌<◌, ◌≤◌, ◌++◌, ℕ, zero, suc, Bool, true, false, Some, List, [], ◌∷◌, length, map, take, sum_by, slice_get, refl, sym, ap, ◌∙◌, subst, arith}
use Rattle.std.proofs.lemmas.List.{length-map}
use Rattle.cargo_core.specs.Lists.{IsPrefix}
use Rattle.wire_core.specs.declared.names.QueueRow.{QueueRow}
use Rattle.wire_core.specs.declared.names.Entry.{Entry}
use Rattle.wire_core.specs.Picks.{PickedFrom}
use Rattle.play_core.proofs.Lists.{some_is}
use Rattle.wire_core.specs.Journal.{start_history, EachMoment}
use Rattle.owner_law.specs.Owners.{OneOwner}
use Rattle.owner_law.specs.Keeping.{start_table}
use Rattle.owner_law.specs.Census.{IsPool}
use Rattle.bus_law.specs.BusOwners.Naming.{bus_naming}
use Rattle.bus_law.specs.BusOwners.Keepers.{bus_keepers, pool_size}
use Rattle.bus_law.specs.BusOwners.Pools.{table_after, pool_lines}
use Rattle.small_system.specs.Tales.{Moment, Turn, start_of, IsTale, after_tale, journal_of, entry_of, running_in, PickedBy}
use Rattle.small_system.specs.Shows.{Shown, Played, IsQuiet, IsSpent}
use Rattle.small_system.specs.Standing.{Begins, IsLawful}
use Rattle.i2c_text.specs.declared.bus.Bus.{Bus}
use Rattle.i2c_text.specs.declared.report.BusReply.{BusReply}
use Rattle.i2c_text.specs.declared.report.BusReport.{BusReport}
use Rattle.text_limits.specs.Limits.{KeepsBusLimits}
use Rattle.i2c_virt.specs.declared.i2c_client.client.BusClient.{BusClient}
use Rattle.bus_law.specs.declared.i2c_actors.member.Member.{Member}
use Rattle.bus_law.specs.declared.i2c_actors.member.Member.TheVariants as Members
use Rattle.bus_law.specs.I2cActors.Members.{member_means}
use Rattle.bus_law.specs.Plays.{IsBusTale}
use Rattle.bus_law.specs.Takes.{granted_replies}
use Rattle.bus_law.specs.Bounds.{bus_bound}
use Rattle.i2c_play.specs.Plays.{IsSetUp, IsReportOf, recorded, all_recorded}
use Rattle.i2c_play.specs.Playing.{runnable_after, IsQuietAfter, AreItsTurns, TellsReplies, TellsOwners, BusPlayed}

-- the first of a list, mapped
first_many : {X Y : Type 0} (f : X → Y) (n : ℕ) (xs : List X) → n ≤ length xs → length (map f (take n xs)) ≡ n
first_many f zero xs le = refl
first_many f (suc n) [] le = absurd (omega (arith, le))
first_many f (suc n) (x ∷ xs) le = ap suc (first_many f n xs (omega (arith, le)))

first_get : {X Y : Type 0} (f : X → Y) (n : ℕ) (xs : List X) (k : ℕ) (y : Y) → slice_get (map f (take n xs)) k ≡ Some y → (k < n) × ((x : X) × (slice_get xs k ≡ Some x) × (f x ≡ y))
first_get f zero xs k y at = cc
first_get f (suc n) [] k y at = cc
first_get f (suc n) (x ∷ xs) zero y at = (omega arith, (x, refl, some_is at))
first_get f (suc n) (x ∷ xs) (suc k) y at = let r = first_get f n xs k y at in (let lt : k < n = r.0 in omega (arith, lt), r.1)

-- as many steps as are allowed are too many
too_many : (steps enough limit : ℕ) → steps < enough → enough ≤ limit → steps ≡ limit → ⊥
too_many steps enough limit lt le e = omega (arith, lt, le, e)

module _ (bus : Bus) (seed limit : ℕ) (old new : Shown Member) (report : BusReport) (keeps : KeepsBusLimits bus) (set : IsSetUp bus old) (played : Played member_means old new seed limit)
    (still : report.quiet ≡ true → IsQuiet member_means new) (spent : report.quiet ≡ false → IsSpent member_means old new limit) (told : IsReportOf bus new report) where
  abbrev rows : List QueueRow
  rows = old.rows

  abbrev start : List Member
  start = old.start

  abbrev turns : List (Turn Member)
  turns = played.turns

  abbrev last : Moment Member
  last = after_tale (start_of rows start) turns

  moment_is : old.moment ≡ start_of rows start
  moment_is = ap (λ (s : Shown Member). s.moment) set.is_start

  pub of_bus : IsBusTale bus rows start turns
  of_bus = record {
    queues = set.queues;
    made = set.made;
    begins = set.begins;
    tale = subst (λ mo. IsTale member_means mo turns) moment_is played.tale;
  }

  pub picked_by : PickedBy member_means (start_of rows start) seed turns
  picked_by = subst (λ mo. PickedBy member_means mo seed turns) moment_is played.picked

  shown_journal : new.journal ≡ journal_of turns
  shown_journal = played.journal ∙ ap (λ (s : Shown Member). s.journal ++ journal_of turns) set.is_start

  pub journal_is : report.journal ≡ journal_of turns
  journal_is = told.journal ∙ shown_journal

  last_is : new.moment ≡ last
  last_is = played.moment ∙ ap (λ mo. after_tale mo turns) moment_is

  steps_are : report.steps ≡ length report.journal
  steps_are = told.counted ∙ ap length (sym told.journal)

  within : report.steps ≤ limit
  within = let n : report.steps ≡ length report.journal = steps_are in let j : length report.journal ≡ length (journal_of turns) = ap length journal_is in let m : length (journal_of turns) ≡ length turns = length-map turns entry_of in let w : length turns ≤ limit = played.within in omega (arith, n, j, m, w)

  all_steps : report.quiet ≡ false → report.steps ≡ limit
  all_steps h = let c = (spent h).count in let o : length old.journal ≡ 0 = ap (λ (s : Shown Member). length s.journal) set.is_start in let n : report.steps ≡ length new.journal = told.counted in omega (arith, c, o, n)

  -- a client's replies are what it recorded
  record Recorded (c : ℕ) (replies : List BusReply) : Type 0 where
    pub below : c < bus.clients
    pub client : BusClient
    pub there : slice_get last.actors c ≡ Some (Members.Client client)
    pub are : client.asking.replies.shown ≡ replies

  module _ (law_there : (client : ℕ) → client < bus.clients → (x : BusClient) × (slice_get last.actors client ≡ Some (Members.Client x)))
      (law_replies : (client : ℕ) → client < bus.clients → (x : BusClient) → slice_get last.actors client ≡ Some (Members.Client x) → IsPrefix x.asking.replies.shown (granted_replies bus (journal_of turns) client))
      (law_whole : running_in member_means last ≡ [] → (client : ℕ) → client < bus.clients → (x : BusClient) → slice_get last.actors client ≡ Some (Members.Client x) → x.asking.replies.shown ≡ granted_replies bus (journal_of turns) client)
      (law_count : length last.actors ≡ length start) where
    recorded_at : (c : ℕ) (replies : List BusReply) → slice_get report.replies c ≡ Some replies → Recorded c replies
    recorded_at c replies at =
        let r = first_get recorded bus.clients last.actors c replies (ap (λ l. slice_get l c) (sym (told.replies ∙ ap (λ (mo : Moment Member). all_recorded bus.clients mo.actors) last_is)) ∙ at) in
        let y = law_there c r.0 in
        let same : r.1.0 ≡ Members.Client y.0 = some_is (sym r.1.1 ∙ y.1) in
        record { below = r.0; client = y.0; there = y.1; are = ap recorded (sym same) ∙ r.1.2 }

    pub tells_replies : TellsReplies bus report
    tells_replies = record {
      many = ap length (told.replies ∙ ap (λ (mo : Moment Member). all_recorded bus.clients mo.actors) last_is) ∙ first_many recorded bus.clients last.actors (let n : length last.actors ≡ length start = law_count in let m : length start ≡ bus.clients + 3 = set.made.many in omega (arith, n, m));
      begins = λ c replies at. let r = recorded_at c replies at in subst (λ l. IsPrefix l (granted_replies bus report.journal c)) r.are (subst (λ j. IsPrefix r.client.asking.replies.shown (granted_replies bus j c)) (sym journal_is) (law_replies c r.below r.client r.there));
      whole = λ h c replies at. let r = recorded_at c replies at in sym r.are ∙ (law_whole (ap (running_in member_means) (sym last_is) ∙ still h) c r.below r.client r.there ∙ ap (λ j. granted_replies bus j c) (sym journal_is));
    }

  module _ (law_picks : PickedFrom (runnable_after bus rows) seed [] (journal_of turns)) (law_lawful : IsLawful rows (journal_of turns)) where
    pub its_turns : AreItsTurns bus seed rows report.journal
    its_turns = record {
      start = start;
      turns = turns;
      of_bus = of_bus;
      journal_is = journal_is;
      picked = subst (PickedFrom (runnable_after bus rows) seed []) (sym journal_is) law_picks;
      lawful = subst (IsLawful rows) (sym journal_is) law_lawful;
    }

  module _ (law_owners : EachMoment (OneOwner (bus_naming bus.clients) (start_history rows) (start_table (bus_keepers bus.clients))) (journal_of turns)) (law_pools : (clients pool : ℕ) → pool < clients → IsPool (start_table (bus_keepers clients)) pool (pool_size clients pool)) where
    pub tells_owners : TellsOwners bus rows report
    tells_owners = record {
      one_owner = subst (EachMoment (OneOwner (bus_naming bus.clients) (start_history rows) (start_table (bus_keepers bus.clients)))) (sym journal_is) law_owners;
      placed = λ client lt. law_pools bus.clients client lt;
      pools = told.pools ∙ (ap (λ r. pool_lines bus.clients (table_after bus.clients r new.journal)) played.rows ∙ ap (λ j. pool_lines bus.clients (table_after bus.clients rows j)) (sym told.journal));
    }

  module _ (law_steps : length (journal_of turns) < bus_bound bus) (law_runs : running_in member_means last ≡ runnable_after bus rows (journal_of turns)) (law_quiet : running_in member_means last ≡ [] → IsQuietAfter bus rows (journal_of turns)) where
    quiet_after : report.quiet ≡ true → IsQuietAfter bus rows report.journal
    quiet_after h = subst (IsQuietAfter bus rows) (sym journal_is) (law_quiet (ap (running_in member_means) (sym last_is) ∙ still h))

    somebody : report.quiet ≡ false → runnable_after bus rows report.journal ≡ [] → ⊥
    somebody h none = (spent h).goes_on (ap (running_in member_means) last_is ∙ (law_runs ∙ (ap (runnable_after bus rows) (sym journal_is) ∙ none)))

    enough : bus_bound bus ≤ limit → report.quiet ≡ true
    enough le = by report.quiet refl
      where
        by : (b : Bool) → report.quiet ≡ b → b ≡ true
        by true h = refl
        by false h = absurd (too_many report.steps (bus_bound bus) limit (subst (λ n. n < bus_bound bus) (sym (steps_are ∙ ap length journal_is)) law_steps) le (all_steps h))

    pub is_played : AreItsTurns bus seed rows report.journal → TellsReplies bus report → TellsOwners bus rows report → BusPlayed bus seed limit report
    is_played its replies owners = record {
      rows = rows;
      its_turns = its;
      counted = steps_are;
      within = within;
      quiet = quiet_after;
      goes_on = somebody;
      spent = all_steps;
      enough = enough;
      replies = replies;
      owners = owners;
    }
