use Rattle.std.proofs.Common.{◌≡◌, ◌⊎◌, inl, inr, ◌==◌, ◌+◌, ◌*◌, ◌<◌, ◌≤◌, ◌++◌, ℕ, Bool, cond, Some, List, [], ◌∷◌, slice_get, refl, sym, ap, ◌∙◌, subst, arith}
use Rattle.std.proofs.lemmas.Bool.{cases_lt, cases_eq, lt-ltb, le-ltb, eq-eqb, ne_eqb}
use Rattle.wire_core.specs.declared.names.Entry.{Entry}
use Rattle.wire_core.specs.declared.names.Event.{Event}
use Rattle.wire_core.specs.declared.names.QueueRow.{QueueRow}
use Rattle.wire_core.specs.Lists.{Passed}
use Rattle.wire_core.specs.Queues.{Queue, end_at}
use Rattle.wire_core.specs.Journal.{History, start_history}
use Rattle.turn_kit.specs.Turns.{Post, is_at_rest, settled_all}
use Rattle.play_core.specs.Moved.{Moved, moved}
use Rattle.play_core.specs.Wants.{Want, all_settled}
use Rattle.play_core.specs.Rests.Showing.{HaveItems, HaveBells}
use Rattle.play_core.specs.Rests.Meeting.{Meet}
use Rattle.play_core.proofs.Lists.{some_is, there_below}
use Rattle.small_system.specs.Tales.{Moment, Turn, start_of, moment_after, IsTale, after_tale, journal_of, passed_by, Along}
use Rattle.small_system.specs.Standing.{Begins, Holds}
use Rattle.small_system.specs.Wants.{RestsBy, calls_in}
use Rattle.i2c_text.specs.declared.bus.Bus.{Bus}
use Rattle.bus_law.specs.declared.i2c_actors.member.Member.{Member}
use Rattle.bus_law.specs.declared.i2c_actors.member.Member.TheVariants as Members
use Rattle.bus_law.specs.I2cActors.Members.{member_round, member_means, FitsMember}
use Rattle.bus_law.specs.I2cActors.Queues.{AreQueues}
use Rattle.bus_law.specs.I2cActors.Casting.{AreMade}
use Rattle.bus_law.specs.Plays.{IsBusTale}
use Rattle.bus_law.specs.Wants.{client_wants, virt_wants, hands_on, driver_wants, bus_wants}
use Rattle.bus_law.proofs.Staging.{Laws, Stage, holds_now, stage_now, now_many}
use Rattle.bus_law.proofs.Wanting.{member_wants, wants_are}
use Rattle.bus_law.proofs.Needing.{client_wants_are, virt_wants_are, driver_wants_are, bus_wants_are}

-- Each actor rests exactly where all that it wants is settled.

-- what is wanted, by the actor's number
module _ (bus : Bus) (m : Moved) (calls : List Event) where
  abbrev n : ℕ
  n = bus.clients

  abbrev by_last : Bool → List Want
  by_last b = cond b (hands_on m (2 * n + 2) (2 * n + 3)) []

  abbrev by_driver : Bool → Bool → List Want
  by_driver a b = cond a (driver_wants n m) (by_last b)

  abbrev by_virt : Bool → Bool → Bool → List Want
  by_virt v a b = cond v (virt_wants bus m calls) (by_driver a b)

  abbrev by_number : (k : ℕ) → Bool → Bool → Bool → Bool → List Want
  by_number k c v a b = cond c (client_wants bus m k) (by_virt v a b)

  wants_of_client : (k : ℕ) → k < n → bus_wants bus k m calls ≡ client_wants bus m k
  wants_of_client k lt = ap (λ c. by_number k c (k == n) (k == n + 1) (k == n + 2)) (lt-ltb k n lt)

  not_client : (k : ℕ) → n ≤ k → bus_wants bus k m calls ≡ by_virt (k == n) (k == n + 1) (k == n + 2)
  not_client k le = ap (λ c. by_number k c (k == n) (k == n + 1) (k == n + 2)) (le-ltb k n le)

  wants_of_virt : bus_wants bus n m calls ≡ virt_wants bus m calls
  wants_of_virt = not_client n (omega arith) ∙ ap (λ v. by_virt v (n == n + 1) (n == n + 2)) (eq-eqb n n refl)

  wants_of_driver : bus_wants bus (n + 1) m calls ≡ driver_wants n m
  wants_of_driver =
      not_client (n + 1) (omega arith)
      ∙ (ap (λ v. by_virt v (n + 1 == n + 1) (n + 1 == n + 2)) (ne_eqb (n + 1) n (λ e. absurd (omega (arith, e)))) ∙ ap (λ a. by_driver a (n + 1 == n + 2)) (eq-eqb (n + 1) (n + 1) refl))

  wants_of_bus : bus_wants bus (n + 2) m calls ≡ hands_on m (2 * n + 2) (2 * n + 3)
  wants_of_bus =
      not_client (n + 2) (omega arith)
      ∙ (ap (λ v. by_virt v (n + 2 == n + 1) (n + 2 == n + 2)) (ne_eqb (n + 2) n (λ e. absurd (omega (arith, e))))
      ∙ (ap (λ a. by_driver a (n + 2 == n + 2)) (ne_eqb (n + 2) (n + 1) (λ e. absurd (omega (arith, e)))) ∙ ap by_last (eq-eqb (n + 2) (n + 2) refl)))

-- the clauses on rest
abbrev pub SettledLaw : Type 0
SettledLaw = (history : History) (journal : List Entry) (world : List Queue) (posts : List Post) (needs : List Bool) (wants : List Want) → HaveBells world history journal → Meet (end_at world) posts needs wants → settled_all posts needs ≡ all_settled history journal wants

abbrev pub ItemsLaw : Type 0
ItemsLaw = (rows : List QueueRow) (moment : Moment Member) (passed : Passed) (journal : List Entry) → Holds member_means rows moment passed journal → HaveItems passed (moved (start_history rows) journal)

abbrev pub BellsLaw : Type 0
BellsLaw = (rows : List QueueRow) (moment : Moment Member) (passed : Passed) (journal : List Entry) → Holds member_means rows moment passed journal → HaveBells moment.world (start_history rows) journal

abbrev pub JoinsLaw : Type 0
JoinsLaw = (moment : Moment Member) (before more : List (Turn Member)) → IsTale member_means moment before → IsTale member_means (after_tale moment before) more → IsTale member_means moment (before ++ more)

after_join : (mo : Moment Member) (ts us : List (Turn Member)) → after_tale mo (ts ++ us) ≡ after_tale (after_tale mo ts) us
after_join mo [] us = refl
after_join mo (t ∷ ts) us = after_join (moment_after mo t) ts us

module _ (laws : Laws) (items_law : ItemsLaw) (bells_law : BellsLaw) (settled_law : SettledLaw) where
  module _ (bus : Bus) (rows : List QueueRow) (start : List Member) (turns : List (Turn Member)) (play : IsBusTale bus rows start turns) where
    abbrev mo : Moment Member
    mo = after_tale (start_of rows start) turns

    abbrev passed : Passed
    passed = passed_by turns

    abbrev journal : List Entry
    journal = journal_of turns

    abbrev history : History
    history = start_history rows

    abbrev m : Moved
    m = moved history journal

    abbrev st : Stage bus mo passed
    st = stage_now laws bus rows start turns play

    holds : Holds member_means rows mo passed journal
    holds = holds_now laws bus rows start turns play

    have : HaveItems passed m
    have = items_law rows mo passed journal holds

    rests_as : (x : Member) (ws : List Want) → FitsMember (end_at mo.world) x → member_wants x ≡ ws → is_at_rest (member_round x) ≡ all_settled history journal ws
    rests_as x ws fits is = settled_law history journal mo.world (member_round x).posts (member_round x).needs ws (bells_law rows mo passed journal holds) (subst (Meet (end_at mo.world) (member_round x).posts (member_round x).needs) is (wants_are (end_at mo.world) x fits))

    abbrev Rests : ℕ → Member → Type 0
    Rests k x = is_at_rest (member_round x) ≡ all_settled history journal (bus_wants bus k m (calls_in journal))

    -- who stands there rests by these
    one_rests : (k : ℕ) (x y : Member) (ws : List Want) → slice_get mo.actors k ≡ Some x → slice_get mo.actors k ≡ Some y → FitsMember (end_at mo.world) x → member_wants x ≡ ws → bus_wants bus k m (calls_in journal) ≡ ws → Rests k y
    one_rests k x y ws at there fits is wants = subst (Rests k) (some_is (sym at ∙ there)) (rests_as x ws fits is ∙ ap (all_settled history journal) (sym wants))

    client_rests : (k : ℕ) → k < bus.clients → (x : Member) → slice_get mo.actors k ≡ Some x → Rests k x
    client_rests k lt x at =
        let cl = st.clients k lt in
        one_rests k (Members.Client cl.client) x (client_wants bus m k) cl.there at cl.fits (client_wants_are bus mo passed st m have k lt) (wants_of_client bus m (calls_in journal) k lt)

    virt_rests : (k : ℕ) → k ≡ bus.clients → (x : Member) → slice_get mo.actors k ≡ Some x → Rests k x
    virt_rests k is x at =
        subst (λ i. Rests i x) (sym is) (one_rests bus.clients (Members.Virt st.virt.virt) x (virt_wants bus m (calls_in journal)) st.virt.there (ap (slice_get mo.actors) (sym is) ∙ at) st.virt.fits (virt_wants_are bus mo passed st m have (calls_in journal) holds.calls) (wants_of_virt bus m (calls_in journal)))

    driver_rests : (k : ℕ) → k ≡ bus.clients + 1 → (x : Member) → slice_get mo.actors k ≡ Some x → Rests k x
    driver_rests k is x at =
        subst (λ i. Rests i x) (sym is) (one_rests (bus.clients + 1) (Members.Driver st.driver.driver) x (driver_wants bus.clients m) st.driver.there (ap (slice_get mo.actors) (sym is) ∙ at) st.driver.fits (driver_wants_are bus mo passed st m have) (wants_of_driver bus m (calls_in journal)))

    bus_rests : (k : ℕ) → k ≡ bus.clients + 2 → (x : Member) → slice_get mo.actors k ≡ Some x → Rests k x
    bus_rests k is x at =
        subst (λ i. Rests i x) (sym is) (one_rests (bus.clients + 2) (Members.Bus st.bus_itself.bus) x (hands_on m (2 * bus.clients + 2) (2 * bus.clients + 3)) st.bus_itself.there (ap (slice_get mo.actors) (sym is) ∙ at) st.bus_itself.fits (bus_wants_are bus mo passed st m have) (wants_of_bus bus m (calls_in journal)))

    pub rests_now : RestsBy member_means (bus_wants bus) rows mo journal
    rests_now k x at = first (cases_lt k bus.clients)
      where
        below : k < bus.clients + 3
        below =
            let lt = there_below mo.actors k x at in
            let a = now_many laws bus rows start turns play in
            let b = play.made.many in
            omega (arith, lt, a, b)

        third : bus.clients ≤ k → (k ≡ bus.clients → ⊥) → (k ≡ bus.clients + 1) ⊎ (k ≡ bus.clients + 1 → ⊥) → Rests k x
        third le no_virt (inl is) = driver_rests k is x at
        third le no_virt (inr no_driver) = bus_rests k (last (cases_lt k (bus.clients + 2))) x at
          where
            last : (k < bus.clients + 2) ⊎ (bus.clients + 2 ≤ k) → k ≡ bus.clients + 2
            last (inl less) = absurd (middle (cases_lt k (bus.clients + 1)))
              where
                middle : (k < bus.clients + 1) ⊎ (bus.clients + 1 ≤ k) → ⊥
                middle (inl lower) = no_virt (omega (arith, lower, le))
                middle (inr higher) = no_driver (omega (arith, higher, less))
            last (inr more) = let b = below in omega (arith, more, b)

        second : bus.clients ≤ k → (k ≡ bus.clients) ⊎ (k ≡ bus.clients → ⊥) → Rests k x
        second le (inl is) = virt_rests k is x at
        second le (inr other) = third le other (cases_eq k (bus.clients + 1))

        first : (k < bus.clients) ⊎ (bus.clients ≤ k) → Rests k x
        first (inl lt) = client_rests k lt x at
        first (inr le) = second le (cases_eq k bus.clients)

  -- and so at each moment
  module _ (joins_law : JoinsLaw) (bus : Bus) (rows : List QueueRow) (start : List Member) (queues : AreQueues bus.clients rows) (made : AreMade bus start) (begins : Begins member_means rows start) where
    abbrev RestNow : Moment Member → List (Turn Member) → Type 0
    RestNow mo before = RestsBy member_means (bus_wants bus) rows mo (journal_of before)

    along : (before more : List (Turn Member)) → IsTale member_means (start_of rows start) before → IsTale member_means (after_tale (start_of rows start) before) more → Along RestNow (after_tale (start_of rows start) before) before more
    along before [] told more = rests_now bus rows start before (record { queues = queues; made = made; begins = begins; tale = told })
    along before (t ∷ ts) told more =
        let next : IsTale member_means (start_of rows start) (before ++ t ∷ []) = joins_law (start_of rows start) before (t ∷ []) told (more.0, tt) in
        let after : after_tale (start_of rows start) (before ++ t ∷ []) ≡ moment_after (after_tale (start_of rows start) before) t = after_join (start_of rows start) before (t ∷ []) in (
          rests_now bus rows start before (record { queues = queues; made = made; begins = begins; tale = told }),
          subst (λ mo. Along RestNow mo (before ++ t ∷ []) ts) after (along (before ++ t ∷ []) ts next (subst (λ mo. IsTale member_means mo ts) (sym after) more.1)),
        )

  pub rests_along : JoinsLaw → (bus : Bus) (rows : List QueueRow) (start : List Member) (turns : List (Turn Member)) → IsBusTale bus rows start turns → Along (λ moment before. RestsBy member_means (bus_wants bus) rows moment (journal_of before)) (start_of rows start) [] turns
  rests_along joins_law bus rows start turns play = along joins_law bus rows start play.queues play.made play.begins [] turns tt play.tale
