use Rattle.std.proofs.Common.{◌≡◌, ◌<◌, ◌≤◌, ◌+◌, ◌*◌, ℕ, Bool, true, false, Some, List, [], length, map, slice_get, refl, sym, ap, ◌∙◌, subst, arith}
use Rattle.std.proofs.lemmas.List.{length-map}
use Rattle.std.specs.Option.{option_map_or}
use Rattle.cargo_core.specs.Lists.{IsPrefix}
use Rattle.cargo_core.specs.declared.item.Ask.{Ask}
use Rattle.cargo_core.specs.declared.item.Reply.{Reply}
use Rattle.sdf_plan.specs.declared.plan.Plan.{Plan}
use Rattle.sdf_plan.specs.declared.plan.Blk.{Blk}
use Rattle.sdf_plan.specs.declared.plan.BlkClient.{BlkClient as Client}
use Rattle.trace_text.specs.declared.trace.Trace.{Trace}
use Rattle.trace_text.specs.Events.{blk_clients, is_blk_rogue}
use Rattle.region_layout.specs.Rows.{disk_number}
use Rattle.class_expect.specs.BlkExpect.Replies.{replies_of}
use Rattle.blk_law.specs.Sheets.Numbers.{BlkPlace, blk_client_at}
use Rattle.layout_laws.specs.Jobs.Jobs as jobs
use Rattle.layout_laws.specs.Jobs.Jobs.{HasJob}
use Rattle.cast_law.proofs.Restarted.{plays_calm, plays_rogue}
use Rattle.play_core.proofs.Lists.{map_get, there_below, there_is}
use Rattle.actor_set.specs.Parts.{BlockPart, HostilePart}
use Rattle.cast_core.specs.Casts.{blk_place, calm_part, client_pool, job_part}
use Rattle.cast_core.specs.Hostile.{acts_at, blk_rogue_at}
use Rattle.cast_core.specs.Sources.{first_blk}
use Rattle.expect_core.specs.Expected.{client_asks, client_entry}
use Rattle.cast_core.proofs.Listing.{value_count, value_is}
use Rattle.wired_law.proofs.QuietLemmas.Answering.{replies_whole}
use Rattle.layout_laws.specs.Seats.Named.{AreBlkNamed}
use Rattle.layout_laws.proofs.SeatsLemmas.Naming.{blk_named}
use Rattle.system_core.specs.Shows.{Crew, Shown, moved_in}
use Rattle.system_core.specs.States.{crew_of, nobody}
use Rattle.system_core.specs.Lawful.{IsTold, TellsReplies}
use Rattle.system_core.specs.Crews.{number_named}
use Rattle.system_core.specs.Builds.{IsCastOf}
use Rattle.system_core.specs.GivesBack.{BlkGivesBack}
use Rattle.system_core.specs.PlanPlays.{ShowsReplies, ShowsAllReplies}
use Rattle.system_core.proofs.Scripts.{blks}

-- what is seen of the block class is what its clients must get
module _ (plan : Plan) (blk : Blk) (trace : Trace) (s : Shown) (cast : IsCastOf plan trace s.setting) (has : plan.blk ≡ Some blk) (told : IsTold s) where
  abbrev place : BlkPlace
  place = blk_place plan trace

  tells : TellsReplies s place
  tells = told.replies place (cast.whole_block blk has)

  who : s.setting.blk ≡ crew_of (Some (disk_number plan).0) (map (λ (c : Client). number_named plan c.pd) blk.client)
  who = cast.blk ∙ ap (λ o. option_map_or (λ (n : Blk). crew_of (Some (disk_number plan).0) (map (λ (c : Client). number_named plan c.pd) n.client)) o nobody) has

  named : AreBlkNamed plan blk
  named = blk_named plan blk has

  many : length (blk_clients plan) ≡ length blk.client
  many = ap length (blks plan blk has)

  count_is : length s.state.blk ≡ length place.entries
  count_is = told.blk ∙ (ap (λ (c : Crew). length c.clients) who ∙ (length-map blk.client (λ (k : Client). number_named plan k.pd) ∙ (sym many ∙ sym (value_count (length (blk_clients plan)) (client_entry plan)))))

  -- the client of a number, and its actor
  client_is : (c : ℕ) → c < length (blk_clients plan) → (k : ℕ) × (slice_get s.setting.blk.clients c ≡ Some k) × HasJob plan (jobs.BlkClient c) k
  client_is c below =
      let client = there_is blk.client c (omega (arith, below, many)) in (
        number_named plan client.0.pd,
        ap (λ (k : Crew). slice_get k.clients c) who ∙ map_get (λ (k : Client). number_named plan k.pd) blk.client c client.0 client.1,
        named.client c client.0 client.1,
      )

  -- one that isn't hostile recorded a beginning of its replies
  calm_record : (c entry : ℕ) (asks : List Ask) (got : List Reply) → is_blk_rogue plan c ≡ false → slice_get place.entries c ≡ Some entry → slice_get place.asks c ≡ Some asks → slice_get s.state.blk c ≡ Some got
      → IsPrefix got (replies_of place.image entry asks) × (length ((moved_in s.setting s.journal).taken (place.first + 5 + 2 * c)) ≤ length asks → length got ≡ length ((moved_in s.setting s.journal).taken (place.first + 5 + 2 * c)))
  calm_record c entry asks got calm of its at =
      let a = value_is (length (blk_clients plan)) (client_asks trace) c asks its in
      let client = client_is c a.0 in
      tells c client.0 c asks (client_pool plan c) entry got client.1 (plays_calm plan trace s.setting.cast cast.parts (jobs.BlkClient c) client.0 client.2 _ (calm_client c calm ∙ ap (λ xs. Some (BlockPart (blk_client_at place.first c xs (client_pool plan c)))) (sym a.1)) refl) of its at
    where
      calm_client : (c : ℕ) → is_blk_rogue plan c ≡ false → job_part plan trace (jobs.BlkClient c) ≡ calm_part plan trace (jobs.BlkClient c)
      calm_client c calm = rw calm refl

  -- and a hostile one nothing
  silent : (c : ℕ) (got : List Reply) → is_blk_rogue plan c ≡ true → slice_get s.state.blk c ≡ Some got → got ≡ []
  silent c got hostile at =
      let lt = there_below s.state.blk c got at in
      let client = client_is c (omega (arith, lt, count_is, value_count (length (blk_clients plan)) (client_entry plan))) in
      let rogue = plays_rogue plan trace s.setting.cast cast.parts (jobs.BlkClient c) client.0 client.2 _ (hostile_client c hostile) in
      told.blk_silent c client.0 rogue.0 got client.1 rogue.1 at
    where
      hostile_client : (c : ℕ) → is_blk_rogue plan c ≡ true → job_part plan trace (jobs.BlkClient c) ≡ Some (HostilePart (blk_rogue_at (first_blk plan) c (client_pool plan c) (acts_at trace.blk_acts c)))
      hostile_client c hostile = rw hostile refl

  record_begins : (c entry : ℕ) (asks : List Ask) (got : List Reply) → slice_get place.entries c ≡ Some entry → slice_get place.asks c ≡ Some asks → slice_get s.state.blk c ≡ Some got → IsPrefix got (replies_of place.image entry asks)
  record_begins c entry asks got of its at = by (is_blk_rogue plan c) refl
    where
      by : (b : Bool) → is_blk_rogue plan c ≡ b → IsPrefix got (replies_of place.image entry asks)
      by true hostile = subst (λ xs. IsPrefix xs (replies_of place.image entry asks)) (sym (silent c got hostile at)) (replies_of place.image entry asks, refl)
      by false calm = (calm_record c entry asks got calm of its at).0

  pub shows_replies : ShowsReplies (is_blk_rogue plan) place s.state
  shows_replies = record {
    count_is = count_is;
    records = record_begins;
    hostile = silent;
  }

  -- where no client is hostile and each took a response to each of its requests, all replies are seen
  pub shows_all_replies : BlkGivesBack plan → ((c : ℕ) (asks : List Ask) → slice_get place.asks c ≡ Some asks → length ((moved_in s.setting s.journal).taken (place.first + 5 + 2 * c)) ≡ length asks) → ShowsAllReplies place s.state
  shows_all_replies gives answered = record {
    records = λ c entry asks got of its at.
        let is = calm_record c entry asks got (gives c) of its at in
        let all = answered c asks its in
        let long = is.1 (omega (arith, all)) in
        replies_whole place.image entry asks got is.0 (omega (arith, all, long));
  }
