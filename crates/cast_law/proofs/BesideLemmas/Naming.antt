-- What items name at queues without a hostile end, and nothing at the others.
use Rattle.std.proofs.Common.{◌≡◌, ℕ, suc, Bool, true, false, cond, Some, List, slice_get, refl, sym, ap, ◌∙◌, subst}
use Rattle.play_core.specs.Moved.{Seat}
use Rattle.play_core.specs.Names.{Wild}
use Rattle.play_core.specs.Sheets.{Scene}
use Rattle.play_core.specs.Wants.{intake, outlet}
use Rattle.play_core.proofs.Lists.{map_from}
use Rattle.owner_law.specs.Things.{NoBuffers, Naming}
use Rattle.net_law.specs.Owners.Ends.{NameBuffers}
use Rattle.net_law.specs.Owners.Lending.{Borrower}
use Rattle.net_law.specs.Parts.Naming.{NamesPart}
use Rattle.net_law.specs.Parts.Rows.{borrower_of, lender_of}
use Rattle.net_law.specs.Parts.Parts.{NetPart, NetDevice, NetDriver, NetReceiver, NetCopier, NetClient, Lessee, Way}
use Rattle.net_law.proofs.PartsLemmas.Pairs.{twice, pair_first, pair_second}
use Rattle.blk_law.specs.Sheets.Parts.{DiskDevice, BlkDriver, BlkClient}
use Rattle.actor_set.specs.Parts.{Part, NetworkPart, BlockPart}
use Rattle.actor_set.specs.Laws.Kinds.{sheet}
use Rattle.cast_law.specs.Pools.Holders.{NothingAt, NamesAt}

module _ (naming : Naming) (wild : Wild) where
  abbrev pub off_wild : Naming
  off_wild n = cond (wild n) NoBuffers (naming n)

  pub at_calm : (n : ℕ) → wild n ≡ false → off_wild n ≡ naming n
  at_calm n calm = ap (λ t. cond t NoBuffers (naming n)) calm

  abbrev pub AllCalmEnds : List Seat → Type 0
  AllCalmEnds ends = (i : ℕ) (s : Seat) → slice_get ends i ≡ Some s → wild s.queue ≡ false

  nothing_off : (ends : List Seat) → ((i : ℕ) (s : Seat) → slice_get ends i ≡ Some s → naming s.queue ≡ NoBuffers) → (i : ℕ) (s : Seat) → slice_get ends i ≡ Some s → off_wild s.queue ≡ NoBuffers
  nothing_off ends none i s at = by (wild s.queue)
    where
      by : (t : Bool) → cond t NoBuffers (naming s.queue) ≡ NoBuffers
      by true = refl
      by false = none i s at

  module _ (scene : Scene) where
    pub nothing_at_off : (p : Part) → NothingAt naming scene p → NothingAt off_wild scene p
    nothing_at_off p none = nothing_off (sheet scene p).ends none

    net_off : (p : NetPart) → AllCalmEnds (sheet scene (NetworkPart p)).ends → NamesPart naming scene p → NamesPart off_wild scene p
    net_off (NetDevice rx_free rx_active tx_active tx_free frames drops) calm names = (
      (names.0.0, (at_calm rx_free (calm 0 (intake rx_free) refl) ∙ names.0.1.0, at_calm rx_active (calm 1 (outlet rx_active) refl) ∙ names.0.1.1)),
      (names.1.0, (at_calm tx_active (calm 2 (intake tx_active) refl) ∙ names.1.1.0, at_calm tx_free (calm 3 (outlet tx_free) refl) ∙ names.1.1.1)),
    )
    net_off (NetDriver ways) calm names = λ k w at.
        let way = names k w at in
        let ins = calm (twice k) (intake w.input) (pair_first (λ (x : Way). intake x.input) (λ x. outlet x.output) ways k w at) in
        let outs = calm (suc (twice k)) (outlet w.output) (pair_second (λ (x : Way). intake x.input) (λ x. outlet x.output) ways k w at) in
        (way.0, at_calm w.input ins ∙ way.1, subst (NameBuffers way.0) (sym (at_calm w.output outs)) way.2)
    net_off (NetReceiver active free pool clients) calm names = record {
      frames = at_calm active (calm 0 (intake active) refl) ∙ names.frames;
      free = at_calm free (calm 1 (outlet free) refl) ∙ names.free;
      leases = λ k c at. (
          let x = borrower k c at in
          at_calm c.active (ap wild x.2 ∙ calm (suc (suc (twice k))) (outlet x.0.active) (pair_first (λ (y : Lessee). outlet y.active) (λ y. intake y.free) clients k x.0 x.1)) ∙ names.leases k c at
          );
      returns = λ k c at. (
          let x = borrower k c at in
          at_calm c.free (ap wild x.3 ∙ calm (suc (suc (suc (twice k)))) (intake x.0.free) (pair_second (λ (y : Lessee). outlet y.active) (λ y. intake y.free) clients k x.0 x.1)) ∙ names.returns k c at
          );
    }
      where
        borrower : (k : ℕ) (c : Borrower) → slice_get (lender_of scene.frames active free pool clients).clients k ≡ Some c → (x : Lessee) × (slice_get clients k ≡ Some x) × (c.active ≡ x.active) × (c.free ≡ x.free)
        borrower k c at = let x = map_from (borrower_of scene.frames) clients k c at in (x.0, x.1, ap (λ (y : Borrower). y.active) (sym x.2), ap (λ (y : Borrower). y.free) (sym x.2))
    net_off (NetCopier lease_active lease_free rx_active rx_free drops) calm names = (
      (names.0.0, at_calm lease_active (calm 0 (intake lease_active) refl) ∙ names.0.1, at_calm lease_free (calm 3 (outlet lease_free) refl) ∙ names.0.2),
      (names.1.0, (at_calm rx_free (calm 1 (intake rx_free) refl) ∙ names.1.1.0, at_calm rx_active (calm 2 (outlet rx_active) refl) ∙ names.1.1.1)),
    )
    net_off (NetClient program mac rx_active rx_free tx_active tx_free rx tx) calm names = (
      (at_calm rx_active (calm 0 (intake rx_active) refl) ∙ names.0.0, at_calm rx_free (calm 1 (outlet rx_free) refl) ∙ names.0.1),
      (at_calm tx_active (calm 3 (outlet tx_active) refl) ∙ names.1.0, at_calm tx_free (calm 2 (intake tx_free) refl) ∙ names.1.1),
    )

    pub part_off : (p : NetPart) → AllCalmEnds (sheet scene (NetworkPart p)).ends → NamesAt naming scene (NetworkPart p) → NamesAt off_wild scene (NetworkPart p)
    part_off p calm names = net_off p calm names

    pub disk_off : (req resp : ℕ) (image : List ℕ) → AllCalmEnds (sheet scene (BlockPart (DiskDevice req resp image))).ends → NamesAt naming scene (BlockPart (DiskDevice req resp image)) → NamesAt off_wild scene (BlockPart (DiskDevice req resp image))
    disk_off req resp image calm names = ((names.0.0, (at_calm req (calm 0 (intake req) refl) ∙ names.0.1.0, at_calm resp (calm 1 (outlet resp) refl) ∙ names.0.1.1)), tt)

    pub client_off : (req resp : ℕ) (asks : List Rattle.cargo_core.specs.declared.item.Ask.Ask) (pool : Rattle.owner_law.specs.Pools.Places.PoolAt) → AllCalmEnds (sheet scene (BlockPart (BlkClient req resp asks pool))).ends → NamesAt naming scene (BlockPart (BlkClient req resp asks pool)) → NamesAt off_wild scene (BlockPart (BlkClient req resp asks pool))
    client_off req resp asks pool calm names = ((names.0.0, (at_calm req (calm 1 (outlet req) refl) ∙ names.0.1.0, at_calm resp (calm 0 (intake resp) refl) ∙ names.0.1.1)), tt)

    pub driver_off : (ways : List Way) → AllCalmEnds (sheet scene (BlockPart (BlkDriver ways))).ends → NamesAt naming scene (BlockPart (BlkDriver ways)) → NamesAt off_wild scene (BlockPart (BlkDriver ways))
    driver_off ways calm names =
        let w = names.0.1 in
        let first : slice_get ways 0 ≡ Some (record { input = w.req; output = w.disk_req }) = ap (λ l. slice_get l 0) w.ways_are in
        let second : slice_get ways 1 ≡ Some (record { input = w.disk_resp; output = w.resp }) = ap (λ l. slice_get l 1) w.ways_are in
        let ins = λ (k : ℕ) (x : Way) (at : slice_get ways k ≡ Some x). calm (twice k) (intake x.input) (pair_first (λ (y : Way). intake y.input) (λ y. outlet y.output) ways k x at) in
        let outs = λ (k : ℕ) (x : Way) (at : slice_get ways k ≡ Some x). calm (suc (twice k)) (outlet x.output) (pair_second (λ (y : Way). intake y.input) (λ y. outlet y.output) ways k x at) in (
          (
            names.0.0,
            record {
              req = w.req;
              disk_req = w.disk_req;
              disk_resp = w.disk_resp;
              resp = w.resp;
              ways_are = w.ways_are;
              asked = (at_calm w.req (ins 0 (record { input = w.req; output = w.disk_req }) first) ∙ w.asked.0, at_calm w.resp (outs 1 (record { input = w.disk_resp; output = w.resp }) second) ∙ w.asked.1);
              passed_on = (at_calm w.disk_req (outs 0 (record { input = w.req; output = w.disk_req }) first) ∙ w.passed_on.0, at_calm w.disk_resp (ins 1 (record { input = w.disk_resp; output = w.resp }) second) ∙ w.passed_on.1);
            },
          ),
          tt,
        )
