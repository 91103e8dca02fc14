-- Which queues of a cast have a hostile end, and who has the other one.
use Rattle.std.proofs.Common.{◌≡◌, ◌⊎◌, ◌+◌, ◌*◌, ◌<◌, ◌&&◌, ℕ, zero, suc, Bool, true, false, not, Option, None, Some, List, [], ◌∷◌, ◌++◌, length, map, slice_get, refl, sym, ap, ap₂, ◌∙◌, subst, arith, inl, inr}
use Rattle.std.specs.Option.{option_map_or}
use Rattle.cargo_core.specs.declared.item.QueueKind.{QueueKind}
use Rattle.cargo_core.specs.declared.item.QueueKind.TheVariants as Kind
use Rattle.wire_core.specs.declared.names.QueueRow.{QueueRow}
use Rattle.wire_core.specs.Ends.{Role, Consumer, Producer}
use Rattle.wire_core.specs.Journal.{Hostiles, is_calm, owner_of}
use Rattle.play_core.specs.Manners.{Calm, is_hostile}
use Rattle.play_core.specs.Moved.{Seat}
use Rattle.play_core.specs.Names.{Wild, carries_pages, is_wild, wild_in}
use Rattle.play_core.specs.Sheets.{AreFilled, AreSeated, Scene}
use Rattle.play_core.specs.Wants.{intake, outlet}
use Rattle.play_core.proofs.Lists.{some_is, there_below}
use Rattle.owner_law.specs.Pools.Places.{PoolAt}
use Rattle.net_law.specs.Owners.Names.{ClientPools}
use Rattle.net_law.specs.Parts.Numbers.{client_first, copier_at, policy_at}
use Rattle.net_law.specs.TxParts.Parts.{Shipper}
use Rattle.net_law.specs.TxParts.Numbers.{NetPlace, sender_at, shippers_from}
use Rattle.net_law.proofs.PartsLemmas.Pairs.{twice, pair_first, pair_second}
use Rattle.blk_law.specs.Sheets.Parts.{Sharer}
use Rattle.blk_law.specs.Sheets.Numbers.{BlkPlace, sharers_from, virt_at}
use Rattle.actor_set.specs.Parts.{HostilePart, Part, RoguePart, UartPart, DriverPart, RxPart, TxPart, ClientPart, NetworkPart, SendingPart, BlockPart}
use Rattle.actor_set.specs.Laws.Kinds.{hostiles, manner_of, scene_of, sheet}
use Rattle.wired_law.specs.Wiring.{HasBlk, HasWhole}
use Rattle.cast_law.specs.Pools.Places.{HasBlkAt, HasNetAt}
use Rattle.cast_law.specs.Pools.Rogues.{HasRogues, IsBareRogue, IsBlkRogue, IsNetRogue, IsRogueOf}
use Rattle.cast_law.proofs.PoolsLemmas.Blocks.{sharer_there}
use Rattle.cast_law.proofs.PoolsLemmas.Table.{shipper_there}

not_false : (t : Bool) → not t ≡ false → t ≡ true
not_false true e = refl
not_false false e = cc

and_two : (s t : Bool) → s ≡ true → t ≡ true → (s && t) ≡ true
and_two s t a b = rw (a, b) refl

both_true : (s t : Bool) → (s && t) ≡ true → (s ≡ true) × (t ≡ true)
both_true true true e = (refl, refl)
both_true true false e = cc
both_true false t e = cc

-- a row with a hostile owner
off_row : (hostile : Hostiles) (row : QueueRow) (r : Role) → hostile (owner_of row r) ≡ true → is_calm hostile row ≡ false
off_row hostile row Producer h = by (hostile row.producer.0) (hostile row.consumer.0) h
  where
    by : (s t : Bool) → s ≡ true → (not s && not t) ≡ false
    by true t e = refl
    by false t e = cc
off_row hostile row Consumer h = by (hostile row.producer.0) (hostile row.consumer.0) h
  where
    by : (s t : Bool) → t ≡ true → (not s && not t) ≡ false
    by true t e = refl
    by false true e = refl
    by false false e = cc

-- the hostile owner of a row that has one
pub off_owner : (hostile : Hostiles) (row : QueueRow) → is_calm hostile row ≡ false → (r : Role) × (hostile (owner_of row r) ≡ true)
off_owner hostile row off = by (hostile row.producer.0) (hostile row.consumer.0) refl refl off
  where
    by : (s t : Bool) → hostile row.producer.0 ≡ s → hostile row.consumer.0 ≡ t → (not s && not t) ≡ false → (r : Role) × (hostile (owner_of row r) ≡ true)
    by true t p c e = (Producer, p)
    by false true p c e = (Consumer, c)
    by false false p c e = cc

-- a hostile actor's part
pub hostile_there : (cast : List Part) (k : ℕ) → hostiles cast k ≡ true → (r : RoguePart) × (slice_get cast k ≡ Some (HostilePart r))
hostile_there cast k h = by (slice_get cast k) refl h
  where
    part : (p : Part) → is_hostile (manner_of p) ≡ true → (r : RoguePart) × (p ≡ HostilePart r)
    part (UartPart rx tx input) e = cc
    part (DriverPart device_rx device_tx rx tx) e = cc
    part (RxPart rx clients drops) e = cc
    part (TxPart tx clients) e = cc
    part (ClientPart rx tx script) e = cc
    part (NetworkPart p) e = cc
    part (SendingPart p) e = cc
    part (BlockPart p) e = cc
    part (HostilePart r) e = (r, refl)

    by : (o : Option Part) → slice_get cast k ≡ o → is_hostile (option_map_or manner_of o Calm) ≡ true → (r : RoguePart) × (slice_get cast k ≡ Some (HostilePart r))
    by None at e = cc
    by (Some p) at e = let x = part p e in (x.0, at ∙ ap Some x.1)

there_hostile : (cast : List Part) (k : ℕ) (r : RoguePart) → slice_get cast k ≡ Some (HostilePart r) → hostiles cast k ≡ true
there_hostile cast k r at = ap (λ (o : Option Part). is_hostile (option_map_or manner_of o Calm)) at

pub there_calm : (cast : List Part) (k : ℕ) (p : Part) → slice_get cast k ≡ Some p → manner_of p ≡ Calm → hostiles cast k ≡ false
there_calm cast k p at calm = ap (λ (o : Option Part). is_hostile (option_map_or manner_of o Calm)) at ∙ ap is_hostile calm

abbrev pub other_role : Role → Role
other_role Consumer = Producer
other_role Producer = Consumer

-- the four queues of a hostile network client, and the two of one of the block class
abbrev pub four_of : (first k : ℕ) → List ℕ
four_of first k = (client_first first k + 2) ∷ (client_first first k + 5) ∷ (client_first first k + 3) ∷ (client_first first k + 4) ∷ []

abbrev pub two_of : (first k : ℕ) → List ℕ
two_of first k = (first + 5 + 2 * k) ∷ (first + 4 + 2 * k) ∷ []

module _ (rows : List QueueRow) (n : Option NetPlace) (b : Option BlkPlace) (cast : List Part) (has_net : HasNetAt rows n cast) (has_blk : HasBlkAt rows b cast) (rogues : HasRogues rows n b cast) (seated : AreSeated (sheet (scene_of cast)) rows cast) (filled : AreFilled (sheet (scene_of cast)) rows cast) where
  abbrev scene : Scene
  scene = scene_of cast

  abbrev wild : Wild
  wild = wild_in (hostiles cast) rows

  pub net_whole : (net : NetPlace) → n ≡ Some net → HasWhole rows net cast × (net.first ≡ 0)
  net_whole net here = subst (λ o. HasNetAt rows o cast) here has_net

  pub blk_whole : (blk : BlkPlace) → b ≡ Some blk → HasBlkAt rows (Some blk) cast
  blk_whole blk here = subst (λ o. HasBlkAt rows o cast) here has_blk

  -- a queue that a hostile actor has an end of, and that carries pages
  wild_end : (j : ℕ) (r : RoguePart) → slice_get cast j ≡ Some (HostilePart r) → (i : ℕ) (s : Seat) → slice_get (sheet scene (HostilePart r)).ends i ≡ Some s → ((row : QueueRow) → slice_get rows s.queue ≡ Some row → carries_pages row.kind ≡ true) → wild s.queue ≡ true
  wild_end j r at i s here carries =
      let seat = seated j (HostilePart r) at i s here in
      let off : is_calm (hostiles cast) seat.0 ≡ false = off_row (hostiles cast) seat.0 s.role (ap (hostiles cast) seat.2 ∙ there_hostile cast j r at) in
      ap (λ (o : Option QueueRow). option_map_or (is_wild (hostiles cast)) o false) seat.1 ∙ and_two (not (is_calm (hostiles cast) seat.0)) (carries_pages seat.0.kind) (ap (λ t. not t) off) (carries seat.0 seat.1)

  -- whose end it is
  pub wild_owner : (q : ℕ) → wild q ≡ true → (row : QueueRow) × (slice_get rows q ≡ Some row) × (carries_pages row.kind ≡ true) × (role : Role) × (r : RoguePart) × (slice_get cast (owner_of row role) ≡ Some (HostilePart r)) × (i : ℕ) × (slice_get (sheet scene (HostilePart r)).ends i ≡ Some (record { queue = q; role = role }))
  wild_owner q is = by (slice_get rows q) refl is
    where
      by : (o : Option QueueRow) → slice_get rows q ≡ o → option_map_or (is_wild (hostiles cast)) o false ≡ true → (row : QueueRow) × (slice_get rows q ≡ Some row) × (carries_pages row.kind ≡ true) × (role : Role) × (r : RoguePart) × (slice_get cast (owner_of row role) ≡ Some (HostilePart r)) × (i : ℕ) × (slice_get (sheet scene (HostilePart r)).ends i ≡ Some (record { queue = q; role = role }))
      by None at e = cc
      by (Some row) at e =
          let two = both_true (not (is_calm (hostiles cast) row)) (carries_pages row.kind) e in
          let off : is_calm (hostiles cast) row ≡ false = flip (is_calm (hostiles cast) row) two.0 in
          let who = off_owner (hostiles cast) row off in
          let r = hostile_there cast (owner_of row who.0) who.1 in
          let end = filled (owner_of row who.0) (HostilePart r.0) r.1 (record { queue = q; role = who.0 }) (row, at, refl) in
          (row, at, two.1, who.0, r.0, r.1, end.0, end.1)
        where
          flip : (t : Bool) → not t ≡ true → t ≡ false
          flip true h = cc
          flip false h = refl

  -- the ends of a hostile client by its class
  pub net_ends_of : (net : NetPlace) (k : ℕ) (q : ClientPools) (r : RoguePart) → IsNetRogue net k q r → (sheet scene (HostilePart r)).ends ≡ intake (client_first net.first k + 2) ∷ intake (client_first net.first k + 5) ∷ outlet (client_first net.first k + 3) ∷ outlet (client_first net.first k + 4) ∷ []
  net_ends_of net k q r is = ap₂ (λ (xs ys : List ℕ). map intake xs ++ map outlet ys) is.inputs is.outputs

  pub blk_ends_of : (blk : BlkPlace) (k : ℕ) (q : PoolAt) (r : RoguePart) → IsBlkRogue rows blk k q r → (sheet scene (HostilePart r)).ends ≡ intake (blk.first + 5 + 2 * k) ∷ outlet (blk.first + 4 + 2 * k) ∷ []
  blk_ends_of blk k q r is = ap₂ (λ (xs ys : List ℕ). map intake xs ++ map outlet ys) is.inputs is.outputs

  pub bare_ends_of : (r : RoguePart) (is : IsBareRogue rows r) → (sheet scene (HostilePart r)).ends ≡ intake is.input ∷ outlet is.output ∷ []
  bare_ends_of r is = ap₂ (λ (xs ys : List ℕ). map intake xs ++ map outlet ys) is.inputs is.outputs

  -- an end of a hostile network client, with who has the other
  abbrev pub NetEnd : NetPlace → (k : ℕ) → Role → ℕ → Type 0
  NetEnd net k r q = ((r ≡ Consumer) × (q ≡ client_first net.first k + 2)) ⊎ ((r ≡ Consumer) × (q ≡ client_first net.first k + 5))
      ⊎ ((r ≡ Producer) × (q ≡ client_first net.first k + 3)) ⊎ ((r ≡ Producer) × (q ≡ client_first net.first k + 4))

  abbrev pub BlkEnd : BlkPlace → (k : ℕ) → Role → ℕ → Type 0
  BlkEnd blk k r q = ((r ≡ Consumer) × (q ≡ blk.first + 5 + 2 * k)) ⊎ ((r ≡ Producer) × (q ≡ blk.first + 4 + 2 * k))

  seat_role : (s t : Seat) → s ≡ t → (t.role ≡ s.role) × (t.queue ≡ s.queue)
  seat_role s t e = (ap (λ (x : Seat). x.role) (sym e), ap (λ (x : Seat). x.queue) (sym e))

  pub net_end : (net : NetPlace) (k : ℕ) (p : ClientPools) (r : RoguePart) → IsNetRogue net k p r → (i : ℕ) (role : Role) (q : ℕ) → slice_get (sheet scene (HostilePart r)).ends i ≡ Some (record { queue = q; role = role }) → NetEnd net k role q
  net_end net k p r is i role q at = by i (ap (λ l. slice_get l i) (sym (net_ends_of net k p r is)) ∙ at)
    where
      by : (m : ℕ) → slice_get (intake (client_first net.first k + 2) ∷ intake (client_first net.first k + 5) ∷ outlet (client_first net.first k + 3) ∷ outlet (client_first net.first k + 4) ∷ []) m ≡ Some (record { queue = q; role = role }) → NetEnd net k role q
      by zero h = inl (seat_role _ _ (some_is h))
      by (suc zero) h = inr (inl (seat_role _ _ (some_is h)))
      by (suc (suc zero)) h = inr (inr (inl (seat_role _ _ (some_is h))))
      by (suc (suc (suc zero))) h = inr (inr (inr (seat_role _ _ (some_is h))))
      by (suc (suc (suc (suc m)))) h = cc

  pub blk_end : (blk : BlkPlace) (k : ℕ) (p : PoolAt) (r : RoguePart) → IsBlkRogue rows blk k p r → (i : ℕ) (role : Role) (q : ℕ) → slice_get (sheet scene (HostilePart r)).ends i ≡ Some (record { queue = q; role = role }) → BlkEnd blk k role q
  blk_end blk k p r is i role q at = by i (ap (λ l. slice_get l i) (sym (blk_ends_of blk k p r is)) ∙ at)
    where
      by : (m : ℕ) → slice_get (intake (blk.first + 5 + 2 * k) ∷ outlet (blk.first + 4 + 2 * k) ∷ []) m ≡ Some (record { queue = q; role = role }) → BlkEnd blk k role q
      by zero h = inl (seat_role _ _ (some_is h))
      by (suc zero) h = inr (seat_role _ _ (some_is h))
      by (suc (suc m)) h = cc

  -- a hostile network client at a queue, or one of the block class
  pub record NetHere (q : ℕ) (role : Role) : Type 0 where
    pub net : NetPlace
    pub k : ℕ
    pub pools : ClientPools
    pub j : ℕ
    pub rogue : RoguePart
    pub here : n ≡ Some net
    pub at : slice_get cast j ≡ Some (HostilePart rogue)
    pub is : IsNetRogue net k pools rogue
    pub end : NetEnd net k role q

  pub record BlkHere (q : ℕ) (role : Role) : Type 0 where
    pub blk : BlkPlace
    pub k : ℕ
    pub pool : PoolAt
    pub j : ℕ
    pub rogue : RoguePart
    pub here : b ≡ Some blk
    pub at : slice_get cast j ≡ Some (HostilePart rogue)
    pub is : IsBlkRogue rows blk k pool rogue
    pub end : BlkEnd blk k role q

  -- whose a queue is that has a hostile end
  pub wild_whose : (q : ℕ) → wild q ≡ true → (row : QueueRow) × (slice_get rows q ≡ Some row) × (role : Role) × (hostiles cast (owner_of row role) ≡ true) × (NetHere q role ⊎ BlkHere q role)
  wild_whose q is = let x = wild_owner q is in (x.0, x.1, x.3, there_hostile cast (owner_of x.0 x.3) x.4 x.5, by x.0 x.1 x.2 x.3 x.4 x.5 x.6 x.7 (rogues.only (owner_of x.0 x.3) x.4 x.5))
    where
      by : (row : QueueRow) → slice_get rows q ≡ Some row → carries_pages row.kind ≡ true → (role : Role) (r : RoguePart) (at : slice_get cast (owner_of row role) ≡ Some (HostilePart r)) (i : ℕ) → slice_get (sheet scene (HostilePart r)).ends i ≡ Some (record { queue = q; role = role }) → IsRogueOf rows n b r → NetHere q role ⊎ BlkHere q role
      by row row_at carries role r at i end (inl (net, k, p, here, rogue_is)) = inl (record { net = net; k = k; pools = p; j = owner_of row role; rogue = r; here = here; at = at; is = rogue_is; end = net_end net k p r rogue_is i role q end })
      by row row_at carries role r at i end (inr (inl (blk, k, p, here, rogue_is))) = inr (record { blk = blk; k = k; pool = p; j = owner_of row role; rogue = r; here = here; at = at; is = rogue_is; end = blk_end blk k p r rogue_is i role q end })
      by row row_at carries role r at i end (inr (inr bare)) = absurd (bytes i (ap (λ l. slice_get l i) (sym (bare_ends_of r bare)) ∙ end))
        where
          plain : (m : ℕ) → m ≡ q → ((w : QueueRow) → slice_get rows m ≡ Some w → w.kind ≡ Kind.Byte) → ⊥
          plain m same kind = let e = sym (ap carries_pages (kind row (ap (slice_get rows) same ∙ row_at))) ∙ carries in cc

          bytes : (m : ℕ) → slice_get (intake bare.input ∷ outlet bare.output ∷ []) m ≡ Some (record { queue = q; role = role }) → ⊥
          bytes zero h = plain bare.input (ap (λ (s : Seat). s.queue) (some_is h)) bare.takes
          bytes (suc zero) h = plain bare.output (ap (λ (s : Seat). s.queue) (some_is h)) bare.puts
          bytes (suc (suc m)) h = cc

  -- who serves a hostile client
  abbrev pub IsServing : Part → Type 0
  IsServing p = ((net : NetPlace) × (k : ℕ) × (q : ClientPools) × (n ≡ Some net) × (slice_get net.pools k ≡ Some q) × (p ≡ NetworkPart (copier_at net.first k (policy_at net.drops k))))
      ⊎ ((net : NetPlace) × (n ≡ Some net) × (p ≡ SendingPart (sender_at net.first net.most net.pools)))
      ⊎ ((blk : BlkPlace) × (b ≡ Some blk) × (p ≡ BlockPart (virt_at blk)))

  -- the end of the other role is that of who serves it
  module _ (net : NetPlace) (here : n ≡ Some net) (k : ℕ) (p : ClientPools) (there : slice_get net.pools k ≡ Some p) where
    abbrev whole : HasWhole rows net cast
    whole = (net_whole net here).0

    below : k < length net.macs
    below = let lt = there_below net.pools k p there in omega (arith, lt, whole.pools_many)

    copier_seat : (i q : ℕ) (r : Role) → slice_get (sheet scene (NetworkPart (copier_at net.first k (policy_at net.drops k)))).ends i ≡ Some (record { queue = q; role = r }) → (row : QueueRow) → slice_get rows q ≡ Some row → owner_of row r ≡ (whole.copier k below).0
    copier_seat i q r at row row_at =
        let x = whole.copier k below in
        let seat = seated x.0 (NetworkPart (copier_at net.first k (policy_at net.drops k))) x.1 i (record { queue = q; role = r }) at in
        ap (λ (w : QueueRow). owner_of w r) (some_is (sym row_at ∙ seat.1)) ∙ seat.2

    ship : (c : Shipper) × (slice_get (shippers_from 0 net.most 0 net.pools) k ≡ Some c) × (c.active ≡ client_first 0 (0 + k) + 4) × (c.free ≡ client_first 0 (0 + k) + 5)
    ship = shipper_there net.most 0 net.pools k p there

    first : net.first ≡ 0
    first = (net_whole net here).1

    at_zero : HasWhole rows net cast → slice_get cast whole.sender.0 ≡ Some (SendingPart (sender_at 0 net.most net.pools))
    at_zero w = whole.sender.1 ∙ ap (λ f. Some (SendingPart (sender_at f net.most net.pools))) first

    sender_in : (row : QueueRow) → slice_get rows (client_first net.first k + 4) ≡ Some row → owner_of row Consumer ≡ whole.sender.0
    sender_in row row_at =
        let queue : ship.0.active ≡ client_first net.first k + 4 = let a = ship.2 in omega (arith, a, first) in
        let seat = pair_first (λ (x : Shipper). intake x.active) (λ x. outlet x.free) (shippers_from 0 net.most 0 net.pools) k ship.0 ship.1 in
        let there_ = seated whole.sender.0 (SendingPart (sender_at 0 net.most net.pools)) (at_zero whole) (suc (suc (twice k))) (intake ship.0.active) seat in
        ap (λ (w : QueueRow). owner_of w Consumer) (some_is (sym row_at ∙ (ap (slice_get rows) (sym queue) ∙ there_.1))) ∙ there_.2

    sender_out : (row : QueueRow) → slice_get rows (client_first net.first k + 5) ≡ Some row → owner_of row Producer ≡ whole.sender.0
    sender_out row row_at =
        let queue : ship.0.free ≡ client_first net.first k + 5 = let a = ship.3 in omega (arith, a, first) in
        let seat = pair_second (λ (x : Shipper). intake x.active) (λ x. outlet x.free) (shippers_from 0 net.most 0 net.pools) k ship.0 ship.1 in
        let there_ = seated whole.sender.0 (SendingPart (sender_at 0 net.most net.pools)) (at_zero whole) (suc (suc (suc (twice k)))) (outlet ship.0.free) seat in
        ap (λ (w : QueueRow). owner_of w Producer) (some_is (sym row_at ∙ (ap (slice_get rows) (sym queue) ∙ there_.1))) ∙ there_.2

  module _ (blk : BlkPlace) (here : b ≡ Some blk) (k : ℕ) (p : PoolAt) (there : slice_get blk.pools k ≡ Some p) where
    abbrev has : HasBlk rows blk cast
    has = (blk_whole blk here).0

    share : (c : Sharer) × (slice_get (sharers_from blk.first 0 blk.entries blk.pools) k ≡ Some c) × (c.req ≡ blk.first + 4 + 2 * (0 + k)) × (c.resp ≡ blk.first + 5 + 2 * (0 + k))
    share = sharer_there blk.first 0 blk.entries blk.pools k p has.pools_many there

    virt_in : (row : QueueRow) → slice_get rows (blk.first + 4 + 2 * k) ≡ Some row → owner_of row Consumer ≡ has.virt.0
    virt_in row row_at =
        let queue : share.0.req ≡ blk.first + 4 + 2 * k = let a = share.2 in omega (arith, a) in
        let seat = pair_first (λ (x : Sharer). intake x.req) (λ x. outlet x.resp) (sharers_from blk.first 0 blk.entries blk.pools) k share.0 share.1 in
        let there_ = seated has.virt.0 (BlockPart (virt_at blk)) has.virt.1 (suc (suc (twice k))) (intake share.0.req) seat in
        ap (λ (w : QueueRow). owner_of w Consumer) (some_is (sym row_at ∙ (ap (slice_get rows) (sym queue) ∙ there_.1))) ∙ there_.2

    virt_out : (row : QueueRow) → slice_get rows (blk.first + 5 + 2 * k) ≡ Some row → owner_of row Producer ≡ has.virt.0
    virt_out row row_at =
        let queue : share.0.resp ≡ blk.first + 5 + 2 * k = let a = share.3 in omega (arith, a) in
        let seat = pair_second (λ (x : Sharer). intake x.req) (λ x. outlet x.resp) (sharers_from blk.first 0 blk.entries blk.pools) k share.0 share.1 in
        let there_ = seated has.virt.0 (BlockPart (virt_at blk)) has.virt.1 (suc (suc (suc (twice k)))) (outlet share.0.resp) seat in
        ap (λ (w : QueueRow). owner_of w Producer) (some_is (sym row_at ∙ (ap (slice_get rows) (sym queue) ∙ there_.1))) ∙ there_.2

  -- an actor that isn't hostile and has the end of such a queue serves its client
  pub serves_wild : (k : ℕ) (p : Part) → slice_get cast k ≡ Some p → manner_of p ≡ Calm → (i : ℕ) (s : Seat) → slice_get (sheet scene p).ends i ≡ Some s → wild s.queue ≡ true → IsServing p
  serves_wild k p at calm i s end is =
      let seat = seated k p at i s end in
      let x = wild_whose s.queue is in
      let same : x.0 ≡ seat.0 = some_is (sym x.1 ∙ seat.1) in
      let mine : owner_of x.0 s.role ≡ k = ap (λ (w : QueueRow). owner_of w s.role) same ∙ seat.2 in
      by x.0 x.1 mine x.2 x.3 x.4
    where
      apart : (w : QueueRow) (r : Role) → owner_of w s.role ≡ k → hostiles cast (owner_of w r) ≡ true → r ≡ s.role → ⊥
      apart w r mine off same =
          let one : hostiles cast (owner_of w r) ≡ false = ap (λ x. hostiles cast (owner_of w x)) same ∙ (ap (hostiles cast) mine ∙ there_calm cast k p at calm) in
          cc

      -- the other role
      flipped : (r : Role) (w : QueueRow) → owner_of w s.role ≡ k → hostiles cast (owner_of w r) ≡ true → s.role ≡ other_role r
      flipped Consumer w mine off = role s.role refl
        where
          role : (z : Role) → s.role ≡ z → s.role ≡ Producer
          role Producer e = e
          role Consumer e = absurd (apart w Consumer mine off (sym e))
      flipped Producer w mine off = role s.role refl
        where
          role : (z : Role) → s.role ≡ z → s.role ≡ Consumer
          role Consumer e = e
          role Producer e = absurd (apart w Producer mine off (sym e))

      found : (j : ℕ) (z : Part) → slice_get cast j ≡ Some z → j ≡ k → p ≡ z
      found j z z_at same = some_is (sym at ∙ (ap (slice_get cast) (sym same) ∙ z_at))

      by : (w : QueueRow) → slice_get rows s.queue ≡ Some w → owner_of w s.role ≡ k → (r : Role) → hostiles cast (owner_of w r) ≡ true → NetHere s.queue r ⊎ BlkHere s.queue r → IsServing p
      by w w_at mine r off (inl h) = net h.end
        where
          turn : (z : Role) → r ≡ z → s.role ≡ other_role z
          turn z e = flipped r w mine off ∙ ap other_role e

          owns : (z : Role) → s.role ≡ z → owner_of w z ≡ k
          owns z e = ap (owner_of w) (sym e) ∙ mine

          net : NetEnd h.net h.k r s.queue → IsServing p
          net (inl e) =
              let own = copier_seat h.net h.here h.k h.pools h.is.there 2 (client_first h.net.first h.k + 2) Producer refl w (ap (slice_get rows) (sym e.1) ∙ w_at) in
              let x = (net_whole h.net h.here).0.copier h.k (below h.net h.here h.k h.pools h.is.there) in
              inl (h.net, h.k, h.pools, h.here, h.is.there, found x.0 (NetworkPart (copier_at h.net.first h.k (policy_at h.net.drops h.k))) x.1 (sym own ∙ owns Producer (turn Consumer e.0)))
          net (inr (inl e)) =
              let own = sender_out h.net h.here h.k h.pools h.is.there w (ap (slice_get rows) (sym e.1) ∙ w_at) in
              inr (inl (h.net, h.here, found (net_whole h.net h.here).0.sender.0 (SendingPart (sender_at h.net.first h.net.most h.net.pools)) (net_whole h.net h.here).0.sender.1 (sym own ∙ owns Producer (turn Consumer e.0))))
          net (inr (inr (inl e))) =
              let own = copier_seat h.net h.here h.k h.pools h.is.there 1 (client_first h.net.first h.k + 3) Consumer refl w (ap (slice_get rows) (sym e.1) ∙ w_at) in
              let x = (net_whole h.net h.here).0.copier h.k (below h.net h.here h.k h.pools h.is.there) in
              inl (h.net, h.k, h.pools, h.here, h.is.there, found x.0 (NetworkPart (copier_at h.net.first h.k (policy_at h.net.drops h.k))) x.1 (sym own ∙ owns Consumer (turn Producer e.0)))
          net (inr (inr (inr e))) =
              let own = sender_in h.net h.here h.k h.pools h.is.there w (ap (slice_get rows) (sym e.1) ∙ w_at) in
              inr (inl (h.net, h.here, found (net_whole h.net h.here).0.sender.0 (SendingPart (sender_at h.net.first h.net.most h.net.pools)) (net_whole h.net h.here).0.sender.1 (sym own ∙ owns Consumer (turn Producer e.0))))
      by w w_at mine r off (inr h) = block h.end
        where
          turn : (z : Role) → r ≡ z → s.role ≡ other_role z
          turn z e = flipped r w mine off ∙ ap other_role e

          owns : (z : Role) → s.role ≡ z → owner_of w z ≡ k
          owns z e = ap (owner_of w) (sym e) ∙ mine

          block : BlkEnd h.blk h.k r s.queue → IsServing p
          block (inl e) =
              let own = virt_out h.blk h.here h.k h.pool h.is.there w (ap (slice_get rows) (sym e.1) ∙ w_at) in
              inr (inr (h.blk, h.here, found (blk_whole h.blk h.here).0.virt.0 (BlockPart (virt_at h.blk)) (blk_whole h.blk h.here).0.virt.1 (sym own ∙ owns Producer (turn Consumer e.0))))
          block (inr e) =
              let own = virt_in h.blk h.here h.k h.pool h.is.there w (ap (slice_get rows) (sym e.1) ∙ w_at) in
              inr (inr (h.blk, h.here, found (blk_whole h.blk h.here).0.virt.0 (BlockPart (virt_at h.blk)) (blk_whole h.blk h.here).0.virt.1 (sym own ∙ owns Consumer (turn Producer e.0))))

  -- the rows of the queues of a hostile network client carry its entries
  net_kind : (net : NetPlace) → n ≡ Some net → (k i : ℕ) (q : ClientPools) → slice_get net.pools k ≡ Some q → i < 6 → (row : QueueRow) → slice_get rows (client_first net.first k + i) ≡ Some row → carries_pages row.kind ≡ true
  net_kind net here k i q there lt row row_at =
      let whole_ = (net_whole net here).0 in
      let under = there_below net.pools k q there in
      let x = whole_.kinds (8 + 6 * k + i) (omega (arith, under, lt, whole_.pools_many)) in
      let same : net.first + (8 + 6 * k + i) ≡ client_first net.first k + i = omega arith in
      let row_is : x.0 ≡ row = some_is (sym x.1 ∙ (ap (slice_get rows) same ∙ row_at)) in
      ap (λ (w : QueueRow). carries_pages w.kind) (sym row_is) ∙ ap carries_pages x.2

  -- a queue of bytes is none of these
  pub byte_calm : (q : ℕ) → ((row : QueueRow) → slice_get rows q ≡ Some row → row.kind ≡ Kind.Byte) → wild q ≡ false
  byte_calm q bytes = by (slice_get rows q) refl
    where
      none : (t : Bool) → (t && false) ≡ false
      none true = refl
      none false = refl

      by : (o : Option QueueRow) → slice_get rows q ≡ o → option_map_or (is_wild (hostiles cast)) o false ≡ false
      by None at = refl
      by (Some row) at = ap (λ (k : QueueKind). not (is_calm (hostiles cast) row) && carries_pages k) (bytes row at) ∙ none (not (is_calm (hostiles cast) row))

  -- both queues of one of the block class are wild
  pub blk_wild : (blk : BlkPlace) (k : ℕ) (q : PoolAt) (j : ℕ) (r : RoguePart) → slice_get cast j ≡ Some (HostilePart r) → IsBlkRogue rows blk k q r → (wild (blk.first + 5 + 2 * k) ≡ true) × (wild (blk.first + 4 + 2 * k) ≡ true)
  blk_wild blk k q j r at is = (
    wild_end j r at 0 (intake (blk.first + 5 + 2 * k)) (ap (λ l. slice_get l 0) (blk_ends_of blk k q r is)) (λ row row_at. ap carries_pages (is.takes row row_at)),
    wild_end j r at 1 (outlet (blk.first + 4 + 2 * k)) (ap (λ l. slice_get l 1) (blk_ends_of blk k q r is)) (λ row row_at. ap carries_pages (is.puts row row_at)),
  )

  -- all four are wild
  pub net_wild : (net : NetPlace) → n ≡ Some net → (k : ℕ) (q : ClientPools) (j : ℕ) (r : RoguePart) → slice_get cast j ≡ Some (HostilePart r) → IsNetRogue net k q r → (wild (client_first net.first k + 2) ≡ true) × (wild (client_first net.first k + 5) ≡ true) × (wild (client_first net.first k + 3) ≡ true) × (wild (client_first net.first k + 4) ≡ true)
  net_wild net here k q j r at is = (
    wild_end j r at 0 (intake (client_first net.first k + 2)) (ap (λ l. slice_get l 0) (net_ends_of net k q r is)) (net_kind net here k 2 q is.there (omega arith)),
    wild_end j r at 1 (intake (client_first net.first k + 5)) (ap (λ l. slice_get l 1) (net_ends_of net k q r is)) (net_kind net here k 5 q is.there (omega arith)),
    wild_end j r at 2 (outlet (client_first net.first k + 3)) (ap (λ l. slice_get l 2) (net_ends_of net k q r is)) (net_kind net here k 3 q is.there (omega arith)),
    wild_end j r at 3 (outlet (client_first net.first k + 4)) (ap (λ l. slice_get l 3) (net_ends_of net k q r is)) (net_kind net here k 4 q is.there (omega arith)),
  )
