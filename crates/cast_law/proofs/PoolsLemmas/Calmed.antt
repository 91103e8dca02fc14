-- A cast with hostile clients beside one in which the calm client of its number plays each of them:
-- it has the same ends and the same buffers.
use Rattle.std.proofs.Common.{◌≡◌, ◌⊎◌, ◌+◌, ◌*◌, ◌++◌, ℕ, zero, suc, Bool, true, false, Option, None, Some, List, [], ◌∷◌, length, map, flat_map, slice_get, refl, sym, ap, ap₂, ◌∙◌, subst, arith, inl, inr}
use Rattle.std.specs.List.{AllZip, sum_by}
use Rattle.std.proofs.lemmas.List.Sums.{sum_by-cons, sum_by-append}
use Rattle.cargo_core.specs.declared.item.Ask.{Ask}
use Rattle.frame_core.specs.declared.mac.Mac.{Mac}
use Rattle.wire_core.specs.declared.names.QueueRow.{QueueRow}
use Rattle.wire_core.specs.Marks.{sum_below}
use Rattle.class_expect.specs.NetExpect.Expecting.{Program}
use Rattle.buffer_kit.specs.Conserving.{Count}
use Rattle.play_core.specs.Manners.{Calm}
use Rattle.play_core.specs.Moved.{Seat}
use Rattle.play_core.specs.Names.{wild_in}
use Rattle.play_core.specs.Sheets.{AreSeated, IsSeat, Scene}
use Rattle.play_core.specs.Wants.{intake, outlet}
use Rattle.play_core.proofs.Lists.{some_is, there_below, there_is}
use Rattle.owner_law.specs.Pools.Places.{PoolAt}
use Rattle.wired_law.proofs.PageLaw.ActorsLemmas.Pages.{first_sum}
use Rattle.net_law.specs.Owners.Names.{ClientPools}
use Rattle.net_law.specs.Parts.Parts.{NetPart}
use Rattle.net_law.specs.Parts.Numbers.{client_at, client_first}
use Rattle.net_law.specs.TxParts.Parts.{SendPart}
use Rattle.net_law.specs.TxParts.Numbers.{NetPlace, own_pools}
use Rattle.net_quiet.specs.TxCast.Casting.{IsClientOf}
use Rattle.blk_law.specs.Sheets.Parts.{BlkPart}
use Rattle.blk_law.specs.Sheets.Numbers.{BlkPlace, IsBlkClientOf, blk_client_at}
use Rattle.trace_text.specs.Traces.{per_client}
use Rattle.actor_set.specs.Parts.{HostilePart, PageAt, Part, RoguePart, UartPart, DriverPart, RxPart, TxPart, ClientPart, NetworkPart, SendingPart, BlockPart}
use Rattle.actor_set.specs.Laws.Kinds.{AllCalm, frames_of, hostiles, image_of, manner_of, scene_of, sheet}
use Rattle.actor_set.specs.Rogues.{page_weighs, pages_weigh}
use Rattle.actor_set.proofs.LawsLemmas.Told.{none_wild}
use Rattle.wired_law.specs.Wiring.{HasBlk, HasBlkIn, HasPart, HasWhole, HasWholeIn, IsOfBlock, IsOfNetwork}
use Rattle.cast_core.specs.Hostile.{pool_pages}
use Rattle.cast_law.specs.Pages.Paging.{part_weighs, pool_weighs, pools_weigh}
use Rattle.cast_law.specs.Pools.Places.{HasBlkAt, HasNetAt}
use Rattle.cast_law.specs.Pools.Rogues.{HasRogues, IsBareRogue, IsBlkRogue, IsNetRogue, IsRogueOf}

-- where nobody is hostile
pub no_rogues : (rows : List QueueRow) (n : Option NetPlace) (b : Option BlkPlace) (cast : List Part) → AllCalm cast → HasRogues rows n b cast
no_rogues rows n b cast calm = record {
  net = λ net here k q at is. absurd (let none = none_wild cast calm rows (client_first net.first k + 4) in cc);
  blk = λ blk here k q at is. absurd (let none = none_wild cast calm rows (blk.first + 4 + 2 * k) in cc);
  only = λ j p at. absurd (let same = calm j (HostilePart p) at in cc);
}

-- the calm client of a hostile one's number, by its class
pub record NetFor (n : Option NetPlace) (r : RoguePart) (p : Part) : Type 0 where
  pub net : NetPlace
  pub k : ℕ
  pub program : Program
  pub mac : Mac
  pub pools : ClientPools
  pub here : n ≡ Some net
  pub client : IsClientOf net k program mac pools
  pub rogue : IsNetRogue net k pools r
  pub is : p ≡ NetworkPart (client_at net.first k program mac (own_pools pools))

pub record BlkFor (rows : List QueueRow) (b : Option BlkPlace) (r : RoguePart) (p : Part) : Type 0 where
  pub blk : BlkPlace
  pub k : ℕ
  pub entry : ℕ
  pub asks : List Ask
  pub pool : PoolAt
  pub here : b ≡ Some blk
  pub client : IsBlkClientOf blk k entry asks pool
  pub rogue : IsBlkRogue rows blk k pool r
  pub is : p ≡ BlockPart (blk_client_at blk.first k asks pool)

pub record BareFor (rows : List QueueRow) (r : RoguePart) (p : Part) : Type 0 where
  pub rogue : IsBareRogue rows r
  pub is : p ≡ ClientPart rogue.input rogue.output []

abbrev pub IsFor : List QueueRow → Option NetPlace → Option BlkPlace → RoguePart → Part → Type 0
IsFor rows n b r p = NetFor n r p ⊎ BlkFor rows b r p ⊎ BareFor rows r p

-- the same part, or the calm client for a hostile one
abbrev pub IsLike : List QueueRow → Option NetPlace → Option BlkPlace → Part → Part → Type 0
IsLike rows n b p p' = ((manner_of p ≡ Calm) × (p' ≡ p)) ⊎ ((r : RoguePart) × (p ≡ HostilePart r) × IsFor rows n b r p')

-- what stands at one place of two lists side by side
like_at : {X Y : Type 0} (R : X → Y → Type 0) (xs : List X) (ys : List Y) → AllZip R xs ys → (k : ℕ) (x : X) → slice_get xs k ≡ Some x → (y : Y) × (slice_get ys k ≡ Some y) × R x y
like_at R [] ys all k x at = cc
like_at R (a ∷ xs) [] all k x at = absurd all
like_at R (a ∷ xs) (b ∷ ys) all zero x at = (b, refl, subst (λ z. R z b) (some_is at) all.0)
like_at R (a ∷ xs) (b ∷ ys) all (suc k) x at = like_at R xs ys all.1 k x at

back_at : {X Y : Type 0} (R : X → Y → Type 0) (xs : List X) (ys : List Y) → AllZip R xs ys → (k : ℕ) (y : Y) → slice_get ys k ≡ Some y → (x : X) × (slice_get xs k ≡ Some x) × R x y
back_at R xs [] all k y at = cc
back_at R [] (b ∷ ys) all k y at = absurd all
back_at R (a ∷ xs) (b ∷ ys) all zero y at = (a, refl, subst (λ z. R a z) (some_is at) all.0)
back_at R (a ∷ xs) (b ∷ ys) all (suc k) y at = back_at R xs ys all.1 k y at

flat_like : {X T : Type 0} (R : X → X → Type 0) (g : X → List T) → ((x y : X) → R x y → g y ≡ g x) → (xs ys : List X) → AllZip R xs ys → flat_map g ys ≡ flat_map g xs
flat_like R g same [] [] all = refl
flat_like R g same [] (y ∷ ys) all = absurd all
flat_like R g same (x ∷ xs) [] all = absurd all
flat_like R g same (x ∷ xs) (y ∷ ys) all = ap₂ (λ a b. a ++ b) (same x y all.0) (flat_like R g same xs ys all.1)

many_like : {X : Type 0} (R : X → X → Type 0) (xs ys : List X) → AllZip R xs ys → length ys ≡ length xs
many_like R [] [] all = refl
many_like R [] (y ∷ ys) all = absurd all
many_like R (x ∷ xs) [] all = absurd all
many_like R (x ∷ xs) (y ∷ ys) all = ap suc (many_like R xs ys all.1)

sum_like : {X : Type 0} (R : X → X → Type 0) (g : X → ℕ) → ((x y : X) → R x y → g y ≡ g x) → (xs ys : List X) → AllZip R xs ys → sum_by g ys ≡ sum_by g xs
sum_like R g same [] [] all = refl
sum_like R g same [] (y ∷ ys) all = absurd all
sum_like R g same (x ∷ xs) [] all = absurd all
sum_like R g same (x ∷ xs) (y ∷ ys) all = omega (arith, sum_by-cons g x xs, sum_by-cons g y ys, same x y all.0, sum_like R g same xs ys all.1)

-- all buffers of a pool weigh what the pool does
each_weighs : (g : PageAt → ℕ) (n : ℕ) (h : ℕ → PageAt) → sum_by g (per_client n h) ≡ sum_below (λ k. g (h k)) n
each_weighs g zero h = refl
each_weighs g (suc n) h = omega (arith, sum_by-cons g (h 0) (per_client n (λ c. h (suc c))), each_weighs g n (λ c. h (suc c)), first_sum (λ k. g (h k)) n)

each_counted : (n : ℕ) (h : ℕ → PageAt) → length (per_client n h) ≡ n
each_counted zero h = refl
each_counted (suc n) h = ap suc (each_counted n (λ c. h (suc c)))

pub pool_all : (f : Count) (p : PoolAt) → pages_weigh f (pool_pages p) ≡ pool_weighs f p
pool_all f p = each_weighs (page_weighs f) p.buffers (λ k. record { pool = p.number; number = k; long = p.size })

-- a cast in which nobody is hostile, like this one
pub record Calmed (rows : List QueueRow) (n : Option NetPlace) (b : Option BlkPlace) (cast : List Part) : Type 0 where
  pub parts : List Part
  pub calm : AllCalm parts
  pub scene : scene_of parts ≡ scene_of cast
  pub seated : AreSeated (sheet (scene_of parts)) rows parts
  pub net : HasNetAt rows n parts
  pub blk : HasBlkAt rows b parts
  pub many : length parts ≡ length cast
  pub weighs : (f : Count) → pools_weigh f parts ≡ pools_weigh f cast
  pub like : (k : ℕ) (p : Part) → slice_get cast k ≡ Some p → (q : Part) × (slice_get parts k ≡ Some q) × IsLike rows n b p q

module _ (rows : List QueueRow) (n : Option NetPlace) (b : Option BlkPlace) (cast : List Part) (has_net : HasNetAt rows n cast) (has_blk : HasBlkAt rows b cast) (rogues : HasRogues rows n b cast) (seated : AreSeated (sheet (scene_of cast)) rows cast) where
  net_here : (net : NetPlace) → n ≡ Some net → HasWhole rows net cast × (net.first ≡ 0)
  net_here net here = subst (λ o. HasNetAt rows o cast) here has_net

  blk_here : (blk : BlkPlace) → b ≡ Some blk → HasBlkAt rows (Some blk) cast
  blk_here blk here = subst (λ o. HasBlkAt rows o cast) here has_blk

  find : (r : RoguePart) → IsRogueOf rows n b r → (p : Part) × IsFor rows n b r p
  find r (inl (net, k, q, here, is)) =
      let whole = (net_here net here).0 in
      let below = there_below net.pools k q is.there in
      let mac = there_is net.macs k (omega (arith, below, whole.pools_many)) in
      let program = there_is net.programs k (omega (arith, below, whole.pools_many, whole.programs_many)) in
      (NetworkPart (client_at net.first k program.0 mac.0 (own_pools q)), inl (record { net = net; k = k; program = program.0; mac = mac.0; pools = q; here = here; client = record { address = mac.1; pools = is.there; plays = program.1 }; rogue = is; is = refl }))
  find r (inr (inl (blk, k, q, here, is))) =
      let has = (blk_here blk here).0 in
      let below = there_below blk.pools k q is.there in
      let entry = there_is blk.entries k (omega (arith, below, has.pools_many)) in
      let asks = there_is blk.asks k (omega (arith, below, has.pools_many, has.asks_many)) in
      (BlockPart (blk_client_at blk.first k asks.0 q), inr (inl (record { blk = blk; k = k; entry = entry.0; asks = asks.0; pool = q; here = here; client = record { has_entry = entry.1; has_asks = asks.1; has_pool = is.there }; rogue = is; is = refl })))
  find r (inr (inr is)) = (ClientPart is.input is.output [], inr (inr (record { rogue = is; is = refl })))

  stand_in : (p : Part) → ((r : RoguePart) → p ≡ HostilePart r → IsRogueOf rows n b r) → (q : Part) × IsLike rows n b p q
  stand_in (UartPart rx tx input) only = (UartPart rx tx input, inl (refl, refl))
  stand_in (DriverPart device_rx device_tx rx tx) only = (DriverPart device_rx device_tx rx tx, inl (refl, refl))
  stand_in (RxPart rx clients drops) only = (RxPart rx clients drops, inl (refl, refl))
  stand_in (TxPart tx clients) only = (TxPart tx clients, inl (refl, refl))
  stand_in (ClientPart rx tx script) only = (ClientPart rx tx script, inl (refl, refl))
  stand_in (NetworkPart p) only = (NetworkPart p, inl (refl, refl))
  stand_in (SendingPart p) only = (SendingPart p, inl (refl, refl))
  stand_in (BlockPart p) only = (BlockPart p, inl (refl, refl))
  stand_in (HostilePart r) only = let x = find r (only r refl) in (x.0, inr (r, refl, x.1))

  make : (ps : List Part) → ((j : ℕ) (r : RoguePart) → slice_get ps j ≡ Some (HostilePart r) → IsRogueOf rows n b r) → (qs : List Part) × AllZip (IsLike rows n b) ps qs
  make [] only = ([], tt)
  make (p ∷ ps) only =
      let x = stand_in p (λ r e. only 0 r (ap Some e)) in
      let rest = make ps (λ j r at. only (suc j) r at) in
      (x.0 ∷ rest.0, (x.1, rest.1))

  frames_like : (p q : Part) → IsLike rows n b p q → frames_of q ≡ frames_of p
  frames_like p q (inl (calm, e)) = ap frames_of e
  frames_like p q (inr (r, e, inl f)) = ap frames_of f.is ∙ sym (ap frames_of e)
  frames_like p q (inr (r, e, inr (inl f))) = ap frames_of f.is ∙ sym (ap frames_of e)
  frames_like p q (inr (r, e, inr (inr f))) = ap frames_of f.is ∙ sym (ap frames_of e)

  image_like : (p q : Part) → IsLike rows n b p q → image_of q ≡ image_of p
  image_like p q (inl (calm, e)) = ap image_of e
  image_like p q (inr (r, e, inl f)) = ap image_of f.is ∙ sym (ap image_of e)
  image_like p q (inr (r, e, inr (inl f))) = ap image_of f.is ∙ sym (ap image_of e)
  image_like p q (inr (r, e, inr (inr f))) = ap image_of f.is ∙ sym (ap image_of e)

  weighs_like : (f : Count) (p q : Part) → IsLike rows n b p q → part_weighs f q ≡ part_weighs f p
  weighs_like f p q (inl (calm, e)) = ap (part_weighs f) e
  weighs_like f p q (inr (r, e, inl x)) =
      let rx : PoolAt = (own_pools x.pools).rx in
      let tx : PoolAt = (own_pools x.pools).tx in
      omega (
        arith,
        ap (part_weighs f) x.is,
        ap (part_weighs f) e,
        sum_by-cons (pool_weighs f) rx (tx ∷ []),
        sum_by-cons (pool_weighs f) tx [],
        ap (pages_weigh f) x.rogue.pages,
        sum_by-append (page_weighs f) (pool_pages x.pools.rx) (pool_pages x.pools.tx),
        pool_all f x.pools.rx,
        pool_all f x.pools.tx,
      )
  weighs_like f p q (inr (r, e, inr (inl x))) =
      omega (
        arith,
        ap (part_weighs f) x.is,
        ap (part_weighs f) e,
        sum_by-cons (pool_weighs f) x.pool [],
        ap (pages_weigh f) x.rogue.pages,
        pool_all f x.pool,
      )
  weighs_like f p q (inr (r, e, inr (inr x))) = omega (arith, ap (part_weighs f) x.is, ap (part_weighs f) e, ap (pages_weigh f) x.rogue.pages)

  calm_like : (p q : Part) → IsLike rows n b p q → manner_of q ≡ Calm
  calm_like p q (inl (calm, e)) = ap manner_of e ∙ calm
  calm_like p q (inr (r, e, inl f)) = ap manner_of f.is
  calm_like p q (inr (r, e, inr (inl f))) = ap manner_of f.is
  calm_like p q (inr (r, e, inr (inr f))) = ap manner_of f.is

  abbrev scene : Scene
  scene = scene_of cast

  -- the ends of a calm client are those of the hostile one
  module _ (j : ℕ) (r : RoguePart) (at : slice_get cast j ≡ Some (HostilePart r)) where
    net_seat : (first k : ℕ) → r.inputs ≡ (client_first first k + 2) ∷ (client_first first k + 5) ∷ [] → r.outputs ≡ (client_first first k + 3) ∷ (client_first first k + 4) ∷ [] → (i : ℕ) (s : Seat) → slice_get (intake (client_first first k + 2) ∷ outlet (client_first first k + 3) ∷ intake (client_first first k + 5) ∷ outlet (client_first first k + 4) ∷ []) i ≡ Some s → IsSeat rows j s
    net_seat first k ins outs i s here = by i here
      where
        ends : (sheet scene (HostilePart r)).ends ≡ intake (client_first first k + 2) ∷ intake (client_first first k + 5) ∷ outlet (client_first first k + 3) ∷ outlet (client_first first k + 4) ∷ []
        ends = ap₂ (λ (xs ys : List ℕ). map intake xs ++ map outlet ys) ins outs

        by : (m : ℕ) → slice_get (intake (client_first first k + 2) ∷ outlet (client_first first k + 3) ∷ intake (client_first first k + 5) ∷ outlet (client_first first k + 4) ∷ []) m ≡ Some s → IsSeat rows j s
        by zero h = subst (IsSeat rows j) (some_is h) (seated j (HostilePart r) at 0 (intake (client_first first k + 2)) (ap (λ l. slice_get l 0) ends))
        by (suc zero) h = subst (IsSeat rows j) (some_is h) (seated j (HostilePart r) at 2 (outlet (client_first first k + 3)) (ap (λ l. slice_get l 2) ends))
        by (suc (suc zero)) h = subst (IsSeat rows j) (some_is h) (seated j (HostilePart r) at 1 (intake (client_first first k + 5)) (ap (λ l. slice_get l 1) ends))
        by (suc (suc (suc zero))) h = subst (IsSeat rows j) (some_is h) (seated j (HostilePart r) at 3 (outlet (client_first first k + 4)) (ap (λ l. slice_get l 3) ends))
        by (suc (suc (suc (suc m)))) h = cc

    two_seat : (input output : ℕ) → r.inputs ≡ input ∷ [] → r.outputs ≡ output ∷ [] → (i : ℕ) (s : Seat) → slice_get (intake input ∷ outlet output ∷ []) i ≡ Some s → IsSeat rows j s
    two_seat input output ins outs i s here = by i here
      where
        ends : (sheet scene (HostilePart r)).ends ≡ intake input ∷ outlet output ∷ []
        ends = ap₂ (λ (xs ys : List ℕ). map intake xs ++ map outlet ys) ins outs

        by : (m : ℕ) → slice_get (intake input ∷ outlet output ∷ []) m ≡ Some s → IsSeat rows j s
        by zero h = subst (IsSeat rows j) (some_is h) (seated j (HostilePart r) at 0 (intake input) (ap (λ l. slice_get l 0) ends))
        by (suc zero) h = subst (IsSeat rows j) (some_is h) (seated j (HostilePart r) at 1 (outlet output) (ap (λ l. slice_get l 1) ends))
        by (suc (suc m)) h = cc

  seat_like : (j : ℕ) (p q : Part) → slice_get cast j ≡ Some p → IsLike rows n b p q → (i : ℕ) (s : Seat) → slice_get (sheet scene q).ends i ≡ Some s → IsSeat rows j s
  seat_like j p q at (inl (calm, e)) i s here = seated j p at i s (ap (λ z. slice_get (sheet scene z).ends i) (sym e) ∙ here)
  seat_like j p q at (inr (r, e, inl f)) i s here = net_seat j r (at ∙ ap Some e) f.net.first f.k f.rogue.inputs f.rogue.outputs i s (ap (λ z. slice_get (sheet scene z).ends i) (sym f.is) ∙ here)
  seat_like j p q at (inr (r, e, inr (inl f))) i s here = two_seat j r (at ∙ ap Some e) (f.blk.first + 5 + 2 * f.k) (f.blk.first + 4 + 2 * f.k) f.rogue.inputs f.rogue.outputs i s (ap (λ z. slice_get (sheet scene z).ends i) (sym f.is) ∙ here)
  seat_like j p q at (inr (r, e, inr (inr f))) i s here = two_seat j r (at ∙ ap Some e) f.rogue.input f.rogue.output f.rogue.inputs f.rogue.outputs i s (ap (λ z. slice_get (sheet scene z).ends i) (sym f.is) ∙ here)

  module _ (parts : List Part) (all : AllZip (IsLike rows n b) cast parts) (calm : AllCalm parts) where
    here_at : (k : ℕ) (p : Part) → slice_get cast k ≡ Some p → (q : Part) × (slice_get parts k ≡ Some q) × IsLike rows n b p q
    here_at = like_at (IsLike rows n b) cast parts all

    there_at : (k : ℕ) (q : Part) → slice_get parts k ≡ Some q → (p : Part) × (slice_get cast k ≡ Some p) × IsLike rows n b p q
    there_at = back_at (IsLike rows n b) cast parts all

    has_part : (p : Part) → manner_of p ≡ Calm → HasPart cast p → HasPart parts p
    has_part p is (k, at) = let x = here_at k p at in by x.0 x.1 x.2
      where
        by : (q : Part) → slice_get parts k ≡ Some q → IsLike rows n b p q → HasPart parts p
        by q q_at (inl (c, e)) = (k, q_at ∙ ap Some e)
        by q q_at (inr (r, e, f)) = absurd (let same = sym is ∙ ap manner_of e in cc)

    -- where a client is hostile, the calm one is there
    net_client : (net : NetPlace) → n ≡ Some net → (k : ℕ) (program : Program) (mac : Mac) (q : ClientPools) → IsClientOf net k program mac q → (j : ℕ) (r : RoguePart) → slice_get cast j ≡ Some (HostilePart r) → IsNetRogue net k q r → HasPart parts (NetworkPart (client_at net.first k program mac (own_pools q)))
    net_client net here k program mac q of j r at is = let x = here_at j (HostilePart r) at in by x.0 x.1 x.2
      where
        found : (z : RoguePart) → HostilePart r ≡ HostilePart z → z ≡ r
        found z e = cc

        one : (z : RoguePart) → z ≡ r → (p : Part) → slice_get parts j ≡ Some p → IsFor rows n b z p → HasPart parts (NetworkPart (client_at net.first k program mac (own_pools q)))
        one z same p p_at (inl f) =
            let net_same : f.net ≡ net = some_is (sym f.here ∙ here) in
            let queue : client_first f.net.first f.k + 2 ≡ client_first net.first k + 2 = some_is (ap (λ (l : List ℕ). slice_get l 0) (sym f.rogue.inputs ∙ (ap (λ (y : RoguePart). y.inputs) same ∙ is.inputs))) in
            let first_same : f.net.first ≡ net.first = ap (λ (y : NetPlace). y.first) net_same in
            let k_same : f.k ≡ k = omega (arith, queue, first_same) in
            let program_same : f.program ≡ program = some_is (sym f.client.plays ∙ (ap₂ (λ (y : NetPlace) (i : ℕ). slice_get y.programs i) net_same k_same ∙ of.plays)) in
            let mac_same : f.mac ≡ mac = some_is (sym f.client.address ∙ (ap₂ (λ (y : NetPlace) (i : ℕ). slice_get y.macs i) net_same k_same ∙ of.address)) in
            let pools_same : f.pools ≡ q = some_is (sym f.client.pools ∙ (ap₂ (λ (y : NetPlace) (i : ℕ). slice_get y.pools i) net_same k_same ∙ of.pools)) in
            (j, p_at ∙ (ap Some f.is ∙ (λ i. Some (NetworkPart (client_at (first_same i) (k_same i) (program_same i) (mac_same i) (own_pools (pools_same i)))))))
        one z same p p_at (inr (inl f)) = absurd (let twice = sym f.rogue.inputs ∙ (ap (λ (y : RoguePart). y.inputs) same ∙ is.inputs) in cc)
        one z same p p_at (inr (inr f)) = absurd (let twice = sym f.rogue.inputs ∙ (ap (λ (y : RoguePart). y.inputs) same ∙ is.inputs) in cc)

        by : (p : Part) → slice_get parts j ≡ Some p → IsLike rows n b (HostilePart r) p → HasPart parts (NetworkPart (client_at net.first k program mac (own_pools q)))
        by p p_at (inl (c, e)) = absurd cc
        by p p_at (inr (z, e, f)) = one z (found z e) p p_at f

    blk_client : (blk : BlkPlace) → b ≡ Some blk → (k entry : ℕ) (asks : List Ask) (q : PoolAt) → IsBlkClientOf blk k entry asks q → (j : ℕ) (r : RoguePart) → slice_get cast j ≡ Some (HostilePart r) → IsBlkRogue rows blk k q r → HasPart parts (BlockPart (blk_client_at blk.first k asks q))
    blk_client blk here k entry asks q of j r at is = let x = here_at j (HostilePart r) at in by x.0 x.1 x.2
      where
        found : (z : RoguePart) → HostilePart r ≡ HostilePart z → z ≡ r
        found z e = cc

        -- a hostile client with a pool has pages, one without has none
        one : (z : RoguePart) → z ≡ r → (p : Part) → slice_get parts j ≡ Some p → IsFor rows n b z p → HasPart parts (BlockPart (blk_client_at blk.first k asks q))
        one z same p p_at (inl f) = absurd (let twice = sym f.rogue.inputs ∙ (ap (λ (y : RoguePart). y.inputs) same ∙ is.inputs) in cc)
        one z same p p_at (inr (inl f)) =
            let blk_same : f.blk ≡ blk = some_is (sym f.here ∙ here) in
            let queue : f.blk.first + 5 + 2 * f.k ≡ blk.first + 5 + 2 * k = some_is (ap (λ (l : List ℕ). slice_get l 0) (sym f.rogue.inputs ∙ (ap (λ (y : RoguePart). y.inputs) same ∙ is.inputs))) in
            let first_same : f.blk.first ≡ blk.first = ap (λ (y : BlkPlace). y.first) blk_same in
            let k_same : f.k ≡ k = omega (arith, queue, first_same) in
            let asks_same : f.asks ≡ asks = some_is (sym f.client.has_asks ∙ (ap₂ (λ (y : BlkPlace) (i : ℕ). slice_get y.asks i) blk_same k_same ∙ of.has_asks)) in
            let pool_same : f.pool ≡ q = some_is (sym f.client.has_pool ∙ (ap₂ (λ (y : BlkPlace) (i : ℕ). slice_get y.pools i) blk_same k_same ∙ of.has_pool)) in
            (j, p_at ∙ (ap Some f.is ∙ (λ i. Some (BlockPart (blk_client_at (first_same i) (k_same i) (asks_same i) (pool_same i))))))
        one z same p p_at (inr (inr f)) =
            let none : pool_pages q ≡ [] = sym is.pages ∙ (ap (λ (y : RoguePart). y.pages) (sym same) ∙ f.rogue.pages) in
            let some = (blk_here blk here).0.some k q is.there in
            absurd (omega (arith, ap length none, each_counted q.buffers (λ i. record { pool = q.number; number = i; long = q.size }), some))

        by : (p : Part) → slice_get parts j ≡ Some p → IsLike rows n b (HostilePart r) p → HasPart parts (BlockPart (blk_client_at blk.first k asks q))
        by p p_at (inl (c, e)) = absurd cc
        by p p_at (inr (z, e, f)) = one z (found z e) p p_at f

    -- a part that is there was there, or is for a hostile client
    net_back : (p : NetPart) (k : ℕ) → slice_get parts k ≡ Some (NetworkPart p) → (slice_get cast k ≡ Some (NetworkPart p)) ⊎ ((r : RoguePart) × NetFor n r (NetworkPart p))
    net_back p k at = let x = there_at k (NetworkPart p) at in by x.0 x.1 x.2
      where
        by : (o : Part) → slice_get cast k ≡ Some o → IsLike rows n b o (NetworkPart p) → (slice_get cast k ≡ Some (NetworkPart p)) ⊎ ((r : RoguePart) × NetFor n r (NetworkPart p))
        by o o_at (inl (c, e)) = inl (o_at ∙ ap Some (sym e))
        by o o_at (inr (r, e, inl f)) = inr (r, f)
        by o o_at (inr (r, e, inr (inl f))) = absurd (let same = f.is in cc)
        by o o_at (inr (r, e, inr (inr f))) = absurd (let same = f.is in cc)

    send_back : (p : SendPart) (k : ℕ) → slice_get parts k ≡ Some (SendingPart p) → slice_get cast k ≡ Some (SendingPart p)
    send_back p k at = let x = there_at k (SendingPart p) at in by x.0 x.1 x.2
      where
        by : (o : Part) → slice_get cast k ≡ Some o → IsLike rows n b o (SendingPart p) → slice_get cast k ≡ Some (SendingPart p)
        by o o_at (inl (c, e)) = o_at ∙ ap Some (sym e)
        by o o_at (inr (r, e, inl f)) = absurd (let same = f.is in cc)
        by o o_at (inr (r, e, inr (inl f))) = absurd (let same = f.is in cc)
        by o o_at (inr (r, e, inr (inr f))) = absurd (let same = f.is in cc)

    blk_back : (p : BlkPart) (k : ℕ) → slice_get parts k ≡ Some (BlockPart p) → (slice_get cast k ≡ Some (BlockPart p)) ⊎ ((r : RoguePart) × BlkFor rows b r (BlockPart p))
    blk_back p k at = let x = there_at k (BlockPart p) at in by x.0 x.1 x.2
      where
        by : (o : Part) → slice_get cast k ≡ Some o → IsLike rows n b o (BlockPart p) → (slice_get cast k ≡ Some (BlockPart p)) ⊎ ((r : RoguePart) × BlkFor rows b r (BlockPart p))
        by o o_at (inl (c, e)) = inl (o_at ∙ ap Some (sym e))
        by o o_at (inr (r, e, inl f)) = absurd (let same = f.is in cc)
        by o o_at (inr (r, e, inr (inl f))) = inr (r, f)
        by o o_at (inr (r, e, inr (inr f))) = absurd (let same = f.is in cc)

    block_is : {p q : BlkPart} → BlockPart p ≡ BlockPart q → p ≡ q
    block_is e = cc

    net_whole : (net : NetPlace) → n ≡ Some net → HasWhole rows net cast → HasWholeIn scene rows net parts
    net_whole net here whole = record {
      pools_many = whole.pools_many;
      programs_many = whole.programs_many;
      device = has_part _ refl whole.device;
      waits = whole.waits;
      driver = has_part _ refl whole.driver;
      receiver = has_part _ refl whole.receiver;
      sender = has_part _ refl whole.sender;
      copier = λ k lt. has_part _ refl (whole.copier k lt);
      client = λ k program mac q of none. client k program mac q of (wild_in (hostiles cast) rows (client_first net.first k + 4)) refl;
      both = λ k lt. none_wild parts calm rows (client_first net.first k + 4) ∙ sym (none_wild parts calm rows (client_first net.first k + 5));
      only = λ k p at. only k p (net_back p k at);
      only_sender = λ k p at. whole.only_sender k p (send_back p k at);
      kinds = whole.kinds;
      some = whole.some;
      addresses = whole.addresses;
      frames = whole.frames;
      scripts = whole.scripts;
      told = whole.told;
      fits = whole.fits;
      fits_client = whole.fits_client;
    }
      where
        client : (k : ℕ) (program : Program) (mac : Mac) (q : ClientPools) → IsClientOf net k program mac q → (t : Bool) → wild_in (hostiles cast) rows (client_first net.first k + 4) ≡ t → HasPart parts (NetworkPart (client_at net.first k program mac (own_pools q)))
        client k program mac q of false is = has_part _ refl (whole.client k program mac q of is)
        client k program mac q of true is =
            let x = rogues.net net here k q of.pools is in
            net_client net here k program mac q of x.0 x.1 x.2 x.3

        only : (k : ℕ) (p : NetPart) → (slice_get cast k ≡ Some (NetworkPart p)) ⊎ ((r : RoguePart) × NetFor n r (NetworkPart p)) → IsOfNetwork net scene.frames (NetworkPart p)
        only k p (inl at) = whole.only k p at
        only k p (inr (r, f)) = subst (λ y. IsOfNetwork y scene.frames (NetworkPart p)) (some_is (sym f.here ∙ here)) (inr (inr (inr (inr (inr (f.k, f.program, f.mac, f.pools, f.client, f.is))))))

    blk_whole : (blk : BlkPlace) → b ≡ Some blk → HasBlk rows blk cast → HasBlkIn scene rows blk parts
    blk_whole blk here has = record {
      asks_many = has.asks_many;
      pools_many = has.pools_many;
      disk = has_part _ refl has.disk;
      driver = has_part _ refl has.driver;
      virt = has_part _ refl has.virt;
      client = λ k entry asks q of none. client k entry asks q of (wild_in (hostiles cast) rows (blk.first + 4 + 2 * k)) refl;
      only = λ k p at. only k p (blk_back p k at);
      requests = has.requests;
      some = has.some;
      blocks = has.blocks;
      some_blocks = has.some_blocks;
      image_long = has.image_long;
      image_is = has.image_is;
      sized = has.sized;
      apart = has.apart;
    }
      where
        client : (k entry : ℕ) (asks : List Ask) (q : PoolAt) → IsBlkClientOf blk k entry asks q → (t : Bool) → wild_in (hostiles cast) rows (blk.first + 4 + 2 * k) ≡ t → HasPart parts (BlockPart (blk_client_at blk.first k asks q))
        client k entry asks q of false is = has_part _ refl (has.client k entry asks q of is)
        client k entry asks q of true is =
            let x = rogues.blk blk here k q of.has_pool is in
            blk_client blk here k entry asks q of x.0 x.1 x.2 x.3

        only : (k : ℕ) (p : BlkPart) → (slice_get cast k ≡ Some (BlockPart p)) ⊎ ((r : RoguePart) × BlkFor rows b r (BlockPart p)) → IsOfBlock blk p
        only k p (inl at) = has.only k p at
        only k p (inr (r, f)) = subst (λ y. IsOfBlock y p) (some_is (sym f.here ∙ here)) (inr (inr (inr (f.k, f.entry, f.asks, f.pool, f.client, block_is f.is))))

    net_at : (o : Option NetPlace) → n ≡ o → HasNetAt rows o cast → scene_of parts ≡ scene → HasNetAt rows o parts
    net_at None here none same = record {
      none = λ k p at. gone k p (net_back p k at);
      no_sender = λ k p at. none.no_sender k p (send_back p k at);
    }
      where
        gone : (k : ℕ) (p : NetPart) → (slice_get cast k ≡ Some (NetworkPart p)) ⊎ ((r : RoguePart) × NetFor n r (NetworkPart p)) → ⊥
        gone k p (inl at) = none.none k p at
        gone k p (inr (r, f)) = absurd (let both = sym here ∙ f.here in cc)
    net_at (Some net) here has same = (subst (λ z. HasWholeIn z rows net parts) (sym same) (net_whole net here has.0), has.1)

    blk_at : (o : Option BlkPlace) → b ≡ o → HasBlkAt rows o cast → scene_of parts ≡ scene → HasBlkAt rows o parts
    blk_at None here none same = λ k p at. gone k p (blk_back p k at)
      where
        gone : (k : ℕ) (p : BlkPart) → (slice_get cast k ≡ Some (BlockPart p)) ⊎ ((r : RoguePart) × BlkFor rows b r (BlockPart p)) → ⊥
        gone k p (inl at) = none k p at
        gone k p (inr (r, f)) = absurd (let both = sym here ∙ f.here in cc)
    blk_at (Some blk) here has same = (subst (λ z. HasBlkIn z rows blk parts) (sym same) (blk_whole blk here has.0), has.1)

  pub calmed : Calmed rows n b cast
  calmed =
      let made = make cast rogues.only in
      let parts : List Part = made.0 in
      let all : AllZip (IsLike rows n b) cast parts = made.1 in
      let calm : AllCalm parts = λ k q at. (let x = back_at (IsLike rows n b) cast parts all k q at in calm_like x.0 q x.2) in
      let frames = flat_like (IsLike rows n b) frames_of frames_like cast parts all in
      let image = flat_like (IsLike rows n b) image_of image_like cast parts all in
      let same : scene_of parts ≡ scene = (λ i. record { frames = frames i; image = image i }) in
      record {
        parts = parts;
        calm = calm;
        scene = same;
        seated = subst (λ z. AreSeated (sheet z) rows parts) (sym same) (λ k q at i s here. (let x = back_at (IsLike rows n b) cast parts all k q at in seat_like k x.0 q x.1 x.2 i s here));
        net = net_at parts all calm n refl has_net same;
        blk = blk_at parts all calm b refl has_blk same;
        many = many_like (IsLike rows n b) cast parts all;
        weighs = λ f. sum_like (IsLike rows n b) (part_weighs f) (weighs_like f) cast parts all;
        like = like_at (IsLike rows n b) cast parts all;
      }
