-- What items name of other pools than hostile clients', and who lends them.
use Rattle.std.proofs.Common.{◌≡◌, ◌⊎◌, ◌==◌, ◌||◌, ◌+◌, ◌*◌, ◌≤◌, ℕ, Bool, true, false, cond, Option, None, Some, List, [], ◌∷◌, length, slice_get, refl, sym, ap, ◌∙◌, subst, arith, eq-eqb, inl, inr}
use Rattle.wire_core.specs.declared.names.QueueRow.{QueueRow}
use Rattle.wire_core.specs.Ends.{Role, Consumer, Producer}
use Rattle.wire_core.specs.Journal.{is_calm, owner_of}
use Rattle.play_core.specs.Moved.{Seat}
use Rattle.play_core.specs.Names.{Wild, wild_in}
use Rattle.play_core.specs.Sheets.{AreFilled, AreSeated, Scene}
use Rattle.play_core.specs.Still.{Holds}
use Rattle.play_core.proofs.Lists.{there_below}
use Rattle.owner_law.specs.Things.{Answers, Buffers, Frames, Leases, Names, Naming, NoBuffers, Returns, Window}
use Rattle.owner_law.specs.Keeping.{IsNaming, is_lending}
use Rattle.owner_law.specs.Pools.Places.{PoolAt, by_offset}
use Rattle.net_law.specs.Owners.Names.{ClientPools}
use Rattle.net_law.specs.Parts.Numbers.{client_at, client_first}
use Rattle.net_law.specs.TxParts.Numbers.{NetPlace, own_pools}
use Rattle.blk_law.specs.Sheets.Numbers.{BlkPlace, blk_client_at}
use Rattle.actor_set.specs.Parts.{BlockPart, ClientPart, HostilePart, NetworkPart, Part, RoguePart}
use Rattle.actor_set.specs.Laws.Kinds.{hostiles, scene_of, sheet}
use Rattle.cast_law.specs.Pools.Beside.{in_blk, in_net, is_blk_rogues, is_net_rogues, is_rogues}
use Rattle.cast_law.specs.Pools.Holders.{NamesAt, NothingAt}
use Rattle.cast_law.specs.Pools.Owning.{names_beside, owner_naming}
use Rattle.cast_law.specs.Pools.Places.{HasNetAt, IsPlaced, PoolPlace, cast_naming}
use Rattle.cast_law.proofs.PoolsLemmas.Calmed.{BareFor, BlkFor, Calmed, IsLike, NetFor, calmed}
use Rattle.cast_law.proofs.PoolsLemmas.Naming.{names_at as names_of_part}
use Rattle.cast_law.proofs.PoolsLemmas.Owning.{lender_at, naming_is}
use Rattle.cast_law.proofs.PoolsLemmas.Table.{at_receiver}
use Rattle.cast_law.proofs.BesideLemmas.Queues.{bare_ends_of, blk_end, blk_wild, hostile_there, net_end, net_wild, off_owner, wild_owner}
use Rattle.cast_law.proofs.BesideLemmas.Rounds.{blk_in, net_in}
use Rattle.cast_law.proofs.OwningLemmas.Windows.{IsEmpty}

two_ways : (t : Bool) → t ≡ true → t ≡ false → ⊥
two_ways t g h = cc

or_second : (s t : Bool) → t ≡ true → (s || t) ≡ true
or_second true t e = refl
or_second false t e = e

same_lending : (off : ℕ → Bool) (names : Names) → is_lending (names_beside off names) ≡ is_lending names
same_lending off NoBuffers = refl
same_lending off (Buffers ws) = refl
same_lending off (Frames ws receivers) = refl
same_lending off (Leases ws) = refl
same_lending off (Returns ws) = refl
same_lending off (Answers q ws) = refl

answers_of : (off : ℕ → Bool) (names : Names) (q : ℕ) (ws : List Window) → names_beside off names ≡ Answers q ws → (vs : List Window) × (names ≡ Answers q vs)
answers_of off NoBuffers q ws e = absurd cc
answers_of off (Buffers vs) q ws e = absurd cc
answers_of off (Frames vs receivers) q ws e = absurd cc
answers_of off (Leases vs) q ws e = absurd cc
answers_of off (Returns vs) q ws e = absurd cc
answers_of off (Answers r vs) q ws e = let same : r ≡ q = cc in (vs, ap (λ x. Answers x vs) same)

module _ (rows : List QueueRow) (place : PoolPlace) (cast : List Part) (placed : IsPlaced rows place cast) (seated : AreSeated (sheet (scene_of cast)) rows cast) (filled : AreFilled (sheet (scene_of cast)) rows cast) where
  abbrev pub scene : Scene
  scene = scene_of cast

  abbrev pub wild : Wild
  wild = wild_in (hostiles cast) rows

  abbrev pub full : Naming
  full = cast_naming scene place

  abbrev pub off : ℕ → Bool
  off = is_rogues wild place

  abbrev pub named : Naming
  named = owner_naming rows place cast

  pub quiet : Calmed rows place.net place.blk cast
  quiet = calmed rows place.net place.blk cast placed.net placed.blk placed.rogues seated

  stand_names : (k : ℕ) (p : Part) → slice_get quiet.parts k ≡ Some p → NamesAt full scene p
  stand_names k p at = subst (λ z. NamesAt (cast_naming z place) z p) quiet.scene (names_of_part rows quiet.parts quiet.calm quiet.seated place.net place.blk quiet.net quiet.blk k p at)

  -- a hostile client's pools
  net_off : (net : NetPlace) → place.net ≡ Some net → (k : ℕ) (q : ClientPools) → slice_get net.pools k ≡ Some q → wild (client_first net.first k + 4) ≡ true → (off q.rx.number ≡ true) × (off q.tx.number ≡ true)
  net_off net here k q at is = (
    told q.rx.number (rx (is_net_rogues wild net.first 0 net.pools q.rx.number) refl),
    told q.tx.number (tx (is_net_rogues wild net.first 0 net.pools q.tx.number) refl),
  )
    where
      told : (n : ℕ) → is_net_rogues wild net.first 0 net.pools n ≡ true → off n ≡ true
      told n e = ap (λ o. in_net wild o n || in_blk wild place.blk n) here ∙ ap (λ t. t || in_blk wild place.blk n) e

      also : wild (client_first net.first (0 + k) + 4) ≡ true
      also = let plus : 0 + k ≡ k = omega arith in ap (λ n. wild (client_first net.first n + 4)) plus ∙ is

      rx : (t : Bool) → is_net_rogues wild net.first 0 net.pools q.rx.number ≡ t → is_net_rogues wild net.first 0 net.pools q.rx.number ≡ true
      rx true e = e
      rx false e = absurd (two_ways (q.rx.number == q.rx.number) (eq-eqb q.rx.number q.rx.number refl) (net_in wild net.first 0 net.pools k q q.rx.number at also e).0)

      tx : (t : Bool) → is_net_rogues wild net.first 0 net.pools q.tx.number ≡ t → is_net_rogues wild net.first 0 net.pools q.tx.number ≡ true
      tx true e = e
      tx false e = absurd (two_ways (q.tx.number == q.tx.number) (eq-eqb q.tx.number q.tx.number refl) (net_in wild net.first 0 net.pools k q q.tx.number at also e).1)

  blk_off : (blk : BlkPlace) → place.blk ≡ Some blk → (k : ℕ) (q : PoolAt) → slice_get blk.pools k ≡ Some q → wild (blk.first + 4 + 2 * k) ≡ true → off q.number ≡ true
  blk_off blk here k q at is = or_second (in_net wild place.net q.number) (in_blk wild place.blk q.number) (ap (λ o. in_blk wild o q.number) here ∙ by (is_blk_rogues wild blk.first 0 blk.pools q.number) refl)
    where
      also : wild (blk.first + 4 + 2 * (0 + k)) ≡ true
      also = let plus : 0 + k ≡ k = omega arith in ap (λ n. wild (blk.first + 4 + 2 * n)) plus ∙ is

      by : (t : Bool) → is_blk_rogues wild blk.first 0 blk.pools q.number ≡ t → is_blk_rogues wild blk.first 0 blk.pools q.number ≡ true
      by true e = e
      by false e = absurd (two_ways (q.number == q.number) (eq-eqb q.number q.number refl) (blk_in wild blk.first 0 blk.pools k q q.number at also e))

  -- a queue of a hostile client: of other pools nothing is named there, and it has a hostile end
  pub record AtRogue (n : ℕ) : Type 0 where
    pub empty : IsEmpty (names_beside off (full n))
    pub is : (wild n ≡ true) ⊎ (full n ≡ NoBuffers)

  buffers_gone : (p : PoolAt) (n : ℕ) → off p.number ≡ true → full n ≡ Buffers (by_offset p ∷ []) → IsEmpty (names_beside off (full n))
  buffers_gone p n on is = inr (inl (ap (names_beside off) is ∙ ap (λ t. Buffers (cond t [] (by_offset p ∷ []))) on))

  answers_gone : (p : PoolAt) (n q : ℕ) → off p.number ≡ true → full n ≡ Answers q (by_offset p ∷ []) → IsEmpty (names_beside off (full n))
  answers_gone p n q on is = inr (inr (q, ap (names_beside off) is ∙ ap (λ t. Answers q (cond t [] (by_offset p ∷ []))) on))

  rogue_queue : (j : ℕ) (r : RoguePart) → slice_get cast j ≡ Some (HostilePart r) → (i : ℕ) (role : Role) (n : ℕ) → slice_get (sheet scene (HostilePart r)).ends i ≡ Some (record { queue = n; role = role }) → AtRogue n
  rogue_queue j r at i role n end = let x = quiet.like j (HostilePart r) at in by x.0 x.1 x.2
    where
      net : (z : RoguePart) → slice_get cast j ≡ Some (HostilePart z) → slice_get (sheet scene (HostilePart z)).ends i ≡ Some (record { queue = n; role = role }) → (p : Part) → slice_get quiet.parts j ≡ Some p → NetFor place.net z p → AtRogue n
      net z z_at z_end p p_at f = side (net_end rows place.net place.blk cast placed.net placed.blk placed.rogues seated filled f.net f.k f.pools z f.rogue i role n z_end)
        where
          wilds : (wild (client_first f.net.first f.k + 2) ≡ true) × (wild (client_first f.net.first f.k + 5) ≡ true) × (wild (client_first f.net.first f.k + 3) ≡ true) × (wild (client_first f.net.first f.k + 4) ≡ true)
          wilds = net_wild rows place.net place.blk cast placed.net placed.blk placed.rogues seated filled f.net f.here f.k f.pools j z z_at f.rogue

          names : NamesAt full scene (NetworkPart (client_at f.net.first f.k f.program f.mac (own_pools f.pools)))
          names = subst (NamesAt full scene) f.is (stand_names j p p_at)

          offs : (off f.pools.rx.number ≡ true) × (off f.pools.tx.number ≡ true)
          offs = net_off f.net f.here f.k f.pools f.rogue.there wilds.3

          side : ((role ≡ Consumer) × (n ≡ client_first f.net.first f.k + 2)) ⊎ ((role ≡ Consumer) × (n ≡ client_first f.net.first f.k + 5)) ⊎ ((role ≡ Producer) × (n ≡ client_first f.net.first f.k + 3)) ⊎ ((role ≡ Producer) × (n ≡ client_first f.net.first f.k + 4)) → AtRogue n
          side (inl e) = subst AtRogue (sym e.1) (record { empty = buffers_gone f.pools.rx (client_first f.net.first f.k + 2) offs.0 names.0.0; is = inl wilds.0 })
          side (inr (inl e)) = subst AtRogue (sym e.1) (record { empty = buffers_gone f.pools.tx (client_first f.net.first f.k + 5) offs.1 names.1.1; is = inl wilds.1 })
          side (inr (inr (inl e))) = subst AtRogue (sym e.1) (record { empty = buffers_gone f.pools.rx (client_first f.net.first f.k + 3) offs.0 names.0.1; is = inl wilds.2 })
          side (inr (inr (inr e))) = subst AtRogue (sym e.1) (record { empty = buffers_gone f.pools.tx (client_first f.net.first f.k + 4) offs.1 names.1.0; is = inl wilds.3 })

      block : (z : RoguePart) → slice_get cast j ≡ Some (HostilePart z) → slice_get (sheet scene (HostilePart z)).ends i ≡ Some (record { queue = n; role = role }) → (p : Part) → slice_get quiet.parts j ≡ Some p → BlkFor rows place.blk z p → AtRogue n
      block z z_at z_end p p_at f = side (blk_end rows place.net place.blk cast placed.net placed.blk placed.rogues seated filled f.blk f.k f.pool z f.rogue i role n z_end)
        where
          wilds : (wild (f.blk.first + 5 + 2 * f.k) ≡ true) × (wild (f.blk.first + 4 + 2 * f.k) ≡ true)
          wilds = blk_wild rows place.net place.blk cast placed.net placed.blk placed.rogues seated filled f.blk f.k f.pool j z z_at f.rogue

          names : NamesAt full scene (BlockPart (blk_client_at f.blk.first f.k f.asks f.pool))
          names = subst (NamesAt full scene) f.is (stand_names j p p_at)

          on : off f.pool.number ≡ true
          on = blk_off f.blk f.here f.k f.pool f.rogue.there wilds.1

          side : ((role ≡ Consumer) × (n ≡ f.blk.first + 5 + 2 * f.k)) ⊎ ((role ≡ Producer) × (n ≡ f.blk.first + 4 + 2 * f.k)) → AtRogue n
          side (inl e) = subst AtRogue (sym e.1) (record { empty = answers_gone f.pool (f.blk.first + 5 + 2 * f.k) (f.blk.first + 4 + 2 * f.k) on names.0.1.1; is = inl wilds.0 })
          side (inr e) = subst AtRogue (sym e.1) (record { empty = buffers_gone f.pool (f.blk.first + 4 + 2 * f.k) on names.0.1.0; is = inl wilds.1 })

      bare : (z : RoguePart) → slice_get (sheet scene (HostilePart z)).ends i ≡ Some (record { queue = n; role = role }) → (p : Part) → slice_get quiet.parts j ≡ Some p → BareFor rows z p → AtRogue n
      bare z z_end p p_at f = record { empty = inl (ap (names_beside off) none); is = inr none }
        where
          names : NothingAt full scene (ClientPart f.rogue.input f.rogue.output [])
          names = subst (NamesAt full scene) f.is (stand_names j p p_at)

          none : full n ≡ NoBuffers
          none = names i (record { queue = n; role = role }) (sym (ap (λ l. slice_get l i) (bare_ends_of rows place.net place.blk cast placed.net placed.blk placed.rogues seated filled z f.rogue)) ∙ z_end)

      by : (p : Part) → slice_get quiet.parts j ≡ Some p → IsLike rows place.net place.blk (HostilePart r) p → AtRogue n
      by p p_at (inl (c, e)) = absurd cc
      by p p_at (inr (z, e, inl f)) = net z (at ∙ ap (λ (y : Part). Some y) e) (ap (λ y. slice_get (sheet scene y).ends i) (sym e) ∙ end) p p_at f
      by p p_at (inr (z, e, inr (inl f))) = block z (at ∙ ap (λ (y : Part). Some y) e) (ap (λ y. slice_get (sheet scene y).ends i) (sym e) ∙ end) p p_at f
      by p p_at (inr (z, e, inr (inr f))) = bare z (ap (λ y. slice_get (sheet scene y).ends i) (sym e) ∙ end) p p_at f

  pub wild_empty : (n : ℕ) → wild n ≡ true → IsEmpty (names_beside off (full n))
  wild_empty n is = let x = wild_owner rows place.net place.blk cast placed.net placed.blk placed.rogues seated filled n is in (rogue_queue (owner_of x.0 x.3) x.4 x.5 x.6 x.3 n x.7).empty

  -- one actor lends
  abbrev pub lender : ℕ
  lender = lender_at rows quiet.parts quiet.calm quiet.seated place.net quiet.net

  quiet_naming : IsNaming full lender (hostiles quiet.parts) rows
  quiet_naming = subst (λ z. IsNaming (cast_naming z place) lender (hostiles quiet.parts) rows) quiet.scene (naming_is rows quiet.parts quiet.calm quiet.seated place.net place.blk quiet.net quiet.blk)

  at_wild : (n : ℕ) → wild n ≡ true → named n ≡ NoBuffers
  at_wild n e = ap (λ t. cond t NoBuffers (names_beside off (full n))) e

  at_none : (n : ℕ) → full n ≡ NoBuffers → named n ≡ NoBuffers
  at_none n e = by (wild n)
    where
      by : (t : Bool) → cond t NoBuffers (names_beside off (full n)) ≡ NoBuffers
      by true = refl
      by false = ap (names_beside off) e

  pub answered : (n q : ℕ) (ws : List Window) → named n ≡ Answers q ws → (vs : List Window) × (full n ≡ Answers q vs)
  answered n q ws = by (wild n)
    where
      by : (t : Bool) → cond t NoBuffers (names_beside off (full n)) ≡ Answers q ws → (vs : List Window) × (full n ≡ Answers q vs)
      by true e = absurd cc
      by false e = answers_of off (full n) q ws e

  pub owner_named : IsNaming named lender (hostiles cast) rows
  owner_named = record {
    calm = λ n. here n (quiet_naming.calm n);
    lends = λ n row at is. quiet_naming.lends n row at (lending n (wild n) is);
    answers = λ n q ws is same. (let x = answered n q ws is in quiet_naming.answers n q x.0 x.1 same);
  }
    where
      lending : (n : ℕ) (t : Bool) → is_lending (cond t NoBuffers (names_beside off (full n))) ≡ true → is_lending (full n) ≡ true
      lending n true is = cc
      lending n false is = sym (same_lending off (full n)) ∙ is

      here : (n : ℕ) → (full n ≡ NoBuffers) ⊎ Holds (hostiles quiet.parts) rows n 0 → (named n ≡ NoBuffers) ⊎ Holds (hostiles cast) rows n 0
      here n (inl e) = inl (at_none n e)
      here n (inr h) = by (is_calm (hostiles cast) h.row) refl
        where
          none : AtRogue n → named n ≡ NoBuffers
          none x = side x.is
            where
              side : (wild n ≡ true) ⊎ (full n ≡ NoBuffers) → named n ≡ NoBuffers
              side (inl e) = at_wild n e
              side (inr e) = at_none n e

          by : (t : Bool) → is_calm (hostiles cast) h.row ≡ t → (named n ≡ NoBuffers) ⊎ Holds (hostiles cast) rows n 0
          by true e = inr (record { row = h.row; there = h.there; calm = e; enough = omega arith })
          by false e =
              let who = off_owner (hostiles cast) h.row e in
              let r = hostile_there cast (owner_of h.row who.0) who.1 in
              let end = filled (owner_of h.row who.0) (HostilePart r.0) r.1 (record { queue = n; role = who.0 }) (h.row, h.there, refl) in
              inl (none (rogue_queue (owner_of h.row who.0) r.0 r.1 end.0 who.0 n end.1))

  -- at a hostile client's ends nothing is named
  pub rogue_none : (j : ℕ) (r : RoguePart) → slice_get cast j ≡ Some (HostilePart r) → (i : ℕ) (s : Seat) → slice_get (sheet scene (HostilePart r)).ends i ≡ Some s → named s.queue ≡ NoBuffers
  rogue_none j r at i s end = by (rogue_queue j r at i s.role s.queue end).is
    where
      by : (wild s.queue ≡ true) ⊎ (full s.queue ≡ NoBuffers) → named s.queue ≡ NoBuffers
      by (inl e) = at_wild s.queue e
      by (inr e) = at_none s.queue e

  -- the lender is one of the cast, where there is any
  pub nobody : length cast ≤ lender → length cast ≡ 0
  nobody = by place.net quiet.net
    where
      by : (n : Option NetPlace) (has : HasNetAt rows n quiet.parts) → length cast ≤ lender_at rows quiet.parts quiet.calm quiet.seated n has → length cast ≡ 0
      by None none le = omega (arith, le)
      by (Some net) has le =
          let receiver = at_receiver rows net quiet.parts quiet.calm has.0 has.1 in
          absurd (omega (arith, le, quiet.many, there_below quiet.parts receiver.0 _ receiver.1))
