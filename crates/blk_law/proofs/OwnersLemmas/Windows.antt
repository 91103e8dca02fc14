-- Which window an address of the disk's side is in, where no two pools have an address in common.
use Rattle.std.proofs.Common.{◌≡◌, ◌==◌, ◌&&◌, ◌+◌, ◌*◌, ◌%◌, ◌<◌, ◌≤◌, ℕ, zero, suc, Bool, true, false, cond, nat_le, nat_lt, Option, Some, None, List, [], ◌∷◌, map, slice_get, option_and_then, refl, sym, ap, ap₂, ◌∙◌, arith, lt-ltb, ltb-true, le-leb, eqb-true, mod-eq_of_lt}
use Rattle.std.proofs.Math.Nat.{mul-lt-mul_of_pos_right}
use Rattle.cargo_core.specs.Items.{kind_of}
use Rattle.cargo_core.specs.Ranges.{is_within}
use Rattle.cargo_core.specs.declared.item.BlkReq.{BlkReq}
use Rattle.cargo_core.specs.declared.item.Code.{Code}
use Rattle.cargo_core.specs.declared.item.Code.TheVariants as Asked
use Rattle.cargo_core.specs.declared.item.Item.{Item}
use Rattle.cargo_core.specs.declared.item.Item.TheVariants as ItemOf
use Rattle.cargo_core.specs.declared.item.QueueKind.TheVariants as Kind
use Rattle.wire_core.specs.Bells.{bit}
use Rattle.play_core.proofs.Lists.{some_is}
use Rattle.owner_law.specs.Things.{Buffer, Window, number_at, begins_at, buffer_at, buffer_of, request_address, is_named}
use Rattle.owner_law.specs.Keeping.{at_start}
use Rattle.owner_law.proofs.Sums.{both}
use Rattle.blk_mbr.specs.declared.part.Part.{Part}
use Rattle.blk_virt.specs.Requests.{request_of, first_block, asked_of_disk, moves_blocks}
use Rattle.owner_law.specs.Pools.Places.{PoolAt, by_address, by_offset, pool_hand}
use Rattle.net_law.proofs.OwnersLemmas.Clients.{at_address}
use Rattle.blk_law.specs.Sheets.Parts.{Sharer}
use Rattle.blk_law.specs.Sheets.Rows.{item_for_disk, is_item_at, first_item, IsRequestIn}
use Rattle.blk_law.specs.Owners.Answering.{TakesBlocks, disk_windows, block_range, ArePoolsApart}
use Rattle.blk_law.proofs.OwnersLemmas.Asking.{use_of, few_uses}

-- where a buffer of a range begins is in the range
pub within_at : (base n size buffers a : ℕ) → n < buffers → 1 ≤ size → base + n * size ≡ a → (nat_le base a && nat_lt a (base + buffers * size)) ≡ true
within_at base n size buffers a few room is =
    let less : n * size < buffers * size = mul-lt-mul_of_pos_right few room in
    ap₂ (λ x y. x && y) (le-leb base a (omega (arith, is))) (lt-ltb a (base + buffers * size) (omega (arith, is, less)))

pub has_room : (p : PoolAt) → TakesBlocks p → 1 ≤ p.size
has_room p takes = let room = takes.1 in omega (arith, room)

-- a buffer of a pool begins in the pool's range
begins_within : (p : PoolAt) (a : ℕ) → 1 ≤ p.size → begins_at (by_address p) a ≡ true → is_within (block_range p) a ≡ true
begins_within p a room begins =
    let n = number_at (by_address p) a in
    let two = both (nat_lt n p.buffers) (p.base + n * p.size == a) begins in
    within_at p.base n p.size p.buffers a (ltb-true n p.buffers two.0) room (eqb-true (p.base + n * p.size) a two.1)

not_begins : (p : PoolAt) (a : ℕ) → 1 ≤ p.size → is_within (block_range p) a ≡ false → begins_at (by_address p) a ≡ false
not_begins p a room out = go (begins_at (by_address p) a) refl
  where
    go : (t : Bool) → begins_at (by_address p) a ≡ t → t ≡ false
    go false is = refl
    go true is = absurd (let no : true ≡ false = sym (begins_within p a room is) ∙ out in cc)

passes : (w : Window) (ws : List Window) (a : ℕ) → begins_at w a ≡ false → buffer_at (w ∷ ws) a ≡ buffer_at ws a
passes w ws a out = ap (λ t. cond t (Some (record { pool = w.pool; no = number_at w a })) (buffer_at ws a)) out

abbrev windows : List Sharer → List Window
windows clients = map (λ (c : Sharer). by_address c.pool) clients

none_at : (clients : List Sharer) (a : ℕ) → ((j : ℕ) (d : Sharer) → slice_get clients j ≡ Some d → 1 ≤ d.pool.size) → ((j : ℕ) (d : Sharer) → slice_get clients j ≡ Some d → is_within (block_range d.pool) a ≡ false) → buffer_at (windows clients) a ≡ None
none_at [] a rooms out = refl
none_at (d ∷ clients) a rooms out = passes (by_address d.pool) (windows clients) a (not_begins d.pool a (rooms 0 d refl) (out 0 d refl)) ∙ none_at clients a (λ j e at. rooms (suc j) e at) (λ j e at. out (suc j) e at)

picks : (clients : List Sharer) (k : ℕ) (c : Sharer) (a : ℕ) → slice_get clients k ≡ Some c → ((j : ℕ) (d : Sharer) → slice_get clients j ≡ Some d → 1 ≤ d.pool.size) → ((j : ℕ) (d : Sharer) → slice_get clients j ≡ Some d → (j ≡ k → ⊥) → is_within (block_range d.pool) a ≡ false)
    → buffer_at (windows clients) a ≡ buffer_at (by_address c.pool ∷ []) a
picks [] k c a at rooms out = absurd cc
picks (d ∷ clients) zero c a at rooms out =
    let same : d ≡ c = some_is at in
    let rest = none_at clients a (λ j e there. rooms (suc j) e there) (λ j e there. out (suc j) e there (λ h. omega (arith, h))) in
    ap (λ o. cond (begins_at (by_address d.pool) a) (Some (record { pool = d.pool.number; no = number_at (by_address d.pool) a })) o) rest ∙ ap (λ (e : Sharer). buffer_at (by_address e.pool ∷ []) a) same
picks (d ∷ clients) (suc k) c a at rooms out =
    passes (by_address d.pool) (windows clients) a (not_begins d.pool a (rooms 0 d refl) (out 0 d refl (λ h. omega (arith, h))))
    ∙ picks clients k c a at (λ j e there. rooms (suc j) e there) (λ j e there other. out (suc j) e there (λ h. other (let n : j ≡ k = omega (arith, h) in n)))

module _ (pool : PoolAt) (clients : List Sharer) (apart : ArePoolsApart pool clients) where
  abbrev ws : List Window
  ws = disk_windows pool clients

  -- an address in the range of a client is in its window
  pick_client : (k : ℕ) (c : Sharer) (a : ℕ) → slice_get clients k ≡ Some c → is_within (block_range c.pool) a ≡ true → buffer_at ws a ≡ buffer_at (by_address c.pool ∷ []) a
  pick_client k c a at within =
      passes (by_address pool) (windows clients) a (not_begins pool a (has_room pool apart.own) (apart.own_apart k c at a within))
      ∙ picks clients k c a at (λ j d there. has_room d.pool (apart.some j d there)) (λ j d there other. apart.apart k j c d at there (λ e. other (sym e)) a within)

  module _ (k : ℕ) (c : Sharer) (at : slice_get clients k ≡ Some c) where
    room : 1 ≤ c.pool.size
    room = has_room c.pool (apart.some k c at)

    -- a request that is sent on is in its client's range
    pub on_within : (part : Option Part) (i : Item) → IsRequestIn c.pool i → is_item_at c.pool (item_for_disk c.pool.base part i) ≡ true
    on_within part i is = go (request_of i) is
      where
        at_base : is_within (block_range c.pool) c.pool.base ≡ true
        at_base = within_at c.pool.base 0 c.pool.size c.pool.buffers c.pool.base (apart.some k c at).0 room (omega arith)

        moved : (a number : ℕ) → number < c.pool.buffers → a ≡ number * c.pool.size → is_within (block_range c.pool) (c.pool.base + a) ≡ true
        moved a number few begins = within_at c.pool.base number c.pool.size c.pool.buffers (c.pool.base + a) few room (omega (arith, begins))

        by : (code : Code) (r : BlkReq) → (moves_blocks code ≡ true → (number : ℕ) × (number < c.pool.buffers) × (r.addr ≡ number * c.pool.size)) → is_within (block_range c.pool) (asked_of_disk code c.pool.base (first_block part) r).addr ≡ true
        by Asked.Read r is = let n = is refl in moved r.addr n.0 n.1 n.2
        by Asked.Write r is = let n = is refl in moved r.addr n.0 n.1 n.2
        by Asked.Flush r is = at_base
        by Asked.Barrier r is = at_base

        go : (r : BlkReq) → (moves_blocks r.code ≡ true → (number : ℕ) × (number < c.pool.buffers) × (r.addr ≡ number * c.pool.size)) → is_within (block_range c.pool) (asked_of_disk r.code c.pool.base (first_block part) r).addr ≡ true
        go r is = by r.code r is

    -- and in nobody else's
    pub on_apart : (part : Option Part) (i : Item) → IsRequestIn c.pool i → (j : ℕ) (d : Sharer) → slice_get clients j ≡ Some d → (j ≡ k → ⊥) → is_item_at d.pool (item_for_disk c.pool.base part i) ≡ false
    on_apart part i is j d there other = apart.apart k j c d at there (λ e. other (sym e)) (request_of (item_for_disk c.pool.base part i)).addr (on_within part i is)

    -- it names the same buffer as at its client
    same_name : (a number : ℕ) → number < c.pool.buffers → a ≡ number * c.pool.size → buffer_at ws (c.pool.base + a) ≡ buffer_at (by_offset c.pool ∷ []) a
    same_name a number few begins =
        let within : is_within (block_range c.pool) (c.pool.base + a) ≡ true = within_at c.pool.base number c.pool.size c.pool.buffers (c.pool.base + a) few room (omega (arith, begins)) in
        let there : c.pool.base + a ≡ c.pool.base + number * c.pool.size = ap (λ n. c.pool.base + n) begins in
        let plus : a ≡ 0 + number * c.pool.size = omega (arith, begins) in
        pick_client k c (c.pool.base + a) at within
        ∙ (ap (buffer_at (by_address c.pool ∷ [])) there ∙ at_address (by_address c.pool) number room few)
        ∙ sym (ap (buffer_at (by_offset c.pool ∷ [])) plus ∙ at_address (by_offset c.pool) number room few)

    name_of_code : (first : ℕ) (code : Code) (r : BlkReq) → (moves_blocks code ≡ true → (number : ℕ) × (number < c.pool.buffers) × (r.addr ≡ number * c.pool.size))
        → buffer_of ws (ItemOf.Req (asked_of_disk code c.pool.base first r)) ≡ option_and_then (buffer_at (by_offset c.pool ∷ [])) (request_address code r.addr)
    name_of_code first Asked.Read r is = let n = is refl in same_name r.addr n.0 n.1 n.2
    name_of_code first Asked.Write r is = let n = is refl in same_name r.addr n.0 n.1 n.2
    name_of_code first Asked.Flush r is = refl
    name_of_code first Asked.Barrier r is = refl

    pub on_name : (part : Option Part) (i : Item) → kind_of i ≡ Kind.Req → IsRequestIn c.pool i → buffer_of ws (item_for_disk c.pool.base part i) ≡ buffer_of (by_offset c.pool ∷ []) i
    on_name part (ItemOf.Req r) kind is = name_of_code (first_block part) r.code r is
    on_name part (ItemOf.Net d) kind is = absurd cc
    on_name part (ItemOf.Byte b) kind is = absurd cc
    on_name part (ItemOf.Resp r) kind is = absurd cc

  first_pick : (w : Window) (rest : List Window) (a : ℕ) (x : Buffer) → buffer_at (w ∷ []) a ≡ Some x → buffer_at (w ∷ rest) a ≡ Some x
  first_pick w rest a x h = go (begins_at w a) h
    where
      go : (t : Bool) → cond t (Some (record { pool = w.pool; no = number_at w a })) None ≡ Some x → cond t (Some (record { pool = w.pool; no = number_at w a })) (buffer_at rest a) ≡ Some x
      go true h = h
      go false h = absurd cc

  -- the virtualiser's own request names its own buffer
  pub own_name : buffer_of ws (first_item pool) ≡ Some (record { pool = pool.number; no = 0 })
  own_name =
      let at : pool.base ≡ pool.base + 0 * pool.size = omega arith in
      let own = apart.own.0 in
      first_pick (by_address pool) (windows clients) pool.base (record { pool = pool.number; no = 0 }) (ap (buffer_at (by_address pool ∷ [])) at ∙ at_address (by_address pool) 0 (has_room pool apart.own) own)

  pub own_few : (b : Buffer) → is_named b (buffer_of ws (first_item pool)) ≤ at_start (pool_hand pool) b
  own_few b =
      let name = ap (is_named b) own_name in
      let own = apart.own.0 in
      let zero_left : 0 % pool.buffers ≡ 0 = mod-eq_of_lt (omega (arith, own)) in
      let once : use_of pool.number pool.buffers b 0 ≡ is_named b (Some (record { pool = pool.number; no = 0 })) = ap (λ r. bit ((pool.number == b.pool) && (r == b.no))) zero_left in
      let few = few_uses pool.number pool.buffers b own 0 1 own in
      omega (arith, name, once, few)
