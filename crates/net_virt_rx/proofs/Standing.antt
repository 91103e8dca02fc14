-- How a virtualiser that shares frames stands after each thing that it does.
use Rattle.std.proofs.Common.{◌≡◌, ◌+◌, ◌==◌, ◌<◌, ℕ, nat_lt, Some, List, [], ◌∷◌, ◌++◌, All, length, map, slice_get, slice_index_or, refl, sym, ap, ◌∙◌, subst, append_assoc, arith}
use Rattle.std.proofs.lemmas.Option.{slice_get_within}
use Rattle.std.proofs.lemmas.List.{append-nil}
use Rattle.std.proofs.lemmas.List.Elements.{All-append, All-push}
use Rattle.cargo_core.specs.Lists.{IsPrefix}
use Rattle.cargo_core.specs.Loans.{receivers_at}
use Rattle.cargo_core.specs.Pages.{Paged}
use Rattle.frame_core.specs.declared.mac.Mac.{Mac}
use Rattle.wire_core.specs.Bells.{bit}
use Rattle.wire_core.specs.Deeds.{Cargo}
use Rattle.wire_core.specs.Lists.{if_there}
use Rattle.buffer_kit.specs.Pools.{given_entry}
use Rattle.buffer_kit.specs.Stocks.{SameStock, stock_list}
use Rattle.buffer_kit.specs.declared.stock.Stock.{Stock}
use Rattle.net_virt_rx.specs.declared.sharer.Sharer.{Sharer}
use Rattle.cargo_core.specs.declared.item.Body.TheVariants as Carried
use Rattle.net_virt_rx.specs.Sharing.{SameSharer, ClientStands, SharerStands, IsBuffer, named, leases_for, owed_to, is_out, with_more}
use Rattle.net_virt_rx.proofs.Naming.{named_append, leases_append}

-- a beginning of a list is one of that list with more
begins_more : (xs ys more : List Cargo) → IsPrefix xs ys → IsPrefix xs (ys ++ more)
begins_more xs ys more p = (p.0 ++ more, sym (append_assoc xs p.0 more) ∙ ap (λ l. l ++ more) p.1)

-- of two lists that hold of each element, the first
pub all_front : (P : Cargo → Type 0) (xs ys : List Cargo) → ys ≡ [] → All P (xs ++ ys) → All P xs
all_front P xs ys e h = subst (λ l. All P l) (ap (λ l. xs ++ l) e ∙ append-nil xs) h

-- what is said of a stock is said of the same stock
same_counts : (base base' size size' b : ℕ) (xs ys : List Cargo) (n : ℕ) → base' ≡ base → size' ≡ size → named base size b xs + n ≡ named base size b ys + 1 → named base' size' b xs + n ≡ named base' size' b ys + 1
same_counts base base' size size' b xs ys n e f h = rw (e, f) h

same_given : (base base' size size' : ℕ) (start : List Paged) (xs later : List Cargo) → base' ≡ base → size' ≡ size → xs ≡ map (given_entry base size) start ++ later → xs ≡ map (given_entry base' size') start ++ later
same_given base base' size size' start xs later e f h = rw (e, f) h

-- an entry that names a buffer of a stock names one of the same stock
same_buffer : (s s' : Stock) → SameStock s s' → (x : Cargo) → IsBuffer s x → IsBuffer s' x
same_buffer s s' same (item, Carried.Page page) b = rw (same.same_pool, same.buffers, same.base, same.size) b
same_buffer s s' same (item, Carried.Lease lease) b = b
same_buffer s s' same (item, Carried.Empty) b = b

module _ (w w' : Sharer) (same : SameSharer w w') where
  abbrev size : ℕ
  size = w.stock.size

  abbrev base : ℕ
  base = w.stock.base

  all_same : (xs : List Cargo) → All (IsBuffer w.stock) xs → All (IsBuffer w'.stock) xs
  all_same xs h = λ k d there. same_buffer w.stock w'.stock same.stock (slice_index_or xs k d) (h k d there)

  mac_was : (k : ℕ) (mac : Mac) → slice_get w'.macs.items k ≡ Some mac → slice_get w.macs.items k ≡ Some mac
  mac_was k mac at = subst (λ m. slice_get m.items k ≡ Some mac) same.macs at

  -- a frame came in turn
  module _ (c : Cargo) (owed_none : (k : ℕ) → owed_to w k ≡ [])
      (owed_now : (k : ℕ) (mac : Mac) → slice_get w.macs.items k ≡ Some mac → owed_to w' k ≡ leases_for size mac (c ∷ []))
      (outs : (k : ℕ) (mac : Mac) → slice_get w.macs.items k ≡ Some mac → (b : ℕ) → b < w.stock.buffers → bit (is_out w' b k) ≡ bit (is_out w b k) + named 0 size b (leases_for size mac (c ∷ []))) where
    client_takes : (k : ℕ) (mac : Mac) → slice_get w.macs.items k ≡ Some mac → (frames earlier shared back : List Cargo) → ClientStands w k mac frames earlier shared back → ClientStands w' k mac (frames ++ c ∷ []) frames shared back
    client_takes k mac at frames earlier shared back h =
        let whole : shared ≡ leases_for size mac frames = sym (ap (λ xs. shared ++ xs) (owed_none k) ∙ append-nil shared) ∙ h.lends in
        record {
          lends = ap (λ xs. shared ++ xs) (owed_now k mac at) ∙ (ap (λ xs. xs ++ leases_for size mac (c ∷ [])) whole ∙ (sym (leases_append size mac frames (c ∷ [])) ∙ ap (λ n. leases_for n mac (frames ++ c ∷ [])) (sym same.stock.size)));
          prompt = rw same.stock.size ([], append-nil (leases_for size mac frames) ∙ sym whole);
          backs = rw (same.stock.size, same.stock.buffers) (λ b within.
              let was = h.backs b within in
              let more = outs k mac at b within in
              let parts = ap (named 0 size b) (leases_append size mac frames (c ∷ [])) ∙ named_append 0 size b (leases_for size mac frames) (leases_for size mac (c ∷ [])) in
              omega (arith, was, more, parts));
        }

    module _ (stocked : stock_list w.stock ≡ []) (buffer : IsBuffer w.stock c) (now : All (IsBuffer w.stock) (stock_list w'.stock))
        (counts : (b : ℕ) → b < w.stock.buffers → named base size b (stock_list w'.stock) + bit (nat_lt 0 (receivers_at w'.lent b)) ≡ bit (nat_lt 0 (receivers_at w.lent b)) + named base size b (c ∷ []))
        (start : List Paged) (frames given : List Cargo) (shared back : ℕ → List Cargo) (h : SharerStands w start frames given shared back) where
      given_on : given ++ stock_list w'.stock ≡ map (given_entry base size) start ++ (h.later ++ stock_list w'.stock)
      given_on = ap (λ xs. xs ++ stock_list w'.stock) (sym (ap (λ xs. given ++ xs) stocked ∙ append-nil given) ∙ h.gives) ∙ append_assoc (map (given_entry base size) start) h.later (stock_list w'.stock)

      pub takes : SharerStands w' start (frames ++ c ∷ []) given shared back
      takes = record {
        earlier = frames;
        latest = c ∷ [];
        split = refl;
        few = omega arith;
        within = all_same (frames ++ c ∷ []) (All-push (IsBuffer w.stock) frames c h.within buffer);
        clients = λ k mac at. client_takes k mac (mac_was k mac at) frames h.earlier (shared k) (back k) (h.clients k mac (mac_was k mac at));
        later = h.later ++ stock_list w'.stock;
        gives = same_given base w'.stock.base size w'.stock.size start (given ++ stock_list w'.stock) (h.later ++ stock_list w'.stock) same.stock.base same.stock.size given_on;
        given_within = all_same (given ++ stock_list w'.stock) (All-append (IsBuffer w.stock) given (stock_list w'.stock) (all_front (IsBuffer w.stock) given (stock_list w.stock) stocked h.given_within) now);
        counts = rw same.stock.buffers (λ b within. same_counts base w'.stock.base size w'.stock.size b (given ++ stock_list w'.stock) (frames ++ c ∷ []) (bit (nat_lt 0 (receivers_at w'.lent b))) same.stock.base same.stock.size (
            let was = h.counts b within in
            let is = counts b within in
            let a = named_append base size b given (stock_list w'.stock) in
            let a' = named_append base size b given (stock_list w.stock) in
            let none = ap (named base size b) stocked in
            let d = named_append base size b frames (c ∷ []) in
            omega (arith, was, is, a, a', none, d)));
      }

  -- a lease came back from the client at place k
  module _ (k : ℕ) (x : Cargo) (owed : (j : ℕ) → owed_to w' j ≡ owed_to w j)
      (outs : (j b : ℕ) → b < w.stock.buffers → bit (is_out w' b j) + named 0 size b (if_there (k == j) (x ∷ [])) ≡ bit (is_out w b j))
      (stocked : stock_list w.stock ≡ []) (now : All (IsBuffer w.stock) (stock_list w'.stock))
      (counts : (b : ℕ) → b < w.stock.buffers → named base size b (stock_list w'.stock) + bit (nat_lt 0 (receivers_at w'.lent b)) ≡ bit (nat_lt 0 (receivers_at w.lent b)))
      (start : List Paged) (frames given : List Cargo) (shared back : ℕ → List Cargo) (h : SharerStands w start frames given shared back) where
    back_on : given ++ stock_list w'.stock ≡ map (given_entry base size) start ++ (h.later ++ stock_list w'.stock)
    back_on = ap (λ xs. xs ++ stock_list w'.stock) (sym (ap (λ xs. given ++ xs) stocked ∙ append-nil given) ∙ h.gives) ∙ append_assoc (map (given_entry base size) start) h.later (stock_list w'.stock)

    client_returns : (j : ℕ) (mac : Mac) → ClientStands w j mac frames h.earlier (shared j) (back j) → ClientStands w' j mac frames h.earlier (shared j) (with_more back k (x ∷ []) j)
    client_returns j mac c = record {
      lends = ap (λ xs. shared j ++ xs) (owed j) ∙ (c.lends ∙ ap (λ n. leases_for n mac frames) (sym same.stock.size));
      prompt = rw same.stock.size c.prompt;
      backs = rw (same.stock.size, same.stock.buffers) (λ b within.
          let was = c.backs b within in
          let is = outs j b within in
          let parts = named_append 0 size b (back j) (if_there (k == j) (x ∷ [])) in
          omega (arith, was, is, parts));
    }

    pub returns : SharerStands w' start frames given shared (with_more back k (x ∷ []))
    returns = record {
      earlier = h.earlier;
      latest = h.latest;
      split = h.split;
      few = h.few;
      within = all_same frames h.within;
      clients = λ j mac at. client_returns j mac (h.clients j mac (mac_was j mac at));
      later = h.later ++ stock_list w'.stock;
      gives = same_given base w'.stock.base size w'.stock.size start (given ++ stock_list w'.stock) (h.later ++ stock_list w'.stock) same.stock.base same.stock.size back_on;
      given_within = all_same (given ++ stock_list w'.stock) (All-append (IsBuffer w.stock) given (stock_list w'.stock) (all_front (IsBuffer w.stock) given (stock_list w.stock) stocked h.given_within) now);
      counts = rw same.stock.buffers (λ b within. same_counts base w'.stock.base size w'.stock.size b (given ++ stock_list w'.stock) frames (bit (nat_lt 0 (receivers_at w'.lent b))) same.stock.base same.stock.size (
          let was = h.counts b within in
          let is = counts b within in
          let a = named_append base size b given (stock_list w'.stock) in
          let a' = named_append base size b given (stock_list w.stock) in
          let none = ap (named base size b) stocked in
          omega (arith, was, is, a, a', none)));
    }

  -- leases went to clients, or none did; and buffers were given
  module _ (more : ℕ → List Cargo) (owed : (j : ℕ) → more j ++ owed_to w' j ≡ owed_to w j) (outs : (b j : ℕ) → is_out w' b j ≡ is_out w b j) (lent : (b : ℕ) → receivers_at w'.lent b ≡ receivers_at w.lent b)
      (given given' : List Cargo) (stocked : given' ++ stock_list w'.stock ≡ given ++ stock_list w.stock)
      (start : List Paged) (frames : List Cargo) (shared back : ℕ → List Cargo) (h : SharerStands w start frames given shared back) where
    client_gives : (j : ℕ) (mac : Mac) → ClientStands w j mac frames h.earlier (shared j) (back j) → ClientStands w' j mac frames h.earlier (shared j ++ more j) (back j)
    client_gives j mac c = record {
      lends = append_assoc (shared j) (more j) (owed_to w' j) ∙ (ap (λ xs. shared j ++ xs) (owed j) ∙ (c.lends ∙ ap (λ n. leases_for n mac frames) (sym same.stock.size)));
      prompt = rw same.stock.size (begins_more (leases_for size mac h.earlier) (shared j) (more j) c.prompt);
      backs = rw (same.stock.size, same.stock.buffers) (λ b within. ap (λ t. named 0 size b (back j) + bit t) (outs b j) ∙ c.backs b within);
    }

    pub gives : SharerStands w' start frames given' (λ j. shared j ++ more j) back
    gives = record {
      earlier = h.earlier;
      latest = h.latest;
      split = h.split;
      few = h.few;
      within = all_same frames h.within;
      clients = λ j mac at. client_gives j mac (h.clients j mac (mac_was j mac at));
      later = h.later;
      gives = same_given base w'.stock.base size w'.stock.size start (given' ++ stock_list w'.stock) h.later same.stock.base same.stock.size (stocked ∙ h.gives);
      given_within = all_same (given' ++ stock_list w'.stock) (subst (λ xs. All (IsBuffer w.stock) xs) (sym stocked) h.given_within);
      counts = rw same.stock.buffers (λ b within. same_counts base w'.stock.base size w'.stock.size b (given' ++ stock_list w'.stock) frames (bit (nat_lt 0 (receivers_at w'.lent b))) same.stock.base same.stock.size (ap (λ n. named base size b (given' ++ stock_list w'.stock) + bit (nat_lt 0 n)) (lent b) ∙ (ap (λ xs. named base size b xs + bit (nat_lt 0 (receivers_at w.lent b))) stocked ∙ h.counts b within)));
    }

-- what the clients were given and gave back matters only at their places
pub as_lists : (w : Sharer) (start : List Paged) (frames given : List Cargo) (shared back shared' back' : ℕ → List Cargo) → ((k : ℕ) → k < length w.macs.items → shared k ≡ shared' k) → ((k : ℕ) → k < length w.macs.items → back k ≡ back' k) → SharerStands w start frames given shared back → SharerStands w start frames given shared' back'
as_lists w start frames given shared back shared' back' s b h = record {
  earlier = h.earlier;
  latest = h.latest;
  split = h.split;
  few = h.few;
  within = h.within;
  clients = λ k mac at.
      let there = slice_get_within w.macs.items k mac at in
      subst (λ xs. ClientStands w k mac frames h.earlier (shared' k) xs) (b k there) (subst (λ xs. ClientStands w k mac frames h.earlier xs (back k)) (s k there) (h.clients k mac at));
  later = h.later;
  gives = h.gives;
  given_within = h.given_within;
  counts = h.counts;
}
