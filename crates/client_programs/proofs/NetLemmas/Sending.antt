use Rattle.std.proofs.Common.{◌≡◌, ◌+◌, ◌<◌, ◌≤◌, ◌&&◌, ◌++◌, ℕ, Bool, true, false, not, nat_lt, Option, Some, None, is_none, is_some, IsSome, List, [], ◌∷◌, length, map, reverse, slice_get, refl, sym, ap, ap₂, ◌∙◌, subst, append_assoc, arith}
use Rattle.std.specs.Option.{option_to_list}
use Rattle.std.proofs.lemmas.Bool.{ltb-true, ltb-false}
use Rattle.std.proofs.lemmas.List.{append-nil, length-append, length-map, length-reverse, map-append}
use Rattle.cargo_core.specs.Lists.{IsPrefix}
use Rattle.cargo_core.specs.Pages.{Paged}
use Rattle.wire_core.specs.Deeds.{Cargo}
use Rattle.std.specs.Option.{ForSome}
use Rattle.cargo_core.specs.declared.item.Item.{Item}
use Rattle.cargo_core.specs.declared.item.Item.TheVariants as ItemOf
use Rattle.cargo_core.specs.declared.item.QueueKind.TheVariants as QueueOf
use Rattle.cargo_core.specs.Items.{kind_of}
use Rattle.buffer_kit.specs.Entries.{filled, all_filled, with_len}
use Rattle.buffer_kit.specs.Pools.{given_entry}
use Rattle.buffer_kit.specs.Stocks.{stock_list, IsStock, SameStock}
use Rattle.buffer_kit.specs.declared.stock.Stock.{Stock}
use Rattle.buffer_kit.proofs.Filling.{no_entries, filled_more, filled_still, filled_length}
use Rattle.client_programs.specs.declared.net.program.NetProgram.{NetProgram}
use Rattle.client_programs.specs.declared.net.program.NetProgram.TheVariants as Kind
use Rattle.client_programs.specs.declared.net.program.ClientProgram.{ClientProgram}
use Rattle.client_programs.specs.declared.net.outbox.Outbox.{Outbox}
use Rattle.client_programs.specs.Net.Programs.{sent_for, program_with, frames_out, answer_to, is_echo}
use Rattle.client_programs.specs.Net.Sending.{IsNewOutbox, FitsOutbox, OutboxStandsFor, SendsFrames, needs_buffer, is_through}

-- the first entries are filled as they would be without the others
filled_front : (fs : List (List ℕ)) (xs ys : List Cargo) → IsPrefix (all_filled fs xs) (all_filled fs (xs ++ ys))
filled_front [] xs ys = ([], refl)
filled_front (f ∷ fs) [] ys = (all_filled (f ∷ fs) ys, refl)
filled_front (f ∷ fs) (x ∷ xs) ys = let r = filled_front fs xs ys in (r.0, ap (λ l. filled f x ∷ l) r.1)

both_true : (a b : Bool) → (a && b) ≡ true → (a ≡ true) × (b ≡ true)
both_true true b h = (refl, h)
both_true false b h = cc

none_is : (l : Option Cargo) → is_none l ≡ true → l ≡ None
none_is None h = refl
none_is (Some x) h = cc

not_false : (b : Bool) → not b ≡ true → b ≡ false
not_false false h = refl
not_false true h = cc

-- where nothing is in the stock's front, nothing is in it
pub stock_empty : (s : Stock) → IsStock s → s.next ≡ None → stock_list s ≡ []
stock_empty s is none = rw (none, is.ready none) refl

-- what a sending side stands for is what its row says
pub outbox_row : (o : Outbox) (fs : List (List ℕ)) (back put : List Cargo) (h : OutboxStandsFor o fs back put) → SendsFrames fs (map (given_entry o.stock.base o.stock.size) h.start) back put
outbox_row o fs back put h =
    let had = map (given_entry o.stock.base o.stock.size) h.start in
    let long : length had ≡ length h.start = length-map h.start (given_entry o.stock.base o.stock.size) in
    let front = filled_front fs h.used (stock_list o.stock) in
    record {
      filled = (
        option_to_list o.load ++ front.0,
        sym (append_assoc put (option_to_list o.load) front.0) ∙ (ap (λ l. l ++ front.0) h.filled ∙ (front.1 ∙ ap (all_filled fs) (sym h.had))),
      );
      needed = λ some. omega (arith, long, h.needed some);
      none_in_hand = λ some. omega (arith, long, h.none_in_hand some);
    }

-- as many were put and loaded as were filled
put_many : (o : Outbox) (fs : List (List ℕ)) (back put : List Cargo) → OutboxStandsFor o fs back put → length put + length (option_to_list o.load) ≡ o.next
put_many o fs back put h =
    let both = length-append put (option_to_list o.load) in
    let long = ap length h.filled ∙ filled_length fs h.used (omega (arith, h.many, h.few)) in
    omega (arith, both, long, h.many)

-- where all were put, as many were put as there are
pub through_put : (o : Outbox) (fs : List (List ℕ)) (back put : List Cargo) → OutboxStandsFor o fs back put → is_through o (length fs) ≡ true → length fs ≤ length put
through_put o fs back put h through =
    let b = both_true (is_none o.load) (not (nat_lt o.next (length fs))) through in
    let none = ap (λ (l : Option Cargo). length (option_to_list l)) (none_is o.load b.0) in
    let all = ltb-false o.next (length fs) (not_false (nat_lt o.next (length fs)) b.1) in
    omega (arith, put_many o fs back put h, none, all)

-- more frames are to be sent
pub frames_grow : (o : Outbox) (fs gs : List (List ℕ)) (back put : List Cargo) → OutboxStandsFor o fs back put → OutboxStandsFor o (fs ++ gs) back put
frames_grow o fs gs back put h =
    let long = length-append fs gs in
    record {
      start = h.start;
      is_start = h.is_start;
      used = h.used;
      had = h.had;
      filled = h.filled ∙ sym (filled_still fs gs h.used (omega (arith, h.many, h.few)));
      many = h.many;
      few = omega (arith, h.few, long);
      needed = λ some. omega (arith, h.needed some, long);
      none_in_hand = h.none_in_hand;
    }

more_by : (k : NetProgram) (p : ClientProgram) (came : List (List ℕ)) (f : List ℕ) → (gs : List (List ℕ)) × (sent_for (program_with k p.script) p.mac (came ++ f ∷ []) ≡ sent_for (program_with k p.script) p.mac came ++ gs)
more_by Kind.Sink p came f = ([], refl)
more_by Kind.Source p came f = ([], sym (append-nil p.script))
more_by Kind.Echo p came f = (answer_to p.mac f ∷ [], map-append (answer_to p.mac) came (f ∷ []))

-- a frame that comes adds to those that are sent, or not
pub frames_more : (p : ClientProgram) (came : List (List ℕ)) (f : List ℕ) → (gs : List (List ℕ)) × (frames_out p (came ++ f ∷ []) ≡ frames_out p came ++ gs)
frames_more p came f = more_by p.kind p came f

echo_by : (k : NetProgram) (p : ClientProgram) (came : List (List ℕ)) → is_echo k ≡ true → length (sent_for (program_with k p.script) p.mac came) ≡ length came
echo_by Kind.Sink p came h = cc
echo_by Kind.Source p came h = cc
echo_by Kind.Echo p came h = length-map came (answer_to p.mac)

-- an echo sends as many frames as came
pub echo_long : (p : ClientProgram) (came : List (List ℕ)) → is_echo p.kind ≡ true → length (frames_out p came) ≡ length came
echo_long p came h = echo_by p.kind p came h

-- a buffer was put
pub outbox_put : (o : Outbox) (l : Option Cargo) (fs : List (List ℕ)) (back put went : List Cargo) → option_to_list o.load ≡ went ++ option_to_list l → OutboxStandsFor o fs back put → OutboxStandsFor (record o { load = l }) fs back (put ++ went)
outbox_put o l fs back put went load h =
    let long = length-append put went in
    record {
      start = h.start;
      is_start = h.is_start;
      used = h.used;
      had = h.had;
      filled = append_assoc put went (option_to_list l) ∙ (ap (λ x. put ++ x) (sym load) ∙ h.filled);
      many = h.many;
      few = h.few;
      needed = h.needed;
      none_in_hand = λ some. omega (arith, h.none_in_hand some, long);
    }

-- a buffer came back, for a frame that is to be sent
pub outbox_back : (o : Outbox) (e : Cargo) (fs : List (List ℕ)) (back put : List Cargo) → needs_buffer o (length fs) ≡ true → IsStock o.stock → OutboxStandsFor o fs back put → OutboxStandsFor (record o { stock = record o.stock { next = Some e } }) fs (back ++ e ∷ []) put
outbox_back o e fs back put need is h =
    let b = both_true (is_none o.load) (is_none o.stock.next && nat_lt o.next (length fs)) need in
    let b' = both_true (is_none o.stock.next) (nat_lt o.next (length fs)) b.1 in
    let load = ap (λ (l : Option Cargo). length (option_to_list l)) (none_is o.load b.0) in
    let next = none_is o.stock.next b'.0 in
    let left = ltb-true o.next (length fs) b'.1 in
    let had = map (given_entry o.stock.base o.stock.size) h.start in
    let long : length had ≡ length h.start = length-map h.start (given_entry o.stock.base o.stock.size) in
    let all : had ++ back ≡ h.used = h.had ∙ (ap (λ l. h.used ++ l) (stock_empty o.stock is next) ∙ append-nil h.used) in
    let many = ap length all in
    let both = length-append had back in
    let more = length-append back (e ∷ []) in
    let sent = put_many o fs back put h in
    record {
      start = h.start;
      is_start = record { are_pool = h.is_start.are_pool; many = h.is_start.many };
      used = h.used;
      had = rw (is.ready next) (sym (append_assoc had back (e ∷ [])) ∙ ap (λ l. l ++ e ∷ []) all);
      filled = h.filled;
      many = h.many;
      few = h.few;
      needed = λ some. omega (arith, long, many, both, more, left, h.many);
      none_in_hand = λ some. omega (arith, long, many, both, more, load, sent, h.many);
    }

-- the next buffer was filled with the next frame
pub outbox_filled : (o : Outbox) (s : Stock) (e : Cargo) (x : Cargo) (f : List ℕ) (fs : List (List ℕ)) (back put : List Cargo) → o.load ≡ None → stock_list o.stock ≡ e ∷ stock_list s → SameStock o.stock s → slice_get fs o.next ≡ Some f → x ≡ filled f e → o.next < length fs → OutboxStandsFor o fs back put
    → OutboxStandsFor (record { stock = s; load = Some x; next = o.next + 1 }) fs back put
outbox_filled o s e x f fs back put load list same at is left h =
    let used = h.used ++ e ∷ [] in
    let long = length-append h.used (e ∷ []) in
    let had : map (given_entry o.stock.base o.stock.size) h.start ++ back ≡ used ++ stock_list s = h.had ∙ (ap (λ l. h.used ++ l) list ∙ sym (append_assoc h.used (e ∷ []) (stock_list s))) in
    let put_all : put ≡ all_filled fs h.used = sym (append-nil put) ∙ (ap (λ (l : Option Cargo). put ++ option_to_list l) (sym load) ∙ h.filled) in
    let filled_now : put ++ x ∷ [] ≡ all_filled fs used = ap (λ l. l ++ x ∷ []) put_all ∙ (ap (λ y. all_filled fs h.used ++ y ∷ []) is ∙ sym (filled_more fs h.used f e (ap (slice_get fs) h.many ∙ at))) in
    record {
      start = h.start;
      is_start = rw (same.base, same.size, same.same_pool) (record { are_pool = h.is_start.are_pool; many = h.is_start.many ∙ sym same.buffers });
      used = used;
      had = ap₂ (λ b z. map (given_entry b z) h.start ++ back) same.base same.size ∙ had;
      filled = filled_now;
      many = omega (arith, long, h.many);
      few = omega (arith, left);
      needed = h.needed;
      none_in_hand = h.none_in_hand;
    }

-- nothing was put yet
pub outbox_starts : (o : Outbox) (pages : List Paged) (fs : List (List ℕ)) → IsNewOutbox pages o → OutboxStandsFor o fs [] []
outbox_starts o pages fs new = record {
  start = pages;
  is_start = new.is_start;
  used = [];
  had = append-nil (map (given_entry o.stock.base o.stock.size) pages) ∙ (ap (λ b. map (given_entry b o.stock.size) pages) new.base ∙ sym new.stock);
  filled = ap (λ (l : Option Cargo). option_to_list l) new.load ∙ sym (no_entries fs);
  many = sym new.next;
  few = let next = new.next in omega (arith, next);
  needed = λ some. absurd (omega (arith, some));
  none_in_hand = λ some. absurd (omega (arith, some));
}

-- an entry came only where it was needed
pub needed_so : (got : Option Cargo) (need : Bool) → (IsSome got → need ≡ true) → (e : Cargo) → got ≡ Some e → need ≡ true
needed_so None need f e at = cc
needed_so (Some z) need f e at = f refl

-- the same, where some entry came
pub needed_some : (got : Option Cargo) (need : Bool) → (IsSome got → need ≡ true) → is_some got ≡ true → need ≡ true
needed_some None need f at = cc
needed_some (Some z) need f at = f refl

pub nothing_came : (got : Option Cargo) → is_some got ≡ false → option_to_list got ≡ []
nothing_came None h = refl
nothing_came (Some z) h = cc

-- nothing is there
pub nothing_in : (l : Option Cargo) (b : Bool) → is_some l ≡ not b → b ≡ true → l ≡ None
nothing_in None b h t = refl
nothing_in (Some x) b h t = let e : true ≡ false = h ∙ ap not t in cc

pub not_some : (l : Option Cargo) (b : Bool) → b ≡ is_some l → b ≡ false → l ≡ None
not_some None b h t = refl
not_some (Some x) b h t = let e : true ≡ false = sym h ∙ t in cc

-- the next buffer is the first of the stock
pub taken_list : (s : Stock) (n : Option Cargo) (e : Cargo) → s.next ≡ Some e → n ≡ None → stock_list s ≡ e ∷ stock_list (record s { next = n })
taken_list s n e next none = rw (next, none) refl

-- a change of its next buffer is the same stock
pub still_same : (s t : Stock) (n : Option Cargo) → SameStock (record s { next = n }) t → SameStock s t
still_same s t n same = record { same_pool = same.same_pool; buffers = same.buffers; base = same.base; size = same.size }

some_eq : {X : Type 0} {a b : X} → Some a ≡ Some b → a ≡ b
some_eq h = cc

kind_kept : (n : ℕ) (item : Item) → kind_of (with_len n item) ≡ kind_of item
kind_kept n (ItemOf.Net d) = refl
kind_kept n (ItemOf.Byte b) = refl
kind_kept n (ItemOf.Req r) = refl
kind_kept n (ItemOf.Resp r) = refl

-- a filled buffer of the network is one
pub fits_filled : (o : Outbox) (s : Stock) (e x : Cargo) (f : List ℕ) (fs : List (List ℕ)) → IsStock s → ForSome o.stock.next (λ c. kind_of c.0 ≡ QueueOf.Net) → o.stock.next ≡ Some e → x ≡ filled f e → o.next < length fs → FitsOutbox (record { stock = s; load = Some x; next = o.next + 1 }) fs
fits_filled o s e x f fs is kind next same left =
    let of : kind_of e.0 ≡ QueueOf.Net = kind e next in
    let now : kind_of x.0 ≡ QueueOf.Net = ap (λ (y : Cargo). kind_of y.0) same ∙ (kind_kept (length f) e.0 ∙ of) in
    record {
      stock = is;
      load = λ y at. subst (λ (z : Cargo). kind_of z.0 ≡ QueueOf.Net) (some_eq at) now;
      next = omega (arith, left);
    }

-- what went is the front of the stock
pub went_list : (s : Stock) (n : Option Cargo) (went : List Cargo) → option_to_list s.next ≡ went ++ option_to_list n → stock_list s ≡ went ++ stock_list (record s { next = n })
went_list s n went next = ap (λ l. l ++ map (given_entry s.base s.size) (reverse s.rest.items)) next ∙ append_assoc went (option_to_list n) (map (given_entry s.base s.size) (reverse s.rest.items))

-- a stock without its next buffer has no more than before once one is ready
pub rest_less : (s t : Stock) → s.next ≡ None → stock_list t ≡ stock_list s → length t.rest.items ≤ length s.rest.items
rest_less s t none list =
    let old = length-append (option_to_list s.next) (map (given_entry s.base s.size) (reverse s.rest.items)) in
    let new = length-append (option_to_list t.next) (map (given_entry t.base t.size) (reverse t.rest.items)) in
    let empty = ap (λ (l : Option Cargo). length (option_to_list l)) none in
    let all = ap length list in
    omega (arith, old, new, empty, all, length-map (reverse s.rest.items) (given_entry s.base s.size), length-map (reverse t.rest.items) (given_entry t.base t.size), length-reverse s.rest.items, length-reverse t.rest.items)
