-- Hostile clients that are so made: what their parts tell, and what their making asks.
use Rattle.std.proofs.Common.{◌≡◌, ◌+◌, ◌*◌, ◌<◌, ◌≤◌, ◌++◌, ◌||◌, ℕ, zero, suc, Bool, true, false, None, Some, inl, inr, subst, List, [], ◌∷◌, length, map, replicate, slice_get, get_or, unwrap_or, refl, sym, ap, ap₂, ◌∙◌, arith}
use Rattle.std.specs.List.{All, sum_by}
use Rattle.std.proofs.lemmas.Bool.{cases_lt}
use Rattle.sdf_check.specs.Valid.{Valid}
use Rattle.std.proofs.lemmas.List.{length-map}
use Rattle.std.proofs.lemmas.List.Sums.{sum_by-cons}
use Rattle.std.proofs.lemmas.List.Elements.{All-nil, All-cons}
use Rattle.cargo_core.specs.Pages.{Paged}
use Rattle.cargo_core.specs.declared.act.Act.{Act}
use Rattle.cargo_core.specs.declared.act.Act.TheVariants as Acts
use Rattle.cargo_core.specs.declared.item.QueueKind.{QueueKind}
use Rattle.wire_core.specs.declared.names.PoolRow.{PoolRow}
use Rattle.wire_core.specs.declared.names.QueueId.{QueueId}
use Rattle.sdf_plan.specs.declared.plan.Plan.{Plan}
use Rattle.trace_text.specs.declared.class.Class.{Class}
use Rattle.trace_text.specs.declared.class.Class.TheVariants as Of
use Rattle.trace_text.specs.declared.trace.Trace.{Trace}
use Rattle.trace_text.specs.Events.{net_clients, serial_clients, blk_clients, inputs_of, is_net_rogue, is_serial_rogue, is_blk_rogue}
use Rattle.trace_text.specs.Shapes.{IsActOn}
use Rattle.trace_text.specs.Traces.{IsReadFor, per_client}
use Rattle.trace_text.proofs.Limits.{limits_kept}
use Rattle.trace_text.proofs.Shapes.{shapes-read}
use Rattle.layout_laws.proofs.Lists.{all-at}
use Rattle.client_programs.specs.declared.rogue.Rogue.{Rogue}
use Rattle.client_programs.specs.Rogue.Acts.{Left}
use Rattle.client_programs.specs.Rogue.Clients.{AreApart, IsActOf, IsNewRogue, left_at_start, left_of}
use Rattle.buffer_kit.specs.Pools.{page_bodies}
use Rattle.actor_set.specs.Actors.{numbers, pages_at, part_of}
use Rattle.actor_set.specs.Parts.{HostilePart, PageAt, Part}
use Rattle.actor_set.specs.StartStates.{IsNew}
use Rattle.actor_set.specs.declared.actor.Actor.{Actor}
use Rattle.actor_set.specs.declared.actor.Actor.TheVariants as Kinds
use Rattle.layout_laws.specs.Jobs.Jobs.{Job, EthDevice, EthDriver, NetReceiver, NetSender, NetCopier, NetClient, UartDevice, UartDriver, SerialReceiver, SerialSender, SerialClient, DiskDevice, DiskDriver, BlkVirtualiser, BlkClient}
use Rattle.cast_core.specs.Casts.{AreCalmCast, AreCast, calm_part, job_part}
use Rattle.cast_core.specs.Sources.{pool_at}
use Rattle.cast_core.proofs.Joining.{net_few, serial_few, blk_few}
use Rattle.cast_core.specs.Making.{new_page}
use Rattle.cast_core.specs.Hostile.{HasActs, HasNoRogue, acts_at, pool_pages, rogue_with}

mapped : {A B : Type 0} (f : A → B) (n : ℕ) (value : ℕ → A) (told : ℕ → B) → ((k : ℕ) → f (value k) ≡ told k) → map f (per_client n value) ≡ per_client n told
mapped f zero value told same = refl
mapped f (suc n) value told same = ap₂ (λ x l. x ∷ l) (same 0) (mapped f n (λ c. value (suc c)) (λ c. told (suc c)) (λ k. same (suc k)))

zeros_long : (n : ℕ) → length (replicate {A = ℕ} n 0) ≡ n
zeros_long zero = refl
zeros_long (suc n) = ap suc (zeros_long n)

-- the pages of a pool, as a part tells them
abbrev a_page : (pool size k : ℕ) → PageAt
a_page pool size k = record { pool = pool; number = k; long = size }

pub pool_told : (rows : List PoolRow) (n size many : ℕ) (pages : List Paged) → pages ≡ per_client many (new_page size n) → many ≡ (pool_at rows n).buffers → size ≡ (pool_at rows n).size → pages_at pages ≡ pool_pages (pool_at rows n)
pool_told rows n size many pages are many_is size_is =
    let each : pages_at (per_client many (new_page size n)) ≡ per_client many (a_page n size) = mapped (λ (p : Paged). record { pool = p.pool.0; number = p.no; long = length p.bytes }) many (new_page size n) (a_page n size) (λ k. ap (λ l. a_page n l k) (zeros_long size)) in
    ap pages_at are ∙ (each ∙ ap₂ (λ m s. per_client m (a_page n s)) many_is size_is)

pub pools_told : (xs ys : List Paged) → pages_at (xs ++ ys) ≡ pages_at xs ++ pages_at ys
pools_told [] ys = refl
pools_told (x ∷ xs) ys = ap (λ l. record { pool = x.pool.0; number = x.no; long = length x.bytes } ∷ l) (pools_told xs ys)

-- a hostile client in its start state has this part
abbrev made : QueueKind → List QueueId → List QueueId → Left → List PageAt → Part
made kind inputs outputs start pages = HostilePart (record { kind = kind; inputs = numbers inputs; outputs = numbers outputs; start = start; pages = pages })

pub rogue_is : (kind : QueueKind) (inputs outputs : List QueueId) (pages : List Paged) (acts : List Act) (r : Rogue) → IsNewRogue kind inputs outputs pages acts r → (told : List PageAt) → pages_at pages ≡ told → part_of (Kinds.Rogue r) ≡ HostilePart (rogue_with kind (numbers inputs) (numbers outputs) told acts)
rogue_is kind inputs outputs pages acts r new told pages_told =
    let long : length pages ≡ length told = sym (length-map pages (λ (p : Paged). record { pool = p.pool.0; number = p.no; long = length p.bytes })) ∙ ap length pages_told in
    let start : left_at_start r ≡ record { acts = acts; looked = false; kept = length told } = new.start ∙ (new.left ∙ ap (λ n. record { acts = acts; looked = false; kept = n }) long) in
    ap (λ k. made k r.inputs.items r.outputs.items (left_at_start r) (pages_at r.start.value.items)) new.puts
    ∙ (ap (λ l. made kind l r.outputs.items (left_at_start r) (pages_at r.start.value.items)) new.from
    ∙ (ap (λ l. made kind inputs l (left_at_start r) (pages_at r.start.value.items)) new.to
    ∙ (ap (λ s. made kind inputs outputs s (pages_at r.start.value.items)) start
    ∙ ap (made kind inputs outputs (record { acts = acts; looked = false; kept = length told })) (ap pages_at new.had ∙ pages_told))))

-- it is in its start state
pub rogue_new : (kind : QueueKind) (inputs outputs : List QueueId) (pages : List Paged) (acts : List Act) (r : Rogue) → IsNewRogue kind inputs outputs pages acts r → IsNew (Kinds.Rogue r)
rogue_new kind inputs outputs pages acts r new = record {
  is = new.is;
  puts = refl;
  from = refl;
  to = refl;
  left = ap (λ n. record { acts = (left_of r).acts; looked = (left_of r).looked; kept = n }) (ap (λ (l : Left). l.kept) new.left ∙ ap length (sym new.had)) ∙ ap (λ b. record { acts = (left_of r).acts; looked = b; kept = length r.start.value.items }) (ap (λ (l : Left). l.looked) new.left);
  keeps = new.keeps ∙ ap page_bodies (sym new.had);
  had = refl;
  start = new.start;
}

-- acts at queues such as a client of a class has are acts of a client that has these
one_fits : (class : Class) (x : Act) → IsActOn class x → IsActOf (inputs_of class) (2 * inputs_of class) x
one_fits class (Acts.Take k) h = h
one_fits class (Acts.Put k a l) h = h
one_fits class (Acts.Give k p a l) h = h
one_fits class (Acts.Store k w v) h = h

pub acts_fit : (class : Class) (all : List (List Act)) (clients c : ℕ) (acts : List Act) → HasActs class all clients → slice_get all c ≡ Some acts → All (IsActOf (inputs_of class) (2 * inputs_of class)) acts
acts_fit class all clients c acts has at k d lt = one_fits class (get_or acts k d) (all-at (All (IsActOn class)) all has.on c acts at k d lt)

pub acts_few : (class : Class) (all : List (List Act)) (clients c : ℕ) (acts : List Act) → HasActs class all clients → slice_get all c ≡ Some acts → length acts ≤ 1024
acts_few class all clients c acts has at = all-at (λ (own : List Act). length own ≤ 1024) all has.few c acts at

pub acts_are : (all : List (List Act)) (c : ℕ) (acts : List Act) → slice_get all c ≡ Some acts → acts_at all c ≡ acts
acts_are all c acts at = ap (λ o. unwrap_or o []) at

-- one or two queues of its own
pub one_apart : (a : ℕ) → AreApart (a ∷ [])
one_apart a = (All-nil (λ m. a ≡ m → ⊥), tt)

pub two_apart : (a b : ℕ) → (a ≡ b → ⊥) → AreApart (a ∷ b ∷ [])
two_apart a b ne = (All-cons (λ m. a ≡ m → ⊥) b [] ne (All-nil (λ m. a ≡ m → ⊥)), one_apart b)

-- the acts of a trace that was read
each_few : (most : ℕ) (all : List (List Act)) → sum_by length all ≤ most → All (λ own. length own ≤ most) all
each_few most [] few = All-nil (λ (own : List Act). length own ≤ most)
each_few most (x ∷ xs) few =
    let parts = sum_by-cons (λ (own : List Act). length own) x xs in
    All-cons (λ (own : List Act). length own ≤ most) x xs (omega (arith, parts, few)) (each_few most xs (omega (arith, parts, few)))

module _ (plan : Plan) (trace : Trace) (read : IsReadFor plan trace) where
  pub net_acts : HasActs Of.Net trace.net_acts (length (net_clients plan))
  net_acts = let kept = limits_kept plan trace read in let few = kept.acts in record { count = kept.net_acts; few = each_few 1024 trace.net_acts (omega (arith, few)); on = (shapes-read plan trace read).net_acts }

  pub serial_acts : HasActs Of.Serial trace.serial_acts (length (serial_clients plan))
  serial_acts = let kept = limits_kept plan trace read in let few = kept.acts in record { count = kept.serial_acts; few = each_few 1024 trace.serial_acts (omega (arith, few)); on = (shapes-read plan trace read).serial_acts }

  pub blk_acts : HasActs Of.Blk trace.blk_acts (length (blk_clients plan))
  blk_acts = let kept = limits_kept plan trace read in let few = kept.acts in record { count = kept.blk_acts; few = each_few 1024 trace.blk_acts (omega (arith, few)); on = (shapes-read plan trace read).blk_acts }

-- a client that isn't there isn't hostile
none_past : {T : Type 0} (xs : List T) (k : ℕ) → length xs ≤ k → slice_get xs k ≡ None
none_past [] k h = refl
none_past (x ∷ xs) zero h = absurd (omega (arith, h))
none_past (x ∷ xs) (suc k) h = none_past xs k (omega (arith, h))

net_past : (plan : Plan) (c : ℕ) → length (net_clients plan) ≤ c → is_net_rogue plan c ≡ false
unfolding is_net_rogue
net_past plan c h = rw (none_past (net_clients plan) c h) refl

serial_past : (plan : Plan) (c : ℕ) → length (serial_clients plan) ≤ c → is_serial_rogue plan c ≡ false
unfolding is_serial_rogue
serial_past plan c h = rw (none_past (serial_clients plan) c h) refl

blk_past : (plan : Plan) (c : ℕ) → length (blk_clients plan) ≤ c → is_blk_rogue plan c ≡ false
unfolding is_blk_rogue
blk_past plan c h = rw (none_past (blk_clients plan) c h) refl

-- where none of those that are there is, none is
pub no_rogue : (plan : Plan) → ((c : ℕ) → c < length (net_clients plan) → is_net_rogue plan c ≡ false) → ((c : ℕ) → c < length (serial_clients plan) → is_serial_rogue plan c ≡ false)
    → ((c : ℕ) → c < length (blk_clients plan) → is_blk_rogue plan c ≡ false) → HasNoRogue plan
no_rogue plan net serial blk = record {
  net = λ c. elim (cases_lt c (length (net_clients plan))) [
    | inl lt ↦ net c lt
    | inr ge ↦ net_past plan c ge
  ];
  serial = λ c. elim (cases_lt c (length (serial_clients plan))) [
    | inl lt ↦ serial c lt
    | inr ge ↦ serial_past plan c ge
  ];
  blk = λ c. elim (cases_lt c (length (blk_clients plan))) [
    | inl lt ↦ blk c lt
    | inr ge ↦ blk_past plan c ge
  ];
}

-- the clients of one number, of all classes
pub record AreCalmAt (plan : Plan) (c : ℕ) : Type 0 where
  pub net : is_net_rogue plan c ≡ false
  pub serial : is_serial_rogue plan c ≡ false
  pub blk : is_blk_rogue plan c ≡ false

pub none_at : (plan : Plan) (c : ℕ) → (is_net_rogue plan c || is_serial_rogue plan c || is_blk_rogue plan c) ≡ false → AreCalmAt plan c
none_at plan c none = by (is_net_rogue plan c) (is_serial_rogue plan c) (is_blk_rogue plan c) refl refl refl none
  where
    by : (a b d : Bool) → is_net_rogue plan c ≡ a → is_serial_rogue plan c ≡ b → is_blk_rogue plan c ≡ d → (a || b || d) ≡ false → AreCalmAt plan c
    by true b d e f g h = absurd cc
    by false true d e f g h = absurd cc
    by false false true e f g h = absurd cc
    by false false false e f g h = record { net = e; serial = f; blk = g }

pub some_at : (plan : Plan) (c : ℕ) → (is_net_rogue plan c || is_serial_rogue plan c || is_blk_rogue plan c) ≡ true → HasNoRogue plan → ⊥
some_at plan c some none = let no : false ≡ true = subst (λ a. (a || false || false) ≡ true) (none.net c) (subst (λ b. (is_net_rogue plan c || b || false) ≡ true) (none.serial c) (subst (λ d. (is_net_rogue plan c || is_serial_rogue plan c || d) ≡ true) (none.blk c) some)) in cc

-- a valid plan has at most eight clients of a class
pub eight_calm : (plan : Plan) → Valid plan → (n : ℕ) → 8 ≤ n → ((c : ℕ) → c < n → AreCalmAt plan c) → HasNoRogue plan
eight_calm plan valid n most calm = no_rogue plan (λ c lt. let few = net_few plan valid in (calm c (omega (arith, few, lt, most))).net) (λ c lt. let few = serial_few plan valid in (calm c (omega (arith, few, lt, most))).serial) (λ c lt. let few = blk_few plan valid in (calm c (omega (arith, few, lt, most))).blk)

pub one_calm_more : (plan : Plan) (n : ℕ) → ((c : ℕ) → c < n → AreCalmAt plan c) → AreCalmAt plan n → (c : ℕ) → c < n + 1 → AreCalmAt plan c
one_calm_more plan n before here c lt = elim (cases_lt c n) [
  | inl less ↦ before c less
  | inr more ↦ subst (AreCalmAt plan) (omega (arith, more, lt)) here
]

-- no job of a plan without hostile clients makes a hostile actor
pub calm_jobs : (plan : Plan) (trace : Trace) (job : Job) → HasNoRogue plan → job_part plan trace job ≡ calm_part plan trace job
calm_jobs plan trace EthDevice none = refl
calm_jobs plan trace EthDriver none = refl
calm_jobs plan trace NetReceiver none = refl
calm_jobs plan trace NetSender none = refl
calm_jobs plan trace (NetCopier c) none = refl
calm_jobs plan trace (NetClient c) none = rw (none.net c) refl
calm_jobs plan trace UartDevice none = refl
calm_jobs plan trace UartDriver none = refl
calm_jobs plan trace SerialReceiver none = refl
calm_jobs plan trace SerialSender none = refl
calm_jobs plan trace (SerialClient c) none = rw (none.serial c) refl
calm_jobs plan trace DiskDevice none = refl
calm_jobs plan trace DiskDriver none = refl
calm_jobs plan trace BlkVirtualiser none = refl
calm_jobs plan trace (BlkClient c) none = rw (none.blk c) refl

pub calm_cast : (plan : Plan) (trace : Trace) (actors : List Actor) → HasNoRogue plan → AreCast plan trace actors → AreCalmCast plan trace actors
calm_cast plan trace actors none cast = record {
  count_is = cast.count_is;
  each = λ k x at. let one = cast.each k x at in record { job = one.job; has = one.has; new = one.new; part = sym (calm_jobs plan trace one.job none) ∙ one.part };
}
