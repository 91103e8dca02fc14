-- The queues between a hostile client of the block class and its virtualiser are closed.
use Rattle.std.proofs.Common.{◌≡◌, ◌≤◌, ◌+◌, ◌++◌, ◌==◌, ℕ, Bool, true, false, if◌then◌else◌, Option, Some, None, List, [], ◌∷◌, length, refl, sym, ap, ◌∙◌, subst, arith}
use Rattle.std.specs.Option.{option_to_list}
use Rattle.std.proofs.lemmas.Bool.{and_parts, eqb-true}
use Rattle.cargo_core.specs.declared.item.Body.TheVariants as Carried
use Rattle.cargo_core.specs.declared.item.Code.{Code}
use Rattle.cargo_core.specs.declared.item.Code.TheVariants as Asked
use Rattle.cargo_core.specs.declared.item.PoolId.{PoolId}
use Rattle.wire_core.specs.declared.names.QueueId.{QueueId}
use Rattle.wire_core.specs.Deeds.{Cargo}
use Rattle.wire_core.specs.Lists.{Passed}
use Rattle.turn_kit.specs.Hands.{bodies_at}
use Rattle.buffer_kit.specs.Conserving.{Count, counted, weight, weighed}
use Rattle.buffer_kit.specs.Pools.{page_bodies}
use Rattle.buffer_kit.specs.Virtualising.{from_queues, to_queues}
use Rattle.buffer_kit.proofs.Conserving.{counted-at, weighed-append}
use Rattle.buffer_kit.proofs.ManyClients.{queue_is}
use Rattle.class_expect.specs.BlkExpect.Judging.{status_of}
use Rattle.blk_mbr.specs.Partitions.{part_of}
use Rattle.blk_mbr.specs.declared.part.Part.{Part}
use Rattle.blk_virt.specs.Clients.{ClientStands}
use Rattle.blk_virt.specs.Openings.{KnowsParts, sector_of}
use Rattle.blk_virt.specs.Requests.{brings, goes_on, is_ok, is_own, moves_blocks, page_named, passed_on, refusal, request_of}
use Rattle.blk_virt.specs.Serving.{AllBring, answers_to}
use Rattle.blk_virt.specs.Virtualising.{queue_at}
use Rattle.blk_virt.specs.declared.client.Client.{Client}
use Rattle.blk_virt.specs.declared.requests.Holder.{Holder}
use Rattle.blk_virt.specs.declared.virtualiser.BlkVirt.{BlkVirt}
use Rattle.client_programs.specs.declared.rogue.Rogue.{Rogue}
use Rattle.client_programs.specs.Rogue.Clients.{numbers}
use Rattle.wired_law.specs.PageLaw.WildPages.Rounds.{AllMove, IsAnswered, IsClosed, Spares, blk_queues}

-- a read or a write that goes well has a buffer of the client's own
own_on : (own : Bool) (part : Option Part) (code : Code) (block count : ℕ) → moves_blocks code ≡ true → is_ok (status_of own part code block count) ≡ true → own ≡ true
own_on true part code block count moves ok = refl
own_on false None code block count moves ok = absurd cc
own_on false (Some part) Asked.Read block count moves ok = absurd cc
own_on false (Some part) Asked.Write block count moves ok = absurd cc
own_on false (Some part) Asked.Flush block count moves ok = absurd cc
own_on false (Some part) Asked.Barrier block count moves ok = absurd cc

-- what brings that buffer isn't counted
brought : (f : Count) (h : Holder) → Spares f h.pool → (x y : Cargo) → is_own h x ≡ true → brings (page_named x.1) y.1 ≡ true → weight f y.1 ≡ 0
brought f h spared (item, Carried.Page page) (reply, Carried.Page back) own b =
    let first : page.pool.0 ≡ h.pool.0 = eqb-true page.pool.0 h.pool.0 (and_parts _ _ own).0 in
    let second : back.pool.0 ≡ page.pool.0 = eqb-true back.pool.0 page.pool.0 (and_parts _ _ b).0 in
    let same : back.pool ≡ h.pool = ap (λ (n : ℕ). record { 0 = n }) (second ∙ first) in
    ap (λ (p : PoolId). f p back.no (length back.bytes)) same ∙ spared back.no (length back.bytes)
brought f h spared (item, Carried.Page page) (reply, Carried.Lease lease) own b = refl
brought f h spared (item, Carried.Page page) (reply, Carried.Empty) own b = refl
brought f h spared (item, Carried.Lease lease) y own b = absurd cc
brought f h spared (item, Carried.Empty) y own b = absurd cc

-- so the answers to requests weigh no more than these
answers_light : (f : Count) (h : Holder) (part : Option Part) → Spares f h.pool → (xs back : List Cargo) → AllMove xs → AllBring xs (answers_to h part xs back) → weighed f (answers_to h part xs back) ≤ weighed f xs
answers_light f h part spared [] back moves b = omega arith
answers_light f h part spared (x ∷ xs) [] moves b = by (goes_on h part x) (answers_light f h part spared xs [] moves.1) b
  where
    by : (t : Bool) → (AllBring xs (answers_to h part xs []) → weighed f (answers_to h part xs []) ≤ weighed f xs) → AllBring (x ∷ xs) (if t then [] else (refusal h part x ∷ answers_to h part xs [])) → weighed f (if t then [] else (refusal h part x ∷ answers_to h part xs [])) ≤ weighed f (x ∷ xs)
    by true rest b = omega arith
    by false rest b = omega (arith, rest b.1)
answers_light f h part spared (x ∷ xs) (y ∷ back) moves b = by (goes_on h part x) refl (answers_light f h part spared xs back moves.1) (answers_light f h part spared xs (y ∷ back) moves.1) b
  where
    by : (t : Bool) → goes_on h part x ≡ t → (AllBring xs (answers_to h part xs back) → weighed f (answers_to h part xs back) ≤ weighed f xs) → (AllBring xs (answers_to h part xs (y ∷ back)) → weighed f (answers_to h part xs (y ∷ back)) ≤ weighed f xs) → AllBring (x ∷ xs) (if t then (passed_on (request_of x.0).id y ∷ answers_to h part xs back) else (refusal h part x ∷ answers_to h part xs (y ∷ back))) → weighed f (if t then (passed_on (request_of x.0).id y ∷ answers_to h part xs back) else (refusal h part x ∷ answers_to h part xs (y ∷ back))) ≤ weighed f (x ∷ xs)
    by true on one two b =
        let own = own_on (is_own h x) part (request_of x.0).code (request_of x.0).block (request_of x.0).count moves.0 on in
        let none : weight f y.1 ≡ 0 = brought f h spared x y own b.0 in
        omega (arith, none, one b.1)
    by false on one two b = omega (arith, two b.1)

first_move : (xs ys : List Cargo) → AllMove (xs ++ ys) → AllMove xs
first_move [] ys h = tt
first_move (x ∷ xs) ys h = (h.0, first_move xs ys h.1)

-- of one client: what went back to it weighs no more than what came
gave_light : (f : Count) (c : Client) (part : Option Part) (came sent back gave : List Cargo) → Spares f c.holder.pool → AllMove came → ClientStands c part came sent back gave → weighed f gave ≤ weighed f came
gave_light f c part came sent back gave spared moves h =
    let early : AllMove h.earlier = first_move h.earlier h.pending (subst AllMove (sym h.came_are) moves) in
    let light = answers_light f c.holder part spared h.earlier back early (subst (AllBring h.earlier) h.answers h.buffers) in
    let all : weighed f (answers_to c.holder part h.earlier back) ≡ weighed f gave + weighed f (option_to_list c.held) = ap (weighed f) (sym h.answers) ∙ weighed-append f gave (option_to_list c.held) in
    let whole : weighed f came ≡ weighed f h.earlier + weighed f h.pending = ap (weighed f) (sym h.came_are) ∙ weighed-append f h.earlier h.pending in
    omega (arith, light, all, whole)

-- some partitions are told by the first response, where it came
some_parts : (disk : ℕ) (back : List Cargo) → (parts : ℕ → Option Part) × KnowsParts disk back parts
some_parts disk [] = (λ n. None, tt)
some_parts disk (y ∷ back) = (λ n. part_of (sector_of y.1) disk n, λ n. refl)

one : (f : Count) (lists : ℕ → List Cargo) (a : ℕ) → counted f (bodies_at lists (a ∷ [])) ≡ weighed f (lists a)
one f lists a = omega (arith, counted-at f lists a [])

two : (f : Count) (lists : ℕ → List Cargo) (a b : ℕ) → counted f (bodies_at lists (a ∷ b ∷ [])) ≡ weighed f (lists a) + weighed f (lists b)
two f lists a b = omega (arith, counted-at f lists a (b ∷ []), one f lists b)

pub asked_closed : (f : Count) (r : Rogue) (v : BlkVirt) (k : ℕ) (c : Client) (asks answers : QueueId) (passed : Passed) → IsAnswered r v k c asks answers passed → counted f (page_bodies r.start.value.items) ≡ 0 → Spares f c.holder.pool → IsClosed f (blk_queues asks answers) passed
asked_closed f r v k c asks answers passed h start spared =
    let p = some_parts v.work.opening.disk_sectors h.virt.back in
    let from : queue_at (from_queues v.ends) k ≡ asks.0 = queue_is (from_queues v.ends) k asks h.from_it in
    let to : queue_at (to_queues v.ends) k ≡ answers.0 = queue_is (to_queues v.ends) k answers h.to_it in
    let moves : AllMove (passed.taken (queue_at (from_queues v.ends) k)) = subst (λ n. AllMove (passed.taken n)) (sym from) h.moves in
    let light : weighed f (passed.sent (queue_at (to_queues v.ends) k)) ≤ weighed f (passed.taken (queue_at (from_queues v.ends) k)) = gave_light f c (p.0 c.holder.partition) (passed.taken (queue_at (from_queues v.ends) k)) _ _ (passed.sent (queue_at (to_queues v.ends) k)) spared moves ((h.virt.stands.serves p.0 p.1).clients k c h.there) in
    let gave : weighed f (passed.sent (queue_at (to_queues v.ends) k)) ≡ weighed f (passed.sent answers.0) = ap (λ n. weighed f (passed.sent n)) to in
    let came : weighed f (passed.taken (queue_at (from_queues v.ends) k)) ≡ weighed f (passed.taken asks.0) = ap (λ n. weighed f (passed.taken n)) from in
    let took : counted f (bodies_at passed.taken (numbers r.inputs.items)) ≡ weighed f (passed.taken answers.0) = ap (λ ns. counted f (bodies_at passed.taken ns)) h.inputs ∙ one f passed.taken answers.0 in
    let put : counted f (bodies_at passed.sent (numbers r.outputs.items)) ≡ weighed f (passed.sent asks.0) = ap (λ ns. counted f (bodies_at passed.sent ns)) h.outputs ∙ one f passed.sent asks.0 in
    omega (arith, two f passed.sent answers.0 asks.0, two f passed.taken answers.0 asks.0, light, gave, came, took, put, h.client f, start)
