-- The virtualiser at its start.
use Rattle.std.proofs.Common.{◌≡◌, ◌+◌, ◌<◌, ◌≤◌, ℕ, zero, suc, Option, Some, None, List, [], ◌∷◌, length, map, flat_map, ◌*◌, ◌^◌, slice_get, refl, sym, ap, ◌∙◌, subst, arith}
use Rattle.std.specs.Option.{option_to_list}
use Rattle.std.proofs.lemmas.List.{length-map}
use Rattle.cargo_core.specs.Pages.{Paged}
use Rattle.cargo_core.specs.Ranges.{AreRanges}
use Rattle.wire_core.specs.declared.names.QueueId.{QueueId}
use Rattle.wire_core.specs.Deeds.{Cargo}
use Rattle.wire_core.specs.Lists.{nothing_passed}
use Rattle.turn_kit.specs.Hands.{bodies_at}
use Rattle.blk_mbr.specs.declared.part.Part.{Part}
use Rattle.blk_virt.specs.declared.client.Client.{Client}
use Rattle.blk_virt.specs.declared.virtualiser.BlkEnds.{BlkEnds}
use Rattle.blk_virt.specs.declared.work.Work.{Work}
use Rattle.blk_virt.specs.Requests.{range_of}
use Rattle.blk_virt.specs.Clients.{IsClient, ClientStands, client_cargo}
use Rattle.blk_virt.specs.Openings.{OpeningStands, first_read, block_cargo}
use Rattle.blk_virt.specs.declared.opening.Block.{Block}
use Rattle.cargo_core.specs.Items.{kind_of}
use Rattle.buffer_kit.specs.Conserving.{Count, counted, weighed}
use Rattle.buffer_kit.proofs.ManyClients.{some_eq}
use Rattle.blk_virt.specs.Desks.{IsDesk, DeskStands, AreOf, desk_cargo, away_at, away_many}
use Rattle.blk_virt.specs.Works.{IsWork, WorkStands}
use Rattle.blk_virt.specs.Virtualising.{AreClients, VirtStands, new_client}
use Rattle.blk_virt.proofs.Working.{work_parts}

-- a client at the start is one of those given
of_those : (es : List BlkEnds) (k : ℕ) (c : Client) → slice_get (map new_client es) k ≡ Some c → (e : BlkEnds) × (slice_get es k ≡ Some e) × (new_client e ≡ c)
of_those [] k c at = cc
of_those (e ∷ es) zero c at = (e, refl, some_eq at)
of_those (e ∷ es) (suc k) c at = of_those es k c at

new_is : (e : BlkEnds) → 0 < e.buffers → e.partition < 4 → e.base + e.buffers * 32768 ≤ 2 ^ 62 → IsClient (new_client e)
new_is e some entry room = record {
  some = some;
  entry = entry;
  room = room;
  leaves = λ x is. absurd cc;
  alone = λ t. refl;
  answer = λ x is. absurd cc;
}

none_away : (es : List BlkEnds) → away_many (map new_client es) ≡ 0
none_away [] = refl
none_away (e ∷ es) = let h = none_away es in omega (arith, h)

none_at : (es : List BlkEnds) (k : ℕ) → 0 ≡ away_at (slice_get (map new_client es) k)
none_at [] k = refl
none_at (e ∷ es) zero = refl
none_at (e ∷ es) (suc k) = none_at es k

ranges_are : (es : List BlkEnds) → map range_of (map (λ (c : Client). c.holder) (map new_client es)) ≡ map (λ (e : BlkEnds). range_of (new_client e).holder) es
ranges_are [] = refl
ranges_are (e ∷ es) = ap (λ l. range_of (new_client e).holder ∷ l) (ranges_are es)

no_cargo : (c : Count) (es : List BlkEnds) → weighed c (flat_map client_cargo (map new_client es)) ≡ 0
no_cargo c [] = refl
no_cargo c (e ∷ es) = no_cargo c es

module _ (es : List BlkEnds) (are : AreClients es) (w : Work) (page : Paged) (clients : w.desk.clients.items ≡ map new_client es) (line : w.desk.line.shown ≡ []) (room : length es ≤ w.desk.line.room)
    (own : w.opening.own ≡ record { pool = page.pool; no = page.no }) (first : w.opening.first ≡ Some (first_read w.opening.base page)) (block : w.opening.block ≡ None) (number : w.number ≡ 0) (stray : w.stray ≡ None) where
  pub new_desk : IsDesk w.desk
  new_desk = record {
    each = λ k c at. let e = of_those es k c (ap (λ cs. slice_get cs k) (sym clients) ∙ at) in subst IsClient e.2 (new_is e.0 (are.some k e.0 e.1) (are.entry k e.0 e.1) (are.room k e.0 e.1));
    apart = subst AreRanges (sym (ap (λ cs. map range_of (map (λ (c : Client). c.holder) cs)) clients ∙ ranges_are es)) are.apart;
    line = λ k. rw (line, clients) (none_at es k);
    long = rw (line, clients) (sym (none_away es));
    room = let n = ap length clients ∙ length-map es new_client in omega (arith, n, room);
  }

  pub new_work : IsWork w
  new_work = record {
    desk = new_desk;
    told = λ b is. let no : None ≡ Some b = sym block ∙ is in absurd cc;
    first = λ x is. ap (λ (y : Cargo). kind_of y.0) (some_eq (sym is ∙ first));
  }

  client_fresh : (e : BlkEnds) (part : Option Part) → ClientStands (new_client e) part [] [] [] []
  client_fresh e part = record {
    earlier = [];
    pending = [];
    came_are = refl;
    is_pending = refl;
    sends = refl;
    answers = refl;
    whole = refl;
    buffers = tt;
    as_many = refl;
    bad_many = refl;
  }

  new_serves : (parts : ℕ → Option Part) → DeskStands w.desk parts (λ k. []) [] [] (λ k. [])
  new_serves parts = record {
    clients = λ k c at. let e = of_those es k c (ap (λ cs. slice_get cs k) (sym clients) ∙ at) in subst (λ (d : Client). ClientStands d (parts d.holder.partition) [] [] [] []) e.2 (client_fresh e.0 (parts (new_client e.0).holder.partition));
    answered = [];
    unanswered = [];
    sent_are = refl;
    as_many = refl;
    are_of = subst (λ l. AreOf w.desk.clients.items l []) (sym line) tt;
    within = λ k x at. cc;
  }

  new_stands : WorkStands w page [] (λ k. []) [] (λ k. [])
  new_stands = record {
    is_start = own;
    opens = subst (λ (b : Option Block). OpeningStands w.opening w.opening.first b page [] []) (sym block) (subst (λ (f : Option Cargo). OpeningStands w.opening f None page [] []) (sym first) (refl, refl, refl));
    serves = λ parts knows. new_serves parts;
    quiet = λ e k low. refl;
    numbered = λ j x at. cc;
    number = number;
  }

  nothing_at : (c : Count) (ns : List ℕ) → counted c (bodies_at (λ n. []) ns) ≡ 0
  nothing_at c [] = refl
  nothing_at c (n ∷ ns) = nothing_at c ns

  pub new_virt : length page.bytes ≡ 32768 → (i o : ℕ) (f t : List QueueId) → VirtStands i o f t w nothing_passed
  new_virt long i o f t = record {
    work = new_work;
    start = page;
    long = long;
    back = [];
    taken = ap option_to_list (sym stray);
    stands = new_stands;
    stray = λ y is. let no : None ≡ Some y = sym stray ∙ is in absurd cc;
    conserves = λ c.
        let came = nothing_at c (i ∷ map (λ q. q.0) f) in
        let went = nothing_at c (o ∷ map (λ q. q.0) t) in
        let hand = work_parts c w.opening.first w.opening.block (desk_cargo w.desk) w.stray in
        let a = ap (λ (x : Option Cargo). weighed c (option_to_list x)) first in
        let b = ap (λ (x : Option Block). weighed c (block_cargo x)) block in
        let d = ap (λ cs. weighed c (flat_map client_cargo cs)) clients ∙ no_cargo c es in
        let s = ap (λ (x : Option Cargo). weighed c (option_to_list x)) stray in
        omega (arith, came, went, hand, a, b, d, s);
  }
