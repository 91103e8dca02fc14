-- Whatever the virtualiser stands for meets its row, and says what is in its hand.
use Rattle.std.proofs.Common.{◌≡◌, ◌+◌, ◌≤◌, ℕ, Option, Some, None, List, [], ◌∷◌, ◌++◌, length, drop, is_some, true, append_assoc, refl, sym, ap, ◌∙◌, subst, length-append, arith}
use Rattle.std.specs.List.{filter}
use Rattle.std.specs.Option.{option_to_list}
use Rattle.std.proofs.lemmas.List.{append-nil, map-append, length-map}
use Rattle.std.proofs.lemmas.Option.{slice_get_within}
use Rattle.cargo_core.specs.Lists.{IsPrefix}
use Rattle.cargo_core.specs.declared.item.Body.TheVariants as Carried
use Rattle.wire_core.specs.Deeds.{Cargo}
use Rattle.wire_core.specs.Lists.{Passed}
use Rattle.turn_kit.specs.Hands.{bodies_of, bodies_at}
use Rattle.buffer_kit.specs.Virtualising.{from_queues, to_queues, virt_came, virt_went}
use Rattle.buffer_kit.proofs.Conserving.{conserves_balances}
use Rattle.blk_mbr.specs.declared.part.Part.{Part}
use Rattle.blk_mbr.specs.Partitions.{part_of}
use Rattle.buffer_kit.proofs.ManyClients.{queue_is, all_option, few_option}
use Rattle.blk_virt.specs.declared.client.Client.{Client}
use Rattle.blk_virt.specs.declared.client.Current.{Current}
use Rattle.blk_virt.specs.declared.opening.Block.{Block}
use Rattle.blk_virt.specs.declared.requests.Holder.{Holder}
use Rattle.blk_virt.specs.declared.virtualiser.BlkVirt.{BlkVirt}
use Rattle.blk_virt.specs.declared.work.Work.{Work}
use Rattle.blk_virt.specs.Requests.{numbered, is_bad}
use Rattle.blk_virt.specs.Serving.{IsServed, AllBring, answers_to, own_of, own_back, unnumbered}
use Rattle.blk_virt.specs.Clients.{ClientStands, IsClient, IsPending, capped}
use Rattle.blk_virt.specs.Openings.{IsOutOfTurn, OpeningStands, KnowsParts, first_read, sector_of}
use Rattle.blk_virt.specs.Works.{work_cargo}
use Rattle.blk_virt.specs.Virtualising.{BlkVirtStandsFor, BlkVirtRow, BlkVirtBalances, queue_at}
use Rattle.blk_virt.proofs.Serving.{answers_front, bring_front}

pending_long : (h : Holder) (part : Option Part) (current : Option Current) (held : Option Cargo) (pending : List Cargo) → IsPending h part current pending → ((c : Current) → current ≡ Some c → held ≡ None) → length pending + length (option_to_list held) ≤ 1
pending_long h part None held pending is alone = let e = ap length is in let f = few_option held in omega (arith, e, f)
pending_long h part (Some c) held pending is alone = let e = ap length is.1 in let f = ap (λ (o : Option Cargo). length (option_to_list o)) (alone c refl) in omega (arith, e, f)

-- each client is served
served : (c : Client) → IsClient c → (part : Option Part) (came sent back gave : List Cargo) → ClientStands c part came (own_of c.holder sent) (own_back c.holder sent back) gave → IsServed c.holder part came sent back gave
served c work part came sent back gave h = record {
  sends = (unnumbered (option_to_list c.leaving), sym (map-append (numbered 0) (own_of c.holder sent) (option_to_list c.leaving)) ∙ h.sends);
  answers = (option_to_list c.held ++ answers_to c.holder part h.pending [], sym (append_assoc gave (option_to_list c.held) (answers_to c.holder part h.pending [])) ∙ (ap (λ (l : List Cargo). l ++ answers_to c.holder part h.pending []) h.answers ∙ (sym (answers_front c.holder part h.earlier (own_back c.holder sent back) h.pending h.whole) ∙ ap (λ l. answers_to c.holder part l (own_back c.holder sent back)) h.came_are)));
  buffers = subst (λ l. AllBring l gave) h.came_are (bring_front h.earlier gave (option_to_list c.held) h.pending h.buffers);
  one =
      let a = ap length (sym h.came_are) ∙ length-append h.earlier h.pending in
      let b = length-append gave (option_to_list c.held) in
      let p = pending_long c.holder part c.current c.held h.pending h.is_pending (λ x is. work.alone (some_is c.current x is)) in
      omega (arith, a, b, p, h.as_many);
}
  where
    some_is : (o : Option Current) (x : Current) → o ≡ Some x → is_some o ≡ true
    some_is None x e = cc
    some_is (Some y) x e = refl

-- what was sent begins with the first read
begins : (w : Work) (x : Option Cargo) (b : Option Block) (start : _) (sent back : List Cargo) → OpeningStands w.opening x b start sent back → IsPrefix sent (first_read w.opening.base start ∷ drop 1 sent)
begins w (Some x) None start sent back h = subst (λ l. IsPrefix l (first_read w.opening.base start ∷ drop 1 l)) (sym h.1) (first_read w.opening.base start ∷ [], refl)
begins w None None start sent back h = subst (λ l. IsPrefix l (first_read w.opening.base start ∷ drop 1 l)) (sym h.0) ([], refl)
begins w None (Some b) start sent back h = subst (λ l. IsPrefix l (first_read w.opening.base start ∷ drop 1 l)) (sym h.3) ([], append-nil (first_read w.opening.base start ∷ h.1))
begins w (Some x) (Some b) start sent back h = absurd h

-- some partitions are told by the first response, where it came
some_parts : (disk : ℕ) (back : List Cargo) → (parts : ℕ → Option Part) × KnowsParts disk back parts
some_parts disk [] = (λ n. None, tt)
some_parts disk (y ∷ back) = (λ n. part_of (sector_of y.1) disk n, λ n. refl)

pub row_of : (v : BlkVirt) (passed : Passed) → BlkVirtStandsFor v passed → BlkVirtRow v passed
row_of v passed h =
    let o = v.ends.output.queue.0 in
    let p = some_parts v.work.opening.disk_sectors h.back in
    let d = h.stands.serves p.0 p.1 in
    record {
      start = h.start;
      long = let l = h.long in omega (arith, l);
      own = h.stands.is_start;
      back = h.back;
      stray = option_to_list v.work.stray;
      taken = h.taken;
      few = few_option v.work.stray;
      out_of_turn = all_option (IsOutOfTurn (passed.sent o) h.back) v.work.stray h.stray;
      reads = begins v.work v.work.opening.first v.work.opening.block h.start (passed.sent o) h.back h.stands.opens;
      numbers = h.stands.numbered;
      within = d.within;
      serves = λ k c q r parts at atq atr knows.
          subst (λ n. IsServed c.holder (parts c.holder.partition) (passed.taken n) (drop 1 (passed.sent o)) (drop 1 h.back) (passed.sent r.0)) (queue_is (from_queues v.ends) k q atq)
          (subst (λ n. IsServed c.holder (parts c.holder.partition) (passed.taken (queue_at (from_queues v.ends) k)) (drop 1 (passed.sent o)) (drop 1 h.back) (passed.sent n)) (queue_is (to_queues v.ends) k r atr)
          (served c (h.work.desk.each k c at) (parts c.holder.partition) (passed.taken (queue_at (from_queues v.ends) k)) (drop 1 (passed.sent o)) (drop 1 h.back) (passed.sent (queue_at (to_queues v.ends) k)) ((h.stands.serves parts knows).clients k c at)));
      waits = λ none k c q at atq. ap passed.taken (sym (queue_is (from_queues v.ends) k q atq)) ∙ h.stands.quiet none k (let m = length-map v.work.desk.clients.items (λ (x : Client). x.holder) in let low = slice_get_within v.work.desk.clients.items k c at in omega (arith, m, low));
      counts = λ k c q at atq. (d.clients k c at).bad_many ∙ ap (λ n. capped (length (filter (is_bad c.holder) (passed.taken n)))) (queue_is (from_queues v.ends) k q atq);
    }

pub balance_of : (v : BlkVirt) (passed : Passed) → BlkVirtStandsFor v passed → BlkVirtBalances v passed
balance_of v passed h = record {
  start = h.start;
  own = h.stands.is_start;
  balances = conserves_balances (Carried.Page h.start ∷ []) (bodies_at passed.taken (virt_came v.ends)) (bodies_at passed.sent (virt_went v.ends)) (bodies_of (work_cargo v.work)) [] h.conserves;
}
