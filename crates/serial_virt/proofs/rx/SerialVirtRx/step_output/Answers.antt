use Rattle.std.proofs.Common.{◌≡◌, ◌&&◌, Bool, true, false, None, is_some, refl, sym, ap, ◌∙◌, subst, arith}
use Rattle.std.specs.Option.{option_map}
use Rattle.std.proofs.lemmas.Bool.{ne_eqb}
use Rattle.wire_core.specs.Deeds.{put_of}
use Rattle.wire_core.specs.Marks.{is_vain_look}
use Rattle.turn_kit.specs.Turns.{PostedAt}
use Rattle.turn_kit.specs.ManyEnds.{outlet_posts}
use Rattle.turn_kit.specs.Dropping.{with_drops}
use Rattle.serial_virt.specs.Receiving.{client_posts, policy_of}
use Rattle.wire_core.proofs.Readings.{at_here, both_true}
use Rattle.serial_virt.proofs.Sharing.{byte_dropped, byte_stays, byte_out, no_put}
use Rattle.serial_virt.proofs.Loads.{loaded, vain_puts, item_none, index_at, read_at, drops_of, drop_marks, put_none, nothing_put, nothing_told}
use Rattle.serial_virt.proofs.rx.SerialVirtRx.step_output.Goals as goal

pub returns-then-dropped-clause-posted : goal.returns-then-dropped-clause-posted
returns-then-dropped-clause-posted g c =
    let me = c.args.self.now in
    let s = c.put_or_drop_at-dropped in
    let flag = read_at me.drops.items c.args.k c.index-drops.result.now (omega (arith, c.requires.fits.policies, c.requires.there)) c.index-drops.ensures in
    let is = ap (λ b. b && is_some me.load) (at_here c.args.k me.to c.if-k-self.true) in
    subst (λ n. PostedAt (client_posts me) c.args.k n s.new.event (with_drops me.drops.items (outlet_posts s.new.ends))) (sym is) (s.ensures.posted me.drops.items flag)

pub returns-else-dropped-clause-posted : goal.returns-else-dropped-clause-posted
returns-else-dropped-clause-posted g c =
    let me = c.args.self.now in
    let s = c.put_or_drop_at-dropped in
    let flag = read_at me.drops.items c.args.k c.index-drops.result.now (omega (arith, c.requires.fits.policies, c.requires.there)) c.index-drops.ensures in
    let is = ap (λ b. b && is_some me.load) (at_here c.args.k me.to c.if-k-self.true) in
    subst (λ n. PostedAt (client_posts me) c.args.k n s.new.event (with_drops me.drops.items (outlet_posts s.new.ends))) (sym is) (s.ensures.posted me.drops.items flag)

pub returns-else-k-self-clause-posted : goal.returns-else-k-self-clause-posted
returns-else-k-self-clause-posted g c =
    let me = c.args.self.now in
    let s = c.put_or_drop_at in
    let flag = read_at me.drops.items c.args.k c.index-drops.result.now (omega (arith, c.requires.fits.policies, c.requires.there)) c.index-drops.ensures in
    let is = ap (λ b. b && is_some me.load) (ne_eqb c.args.k me.to c.if-k-self.false) in
    subst (λ n. PostedAt (client_posts me) c.args.k n s.new.event (with_drops me.drops.items (outlet_posts s.new.ends))) (sym is) (s.ensures.posted me.drops.items flag)

pub returns-then-dropped-clause-still : goal.returns-then-dropped-clause-still
returns-then-dropped-clause-still g c = λ p there calm.
    let me = c.args.self.now in
    let s = c.put_or_drop_at-dropped in
    let flag = read_at me.drops.items c.args.k c.index-drops.result.now (omega (arith, c.requires.fits.policies, c.requires.there)) c.index-drops.ensures in
    absurd (drop_marks p s.new.event c.index-drops.result.now (drops_of me.drops.items (outlet_posts me.outputs) c.args.k c.index-drops.result.now p flag there) (sym s.ensures.dropped ∙ c.if-dropped.true) calm)

pub returns-then-dropped-clause-stepped : goal.returns-then-dropped-clause-stepped
returns-then-dropped-clause-stepped g c =
    let me = c.args.self.now in
    let s = c.put_or_drop_at-dropped in
    let flag = read_at me.drops.items c.args.k c.index-drops.result.now (omega (arith, c.requires.fits.policies, c.requires.there)) c.index-drops.ensures in
    let vain = sym s.ensures.dropped ∙ c.if-dropped.true in
    let vain' : (policy_of me c.args.k && is_vain_look s.new.event.op s.new.event.answer) ≡ true = ap (λ d. d && is_vain_look s.new.event.op s.new.event.answer) (index_at me.drops.items c.args.k c.index-drops.result.now flag) ∙ vain in
    let not = vain_puts s.new.event.op s.new.event.answer (both_true c.index-drops.result.now (is_vain_look s.new.event.op s.new.event.answer) vain).1 in
    let put = put_none s.new.event me.load s.new.load s.ensures.load (item_none s.new.event.op s.new.event.item s.ensures.put not) in
    let l = loaded me.load (s.ensures.drop_loaded c.if-dropped.true) in
    record {
      body = option_map (λ x. x.1) (put_of s.new.event me.load);
      happened = s.ensures.did;
      kept = λ passed h. byte_dropped me _ passed _ _ s.new.event c.args.k s.new.event.queue (put_of s.new.event me.load) s.ensures.queues refl refl refl refl s.ensures.on refl s.ensures.role c.requires.fits.outputs.apart s.ensures.takes s.ensures.puts h l.0 None l.1 refl c.if-k-self.true put.0 vain' not refl;
    }

pub returns-else-dropped-clause-stepped : goal.returns-else-dropped-clause-stepped
returns-else-dropped-clause-stepped g c =
    let me = c.args.self.now in
    let s = c.put_or_drop_at-dropped in
    let flag = read_at me.drops.items c.args.k c.index-drops.result.now (omega (arith, c.requires.fits.policies, c.requires.there)) c.index-drops.ensures in
    let vain : (policy_of me c.args.k && is_vain_look s.new.event.op s.new.event.answer) ≡ false = ap (λ d. d && is_vain_look s.new.event.op s.new.event.answer) (index_at me.drops.items c.args.k c.index-drops.result.now flag) ∙ (sym s.ensures.dropped ∙ c.if-dropped.false) in
    record {
      body = option_map (λ x. x.1) (put_of s.new.event me.load);
      happened = s.ensures.did;
      kept = λ passed h. byte_out me _ passed _ _ s.new.event c.args.k s.new.event.queue s.ensures.queues refl refl refl refl s.ensures.on refl s.ensures.role c.requires.fits.outputs.apart s.ensures.takes s.ensures.puts h c.if-k-self.true s.ensures.put s.ensures.item s.ensures.load vain;
    }

-- nothing is loaded for another client, so nothing is put there, nor dropped
not_dropped : (d : Bool) → (d ≡ true → is_some {T = Rattle.wire_core.specs.Deeds.Cargo} None ≡ true) → d ≡ false
not_dropped false h = refl
not_dropped true h = let bad : is_some {T = Rattle.wire_core.specs.Deeds.Cargo} None ≡ true = h refl in cc

pub returns-else-k-self-clause-stepped : goal.returns-else-k-self-clause-stepped
returns-else-k-self-clause-stepped g c =
    let me = c.args.self.now in
    let s = c.put_or_drop_at in
    let flag = read_at me.drops.items c.args.k c.index-drops.result.now (omega (arith, c.requires.fits.policies, c.requires.there)) c.index-drops.ensures in
    let lost = not_dropped s.result s.ensures.drop_loaded in
    let vain : (policy_of me c.args.k && is_vain_look s.new.event.op s.new.event.answer) ≡ false = ap (λ d. d && is_vain_look s.new.event.op s.new.event.answer) (index_at me.drops.items c.args.k c.index-drops.result.now flag) ∙ (sym s.ensures.dropped ∙ lost) in
    record {
      body = option_map (λ x. x.1) (put_of s.new.event None);
      happened = s.ensures.did;
      kept = λ passed h. byte_stays me _ passed _ _ s.new.event c.args.k s.new.event.queue (put_of s.new.event None) s.ensures.queues refl refl refl refl s.ensures.on refl s.ensures.role c.requires.fits.outputs.apart s.ensures.takes s.ensures.puts h (nothing_put s.new.event) (no_put s.new.event.op s.new.event.item s.ensures.put (ap is_some s.ensures.item ∙ nothing_told s.new.event)) vain refl;
    }
