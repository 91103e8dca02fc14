use Rattle.std.proofs.Common.{◌≡◌, ℕ, List, length, map, sym, ap, ◌∙◌, arith}
use Rattle.std.proofs.lemmas.List.{length-map}
use Rattle.cargo_core.specs.Bodies.{buffers_in}
use Rattle.frame_core.specs.declared.mac.Mac.{Mac}
use Rattle.class_expect.specs.NetExpect.Expecting.{is_for_client}
use Rattle.buffer_kit.specs.Entries.{frame_of}
use Rattle.net_virt_rx.proofs.Moving.{marks_for, none_at, none_work_at, not_lent_at, some_work, some_stands, some_free, held_some}
use Rattle.net_virt_rx.proofs.sharer.Sharer.take_in.Goals as goal

pub lend-requires-clause-free : goal.lend-requires-clause-free
lend-requires-clause-free c =
    let marks : c.address.new.self ≡ marks_for c.args.self.now c.args.entry = c.address.ensures ∙ (ap (λ (f : List ℕ). map (λ (mac : Mac). is_for_client mac f) c.deref.result.now) c.frame.ensures.frame ∙ ap (map (λ (mac : Mac). is_for_client mac (frame_of c.args.entry))) c.deref.ensures.value) in
    not_lent_at c.args.self.now c.requires.work c.requires.idle c.args.entry c.in-Page.page c.in-Page.is c.requires.back c.address.new.self marks

pub returns-then-receivers-eq0-clause-work : goal.returns-then-receivers-eq0-clause-work
returns-then-receivers-eq0-clause-work c =
    let marks : c.address.new.self ≡ marks_for c.args.self.now c.args.entry = c.address.ensures ∙ (ap (λ (f : List ℕ). map (λ (mac : Mac). is_for_client mac f) c.deref.result.now) c.frame.ensures.frame ∙ ap (map (λ (mac : Mac). is_for_client mac (frame_of c.args.entry))) c.deref.ensures.value) in
    let long : length c.address.new.self ≡ length c.args.self.now.macs.items = ap length marks ∙ length-map c.args.self.now.macs.items (λ (mac : Mac). is_for_client mac (frame_of c.args.entry)) in
    none_work_at c.args.self.now c.requires.work c.requires.idle c.args.entry c.in-Page.page c.in-Page.is c.requires.back c.address.new.self marks (sym c.count-receivers.ensures ∙ c.if-receivers-eq0.true) long c.restock.new.self c.restock.ensures

pub returns-then-receivers-eq0-clause-stands : goal.returns-then-receivers-eq0-clause-stands
returns-then-receivers-eq0-clause-stands c =
    let marks : c.address.new.self ≡ marks_for c.args.self.now c.args.entry = c.address.ensures ∙ (ap (λ (f : List ℕ). map (λ (mac : Mac). is_for_client mac f) c.deref.result.now) c.frame.ensures.frame ∙ ap (map (λ (mac : Mac). is_for_client mac (frame_of c.args.entry))) c.deref.ensures.value) in
    none_at c.args.self.now c.requires.work c.requires.idle c.args.entry c.in-Page.page c.in-Page.is c.requires.back c.address.new.self marks (sym c.count-receivers.ensures ∙ c.if-receivers-eq0.true) c.restock.new.self c.restock.ensures

pub returns-else-receivers-eq0-clause-work : goal.returns-else-receivers-eq0-clause-work
returns-else-receivers-eq0-clause-work c =
    let marks : c.address.new.self ≡ marks_for c.args.self.now c.args.entry = c.address.ensures ∙ (ap (λ (f : List ℕ). map (λ (mac : Mac). is_for_client mac f) c.deref.result.now) c.frame.ensures.frame ∙ ap (map (λ (mac : Mac). is_for_client mac (frame_of c.args.entry))) c.deref.ensures.value) in
    let long : length c.address.new.self ≡ length c.args.self.now.macs.items = ap length marks ∙ length-map c.args.self.now.macs.items (λ (mac : Mac). is_for_client mac (frame_of c.args.entry)) in
    some_work c.args.self.now c.requires.work c.requires.idle c.args.entry c.in-Page.page c.in-Page.is c.requires.back c.address.new.self marks c.count-receivers.result c.told_length-self.result c.told_length-self.ensures c.lend.new.self.lent c.lend.new.self c.lend.ensures.others c.lend.ensures.lent c.lend.ensures.out (omega arith) c.count-receivers.ensures long

pub returns-else-receivers-eq0-clause-stands : goal.returns-else-receivers-eq0-clause-stands
returns-else-receivers-eq0-clause-stands c =
    let marks : c.address.new.self ≡ marks_for c.args.self.now c.args.entry = c.address.ensures ∙ (ap (λ (f : List ℕ). map (λ (mac : Mac). is_for_client mac f) c.deref.result.now) c.frame.ensures.frame ∙ ap (map (λ (mac : Mac). is_for_client mac (frame_of c.args.entry))) c.deref.ensures.value) in
    some_stands c.args.self.now c.requires.work c.requires.idle c.args.entry c.in-Page.page c.in-Page.is c.requires.back c.address.new.self marks c.count-receivers.result c.told_length-self.result c.told_length-self.ensures c.lend.new.self.lent c.lend.new.self c.lend.ensures.others c.lend.ensures.lent c.lend.ensures.out (omega arith)

pub returns-else-receivers-eq0-clause-held : goal.returns-else-receivers-eq0-clause-held
returns-else-receivers-eq0-clause-held c pool =
    let marks : c.address.new.self ≡ marks_for c.args.self.now c.args.entry = c.address.ensures ∙ (ap (λ (f : List ℕ). map (λ (mac : Mac). is_for_client mac f) c.deref.result.now) c.frame.ensures.frame ∙ ap (map (λ (mac : Mac). is_for_client mac (frame_of c.args.entry))) c.deref.ensures.value) in
    let free = some_free c.args.self.now c.requires.work c.requires.idle c.args.entry c.in-Page.page c.in-Page.is c.requires.back c.address.new.self marks c.count-receivers.result c.told_length-self.result c.told_length-self.ensures c.lend.new.self.lent c.lend.new.self c.lend.ensures.others c.lend.ensures.lent c.lend.ensures.out (omega arith) in
    let held = held_some pool c.args.self.now c.address.new.self c.in-Page.page c.count-receivers.result c.told_length-self.result c.lend.new.self.lent c.lend.new.self c.lend.ensures.others c.lend.ensures.lent free in
    let body = ap (buffers_in pool) c.in-Page.is in
    omega (arith, held, body)
