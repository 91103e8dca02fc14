use Rattle.std.proofs.Common.{rules, ◌≡◌, vec_len, Bool, List, [], ◌∷◌, map, length, refl, sym, ap, ◌∙◌, subst}
use Rattle.std.proofs.lemmas.List.{length-map}
use Rattle.wire_core.specs.declared.names.QueueId.{QueueId}
use Rattle.class_expect.specs.SerialSwitch.Standing.{StandsAfter}
use Rattle.serial_virt.specs.Receiving.{new_outlet}
use Rattle.serial_virt.proofs.rx.SerialVirtRx.new.Goals as goal

outlets_of : (cs : List (QueueId × Bool)) → map (λ (c : QueueId × Bool). new_outlet c.0) cs ≡ map new_outlet (map (λ (c : QueueId × Bool). c.0) cs)
outlets_of [] = refl
outlets_of (c ∷ cs) = ap (λ os. new_outlet c.0 ∷ os) (outlets_of cs)

pub returns-clause-new : goal.returns-clause-new
returns-clause-new c = record {
  input = c.new.ensures.queue;
  input_state = c.new.ensures.state;
  outputs = c.in_ok-outlets.ensures ∙ (ap (map (λ (c' : QueueId × Bool). new_outlet c'.0)) c.deref.ensures.value ∙ outlets_of c.args.clients.items);
  policies = c.in_ok-policies.ensures ∙ ap (map (λ (c' : QueueId × Bool). c'.1)) c.deref-2.ensures.value;
  switched =
      let long : vec_len c.args.clients ≡ length c.args.clients.items = search rules in
      subst (λ n. StandsAfter n [] c.new-2.result) (c.len.ensures ∙ long ∙ sym (length-map c.args.clients.items (λ (c' : QueueId × Bool). c'.0))) c.new-2.ensures;
  load = refl;
  last = c.new-3.ensures;
}
