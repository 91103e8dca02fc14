use Rattle.std.proofs.Common.{◌≡◌, ◌++◌, [], Option, Some, None, List, sym, subst, refl}
use Rattle.std.specs.Option.{option_to_list}
use Rattle.wire_core.specs.Deeds.{put_of, Cargo}
use Rattle.net_virt_tx.specs.declared.client.Client.{Client}
use Rattle.net_virt_tx.specs.Clients.{Moved, IsClient}
use Rattle.net_virt_tx.proofs.Moving.{gave_bad, stayed, load_went, load_stays, the_load}
use Rattle.net_virt_tx.proofs.client.Client.give_bad.Goals as goal

given_bad : (k : Client) → IsClient k → (x : Cargo) → k.bad ≡ Some x → (p new : Option Cargo) → option_to_list k.bad ≡ option_to_list p ++ option_to_list new → Moved k (record k { bad = new }) [] [] [] (option_to_list p)
given_bad k h x is p None e = subst (λ (l : List Cargo). Moved k (record k { bad = None }) [] [] [] l) (sym (load_went k.bad p None x e refl is)) (gave_bad k h x is)
given_bad k h x is p (Some y) e =
    let s = load_stays k.bad p (Some y) e refl in
    subst (λ (l : List Cargo). Moved k (record k { bad = Some y }) [] [] [] l) (sym s.1) (subst (λ (o : Option Cargo). Moved k (record k { bad = o }) [] [] [] []) (sym s.0) (stayed k h))

pub returns-clause-moved : goal.returns-clause-moved
returns-clause-moved g c =
    let x = the_load c.args.self.now.bad c.requires.some in
    given_bad c.args.self.now c.requires.work x.0 x.1 (put_of c.step_to_client.result c.args.self.now.bad) c.step_to_client.new.load c.step_to_client.ensures.load
