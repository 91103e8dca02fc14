-- What the virtualiser stands for at the start.
use Rattle.std.proofs.Common.{◌≡◌, ◌<◌, ◌^◌, ℕ, zero, suc, false, true, Option, Some, None, is_some, List, [], ◌∷◌, length, replicate, slice_get, refl, sym, ap, ◌∙◌, subst, arith}
use Rattle.std.specs.Option.{ForSome}
use Rattle.std.proofs.lemmas.List.{length-replicate}
use Rattle.std.proofs.lemmas.List.Elements.{All-nil}
use Rattle.wire_core.specs.declared.names.QueueId.{QueueId}
use Rattle.wire_core.specs.Deeds.{Cargo}
use Rattle.wire_core.specs.Lists.{nothing_passed}
use Rattle.buffer_kit.proofs.ManyClients.{some_eq}
use Rattle.i2c_virt.specs.declared.desk.Desk.{Desk}
use Rattle.i2c_virt.specs.declared.work.Stray.{Stray}
use Rattle.i2c_virt.specs.declared.work.Work.{Work}
use Rattle.i2c_virt.specs.Owners.{KnowsOwners}
use Rattle.i2c_virt.specs.Desks.{IsDesk, DeskStands, new_desk}
use Rattle.i2c_virt.specs.Works.{IsTook, IsSomeones, IsWork, WorkStands}
use Rattle.i2c_virt.specs.Virtualising.{VirtStands}

all_new : (n k : ℕ) (d : Desk) → slice_get (replicate n new_desk) k ≡ Some d → new_desk ≡ d
all_new zero k d at = cc
all_new (suc n) zero d at = some_eq at
all_new (suc n) (suc k) d at = all_new n k d at

new_fits : (k : ℕ) → IsDesk k new_desk
new_fits k = record {
  leaves = λ x is. let no : None ≡ Some x = is in cc;
  kind = λ x is. let no : None ≡ Some x = is in cc;
  alone = λ t. refl;
}

new_desk_stands : (k : ℕ) → DeskStands k new_desk [] [] [] []
new_desk_stands k = record { before = []; under_way = []; parts = refl; current = refl; went = refl; came_back = refl; given = tt; as_many = refl }

module _ (w : Work) (n : ℕ) (desks : w.desks.items ≡ replicate n new_desk) (owners : KnowsOwners w.owners.clients.items []) where
  is_new : (k : ℕ) (d : Desk) → slice_get w.desks.items k ≡ Some d → new_desk ≡ d
  is_new k d at = all_new n k d (ap (λ ds. slice_get ds k) (sym desks) ∙ at)

  pub new_work : n < 2 ^ 16 → IsWork w
  new_work few = record {
    owners = owners.size;
    few = let m = ap length desks ∙ length-replicate {A = Desk} n new_desk in omega (arith, m, few);
    desks = λ k d at. subst (IsDesk k) (is_new k d at) (new_fits k);
  }

  pub new_stands : n < 2 ^ 16 → (i o : ℕ) (f t : List QueueId) → w.stray ≡ None → VirtStands i o f t w nothing_passed
  new_stands few i o f t stray = record {
    work = new_work few;
    log = [];
    back = [];
    stands = record {
      knows = owners;
      took = All-nil (IsTook (length w.desks.items));
      someones = All-nil (IsSomeones (length w.desks.items));
      desks = λ k d at. subst (λ x. DeskStands k x [] [] [] []) (is_new k d at) (new_desk_stands k);
    };
    order = rw stray refl;
    requests = λ k lt. rw stray refl;
    responses = rw stray refl;
    out_of_turn = λ s is. let no : None ≡ Some s = sym stray ∙ is in cc;
    waiting = λ k d s is from at. let no : None ≡ Some s = sym stray ∙ is in cc;
  }
