use Rattle.std.proofs.Common.{◌≡◌, ℕ, false, true, Option, List, [], ◌∷◌, All, ◌+◌, refl, sym, subst, arith}
use Rattle.std.proofs.lemmas.List.Elements.{All-cons, All-head, All-tail}
use Rattle.cargo_core.specs.declared.item.Ask.{Ask}
use Rattle.cargo_core.specs.declared.item.Item.TheVariants as ItemOf
use Rattle.cargo_core.specs.declared.item.QueueKind.TheVariants as Kind
use Rattle.cargo_core.specs.Items.{kind_of}
use Rattle.cargo_core.specs.Lists.{IsPrefix}
use Rattle.wire_core.specs.Deeds.{Cargo}
use Rattle.blk_mbr.specs.declared.part.Part.{Part}
use Rattle.class_expect.specs.BlkExpect.Replies.{has_partition, partition_bytes, partition_in}
use Rattle.client_programs.specs.Blk.Asking.{asked_from}
use Rattle.blk_virt.specs.declared.requests.Holder.{Holder}
use Rattle.blk_virt.specs.Requests.{is_bad}
use Rattle.blk_virt.specs.Serving.{answers_to as virt_answers, own_back}
use Rattle.device_model.specs.Disk.Serving.{answers_to}
use Rattle.blk_law.specs.Replying.{AreAsked, AreSized, IsAsked, client_answers}
use Rattle.blk_law.specs.Records.Served.{IsHonest, RecordsAtAnyMoment}
use Rattle.blk_law.proofs.Scripts.{asked, asked_begins, both, records}
use Rattle.blk_law.proofs.RecordsLemmas.Tying.{answers_begin, own_back_begins, own_back_is, served_as}

is_request : (id : ℕ) (a : Ask) (y : Cargo) → IsAsked id a y → kind_of y.0 ≡ Kind.Req
is_request id a (ItemOf.Req q, body) f = refl
is_request id a (ItemOf.Net d, body) f = absurd f
is_request id a (ItemOf.Byte b, body) f = absurd f
is_request id a (ItemOf.Resp r, body) f = absurd f

-- what a client's script asks in its own buffers is honest
all_honest : (h : Holder) (asks : List Ask) (id : ℕ) (ys : List Cargo) → AreAsked id asks ys → All (λ (x : Cargo). is_bad h x ≡ false) ys → All (IsHonest h) ys
all_honest h asks id [] f good = λ k d there. absurd (omega (arith, there))
all_honest h [] id (y ∷ ys) f good = absurd f
all_honest h (a ∷ asks) id (y ∷ ys) f good = All-cons (IsHonest h) y ys (record { kind = is_request id a y f.0; good = All-head (λ (x : Cargo). is_bad h x ≡ false) y ys good }) (all_honest h asks (id + 1) ys f.1 (All-tail (λ (x : Cargo). is_bad h x ≡ false) y ys good))

pub records_now : (image : List ℕ) (entry : ℕ) (asks : List Ask) (h : Holder) → has_partition (partition_in image entry) image ≡ true → AreSized asks → RecordsAtAnyMoment image entry asks h
records_now image entry asks h has sized pages put taken sent back gave came room script took good kinds leaves served answered got =
    let part : Option Part = partition_in image entry in
    let bytes : List ℕ = partition_bytes part image in
    let begun : IsPrefix taken (asked_from 0 asks pages) = both taken put (asked_from 0 asks pages) took script in
    let are : AreAsked 0 asks taken = asked_begins asks 0 taken begun.0 (subst (AreAsked 0 asks) (sym begun.1) (asked asks 0 pages sized room)) in
    let honest = all_honest h asks 0 taken are good in
    let all : List Cargo = answers_to image sent in
    let own : IsPrefix (own_back h sent back) (own_back h sent all) = subst (λ bs. IsPrefix (own_back h sent back) (own_back h sent bs)) answered.1 (own_back_begins h sent back answered.0) in
    let more : IsPrefix (virt_answers h part taken (own_back h sent back)) (virt_answers h part taken (own_back h sent all)) = subst (λ bs. IsPrefix (virt_answers h part taken (own_back h sent back)) (virt_answers h part taken bs)) own.1 (answers_begin h part taken (own_back h sent back) own.0) in
    let whole : IsPrefix (virt_answers h part taken (own_back h sent all)) (client_answers part bytes taken) = subst (λ bs. IsPrefix (virt_answers h part taken bs) (client_answers part bytes taken)) (sym (own_back_is h sent image)) (served_as h part image taken sent has honest kinds leaves served.sends) in
    let given : IsPrefix gave (client_answers part bytes taken) = both gave (virt_answers h part taken (own_back h sent back)) (client_answers part bytes taken) served.answers (both (virt_answers h part taken (own_back h sent back)) (virt_answers h part taken (own_back h sent all)) (client_answers part bytes taken) more whole) in
    records image entry asks has sized pages taken came room begun (both came gave (client_answers part bytes taken) got given)
