use Rattle.std.proofs.Common.{◌≡◌, ◌&&◌, not, ℕ, suc, Bool, true, false, Option, Some, None, cond, if◌then◌else◌, List, [], ◌∷◌, ◌++◌, All, length, map, refl, sym, ap, ◌∙◌, subst, arith}
use Rattle.std.specs.List.{AllZip, filter}
use Rattle.std.proofs.lemmas.List.{append-nil}
use Rattle.std.proofs.lemmas.List.Elements.{All-cons, All-head, All-tail}
use Rattle.cargo_core.specs.declared.item.BlkReq.{BlkReq}
use Rattle.cargo_core.specs.declared.item.BlkResp.{BlkResp}
use Rattle.cargo_core.specs.declared.item.BlkStatus.{BlkStatus}
use Rattle.cargo_core.specs.declared.item.BlkStatus.TheVariants as Answered
use Rattle.cargo_core.specs.declared.item.Body.{Body}
use Rattle.cargo_core.specs.declared.item.Code.{Code}
use Rattle.cargo_core.specs.declared.item.Code.TheVariants as Asked
use Rattle.cargo_core.specs.declared.item.Item.{Item}
use Rattle.cargo_core.specs.declared.item.Item.TheVariants as ItemOf
use Rattle.cargo_core.specs.declared.item.QueueKind.TheVariants as Kind
use Rattle.cargo_core.specs.Items.{kind_of}
use Rattle.cargo_core.specs.Lists.{IsPrefix}
use Rattle.wire_core.specs.Deeds.{Cargo}
use Rattle.blk_mbr.specs.declared.part.Part.{Part}
use Rattle.class_expect.specs.BlkExpect.Judging.{status_of}
use Rattle.class_expect.specs.BlkExpect.Replies.{has_partition, partition_bytes}
use Rattle.device_model.specs.Disk.Serving.{answer_to, answers_to, done}
use Rattle.blk_virt.specs.declared.requests.Holder.{Holder}
use Rattle.blk_virt.specs.Requests.{asked_of_disk, for_disk, goes_on, is_at, is_bad, is_ok, is_own, moves_blocks, numbered, passed_on, refusal, request_of}
use Rattle.blk_virt.specs.Requests as Virt
use Rattle.blk_virt.specs.Serving as Virtualiser
use Rattle.blk_law.specs.Replying.{answer_as, client_answers, judged, left_as}
use Rattle.blk_law.specs.Runs.{IsFor, IsMoved, answers_for, id_of, item_with_id, with_ids}
use Rattle.blk_law.specs.Records.Served.{IsHonest, LeavesPart}
use Rattle.blk_law.proofs.Own.{own_disk}
use Rattle.blk_law.proofs.Recording.{moves_within}

head_of : {x y : Cargo} {xs ys : List Cargo} → x ∷ xs ≡ y ∷ ys → x ≡ y
head_of h = cc

tail_of : {x y : Cargo} {xs ys : List Cargo} → x ∷ xs ≡ y ∷ ys → xs ≡ ys
tail_of h = cc

-- it is judged as if its buffer were its own, since it is
own_by : (c : Code) (own : Bool) (part : Option Part) (block count : ℕ) → (moves_blocks c && not own) ≡ false → status_of own part c block count ≡ status_of true part c block count
own_by Asked.Read true part block count h = refl
own_by Asked.Read false part block count h = cc
own_by Asked.Write true part block count h = refl
own_by Asked.Write false part block count h = cc
own_by Asked.Flush own None block count h = refl
own_by Asked.Flush own (Some part) block count h = refl
own_by Asked.Barrier own None block count h = refl
own_by Asked.Barrier own (Some part) block count h = refl

judged_alike : (h : Holder) (part : Option Part) (x : Cargo) → IsHonest h x → Virt.judged h part x ≡ judged part x.0
judged_alike h part (ItemOf.Req q, body) w = own_by q.code (is_own h (ItemOf.Req q, body)) part q.block q.count w.good
judged_alike h part (ItemOf.Net d, body) w = let k : Kind.Net ≡ Kind.Req = w.kind in cc
judged_alike h part (ItemOf.Byte b, body) w = let k : Kind.Byte ≡ Kind.Req = w.kind in cc
judged_alike h part (ItemOf.Resp r, body) w = let k : Kind.Resp ≡ Kind.Req = w.kind in cc

-- a response with the client's number
abbrev again : ℕ → Cargo → Cargo
again id y = (item_with_id id y.0, y.1)

abbrev response : BlkResp → Body → Cargo
response r b = (ItemOf.Resp r, b)

passed : (id : ℕ) (y : Cargo) (r : BlkResp) (b : Body) → again id y ≡ response r b → passed_on id y ≡ response r b
passed id (ItemOf.Resp s, body) r b h = h
passed id (ItemOf.Req s, body) r b h = let e : ItemOf.Req s ≡ ItemOf.Resp r = ap (λ (z : Cargo). z.0) h in cc
passed id (ItemOf.Net s, body) r b h = let e : ItemOf.Net s ≡ ItemOf.Resp r = ap (λ (z : Cargo). z.0) h in cc
passed id (ItemOf.Byte s, body) r b h = let e : ItemOf.Byte s ≡ ItemOf.Resp r = ap (λ (z : Cargo). z.0) h in cc

passed_to : (bytes : List ℕ) (x y : Cargo) → kind_of x.0 ≡ Kind.Req → again (id_of x.0) y ≡ answer_to bytes x → passed_on (request_of x.0).id y ≡ answer_to bytes x
passed_to bytes (ItemOf.Req q, body) y k h = passed q.id y _ _ h
passed_to bytes (ItemOf.Net d, body) y k h = cc
passed_to bytes (ItemOf.Byte b, body) y k h = cc
passed_to bytes (ItemOf.Resp r, body) y k h = cc

-- both name a request alike
one_id : (item : Item) → (request_of item).id ≡ id_of item
one_id (ItemOf.Req q) = refl
one_id (ItemOf.Net d) = refl
one_id (ItemOf.Byte b) = refl
one_id (ItemOf.Resp r) = refl

ok_from : (s : BlkStatus) → is_ok s ≡ true → s ≡ Answered.Ok
ok_from Answered.Ok e = refl
ok_from Answered.Invalid e = cc
ok_from Answered.NoDevice e = cc

-- one request more: what the disk answered to it is passed on, or it is refused
module _ (h : Holder) (part : Option Part) (x : Cargo) (xs : List Cargo) (bytes : List ℕ) (kind : kind_of x.0 ≡ Kind.Req)
    (rest : (asked back : List Cargo) (left : List ℕ) → IsPrefix asked (filter (goes_on h part) xs) → length back ≡ length asked → with_ids asked back ≡ answers_to left asked → IsPrefix (Virtualiser.answers_to h part xs back) (client_answers part left xs)) where
  -- as the virtualiser's answers are
  abbrev shape : Bool → Cargo → List Cargo → List Cargo
  shape b r [] = if b then [] else (r ∷ Virtualiser.answers_to h part xs [])
  shape b r (y ∷ back) = if b then (passed_on (request_of x.0).id y ∷ Virtualiser.answers_to h part xs back) else (r ∷ Virtualiser.answers_to h part xs (y ∷ back))

  refused_one : (s : BlkStatus) (r : Cargo) → r ≡ answer_as s bytes x → left_as s bytes x ≡ bytes → (asked back : List Cargo) → IsPrefix asked (filter (goes_on h part) xs) → length back ≡ length asked → with_ids asked back ≡ answers_to bytes asked → IsPrefix (shape false r back) (answer_as s bytes x ∷ client_answers part (left_as s bytes x) xs)
  refused_one s r is same asked [] f n e = let more = rest asked [] bytes f n e in (more.0, λ i. is i ∷ (more.1 ∙ ap (λ bs. client_answers part bs xs) (sym same)) i)
  refused_one s r is same asked (y ∷ back) f n e = let more = rest asked (y ∷ back) bytes f n e in (more.0, λ i. is i ∷ (more.1 ∙ ap (λ bs. client_answers part bs xs) (sym same)) i)

  one : (b : Bool) (s : BlkStatus) (r : Cargo) → b ≡ is_ok s → (b ≡ false → r ≡ answer_as s bytes x) → (asked back : List Cargo) → IsPrefix asked (cond b (x ∷ filter (goes_on h part) xs) (filter (goes_on h part) xs)) → length back ≡ length asked → with_ids asked back ≡ answers_to bytes asked → IsPrefix (shape b r back) (answer_as s bytes x ∷ client_answers part (left_as s bytes x) xs)
  one true Answered.Invalid r is refuses asked back f n e = cc
  one true Answered.NoDevice r is refuses asked back f n e = cc
  one false Answered.Ok r is refuses asked back f n e = cc
  one false Answered.Invalid r is refuses asked back f n e = refused_one Answered.Invalid r (refuses refl) refl asked back f n e
  one false Answered.NoDevice r is refuses asked back f n e = refused_one Answered.NoDevice r (refuses refl) refl asked back f n e
  one true Answered.Ok r is refuses [] [] f n e = (answer_to bytes x ∷ client_answers part (done bytes x) xs, refl)
  one true Answered.Ok r is refuses [] (y ∷ back) f n e = absurd (omega (arith, n))
  one true Answered.Ok r is refuses (a ∷ asked) [] f n e = absurd (omega (arith, n))
  one true Answered.Ok r is refuses (a ∷ asked) (y ∷ back) f n e =
      let same : a ≡ x = head_of f.1 in
      let first : again (id_of x.0) y ≡ answer_to bytes x = subst (λ (z : Cargo). again (id_of z.0) y ≡ answer_to bytes z) same (head_of e) in
      let later : with_ids asked back ≡ answers_to (done bytes x) asked = tail_of e ∙ ap (λ (z : Cargo). answers_to (done bytes z) asked) same in
      let more = rest asked back (done bytes x) (f.0, tail_of f.1) (omega (arith, n)) later in
      (more.0, λ i. passed_to bytes x y kind first i ∷ more.1 i)

  same_id : (id_is : (request_of x.0).id ≡ id_of x.0) (s : BlkStatus) → Virt.judged h part x ≡ s → is_ok s ≡ false → refusal h part x ≡ answer_as s bytes x
  same_id id_is Answered.Ok e no_go = cc
  same_id id_is Answered.Invalid e no_go = λ i. (ItemOf.Resp (record { status = e i; count = 0; id = id_is i }), x.1)
  same_id id_is Answered.NoDevice e no_go = λ i. (ItemOf.Resp (record { status = e i; count = 0; id = id_is i }), x.1)

  refuses_as : IsHonest h x → goes_on h part x ≡ false → refusal h part x ≡ answer_as (judged part x.0) bytes x
  refuses_as w no_go = same_id (one_id x.0) (judged part x.0) (judged_alike h part x w) (sym (ap is_ok (judged_alike h part x w)) ∙ no_go)

  pub one_more : IsHonest h x → (asked back : List Cargo) → IsPrefix asked (filter (goes_on h part) (x ∷ xs)) → length back ≡ length asked → with_ids asked back ≡ answers_to bytes asked → IsPrefix (Virtualiser.answers_to h part (x ∷ xs) back) (client_answers part bytes (x ∷ xs))
  one_more w asked [] f n e = one (goes_on h part x) (judged part x.0) (refusal h part x) (ap is_ok (judged_alike h part x w)) (refuses_as w) asked [] f n e
  one_more w asked (y ∷ back) f n e = one (goes_on h part x) (judged part x.0) (refusal h part x) (ap is_ok (judged_alike h part x w)) (refuses_as w) asked (y ∷ back) f n e

-- what the virtualiser answers is what a disk with the bytes of the partition alone would
pub answered_so : (h : Holder) (part : Option Part) (xs : List Cargo) → All (IsHonest h) xs → (asked back : List Cargo) (bytes : List ℕ) → IsPrefix asked (filter (goes_on h part) xs) → length back ≡ length asked → with_ids asked back ≡ answers_to bytes asked → IsPrefix (Virtualiser.answers_to h part xs back) (client_answers part bytes xs)
answered_so h part [] honest asked back bytes f n e = ([], refl)
answered_so h part (x ∷ xs) honest asked back bytes f n e =
    let w = All-head (IsHonest h) x xs honest in
    one_more h part x xs bytes w.kind (answered_so h part xs (All-tail (IsHonest h) x xs honest)) w asked back f n e

-- the disk's answers to those at the client's buffers
pub own_back_is : (h : Holder) (sent : List Cargo) (image : List ℕ) → Virtualiser.own_back h sent (answers_to image sent) ≡ answers_for (is_at h) image sent
own_back_is h [] image = refl
own_back_is h (x ∷ sent) image = let more = own_back_is h sent (done image x) in λ i. if is_at h x then (answer_to image x ∷ more i) else more i

one_many : (b : Bool) (x y : Cargo) (ys zs : List Cargo) → length ys ≡ length zs → length (if b then (y ∷ ys) else ys) ≡ length (cond b (x ∷ zs) zs)
one_many true x y ys zs n = ap suc n
one_many false x y ys zs n = n

answered_many : (own : Cargo → Bool) (sent : List Cargo) (image : List ℕ) → length (answers_for own image sent) ≡ length (filter own sent)
answered_many own [] image = refl
answered_many own (x ∷ sent) image = one_many (own x) x (answer_to image x) (answers_for own (done image x) sent) (filter own sent) (answered_many own sent (done image x))

-- a request that is sent on asks the disk for what it asks of the partition
moved_by : (c : Code) (base first count : ℕ) (r q : BlkReq) → q.code ≡ c → record r { id = 0 } ≡ asked_of_disk c base first q → (status_of true (Some (record { first_block = first; blocks = count })) c q.block q.count ≡ Answered.Ok) → (r.code ≡ c) × IsMoved c first count r q
moved_by Asked.Read base first count r q k e ok = (ap (λ (z : BlkReq). z.code) e, (ap (λ (z : BlkReq). z.block) e, ap (λ (z : BlkReq). z.count) e, moves_within count q.block q.count Answered.Invalid (λ t. cc) ok))
moved_by Asked.Write base first count r q k e ok = (ap (λ (z : BlkReq). z.code) e, (ap (λ (z : BlkReq). z.block) e, ap (λ (z : BlkReq). z.count) e, moves_within count q.block q.count Answered.Invalid (λ t. cc) ok))
moved_by Asked.Flush base first count r q k e ok = (ap (λ (z : BlkReq). z.code) e, tt)
moved_by Asked.Barrier base first count r q k e ok = (ap (λ (z : BlkReq). z.code) e, tt)

is_for : (h : Holder) (part : Part) (x y : Cargo) → kind_of x.0 ≡ Kind.Req → IsHonest h y → goes_on h (Some part) y ≡ true → numbered 0 x ≡ for_disk h (Some part) y → IsFor part.first_block part.blocks x y
is_for h part (ItemOf.Req r, body) (ItemOf.Req q, other) k w go e =
    let item : ItemOf.Req (record r { id = 0 }) ≡ ItemOf.Req (asked_of_disk q.code h.base part.first_block q) = ap (λ (z : Cargo). z.0) e in
    let req : record r { id = 0 } ≡ asked_of_disk q.code h.base part.first_block q = ap request_of item in
    let alike = judged_alike h (Some part) (ItemOf.Req q, other) w in
    let m = moved_by q.code h.base part.first_block part.blocks r q refl req (ok_from (judged (Some part) (ItemOf.Req q)) (sym (ap is_ok alike) ∙ go)) in
    (ap (λ (z : Cargo). z.1) e, m.0, m.1)
is_for h part (ItemOf.Req r, body) (ItemOf.Net d, other) k w go e = let n : Kind.Net ≡ Kind.Req = w.kind in cc
is_for h part (ItemOf.Req r, body) (ItemOf.Byte b, other) k w go e = let n : Kind.Byte ≡ Kind.Req = w.kind in cc
is_for h part (ItemOf.Req r, body) (ItemOf.Resp p, other) k w go e = let n : Kind.Resp ≡ Kind.Req = w.kind in cc
is_for h part (ItemOf.Net d, body) y k w go e = cc
is_for h part (ItemOf.Byte b, body) y k w go e = cc
is_for h part (ItemOf.Resp p, body) y k w go e = cc

-- the requests at the client's buffers are, one by one, those that are sent on
pub record AreSentOn (h : Holder) (part : Option Part) (first count : ℕ) (own F : List Cargo) : Type 0 where
  pub asked : List Cargo
  pub begins : IsPrefix asked F
  pub many : length asked ≡ length own
  pub are_for : AllZip (IsFor first count) own asked

-- a client's request that is sent on
pub record IsServedOn (h : Holder) (part : Option Part) (y : Cargo) : Type 0 where
  pub honest : IsHonest h y
  pub goes : goes_on h part y ≡ true

sent_on : (h : Holder) (part : Part) (own F rest : List Cargo) → All (λ (x : Cargo). kind_of x.0 ≡ Kind.Req) own → All (IsServedOn h (Some part)) F → map (numbered 0) own ++ rest ≡ map (for_disk h (Some part)) F → AreSentOn h (Some part) part.first_block part.blocks own F
sent_on h part [] F rest kinds served e = record { asked = []; begins = (F, refl); many = refl; are_for = tt }
sent_on h part (x ∷ own) [] rest kinds served e = cc
sent_on h part (x ∷ own) (y ∷ F) rest kinds served e =
    let more = sent_on h part own F rest (All-tail (λ (z : Cargo). kind_of z.0 ≡ Kind.Req) x own kinds) (All-tail (IsServedOn h (Some part)) y F served) (tail_of e) in
    let w = All-head (IsServedOn h (Some part)) y F served in
    let for_it = is_for h part x y (All-head (λ (z : Cargo). kind_of z.0 ≡ Kind.Req) x own kinds) w.honest w.goes (head_of e) in
    record {
      asked = y ∷ more.asked;
      begins = (more.begins.0, λ i. y ∷ more.begins.1 i);
      many = ap suc more.many;
      are_for = (for_it, more.are_for);
    }

-- prefixes
cons_begins : (z : Cargo) (xs ys : List Cargo) → IsPrefix xs ys → IsPrefix (z ∷ xs) (z ∷ ys)
cons_begins z xs ys f = (f.0, λ i. z ∷ f.1 i)

if_begins : (b : Bool) (u v u' v' : List Cargo) → IsPrefix u u' → IsPrefix v v' → IsPrefix (if b then u else v) (if b then u' else v')
if_begins true u v u' v' f g = f
if_begins false u v u' v' f g = g

pub own_back_begins : (h : Holder) (sent back rest : List Cargo) → IsPrefix (Virtualiser.own_back h sent back) (Virtualiser.own_back h sent (back ++ rest))
own_back_begins h [] back rest = ([], refl)
own_back_begins h (x ∷ sent) [] rest = (Virtualiser.own_back h (x ∷ sent) rest, refl)
own_back_begins h (x ∷ sent) (y ∷ back) rest = let more = own_back_begins h sent back rest in if_begins (is_at h x) (y ∷ Virtualiser.own_back h sent back) (Virtualiser.own_back h sent back) (y ∷ Virtualiser.own_back h sent (back ++ rest)) (Virtualiser.own_back h sent (back ++ rest)) (cons_begins y (Virtualiser.own_back h sent back) (Virtualiser.own_back h sent (back ++ rest)) more) more

pub answers_begin : (h : Holder) (part : Option Part) (xs back rest : List Cargo) → IsPrefix (Virtualiser.answers_to h part xs back) (Virtualiser.answers_to h part xs (back ++ rest))
answers_begin h part [] back rest = ([], refl)
answers_begin h part (x ∷ xs) [] [] = ([], append-nil (Virtualiser.answers_to h part (x ∷ xs) []))
answers_begin h part (x ∷ xs) [] (z ∷ rest) = if_begins (goes_on h part x) [] (refusal h part x ∷ Virtualiser.answers_to h part xs []) (passed_on (request_of x.0).id z ∷ Virtualiser.answers_to h part xs rest) (refusal h part x ∷ Virtualiser.answers_to h part xs (z ∷ rest)) (passed_on (request_of x.0).id z ∷ Virtualiser.answers_to h part xs rest, refl) (cons_begins (refusal h part x) (Virtualiser.answers_to h part xs []) (Virtualiser.answers_to h part xs (z ∷ rest)) (answers_begin h part xs [] (z ∷ rest)))
answers_begin h part (x ∷ xs) (y ∷ back) rest = if_begins (goes_on h part x) (passed_on (request_of x.0).id y ∷ Virtualiser.answers_to h part xs back) (refusal h part x ∷ Virtualiser.answers_to h part xs (y ∷ back)) (passed_on (request_of x.0).id y ∷ Virtualiser.answers_to h part xs (back ++ rest)) (refusal h part x ∷ Virtualiser.answers_to h part xs (y ∷ (back ++ rest))) (cons_begins (passed_on (request_of x.0).id y) (Virtualiser.answers_to h part xs back) (Virtualiser.answers_to h part xs (back ++ rest)) (answers_begin h part xs back rest)) (cons_begins (refusal h part x) (Virtualiser.answers_to h part xs (y ∷ back)) (Virtualiser.answers_to h part xs (y ∷ (back ++ rest))) (answers_begin h part xs (y ∷ back) rest))

-- what holds of each element holds of each that is left
kept_if : (P : Cargo → Type 0) (b : Bool) (x : Cargo) (xs : List Cargo) → (b ≡ true → P x) → All P xs → All P (cond b (x ∷ xs) xs)
kept_if P true x xs f g = All-cons P x xs (f refl) g
kept_if P false x xs f g = g

all_kept : (P : Cargo → Type 0) (p : Cargo → Bool) (xs : List Cargo) → All P xs → All P (filter p xs)
all_kept P p [] h = h
all_kept P p (x ∷ xs) h = kept_if P (p x) x (filter p xs) (λ t. All-head P x xs h) (all_kept P p xs (All-tail P x xs h))

served_on : (h : Holder) (part : Option Part) (xs : List Cargo) → All (IsHonest h) xs → All (IsServedOn h part) (filter (goes_on h part) xs)
served_on h part [] f = λ k d there. absurd (omega (arith, there))
served_on h part (x ∷ xs) f = kept_if (IsServedOn h part) (goes_on h part x) x (filter (goes_on h part) xs) (λ t. record { honest = All-head (IsHonest h) x xs f; goes = t }) (served_on h part xs (All-tail (IsHonest h) x xs f))

-- a client without a partition sends nothing on
none_served : (h : Holder) (xs : List Cargo) → filter (goes_on h None) xs ≡ []
none_served h [] = refl
none_served h (x ∷ xs) = none_served h xs

no_own : (xs rest : List Cargo) → map (numbered 0) xs ++ rest ≡ [] → xs ≡ []
no_own [] rest e = refl
no_own (x ∷ xs) rest e = cc

-- what the disk answers to a client's requests, as the virtualiser passes it on
pub served_as : (h : Holder) (part : Option Part) (image : List ℕ) (came sent : List Cargo) → has_partition part image ≡ true → All (IsHonest h) came → All (λ (x : Cargo). kind_of x.0 ≡ Kind.Req) sent → LeavesPart h part sent → IsPrefix (Virtualiser.unnumbered (Virtualiser.own_of h sent)) (map (for_disk h part) (filter (goes_on h part) came)) → IsPrefix (Virtualiser.answers_to h part came (answers_for (is_at h) image sent)) (client_answers part (partition_bytes part image) came)
served_as h None image came sent has honest kinds leaves sends =
    let none : Virtualiser.own_of h sent ≡ [] = no_own (Virtualiser.own_of h sent) sends.0 (sends.1 ∙ ap (map (for_disk h None)) (none_served h came)) in
    let many = answered_many (is_at h) sent image in
    let few = ap length none in
    answered_so h None came honest [] (answers_for (is_at h) image sent) [] (filter (goes_on h None) came, refl) (many ∙ few) refl
served_as h (Some part) image came sent has honest kinds leaves sends =
    let on = sent_on h part (Virtualiser.own_of h sent) (filter (goes_on h (Some part)) came) sends.0 (all_kept (λ (x : Cargo). kind_of x.0 ≡ Kind.Req) (is_at h) sent kinds) (served_on h (Some part) came honest) sends.1 in
    answered_so h (Some part) came honest on.asked (answers_for (is_at h) image sent) (partition_bytes (Some part) image) on.begins (answered_many (is_at h) sent image ∙ sym on.many) (own_disk (is_at h) part.first_block part.blocks sent image has leaves on.asked on.are_for)
