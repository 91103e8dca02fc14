use Rattle.std.proofs.Common.{◌≡◌, ℕ, zero, suc, ◌+◌, ◌<◌, ◌≤◌, eqb, List, [], ◌∷◌, ◌++◌, length, take, drop, Some, None, Bool, true, false, slice_get, refl, ap, sym, ◌∙◌, arith, add-one, append_assoc, append-nil, map, cond}
use Rattle.std.specs.List.{list_any, filter}
use Rattle.std.proofs.lemmas.List.{take_all}
use Rattle.i2c_text.specs.declared.bus.BusAsk.{BusAsk}
use Rattle.i2c_text.specs.declared.report.BusReply.{BusReply}
use Rattle.i2c_virt.specs.declared.i2c_kit.alone.Request.{Request}
use Rattle.i2c_virt.specs.declared.i2c_kit.device.Device.{Device}
use Rattle.i2c_virt.specs.I2cKit.Devices.{address_of, new_devices}
use Rattle.i2c_virt.specs.I2cKit.Grants.{owner_after, claims, is_owner, granted_to}
use Rattle.i2c_virt.specs.I2cKit.Replies.{reply_to, reached_after, has_it, may_have_it, replies_from, replies_by, is_claimed, alone_from, replies_alone}

take_more : {T : Type 0} (xs : List T) (k : ℕ) (x : T) → slice_get xs k ≡ Some x → take (k + 1) xs ≡ take k xs ++ x ∷ []
take_more xs k x h = rw (add-one k) (step xs k x h)
  where
    step : {T : Type 0} (xs : List T) (k : ℕ) (x : T) → slice_get xs k ≡ Some x → take (suc k) xs ≡ take k xs ++ x ∷ []
    step [] k x h = cc
    step (y ∷ ys) zero x h = let same : y ≡ x = cc in ap (λ z. z ∷ []) same
    step (y ∷ ys) (suc k) x h = ap (λ rest. y ∷ rest) (step ys k x h)

drop_here : {T : Type 0} (xs : List T) (k : ℕ) (x : T) → slice_get xs k ≡ Some x → drop k xs ≡ x ∷ drop (k + 1) xs
drop_here xs k x h = rw (add-one k) (step xs k x h)
  where
    step : {T : Type 0} (xs : List T) (k : ℕ) (x : T) → slice_get xs k ≡ Some x → drop k xs ≡ x ∷ drop (suc k) xs
    step [] k x h = cc
    step (y ∷ ys) zero x h = let same : y ≡ x = cc in ap (λ z. z ∷ ys) same
    step (y ∷ ys) (suc k) x h = step ys k x h

drop_end : {T : Type 0} (xs : List T) (k : ℕ) → length xs ≤ k → drop k xs ≡ []
drop_end [] zero h = refl
drop_end [] (suc k) h = refl
drop_end (x ∷ xs) zero h = absurd (omega arith)
drop_end (x ∷ xs) (suc k) h = drop_end xs k (omega arith)

-- the owner of an address by the requests from a place on
owner_head : (r : Request) (more : List Request) (address : ℕ) → claims r.ask address ≡ true → owner_after (r ∷ more) address ≡ Some r.client
owner_head r more address h = rw h refl

owner_tail : (r : Request) (more : List Request) (address : ℕ) → claims r.ask address ≡ false → owner_after (r ∷ more) address ≡ owner_after more address
owner_tail r more address h = rw h refl

pub owner_here : (taken : List Request) (i : ℕ) (r : Request) (address : ℕ) → slice_get taken i ≡ Some r → claims r.ask address ≡ true → owner_after (drop i taken) address ≡ Some r.client
owner_here taken i r address at h = ap (λ rs. owner_after rs address) (drop_here taken i r at) ∙ owner_head r (drop (i + 1) taken) address h

pub owner_next : (taken : List Request) (i : ℕ) (r : Request) (address : ℕ) → slice_get taken i ≡ Some r → claims r.ask address ≡ false → owner_after (drop i taken) address ≡ owner_after (drop (i + 1) taken) address
owner_next taken i r address at h = ap (λ rs. owner_after rs address) (drop_here taken i r at) ∙ owner_tail r (drop (i + 1) taken) address h

pub owner_none : (taken : List Request) (i : ℕ) (address : ℕ) → length taken ≤ i → owner_after (drop i taken) address ≡ None
owner_none taken i address end = ap (λ rs. owner_after rs address) (drop_end taken i end)

-- one request more is looked at for what was granted
abbrev owned : List Request → ℕ → ℕ → Bool
owned taken client a = is_owner (owner_after taken a) client

abbrev pub granted_of : List Request → ℕ → List Request → List ℕ
granted_of taken client seen = filter (owned taken client) (map (λ (r : Request). address_of r.ask) seen)

filter_step : (p : ℕ → Bool) (x a : ℕ) (xs : List ℕ) (b c : Bool) → p x ≡ c → filter p (xs ++ a ∷ []) ≡ filter p xs ++ cond b (a ∷ []) []
    → filter p ((x ∷ xs) ++ a ∷ []) ≡ filter p (x ∷ xs) ++ cond b (a ∷ []) []
filter_step p x a xs b true is more = rw is (ap (λ rest. x ∷ rest) more)
filter_step p x a xs b false is more = rw is more

filter_push : (p : ℕ → Bool) (xs : List ℕ) (a : ℕ) (b : Bool) → p a ≡ b → filter p (xs ++ a ∷ []) ≡ filter p xs ++ cond b (a ∷ []) []
filter_push p [] a true h = rw h refl
filter_push p [] a false h = rw h refl
filter_push p (x ∷ xs) a b h = filter_step p x a xs b (p x) refl (filter_push p xs a b h)

map_push : (xs : List Request) (r : Request) → map (λ (q : Request). address_of q.ask) (xs ++ r ∷ []) ≡ map (λ (q : Request). address_of q.ask) xs ++ address_of r.ask ∷ []
map_push [] r = refl
map_push (x ∷ xs) r = ap (λ rest. address_of x.ask ∷ rest) (map_push xs r)

pub granted_more : (taken : List Request) (client i a : ℕ) (r : Request) (b : Bool) (granted granted' : List ℕ) → slice_get taken i ≡ Some r → a ≡ address_of r.ask → b ≡ is_owner (owner_after taken a) client
    → granted ≡ granted_of taken client (take i taken) → granted' ≡ granted ++ cond b (a ∷ []) [] → granted' ≡ granted_of taken client (take (i + 1) taken)
granted_more taken client i a r b granted granted' there at so was now =
    now ∙ (ap (λ g. g ++ cond b (a ∷ []) []) was
    ∙ (sym (filter_push (owned taken client) (map (λ (q : Request). address_of q.ask) (take i taken)) a b (sym so))
    ∙ ap (filter (owned taken client)) (ap (λ x. map (λ (q : Request). address_of q.ask) (take i taken) ++ x ∷ []) at ∙ (sym (map_push (take i taken) r) ∙ ap (map (λ (q : Request). address_of q.ask)) (sym (take_more taken i r there))))))

pub granted_all : (taken : List Request) (client i : ℕ) (granted : List ℕ) → length taken ≤ i → granted ≡ granted_of taken client (take i taken) → granted ≡ granted_to client taken
granted_all taken client i granted end is = is ∙ ap (granted_of taken client) (take_all i taken end)

-- one request more is answered
pub replies_more : (taken : List Request) (devices devices' : List Device) (replies : List BusReply) (k : ℕ) (r : Request) (reply : BusReply) → slice_get taken k ≡ Some r
    → reply ≡ reply_to (may_have_it (take k taken) r) (has_it (take k taken) r) devices r.ask → devices' ≡ reached_after (has_it (take k taken) r) devices r.ask
    → (replies ++ reply ∷ []) ++ replies_from (take (k + 1) taken) devices' (drop (k + 1) taken) ≡ replies ++ replies_from (take k taken) devices (drop k taken)
replies_more taken devices devices' replies k r reply there is after =
    rw (take_more taken k r there, drop_here taken k r there, is, after) (append_assoc replies (reply_to (may_have_it (take k taken) r) (has_it (take k taken) r) devices r.ask ∷ []) (replies_from (take k taken ++ r ∷ []) (reached_after (has_it (take k taken) r) devices r.ask) (drop (k + 1) taken)))

pub replies_begin : (addresses : List ℕ) (taken : List Request) → replies_from [] (new_devices addresses) taken ≡ replies_by addresses taken
unfolding replies_by
replies_begin addresses taken = refl

pub replies_end : (taken : List Request) (devices : List Device) (replies : List BusReply) (k : ℕ) → length taken ≤ k → replies ++ replies_from (take k taken) devices (drop k taken) ≡ replies
replies_end taken devices replies k end = rw (drop_end taken k end) (append-nil replies)

-- the same of a client's requests alone
pub alone_more : (granted : List ℕ) (asks : List BusAsk) (devices devices' : List Device) (replies : List BusReply) (k : ℕ) (ask : BusAsk) (reply : BusReply) → slice_get asks k ≡ Some ask
    → reply ≡ reply_to (list_any (λ g. eqb g (address_of ask)) granted) (is_claimed granted (take k asks) (address_of ask)) devices ask
    → devices' ≡ reached_after (is_claimed granted (take k asks) (address_of ask)) devices ask
    → (replies ++ reply ∷ []) ++ alone_from granted (take (k + 1) asks) devices' (drop (k + 1) asks) ≡ replies ++ alone_from granted (take k asks) devices (drop k asks)
alone_more granted asks devices devices' replies k ask reply there is after =
    rw (take_more asks k ask there, drop_here asks k ask there, is, after) (append_assoc replies (reply_to (list_any (λ g. eqb g (address_of ask)) granted) (is_claimed granted (take k asks) (address_of ask)) devices ask ∷ []) (alone_from granted (take k asks ++ ask ∷ []) (reached_after (is_claimed granted (take k asks) (address_of ask)) devices ask) (drop (k + 1) asks)))

pub alone_begin : (granted addresses : List ℕ) (asks : List BusAsk) → alone_from granted [] (new_devices addresses) asks ≡ replies_alone granted addresses asks
unfolding replies_alone
alone_begin granted addresses asks = refl

pub alone_end : (granted : List ℕ) (asks : List BusAsk) (devices : List Device) (replies : List BusReply) (k : ℕ) → length asks ≤ k → replies ++ alone_from granted (take k asks) devices (drop k asks) ≡ replies
alone_end granted asks devices replies k end = rw (drop_end asks k end) (append-nil replies)
