use Rattle.std.proofs.Common.{◌≡◌, ◌⊎◌, ◌↔◌, inl, inr, ◌==◌, ◌&&◌, ◌||◌, ◌++◌, ℕ, Bool, true, false, cond, Option, Some, None, List, [], ◌∷◌, map, refl, sym, ap, ◌∙◌, subst}
use Rattle.std.specs.List.{filter, list_any}
use Rattle.std.proofs.lemmas.Bool.{cases_eq, eq-eqb, ne_eqb, eqb-true, and_parts, and_right}
use Rattle.wire_core.specs.declared.names.Entry.{Entry}
use Rattle.i2c_text.specs.declared.bus.Bus.{Bus}
use Rattle.i2c_text.specs.declared.bus.BusAsk.{BusAsk}
use Rattle.i2c_text.specs.declared.report.BusReply.{BusReply}
use Rattle.i2c_virt.specs.declared.i2c_kit.alone.Request.{Request}
use Rattle.i2c_virt.specs.declared.i2c_kit.device.Device.{Device}
use Rattle.i2c_virt.specs.I2cKit.Devices.{address_of, new_devices}
use Rattle.i2c_virt.specs.I2cKit.Grants.{is_claim, claims, owner_after, IsGranted, is_owner, granted_to}
use Rattle.i2c_virt.specs.I2cKit.Replies.{reply_to, reached_after, alone_from, replies_alone}
use Rattle.bus_law.specs.Takes.{script_of, requests_taken, granted_replies}

-- What a client is answered depends on the granted addresses by which they are, and not on their order.

filter_any : (P : ℕ → Bool) (a : ℕ) (xs : List ℕ) → list_any (λ g. g == a) (filter P xs) ≡ (P a && list_any (λ g. g == a) xs)
filter_any P a [] = sym (and_right (P a) false refl)
filter_any P a (x ∷ xs) = by (cases_eq x a) (filter_any P a xs)
  where
    same : (b : Bool) → P a ≡ b → P x ≡ b → list_any (λ g. g == a) (filter P xs) ≡ (P a && list_any (λ g. g == a) xs) → (x == a) ≡ true → list_any (λ g. g == a) (cond b (x ∷ filter P xs) (filter P xs)) ≡ (b && ((x == a) || list_any (λ g. g == a) xs))
    same true pa px rest e = ap (λ (t : Bool). t || list_any (λ g. g == a) (filter P xs)) e ∙ sym (ap (λ (t : Bool). t || list_any (λ g. g == a) xs) e)
    same false pa px rest e = rest ∙ ap (λ (t : Bool). t && list_any (λ g. g == a) xs) pa

    apart : (b : Bool) → (x == a) ≡ false → list_any (λ g. g == a) (filter P xs) ≡ (P a && list_any (λ g. g == a) xs) → list_any (λ g. g == a) (cond b (x ∷ filter P xs) (filter P xs)) ≡ (P a && list_any (λ g. g == a) xs)
    apart true e rest = ap (λ (t : Bool). t || list_any (λ g. g == a) (filter P xs)) e ∙ rest
    apart false e rest = rest

    by : (x ≡ a) ⊎ (x ≡ a → ⊥) → list_any (λ g. g == a) (filter P xs) ≡ (P a && list_any (λ g. g == a) xs) → list_any (λ g. g == a) (filter P (x ∷ xs)) ≡ (P a && ((x == a) || list_any (λ g. g == a) xs))
    by (inl e) rest =
        let same_p : P x ≡ P a = ap P e in
        ap (λ (t : Bool). list_any (λ g. g == a) (cond t (x ∷ filter P xs) (filter P xs))) same_p ∙ same (P a) refl same_p rest (eq-eqb x a e)
    by (inr d) rest = apart (P x) (ne_eqb x a d) rest ∙ ap (λ (t : Bool). P a && (t || list_any (λ g. g == a) xs)) (sym (ne_eqb x a d))

-- an address that has an owner is one that a request names
owner_found : (taken : List Request) (a d : ℕ) → owner_after taken a ≡ Some d → list_any (λ g. g == a) (map (λ (r : Request). address_of r.ask) taken) ≡ true
owner_found [] a d h = cc
owner_found (r ∷ more) a d h = by (claims r.ask a) refl (λ e. owner_found more a d e) h
  where
    by : (b : Bool) → claims r.ask a ≡ b → (owner_after more a ≡ Some d → list_any (λ g. g == a) (map (λ (r : Request). address_of r.ask) more) ≡ true) → cond b (Some r.client) (owner_after more a) ≡ Some d → ((address_of r.ask == a) || list_any (λ g. g == a) (map (λ (r : Request). address_of r.ask) more)) ≡ true
    by true e rest h = ap (λ (t : Bool). t || list_any (λ g. g == a) (map (λ (r : Request). address_of r.ask) more)) (and_parts (is_claim r.ask) (address_of r.ask == a) e).1
    by false e rest h = either (address_of r.ask == a) (list_any (λ g. g == a) (map (λ (r : Request). address_of r.ask) more)) (rest h)
      where
        either : (x y : Bool) → y ≡ true → (x || y) ≡ true
        either true y e = refl
        either false y e = e

granted_any : (c : ℕ) (taken : List Request) (a : ℕ) → list_any (λ g. g == a) (granted_to c taken) ≡ is_owner (owner_after taken a) c
granted_any c taken a = filter_any (λ b. is_owner (owner_after taken b) c) a (map (λ (r : Request). address_of r.ask) taken) ∙ by (owner_after taken a) refl
  where
    by : (o : Option ℕ) → owner_after taken a ≡ o → (is_owner (owner_after taken a) c && list_any (λ g. g == a) (map (λ (r : Request). address_of r.ask) taken)) ≡ is_owner (owner_after taken a) c
    by None e =
        ap (λ (o : Option ℕ). is_owner o c && list_any (λ g. g == a) (map (λ (r : Request). address_of r.ask) taken)) e ∙ ap (λ (o : Option ℕ). is_owner o c) (sym e)
    by (Some d) e =
        ap (λ (t : Bool). is_owner (owner_after taken a) c && t) (owner_found taken a d e) ∙ and_true (is_owner (owner_after taken a) c)
      where
        and_true : (b : Bool) → (b && true) ≡ b
        and_true true = refl
        and_true false = refl

-- who owns it, as a test
owner_same : (o p : Option ℕ) (c : ℕ) → (o ≡ Some c) ↔ (p ≡ Some c) → is_owner o c ≡ is_owner p c
owner_same o p c both = by (is_owner o c) refl (is_owner p c) refl
  where
    has : (o : Option ℕ) → is_owner o c ≡ true → o ≡ Some c
    has None h = cc
    has (Some d) h = ap (λ (n : ℕ). Some n) (eqb-true d c h)

    is : (o : Option ℕ) → o ≡ Some c → is_owner o c ≡ true
    is o h = ap (λ (q : Option ℕ). is_owner q c) h ∙ eq-eqb c c refl

    by : (s : Bool) → is_owner o c ≡ s → (t : Bool) → is_owner p c ≡ t → is_owner o c ≡ is_owner p c
    by true e true f = e ∙ sym f
    by true e false f = e ∙ sym (is p (both.0 (has o e)))
    by false e true f = is o (both.1 (has p f)) ∙ sym f
    by false e false f = e ∙ sym f

alone_same : (G H : List ℕ) → ((a : ℕ) → list_any (λ g. g == a) G ≡ list_any (λ g. g == a) H) → (before : List BusAsk) (ds : List Device) (asks : List BusAsk) → alone_from G before ds asks ≡ alone_from H before ds asks
alone_same G H same before ds [] = refl
alone_same G H same before ds (ask ∷ more) =
    let a = address_of ask in
    let asked = list_any (λ (q : BusAsk). claims q a) before in
    let step : Bool → List BusReply = λ (b : Bool). reply_to b (b && asked) ds ask ∷ alone_from G (before ++ ask ∷ []) (reached_after (b && asked) ds ask) more in
    ap step (same a) ∙ ap (λ (l : List BusReply). reply_to (list_any (λ g. g == a) H) (list_any (λ g. g == a) H && asked) ds ask ∷ l) (alone_same G H same (before ++ ask ∷ []) (reached_after (list_any (λ g. g == a) H && asked) ds ask) more)

replies_same : (G H addresses : List ℕ) (asks : List BusAsk) → ((a : ℕ) → list_any (λ g. g == a) G ≡ list_any (λ g. g == a) H) → replies_alone G addresses asks ≡ replies_alone H addresses asks
unfolding replies_alone
replies_same G H addresses asks same = alone_same G H same [] (new_devices addresses) asks

pub agreed : (bus other : Bus) (journal others : List Entry) (client : ℕ) → script_of bus client ≡ script_of other client → bus.devices ≡ other.devices → ((address : ℕ) → IsGranted client (requests_taken bus journal) address ↔ IsGranted client (requests_taken other others) address) → granted_replies bus journal client ≡ granted_replies other others client
agreed bus other journal others client asks devices granted =
    let G = granted_to client (requests_taken bus journal) in
    let H = granted_to client (requests_taken other others) in
    replies_same G H bus.devices (script_of bus client) (λ a.
    granted_any client (requests_taken bus journal) a
    ∙ (owner_same (owner_after (requests_taken bus journal) a) (owner_after (requests_taken other others) a) client (granted a) ∙ sym (granted_any client (requests_taken other others) a)))
    ∙ (ap (λ l. replies_alone H l (script_of bus client)) devices ∙ ap (replies_alone H other.devices) asks)
