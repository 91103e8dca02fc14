use Rattle.std.proofs.Common.{◌≡◌, ◌≢◌, ◌⊎◌, ◌==◌, ◌+◌, ◌<◌, ◌≤◌, ◌&&◌, ◌↔◌, ◌++◌, ℕ, Bool, true, false, not, cond, nat_lt, Option, Some, None, is_some, IsSome, IfSome, List, [], ◌∷◌, map, length, slice_get, if◌then◌else◌, refl, sym, ap, ◌∙◌, subst, inl, inr, arith}
use Rattle.std.specs.Option.{option_map, option_to_list}
use Rattle.std.proofs.Math.Dec.{eqb}
use Rattle.std.proofs.lemmas.Bool.{ne_eqb, lt-ltb, le-ltb}
use Rattle.std.proofs.lemmas.Bool.Decides.{eqb_tells}
use Rattle.std.proofs.lemmas.List.{append-nil, length-append, map-append}
use Rattle.std.proofs.lemmas.Grind.{flat_map-append}
use Rattle.cargo_core.specs.declared.item.Item.{Item}
use Rattle.wire_core.specs.declared.names.QueueId.{QueueId}
use Rattle.wire_core.specs.declared.names.Event.{Event}
use Rattle.wire_core.specs.declared.names.Op.{Op}
use Rattle.wire_core.specs.declared.names.Op.TheVariants as Do
use Rattle.wire_core.specs.Bells.{bit}
use Rattle.wire_core.specs.Deeds.{Cargo, put_of}
use Rattle.wire_core.specs.Lists.{Lists, with, if_there}
use Rattle.wire_core.specs.Ends.{Role, Consumer, Producer, role_of}
use Rattle.wire_core.specs.Marks.{is_vain_look, is_role}
use Rattle.turn_kit.specs.ManyEnds.{AreApart, outlet_queues}
use Rattle.turn_kit.specs.declared.outlets.Outlets.{Outlets}
use Rattle.class_expect.specs.SerialSwitch.Standing.{StandsAfter}
use Rattle.class_expect.specs.SerialSwitch.Carried.{byte_cargo, byte_of, bytes_carried}
use Rattle.class_expect.specs.SerialSwitch.Switching.{input_of, given_to}
use Rattle.wire_core.specs.Lists.{Passed}
use Rattle.wire_core.specs.Fates.{Word, Came, Served, Refused, Other, fate_after, is_take_at, is_vain_at, noes_at}
use Rattle.wire_core.proofs.Fating.{fate_more, noes_more}
use Rattle.wire_core.proofs.Readings.{and_true, and_no_left, and_no_right, at_here, both_true, take_at_here, no_take_at, gives, stays, moved_here, moved_not}
use Rattle.serial_virt.specs.declared.rx.SerialVirtRx.{SerialVirtRx}
use Rattle.serial_virt.specs.Shares.{Taker, policy_at, is_put, is_put_at, byte_told, heard, came_to, serial_word, byte_fate, ClientStands}
use Rattle.serial_virt.specs.Receiving.{RxStandsFor, RxRow, owed_to, loaded_with, loaded_for, clients_of, policy_of, taker_of}
use Rattle.serial_virt.proofs.Loads.{put_all, put_none}
use Rattle.serial_virt.proofs.Taking.{came_client, served_client, refused_client, hold_client, held_client}

pub few_load : (load : Option Cargo) → length (option_to_list load) ≤ 1
few_load None = omega arith
few_load (Some c) = omega arith

-- one call more of a client
pub client_more : (rx : ℕ) (t : Taker) (calls : List Event) (e : Event) (w : Word) (n : ℕ) (input : List ℕ) (sent owed : List Cargo) → serial_word rx t calls e ≡ w → bit (is_vain_at Producer t.queue e) ≡ n
    → ClientStands t.drops (fate_after (byte_fate rx t calls) w) (noes_at Producer t.queue calls + n) input sent owed → ClientStands t.drops (byte_fate rx t (calls ++ e ∷ [])) (noes_at Producer t.queue (calls ++ e ∷ [])) input sent owed
client_more rx t calls e w n input sent owed is vain h =
    let f : byte_fate rx t (calls ++ e ∷ []) ≡ fate_after (byte_fate rx t calls) w = fate_more (serial_word rx t) calls e ∙ ap (fate_after (byte_fate rx t calls)) is in
    let m : noes_at Producer t.queue (calls ++ e ∷ []) ≡ noes_at Producer t.queue calls + n = noes_more Producer t.queue calls e ∙ ap (λ x. noes_at Producer t.queue calls + x) vain in
    subst (λ g. ClientStands t.drops g (noes_at Producer t.queue (calls ++ e ∷ [])) input sent owed) (sym f) (subst (λ k. ClientStands t.drops (fate_after (byte_fate rx t calls) w) k input sent owed) (sym m) h)

word_by : (rx : ℕ) (t : Taker) (bs : List Event) (e : Event) (a p v : Bool) → is_take_at rx e ≡ a → is_put_at t.queue e ≡ p → (t.drops && is_vain_at Producer t.queue e) ≡ v
    → serial_word rx t bs e ≡ cond a (cond (nat_lt (length (came_to rx t bs)) (length (came_to rx t (bs ++ e ∷ [])))) Came Other) (cond p Served (cond v Refused Other))
word_by rx t bs e a p v ea ep ev = rw (ea, ep, ev) refl

-- a consumer puts nothing, and doesn't look for room
takes_no_put : (o : Op) → role_of o ≡ Consumer → is_put o ≡ false
takes_no_put Do.See r = refl
takes_no_put Do.Room r = refl
takes_no_put Do.Take r = refl
takes_no_put Do.Put r = cc
takes_no_put (Do.Ask s) r = refl
takes_no_put (Do.Waive s) r = refl
takes_no_put (Do.Wake s) r = refl
takes_no_put (Do.Wanted s) r = refl
takes_no_put (Do.Settle s) r = refl
takes_no_put (Do.Ring s) r = refl
takes_no_put (Do.Store w v) r = refl

role_not : (r : Role) → r ≡ Consumer → is_role r Producer ≡ false
role_not r e = rw e refl

role_is : (r : Role) → r ≡ Producer → is_role r Producer ≡ true
role_is r e = rw e refl

vain_in : (n : ℕ) (e : Event) → role_of e.op ≡ Consumer → is_vain_at Producer n e ≡ false
vain_in n e r = and_no_right (is_vain_look e.op e.answer) (is_role (role_of e.op) Producer && (e.queue.0 == n)) (and_no_left (is_role (role_of e.op) Producer) (e.queue.0 == n) (role_not (role_of e.op) r))

vain_away : (n : ℕ) (e : Event) → (e.queue.0 ≡ n → ⊥) → is_vain_at Producer n e ≡ false
vain_away n e q = and_no_right (is_vain_look e.op e.answer) (is_role (role_of e.op) Producer && (e.queue.0 == n)) (and_no_right (is_role (role_of e.op) Producer) (e.queue.0 == n) (ne_eqb e.queue.0 n q))

vain_there : (n : ℕ) (e : Event) → e.queue.0 ≡ n → role_of e.op ≡ Producer → is_vain_look e.op e.answer ≡ true → is_vain_at Producer n e ≡ true
vain_there n e q r v = and_true (is_vain_look e.op e.answer) (is_role (role_of e.op) Producer && (e.queue.0 == n)) v (and_true (is_role (role_of e.op) Producer) (e.queue.0 == n) (role_is (role_of e.op) r) (at_here e.queue.0 n q))

pub bytes_carried-append : (xs ys : List Cargo) → bytes_carried (xs ++ ys) ≡ bytes_carried xs ++ bytes_carried ys
bytes_carried-append xs ys = flat_map-append (λ c. byte_of c.0) xs ys

-- what was heard, with one call more
heard_more : (rx : ℕ) (calls : List Event) (e : Event) (x : List ℕ) → cond (is_take_at rx e) (byte_told e.item) [] ≡ x → heard rx (calls ++ e ∷ []) ≡ heard rx calls ++ x
heard_more rx calls e x is = flat_map-append (λ (d : Event). cond (is_take_at rx d) (byte_told d.item) []) calls (e ∷ []) ∙ ap (λ y. heard rx calls ++ y) (append-nil (cond (is_take_at rx e) (byte_told e.item) []) ∙ is)

no_bytes : (b : Bool) → cond b (byte_told None) [] ≡ []
no_bytes true = refl
no_bytes false = refl

told_of : (rx : ℕ) (e : Event) (came : Option Cargo) → e.queue.0 ≡ rx → (IsSome came ↔ (e.op ≡ Do.Take)) → e.item ≡ option_map (λ c. c.0) came → cond (is_take_at rx e) (byte_told e.item) [] ≡ bytes_carried (option_to_list came)
told_of rx e None q iff item = ap (λ i. cond (is_take_at rx e) (byte_told i) []) item ∙ no_bytes (is_take_at rx e)
told_of rx e (Some c) q iff item = ap (λ b. cond b (byte_told e.item) []) (take_at_here rx e q (iff.0 refl)) ∙ (ap byte_told item ∙ sym (append-nil (byte_of c.0)))

-- an entry comes, and a byte is given, only where nothing is owed
pub free_load : (load came : Option Cargo) (given : Option (ℕ × ℕ)) (need : Bool) → is_some load ≡ not need → (IsSome came → need ≡ true) → (came ≡ None → given ≡ None) → (g : ℕ × ℕ) → given ≡ Some g → load ≡ None
free_load load None given need e f none g is = let no_such : given ≡ None = none refl in cc
free_load None (Some x) given need e f none g is = refl
free_load (Some y) (Some x) given need e f none g is = let n : need ≡ true = f refl in let no_such : is_some (Some y) ≡ not true = e ∙ ap not n in cc

owner_there : (n to : ℕ) (load : Option Cargo) (given : Option (ℕ × ℕ)) → (is_some load ≡ true → to < n) → IfSome given (λ g. g.0 < n) → is_some (loaded_with load given) ≡ true → loaded_for to given < n
owner_there n to load None there known some = there some
owner_there n to load (Some g) there known some = known

if_none : (b : Bool) (c : List Cargo) → c ≡ [] → (if b then c else []) ≡ []
if_none true c h = h
if_none false c h = refl

if_there_none : (b : Bool) (x : List Cargo) → x ≡ [] → if_there b x ≡ []
if_there_none true x h = h
if_there_none false x h = refl

nothing_owed : (b : Bool) (c : List Cargo) → c ≡ [] → (if b then c else []) ≡ []
nothing_owed true c h = h
nothing_owed false c h = refl

owed_byte : (b : Bool) (x : ℕ) → (if b then byte_cargo x ∷ [] else []) ≡ map byte_cargo (if b then x ∷ [] else [])
owed_byte true x = refl
owed_byte false x = refl

-- what the switch gives is owed where nothing was
pub shared : (n k : ℕ) (bytes more : List ℕ) (s : List Cargo) (load : Option Cargo) (to : ℕ) (given : Option (ℕ × ℕ)) → ((g : ℕ × ℕ) → given ≡ Some g → load ≡ None) → input_of n k (bytes ++ more) ≡ input_of n k bytes ++ given_to k given
    → s ++ owed_to load to k ≡ map byte_cargo (input_of n k bytes) → s ++ owed_to (loaded_with load given) (loaded_for to given) k ≡ map byte_cargo (input_of n k (bytes ++ more))
shared n k bytes more s load to None free e h = h ∙ ap (map byte_cargo) (sym (e ∙ append-nil (input_of n k bytes)))
shared n k bytes more s load to (Some g) free e h =
    let none : load ≡ None = free g refl in
    let before : s ≡ map byte_cargo (input_of n k bytes) = sym (ap (λ c. s ++ c) (nothing_owed (to == k) (option_to_list load) (ap option_to_list none)) ∙ append-nil s) ∙ h in
    ap (λ c. s ++ c) (owed_byte (g.0 == k) g.1) ∙ (ap (λ c. c ++ map byte_cargo (given_to k (Some g))) before ∙ (sym (map-append byte_cargo (input_of n k bytes) (given_to k (Some g))) ∙ ap (map byte_cargo) (sym e)))

-- what a call at the input is to a client that was given this
module _ (rx : ℕ) (t : Taker) (calls : List Event) (e : Event) (bytes more : List ℕ) (came : Option Cargo) (given : Option (ℕ × ℕ)) (on : e.queue.0 ≡ rx) (role : role_of e.op ≡ Consumer) (iff : IsSome came ↔ (e.op ≡ Do.Take))
    (drops : t.drops ≡ true) (told : heard rx calls ≡ bytes) (now : heard rx (calls ++ e ∷ []) ≡ bytes ++ more) (gives_it : input_of t.clients t.client (bytes ++ more) ≡ input_of t.clients t.client bytes ++ given_to t.client given) (none : came ≡ None → given ≡ None) where
  put_not : is_put_at t.queue e ≡ false
  put_not = and_no_left (is_put e.op) (e.queue.0 == t.queue) (takes_no_put e.op role)

  refused_not : (t.drops && is_vain_at Producer t.queue e) ≡ false
  refused_not = and_no_right t.drops (is_vain_at Producer t.queue e) (vain_in t.queue e role)

  longer : (xs : List ℕ) → given_to t.client given ≡ xs → nat_lt (length (came_to rx t calls)) (length (came_to rx t (calls ++ e ∷ []))) ≡ nat_lt (length (input_of t.clients t.client bytes)) (length (input_of t.clients t.client bytes ++ xs))
  longer xs is = ap (λ b. nat_lt (length (input_of t.clients t.client b)) (length (came_to rx t (calls ++ e ∷ [])))) told ∙ ap (λ b. nat_lt (length (input_of t.clients t.client bytes)) (length b)) (ap (input_of t.clients t.client) now ∙ (gives_it ∙ ap (λ x. input_of t.clients t.client bytes ++ x) is))

  is_given : (x : ℕ) → given_to t.client given ≡ x ∷ [] → serial_word rx t calls e ≡ Came
  is_given x is = by came refl
    where
      by : (o : Option Cargo) → came ≡ o → serial_word rx t calls e ≡ Came
      by None c = let no : [] ≡ x ∷ [] = sym (ap (given_to t.client) (none c)) ∙ is in absurd cc
      by (Some y) c =
          let n = length-append (input_of t.clients t.client bytes) (x ∷ []) in
          word_by rx t calls e true false false (take_at_here rx e on (iff.0 (subst (λ o. IsSome o) (sym c) refl))) put_not refused_not ∙ ap (λ b. cond b Came Other) (longer (x ∷ []) is ∙ lt-ltb (length (input_of t.clients t.client bytes)) (length (input_of t.clients t.client bytes ++ x ∷ [])) (omega (arith, n)))

  not_given : given_to t.client given ≡ [] → serial_word rx t calls e ≡ Other
  not_given is = by (is_take_at rx e) refl
    where
      by : (b : Bool) → is_take_at rx e ≡ b → serial_word rx t calls e ≡ Other
      by false a = word_by rx t calls e false false false a put_not refused_not
      by true a =
          let n = ap length (append-nil (input_of t.clients t.client bytes)) in
          word_by rx t calls e true false false a put_not refused_not ∙ ap (λ b. cond b Came Other) (longer [] is ∙ le-ltb (length (input_of t.clients t.client bytes)) (length (input_of t.clients t.client bytes ++ [])) (omega (arith, n)))

  -- what is given to it is owed to it
  pub given_client : (load : Option Cargo) (to : ℕ) (sent : List Cargo) → ((g : ℕ × ℕ) → given ≡ Some g → load ≡ None)
      → ClientStands t.drops (byte_fate rx t calls) (noes_at Producer t.queue calls) (input_of t.clients t.client bytes) sent (owed_to load to t.client)
      → ClientStands t.drops (byte_fate rx t (calls ++ e ∷ [])) (noes_at Producer t.queue (calls ++ e ∷ [])) (input_of t.clients t.client (bytes ++ more)) sent (owed_to (loaded_with load given) (loaded_for to given) t.client)
  given_client load to sent free h = rw gives_it (by given refl)
    where
      vain : bit (is_vain_at Producer t.queue e) ≡ 0
      vain = ap bit (vain_in t.queue e role)

      plain : given_to t.client given ≡ [] → (owed : List Cargo) → ClientStands t.drops (byte_fate rx t calls) (noes_at Producer t.queue calls) (input_of t.clients t.client bytes) sent owed → ClientStands t.drops (byte_fate rx t (calls ++ e ∷ [])) (noes_at Producer t.queue (calls ++ e ∷ [])) (input_of t.clients t.client bytes ++ given_to t.client given) sent owed
      plain is owed g = client_more rx t calls e Other 0 (input_of t.clients t.client bytes ++ given_to t.client given) sent owed (not_given is) vain
          (subst (λ i. ClientStands t.drops (byte_fate rx t calls) (noes_at Producer t.queue calls + 0) i sent owed) (sym (ap (λ x. input_of t.clients t.client bytes ++ x) is ∙ append-nil (input_of t.clients t.client bytes))) (subst (λ n. ClientStands t.drops (byte_fate rx t calls) n (input_of t.clients t.client bytes) sent owed) (plus0 (noes_at Producer t.queue calls)) g))
        where
          plus0 : (n : ℕ) → n ≡ n + 0
          plus0 n = omega arith

      by : (o : Option (ℕ × ℕ)) → given ≡ o → ClientStands t.drops (byte_fate rx t (calls ++ e ∷ [])) (noes_at Producer t.queue (calls ++ e ∷ [])) (input_of t.clients t.client bytes ++ given_to t.client given) sent (owed_to (loaded_with load o) (loaded_for to o) t.client)
      by None is = plain (ap (given_to t.client) is) (owed_to load to t.client) h
      by (Some g) is = at (g.0 == t.client) refl
        where
          owed_none : owed_to load to t.client ≡ []
          owed_none = if_none (to == t.client) (option_to_list load) (ap option_to_list (free g is))

          h' : ClientStands t.drops (byte_fate rx t calls) (noes_at Producer t.queue calls) (input_of t.clients t.client bytes) sent []
          h' = subst (λ o. ClientStands t.drops (byte_fate rx t calls) (noes_at Producer t.queue calls) (input_of t.clients t.client bytes) sent o) owed_none h

          plus0 : (n : ℕ) → n ≡ n + 0
          plus0 n = omega arith

          at : (b : Bool) → (g.0 == t.client) ≡ b → ClientStands t.drops (byte_fate rx t (calls ++ e ∷ [])) (noes_at Producer t.queue (calls ++ e ∷ [])) (input_of t.clients t.client bytes ++ given_to t.client given) sent (if g.0 == t.client then byte_cargo g.1 ∷ [] else [])
          at true c =
              let one : given_to t.client given ≡ g.1 ∷ [] = ap (given_to t.client) is ∙ ap (λ b. if b then g.1 ∷ [] else []) c in
              rw (one, c) (client_more rx t calls e Came 0 (input_of t.clients t.client bytes ++ g.1 ∷ []) sent (byte_cargo g.1 ∷ []) (is_given g.1 one) vain
              (subst (λ n. ClientStands t.drops (fate_after (byte_fate rx t calls) Came) n (input_of t.clients t.client bytes ++ g.1 ∷ []) sent (byte_cargo g.1 ∷ [])) (plus0 (noes_at Producer t.queue calls)) (came_client t.drops drops (byte_fate rx t calls) (noes_at Producer t.queue calls) (input_of t.clients t.client bytes) sent g.1 h')))
          at false c =
              let no : given_to t.client given ≡ [] = ap (given_to t.client) is ∙ ap (λ b. if b then g.1 ∷ [] else []) c in
              rw c (plain no [] h')

-- what a call where bytes go is to a client
module _ (rx : ℕ) (t : Taker) (calls : List Event) (e : Event) (role : role_of e.op ≡ Producer) (input : List ℕ) (sent : List Cargo) where
  take_not : is_take_at rx e ≡ false
  take_not = no_take_at rx e (gives e.op role)

  heard_same : heard rx (calls ++ e ∷ []) ≡ heard rx calls
  heard_same = heard_more rx calls e [] (ap (λ b. cond b (byte_told e.item) []) take_not) ∙ append-nil (heard rx calls)

  more0 : (n : ℕ) → n ≡ n + 0
  more0 n = omega arith

  pub put_client : (c : Cargo) → e.queue.0 ≡ t.queue → e.op ≡ Do.Put → ClientStands t.drops (byte_fate rx t calls) (noes_at Producer t.queue calls) input sent (c ∷ []) → ClientStands t.drops (byte_fate rx t (calls ++ e ∷ [])) (noes_at Producer t.queue (calls ++ e ∷ [])) input (sent ++ c ∷ []) []
  put_client c on op h = client_more rx t calls e Served 0 input (sent ++ c ∷ []) []
      (word_by rx t calls e false true _ take_not (and_true (is_put e.op) (e.queue.0 == t.queue) (ap is_put op) (at_here e.queue.0 t.queue on)) refl)
      (ap bit (and_no_left (is_vain_look e.op e.answer) (is_role (role_of e.op) Producer && (e.queue.0 == t.queue)) (ap (λ o. is_vain_look o e.answer) op)))
      (subst (λ n. ClientStands t.drops (fate_after (byte_fate rx t calls) Served) n input (sent ++ c ∷ []) []) (more0 (noes_at Producer t.queue calls)) (served_client t.drops (byte_fate rx t calls) (noes_at Producer t.queue calls) input sent c h))

  pub drop_client : (c : Cargo) → e.queue.0 ≡ t.queue → (t.drops && is_vain_look e.op e.answer) ≡ true → is_put e.op ≡ false → ClientStands t.drops (byte_fate rx t calls) (noes_at Producer t.queue calls) input sent (c ∷ []) → ClientStands t.drops (byte_fate rx t (calls ++ e ∷ [])) (noes_at Producer t.queue (calls ++ e ∷ [])) input sent []
  drop_client c on vain not h =
      let b = both_true t.drops (is_vain_look e.op e.answer) vain in
      let v = vain_there t.queue e on role b.1 in
      client_more rx t calls e Refused 1 input sent []
      (word_by rx t calls e false false true take_not (and_no_left (is_put e.op) (e.queue.0 == t.queue) not) (and_true t.drops (is_vain_at Producer t.queue e) b.0 v))
      (ap bit v)
      (refused_client t.drops b.0 (byte_fate rx t calls) (noes_at Producer t.queue calls) input sent c h)

  pub still_client : (owed : List Cargo) → is_put_at t.queue e ≡ false → (t.drops ≡ true → is_vain_at Producer t.queue e ≡ false) → ClientStands t.drops (byte_fate rx t calls) (noes_at Producer t.queue calls) input sent owed → ClientStands t.drops (byte_fate rx t (calls ++ e ∷ [])) (noes_at Producer t.queue (calls ++ e ∷ [])) input sent owed
  still_client owed put vain h = by t.drops refl
    where
      word : (t.drops && is_vain_at Producer t.queue e) ≡ false → serial_word rx t calls e ≡ Other
      word v = word_by rx t calls e false false false take_not put v

      fate : serial_word rx t calls e ≡ Other → byte_fate rx t (calls ++ e ∷ []) ≡ byte_fate rx t calls
      fate w = fate_more (serial_word rx t) calls e ∙ ap (fate_after (byte_fate rx t calls)) w

      by : (d : Bool) → t.drops ≡ d → ClientStands t.drops (byte_fate rx t (calls ++ e ∷ [])) (noes_at Producer t.queue (calls ++ e ∷ [])) input sent owed
      by true on =
          client_more rx t calls e Other 0 input sent owed (word (and_no_right t.drops (is_vain_at Producer t.queue e) (vain on))) (ap bit (vain on)) (subst (λ n. ClientStands t.drops (byte_fate rx t calls) n input sent owed) (more0 (noes_at Producer t.queue calls)) h)
      by false on =
          subst (λ f. ClientStands t.drops f (noes_at Producer t.queue (calls ++ e ∷ [])) input sent owed) (sym (fate (word (and_no_left t.drops (is_vain_at Producer t.queue e) on))))
          (record { given = h.given; tells = λ yes. let no : true ≡ false = sym yes ∙ on in absurd cc })

-- a step of the input
module _ (old new : SerialVirtRx) (passed : Passed) (took put : Lists) (e : Event) (came : Option Cargo) (given : Option (ℕ × ℕ))
    (outputs : new.outputs ≡ old.outputs) (input : new.input.queue ≡ old.input.queue) (policies : new.drops.items ≡ old.drops.items) (load : new.load ≡ loaded_with old.load given) (to : new.to ≡ loaded_for old.to given)
    (on : e.queue.0 ≡ old.input.queue.0) (role : role_of e.op ≡ Consumer) (iff : IsSome came ↔ (e.op ≡ Do.Take)) (item : e.item ≡ option_map (λ c. c.0) came)
    (after : (clients : ℕ) (bytes : List ℕ) → StandsAfter clients bytes old.switch → StandsAfter clients (bytes ++ bytes_carried (option_to_list came)) new.switch)
    (gives_it : (clients : ℕ) (bytes : List ℕ) → StandsAfter clients bytes old.switch → (client : ℕ) → input_of clients client (bytes ++ bytes_carried (option_to_list came)) ≡ input_of clients client bytes ++ given_to client given)
    (known : (clients : ℕ) (bytes : List ℕ) → StandsAfter clients bytes old.switch → IfSome given (λ g. g.0 < clients)) (none : came ≡ None → given ≡ None)
    (free : (g : ℕ × ℕ) → given ≡ Some g → old.load ≡ None)
    (takes : (n : ℕ) → took n ≡ if_there (old.input.queue.0 == n) (option_to_list came)) (puts : (n : ℕ) → put n ≡ []) (h : RxStandsFor old passed) where
  abbrev rx : ℕ
  rx = old.input.queue.0

  abbrev bytes : List ℕ
  bytes = bytes_carried (passed.taken rx)

  abbrev more : List ℕ
  more = bytes_carried (option_to_list came)

  bytes_now : bytes_carried (with passed.taken took rx) ≡ bytes ++ more
  bytes_now = bytes_carried-append (passed.taken rx) (took rx) ∙ ap (λ c. bytes ++ bytes_carried c) (moved_here took rx (option_to_list came) takes)

  heard_now : heard rx passed.calls ≡ bytes → heard rx (passed.calls ++ e ∷ []) ≡ bytes ++ more
  heard_now told = heard_more rx passed.calls e more (told_of rx e came on iff item) ∙ ap (λ b. b ++ more) told

  client_now : (k : ℕ) (q : QueueId) → slice_get (outlet_queues old.outputs) k ≡ Some q → ClientStands (policy_of old k) (byte_fate rx (taker_of old k q) (passed.calls ++ e ∷ [])) (noes_at Producer q.0 (passed.calls ++ e ∷ [])) (input_of (clients_of old) k (bytes ++ more)) (passed.sent q.0) (owed_to (loaded_with old.load given) (loaded_for old.to given) k)
  client_now k q at = by (policy_of old k) refl
    where
      by : (b : Bool) → policy_of old k ≡ b → ClientStands (policy_of old k) (byte_fate rx (taker_of old k q) (passed.calls ++ e ∷ [])) (noes_at Producer q.0 (passed.calls ++ e ∷ [])) (input_of (clients_of old) k (bytes ++ more)) (passed.sent q.0) (owed_to (loaded_with old.load given) (loaded_for old.to given) k)
      by true drops = given_client rx (taker_of old k q) passed.calls e bytes more came given on role iff drops (h.told k drops) (heard_now (h.told k drops)) (gives_it (clients_of old) bytes h.switched k) none old.load old.to (passed.sent q.0) free (h.clients k q at)
      by false hold = hold_client rx (taker_of old k q) hold (passed.calls ++ e ∷ []) (noes_at Producer q.0 (passed.calls ++ e ∷ [])) (input_of (clients_of old) k (bytes ++ more)) (passed.sent q.0) (owed_to (loaded_with old.load given) (loaded_for old.to given) k)
          (shared (clients_of old) k bytes more (passed.sent q.0) old.load old.to given free (gives_it (clients_of old) bytes h.switched k) (held_client rx (taker_of old k q) hold passed.calls (noes_at Producer q.0 passed.calls) (input_of (clients_of old) k bytes) (passed.sent q.0) (owed_to old.load old.to k) (h.clients k q at)))

  pub rx_takes : RxStandsFor new (record { taken = with passed.taken took; sent = with passed.sent put; calls = passed.calls ++ e ∷ [] })
  rx_takes = record {
    switched = rw (outputs, input, bytes_now) (after (clients_of old) bytes h.switched);
    to = λ some. rw (outputs, to) (owner_there (clients_of old) old.to old.load given h.to (known (clients_of old) bytes h.switched) (sym (ap is_some load) ∙ some));
    told = λ k drops. rw (input, bytes_now) (heard_now (h.told k (sym (ap (λ ds. policy_at ds k) policies) ∙ drops)));
    clients = λ k q at. rw (outputs, input, policies, load, to, bytes_now, puts q.0, append-nil (passed.sent q.0)) (client_now k q (ap (λ (o : Outlets). slice_get (outlet_queues o) k) (sym outputs) ∙ at));
  }

-- a step of an output
module _ (old new : SerialVirtRx) (passed : Passed) (took put : Lists) (e : Event) (k : ℕ) (q : QueueId) (p : Option Cargo)
    (queues : outlet_queues new.outputs ≡ outlet_queues old.outputs) (input : new.input ≡ old.input) (switch : new.switch ≡ old.switch) (to : new.to ≡ old.to) (policies : new.drops.items ≡ old.drops.items)
    (at : slice_get (outlet_queues old.outputs) k ≡ Some q) (on : e.queue ≡ q) (role : role_of e.op ≡ Producer) (apart : AreApart (outlet_queues old.outputs))
    (takes : (n : ℕ) → took n ≡ []) (puts : (n : ℕ) → put n ≡ if_there (e.queue.0 == n) (option_to_list p)) (h : RxStandsFor old passed) where
  abbrev rx' : ℕ
  rx' = old.input.queue.0

  abbrev bytes' : List ℕ
  bytes' = bytes_carried (passed.taken rx')

  -- of each client, where what is owed is this now
  abbrev Each : Option Cargo → Type 0
  Each l = (j : ℕ) (q' : QueueId) → slice_get (outlet_queues old.outputs) j ≡ Some q' → ClientStands (policy_of old j) (byte_fate rx' (taker_of old j q') (passed.calls ++ e ∷ [])) (noes_at Producer q'.0 (passed.calls ++ e ∷ [])) (input_of (clients_of old) j bytes') (passed.sent q'.0 ++ put q'.0) (owed_to l old.to j)

  closed : (l : Option Cargo) → new.load ≡ l → (is_some l ≡ true → is_some old.load ≡ true) → Each l → RxStandsFor new (record { taken = with passed.taken took; sent = with passed.sent put; calls = passed.calls ++ e ∷ [] })
  closed l load there each = record {
    switched = rw (queues, input, switch, takes rx', append-nil (passed.taken rx')) h.switched;
    to = λ some. rw (queues, to) (h.to (there (sym (ap is_some load) ∙ some)));
    told = λ j drops. rw (input, takes rx', append-nil (passed.taken rx')) (heard_same rx' (taker_of old k q) passed.calls e role [] [] ∙ h.told j (sym (ap (λ ds. policy_at ds j) policies) ∙ drops));
    clients = λ j q' is. rw (queues, input, policies, load, to, takes rx', append-nil (passed.taken rx')) (each j q' (ap (λ qs. slice_get qs j) (sym queues) ∙ is));
  }

  away : (j : ℕ) (q' : QueueId) → slice_get (outlet_queues old.outputs) j ≡ Some q' → k ≢ j → e.queue.0 ≢ q'.0
  away j q' is ne same = ne (apart k j q q' at is (ap (λ x. x.0) (sym on) ∙ same))

  -- the other clients
  beside : (j : ℕ) (q' : QueueId) → slice_get (outlet_queues old.outputs) j ≡ Some q' → k ≢ j → (owed : List Cargo) → owed_to old.load old.to j ≡ owed → ClientStands (policy_of old j) (byte_fate rx' (taker_of old j q') (passed.calls ++ e ∷ [])) (noes_at Producer q'.0 (passed.calls ++ e ∷ [])) (input_of (clients_of old) j bytes') (passed.sent q'.0 ++ put q'.0) owed
  beside j q' is ne owed same =
      let a = away j q' is ne in
      let none : put q'.0 ≡ [] = moved_not put e.queue.0 q'.0 (option_to_list p) a puts in
      rw (none, append-nil (passed.sent q'.0)) (still_client rx' (taker_of old j q') passed.calls e role (input_of (clients_of old) j bytes') (passed.sent q'.0) owed (and_no_right (is_put e.op) (e.queue.0 == q'.0) (ne_eqb e.queue.0 q'.0 a)) (λ o. vain_away q'.0 e a)
      (subst (λ o. ClientStands (policy_of old j) (byte_fate rx' (taker_of old j q') passed.calls) (noes_at Producer q'.0 passed.calls) (input_of (clients_of old) j bytes') (passed.sent q'.0) o) same (h.clients j q' is)))

  some_q : {a b : QueueId} → Some a ≡ Some b → a ≡ b
  some_q x = cc

  -- what is owed to this client, and to another
  module _ (c : Cargo) (l' : Option Cargo) (loaded : old.load ≡ Some c) (none : l' ≡ None) (is : k ≡ old.to) where
    mine : (j : ℕ) → k ≡ j → owed_to old.load old.to j ≡ c ∷ []
    mine j same = ap (λ b. if b then option_to_list old.load else []) (at_here old.to j (sym is ∙ same)) ∙ ap option_to_list loaded

    left : (j : ℕ) → owed_to l' old.to j ≡ []
    left j = if_none (old.to == j) (option_to_list l') (ap option_to_list none)

    others : (j : ℕ) → k ≢ j → owed_to old.load old.to j ≡ []
    others j ne = ap (λ b. if b then option_to_list old.load else []) (ne_eqb old.to j (λ s. ne (is ∙ s)))

    here_first : (j : ℕ) (q' : QueueId) → slice_get (outlet_queues old.outputs) j ≡ Some q' → k ≡ j → ClientStands (policy_of old j) (byte_fate rx' (taker_of old j q') passed.calls) (noes_at Producer q'.0 passed.calls) (input_of (clients_of old) j bytes') (passed.sent q'.0) (c ∷ [])
    here_first j q' there same = subst (λ o. ClientStands (policy_of old j) (byte_fate rx' (taker_of old j q') passed.calls) (noes_at Producer q'.0 passed.calls) (input_of (clients_of old) j bytes') (passed.sent q'.0) o) (mine j same) (h.clients j q' there)

    on_it : (j : ℕ) (q' : QueueId) → slice_get (outlet_queues old.outputs) j ≡ Some q' → k ≡ j → e.queue.0 ≡ q'.0
    on_it j q' there same = ap (λ x. x.0) (on ∙ some_q (sym at ∙ (ap (slice_get (outlet_queues old.outputs)) same ∙ there)))

    -- it was put
    pub byte_put : p ≡ Some c → e.op ≡ Do.Put → new.load ≡ l' → RxStandsFor new (record { taken = with passed.taken took; sent = with passed.sent put; calls = passed.calls ++ e ∷ [] })
    byte_put went op load = closed l' load (λ some. let no : is_some {T = Cargo} None ≡ true = sym (ap is_some none) ∙ some in absurd cc) (λ j q' there. by j q' there (eqb_tells k j))
      where
        by : (j : ℕ) (q' : QueueId) → slice_get (outlet_queues old.outputs) j ≡ Some q' → ((eqb k j ≡ true) × (k ≡ j)) ⊎ ((eqb k j ≡ false) × (k ≢ j)) → ClientStands (policy_of old j) (byte_fate rx' (taker_of old j q') (passed.calls ++ e ∷ [])) (noes_at Producer q'.0 (passed.calls ++ e ∷ [])) (input_of (clients_of old) j bytes') (passed.sent q'.0 ++ put q'.0) (owed_to l' old.to j)
        by j q' there (inr other) = rw (left j) (beside j q' there other.1 [] (others j other.1))
        by j q' there (inl same) =
            let o = on_it j q' there same.1 in
            let put_is : put q'.0 ≡ c ∷ [] = ap put (sym o) ∙ (moved_here put e.queue.0 (option_to_list p) puts ∙ ap option_to_list went) in
            rw (left j, put_is) (put_client rx' (taker_of old j q') passed.calls e role (input_of (clients_of old) j bytes') (passed.sent q'.0) c o op (here_first j q' there same.1))

    -- it was dropped
    pub byte_dropped : p ≡ None → (policy_of old k && is_vain_look e.op e.answer) ≡ true → is_put e.op ≡ false → new.load ≡ l' → RxStandsFor new (record { taken = with passed.taken took; sent = with passed.sent put; calls = passed.calls ++ e ∷ [] })
    byte_dropped went vain not load = closed l' load (λ some. let no : is_some {T = Cargo} None ≡ true = sym (ap is_some none) ∙ some in absurd cc) (λ j q' there. by j q' there (eqb_tells k j))
      where
        by : (j : ℕ) (q' : QueueId) → slice_get (outlet_queues old.outputs) j ≡ Some q' → ((eqb k j ≡ true) × (k ≡ j)) ⊎ ((eqb k j ≡ false) × (k ≢ j)) → ClientStands (policy_of old j) (byte_fate rx' (taker_of old j q') (passed.calls ++ e ∷ [])) (noes_at Producer q'.0 (passed.calls ++ e ∷ [])) (input_of (clients_of old) j bytes') (passed.sent q'.0 ++ put q'.0) (owed_to l' old.to j)
        by j q' there (inr other) = rw (left j) (beside j q' there other.1 [] (others j other.1))
        by j q' there (inl same) =
            let o = on_it j q' there same.1 in
            let put_is : put q'.0 ≡ [] = ap put (sym o) ∙ (moved_here put e.queue.0 (option_to_list p) puts ∙ ap option_to_list went) in
            rw (left j, put_is, append-nil (passed.sent q'.0)) (drop_client rx' (taker_of old j q') passed.calls e role (input_of (clients_of old) j bytes') (passed.sent q'.0) c o (ap (λ n. policy_of old n && is_vain_look e.op e.answer) (sym same.1) ∙ vain) not (here_first j q' there same.1))

  -- nothing was put or dropped
  pub byte_stays : p ≡ None → is_put e.op ≡ false → (policy_of old k && is_vain_look e.op e.answer) ≡ false → new.load ≡ old.load → RxStandsFor new (record { taken = with passed.taken took; sent = with passed.sent put; calls = passed.calls ++ e ∷ [] })
  byte_stays went not vain load = closed old.load load (λ some. some) (λ j q' there. by j q' there (eqb_tells k j))
    where
      by : (j : ℕ) (q' : QueueId) → slice_get (outlet_queues old.outputs) j ≡ Some q' → ((eqb k j ≡ true) × (k ≡ j)) ⊎ ((eqb k j ≡ false) × (k ≢ j)) → ClientStands (policy_of old j) (byte_fate rx' (taker_of old j q') (passed.calls ++ e ∷ [])) (noes_at Producer q'.0 (passed.calls ++ e ∷ [])) (input_of (clients_of old) j bytes') (passed.sent q'.0 ++ put q'.0) (owed_to old.load old.to j)
      by j q' there (inr other) = beside j q' there other.1 (owed_to old.load old.to j) refl
      by j q' there (inl same) =
          let put_is : put q'.0 ≡ [] = puts q'.0 ∙ if_there_none (e.queue.0 == q'.0) (option_to_list p) (ap option_to_list went) in
          let drops_is : policy_of old j ≡ policy_of old k = ap (λ n. policy_of old n) (sym same.1) in
          rw (put_is, append-nil (passed.sent q'.0)) (still_client rx' (taker_of old j q') passed.calls e role (input_of (clients_of old) j bytes') (passed.sent q'.0) (owed_to old.load old.to j) (and_no_left (is_put e.op) (e.queue.0 == q'.0) not)
          (λ o. and_no_left (is_vain_look e.op e.answer) (is_role (role_of e.op) Producer && (e.queue.0 == q'.0)) (sym (ap (λ d. d && is_vain_look e.op e.answer) (sym drops_is ∙ o)) ∙ vain)) (h.clients j q' there))

-- no put where no item is told
pub no_put : (o : Op) (i : Option Item) → (IsSome i ↔ (o ≡ Do.Put)) → is_some i ≡ false → is_put o ≡ false
no_put Do.Put None iff e = let some : IsSome {T = Item} None = iff.1 refl in absurd cc
no_put Do.Put (Some i) iff e = cc
no_put Do.See i iff e = refl
no_put Do.Room i iff e = refl
no_put Do.Take i iff e = refl
no_put (Do.Ask s) i iff e = refl
no_put (Do.Waive s) i iff e = refl
no_put (Do.Wake s) i iff e = refl
no_put (Do.Wanted s) i iff e = refl
no_put (Do.Settle s) i iff e = refl
no_put (Do.Ring s) i iff e = refl
no_put (Do.Store w v) i iff e = refl

-- a step of an output that drops nothing: the byte was put, or stays
pub byte_out : (old new : SerialVirtRx) (passed : Passed) (took put : Lists) (e : Event) (k : ℕ) (q : QueueId) → outlet_queues new.outputs ≡ outlet_queues old.outputs → new.input ≡ old.input → new.switch ≡ old.switch → new.to ≡ old.to → new.drops.items ≡ old.drops.items
    → slice_get (outlet_queues old.outputs) k ≡ Some q → e.queue ≡ q → role_of e.op ≡ Producer → AreApart (outlet_queues old.outputs) → ((n : ℕ) → took n ≡ []) → ((n : ℕ) → put n ≡ if_there (e.queue.0 == n) (option_to_list (put_of e old.load))) → RxStandsFor old passed
    → k ≡ old.to → (IsSome e.item ↔ (e.op ≡ Do.Put)) → e.item ≡ option_map (λ c. c.0) (put_of e old.load) → option_to_list old.load ≡ option_to_list (put_of e old.load) ++ option_to_list new.load → (policy_of old k && is_vain_look e.op e.answer) ≡ false
    → RxStandsFor new (record { taken = with passed.taken took; sent = with passed.sent put; calls = passed.calls ++ e ∷ [] })
byte_out old new passed took put e k q queues input switch to policies at on role apart takes puts h is iff item parts vain = by (is_some e.item) refl
  where
    some_item : (i : Option Item) → is_some i ≡ true → IsSome i
    some_item None e = cc
    some_item (Some x) e = refl

    by : (b : Bool) → is_some e.item ≡ b → RxStandsFor new (record { taken = with passed.taken took; sent = with passed.sent put; calls = passed.calls ++ e ∷ [] })
    by true some =
        let p = put_all e old.load new.load item parts some in
        byte_put old new passed took put e k q (put_of e old.load) queues input switch to policies at on role apart takes puts h p.0 new.load p.1 p.3 is p.2 (iff.0 (some_item e.item some)) refl
    by false none =
        let p = put_none e old.load new.load parts none in
        byte_stays old new passed took put e k q (put_of e old.load) queues input switch to policies at on role apart takes puts h p.0 (no_put e.op e.item iff none) vain p.1

pub rx_row : (v : SerialVirtRx) (passed : Passed) → RxStandsFor v passed → RxRow v passed
rx_row v passed h = record {
  owner = v.to;
  owed = option_to_list v.load;
  few = few_load v.load;
  given = λ k q at. (h.clients k q at).given;
  settled = λ k q at on. let came = ((h.clients k q at).tells on).came in omega (arith, came);
  each = λ k q at on. ((h.clients k q at).tells on).each;
}
