use Rattle.std.proofs.Common.{◌≡◌, ◌==◌, ◌&&◌, ℕ, Bool, true, false, cond, List, refl, sym, ap, ◌∙◌}
use Rattle.std.proofs.lemmas.Bool.{ne_eqb}
use Rattle.wire_core.specs.declared.names.Event.{Event}
use Rattle.wire_core.specs.declared.names.Op.TheVariants as Do
use Rattle.wire_core.specs.Ends.{Consumer, Producer, role_of}
use Rattle.wire_core.specs.Marks.{is_vain_look, is_role}
use Rattle.wire_core.specs.Fates.{Came, Served, Refused, Other, is_take, is_take_at, is_vain_at}
use Rattle.wire_core.proofs.Readings.{at_here, and_true, and_no_right, and_no_left, both_true, role_here, role_there, vain_takes, gives}
use Rattle.net_copier.specs.Copying.{copier_word}

word_by : (drops : Bool) (la rf : ℕ) (bs : List Event) (e : Event) (a b v : Bool) → is_take_at la e ≡ a → is_take_at rf e ≡ b → (drops && is_vain_at Consumer rf e) ≡ v → copier_word drops la rf bs e ≡ cond a Came (cond b Served (cond v Refused Other))
word_by drops la rf bs e a b v ea eb ev = rw (ea, eb, ev) refl

pub word_came : (drops : Bool) (la rf : ℕ) (bs : List Event) (e : Event) → e.queue.0 ≡ la → e.op ≡ Do.Take → copier_word drops la rf bs e ≡ Came
word_came drops la rf bs e q o = word_by drops la rf bs e true _ _ (and_true (is_take e.op) (e.queue.0 == la) (ap is_take o) (at_here e.queue.0 la q)) refl refl

pub word_served : (drops : Bool) (la rf : ℕ) (bs : List Event) (e : Event) → (la ≡ rf → ⊥) → e.queue.0 ≡ rf → e.op ≡ Do.Take → copier_word drops la rf bs e ≡ Served
word_served drops la rf bs e apart q o = word_by drops la rf bs e false true _ (and_no_right (is_take e.op) (e.queue.0 == la) (ne_eqb e.queue.0 la (λ r. apart (sym r ∙ q)))) (and_true (is_take e.op) (e.queue.0 == rf) (ap is_take o) (at_here e.queue.0 rf q)) refl

pub word_refused : (drops : Bool) (la rf : ℕ) (bs : List Event) (e : Event) → e.queue.0 ≡ rf → role_of e.op ≡ Consumer → (drops && is_vain_look e.op e.answer) ≡ true → copier_word drops la rf bs e ≡ Refused
word_refused drops la rf bs e q r v =
    let b = both_true drops (is_vain_look e.op e.answer) v in
    let t = vain_takes e.op e.answer b.1 in
    word_by drops la rf bs e false false true (and_no_left (is_take e.op) (e.queue.0 == la) t) (and_no_left (is_take e.op) (e.queue.0 == rf) t)
    (and_true drops (is_vain_at Consumer rf e) b.0 (and_true (is_vain_look e.op e.answer) (is_role (role_of e.op) Consumer && (e.queue.0 == rf)) b.1 (and_true (is_role (role_of e.op) Consumer) (e.queue.0 == rf) (role_here (role_of e.op) r) (at_here e.queue.0 rf q))))

-- calls where entries go are none of these
pub word_out : (drops : Bool) (la rf : ℕ) (bs : List Event) (e : Event) → role_of e.op ≡ Producer → copier_word drops la rf bs e ≡ Other
word_out drops la rf bs e r =
    let t = gives e.op r in
    word_by drops la rf bs e false false false (and_no_left (is_take e.op) (e.queue.0 == la) t) (and_no_left (is_take e.op) (e.queue.0 == rf) t)
    (and_no_right drops (is_vain_at Consumer rf e) (and_no_right (is_vain_look e.op e.answer) (is_role (role_of e.op) Consumer && (e.queue.0 == rf)) (and_no_left (is_role (role_of e.op) Consumer) (e.queue.0 == rf) (role_there (role_of e.op) r))))

-- nor calls where leases come that take none
pub word_in : (drops : Bool) (la rf : ℕ) (bs : List Event) (e : Event) → (la ≡ rf → ⊥) → e.queue.0 ≡ la → is_take e.op ≡ false → copier_word drops la rf bs e ≡ Other
word_in drops la rf bs e apart q t = word_by drops la rf bs e false false false (and_no_left (is_take e.op) (e.queue.0 == la) t) (and_no_left (is_take e.op) (e.queue.0 == rf) t)
    (and_no_right drops (is_vain_at Consumer rf e) (and_no_right (is_vain_look e.op e.answer) (is_role (role_of e.op) Consumer && (e.queue.0 == rf)) (and_no_right (is_role (role_of e.op) Consumer) (e.queue.0 == rf) (ne_eqb e.queue.0 rf (λ r. apart (sym q ∙ r))))))

-- nor calls where buffers come that take none and are no drop
pub word_still : (drops : Bool) (la rf : ℕ) (bs : List Event) (e : Event) → is_take e.op ≡ false → (drops && is_vain_look e.op e.answer) ≡ false → copier_word drops la rf bs e ≡ Other
word_still drops la rf bs e t v = word_by drops la rf bs e false false false (and_no_left (is_take e.op) (e.queue.0 == la) t) (and_no_left (is_take e.op) (e.queue.0 == rf) t) (no drops (is_vain_look e.op e.answer) (is_role (role_of e.op) Consumer && (e.queue.0 == rf)) v)
  where
    no : (d v r : Bool) → (d && v) ≡ false → (d && (v && r)) ≡ false
    no false v r h = refl
    no true true r h = cc
    no true false r h = refl
