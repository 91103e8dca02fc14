use Rattle.std.proofs.Common.{◌++◌, List, [], ◌∷◌, sym, subst, append_assoc}
use Rattle.std.proofs.lemmas.List.{append-nil}
use Rattle.wire_core.specs.declared.names.Entry.{Entry}
use Rattle.wire_core.specs.Journal.{EachFrom, EachMoment}

-- what holds at each moment holds at the last
last_from : (P : List Entry → Type 0) (before es : List Entry) → P before → EachFrom (λ b e. P (b ++ e ∷ [])) before es → P (before ++ es)
last_from P before [] now each = subst P (sym (append-nil before)) now
last_from P before (e ∷ es) now each = subst P (append_assoc before (e ∷ []) es) (last_from P (before ++ e ∷ []) es each.0 each.1)

pub last_moment : (P : List Entry → Type 0) (j : List Entry) → EachMoment P j → P j
last_moment P j each = last_from P [] j each.0 each.1

both_from : (P Q R : List Entry → Type 0) → ((j : List Entry) → P j → Q j → R j) → (before es : List Entry) → EachFrom (λ b e. P (b ++ e ∷ [])) before es → EachFrom (λ b e. Q (b ++ e ∷ [])) before es → EachFrom (λ b e. R (b ++ e ∷ [])) before es
both_from P Q R f before [] p q = tt
both_from P Q R f before (e ∷ es) p q = (f (before ++ e ∷ []) p.0 q.0, both_from P Q R f (before ++ e ∷ []) es p.1 q.1)

-- what follows from two facts at any moment follows from them at each
pub each_moment : (P Q R : List Entry → Type 0) → ((j : List Entry) → P j → Q j → R j) → (j : List Entry) → EachMoment P j → EachMoment Q j → EachMoment R j
each_moment P Q R f j p q = (f [] p.0 q.0, both_from P Q R f [] j p.1 q.1)
