use Rattle.std.proofs.Common.{◌≡◌, ℕ, zero, suc, ◌+◌, ◌-◌, ◌<◌, ◌≤◌, List, [], ◌∷◌, ◌++◌, length, drop, get_or, codes, refl, sym, ◌∙◌, ap, arith, add-one, sub-one, append_assoc, drop-cons}
use Rattle.picture_kit.specs.declared.xml_text.tag.Tag.{Tag}
use Rattle.picture_kit.specs.XmlText.Spelling.{indent, line_text, lines_text, depth_before, depth_behind}

-- a loop writes the first of the spaces that are left
indent-first : (left : ℕ) → 0 < left → indent left ≡ codes "    " ++ indent (left - 1)
indent-first zero more = let no : ⊥ = omega (arith, more) in absurd no
indent-first (suc left) more = rw sub-one refl

pub indent-step : (old new whole : List ℕ) (depth at : ℕ) → at < depth → new ≡ old ++ codes "    "
    → old ++ indent (depth - at) ≡ whole → new ++ indent (depth - (at + 1)) ≡ whole
indent-step old new whole depth at less is was =
    let some : 0 < depth - at = omega (arith, less) in
    let left : depth - (at + 1) ≡ depth - at - 1 = omega (arith, less) in
    rw (is, left, append_assoc old (codes "    ") _, ← indent-first (depth - at) some) was

-- a list from a place on begins with the element there
drop-at : (tags : List Tag) (at : ℕ) (tag : Tag) → at < length tags → tag ≡ get_or tags at tag → drop at tags ≡ tag ∷ drop (at + 1) tags
drop-at tags at tag less is = drop-cons tags at tag less ∙ rw (← is, add-one) refl

-- a loop writes the line of the first of the tags that are left
pub lines-step : (old new whole : List ℕ) (tags : List Tag) (at depth here next : ℕ) (tag : Tag) → at < length tags → tag ≡ get_or tags at tag
    → here ≡ depth_before depth tag → next ≡ depth_behind here tag → new ≡ old ++ line_text here tag
    → old ++ lines_text depth (drop at tags) ≡ whole → new ++ lines_text next (drop (at + 1) tags) ≡ whole
lines-step old new whole tags at depth here next tag less is before behind new-is was =
    rw (new-is, append_assoc old (line_text here tag) _, behind, before) (sym (ap (λ ts. old ++ lines_text depth ts) (drop-at tags at tag less is)) ∙ was)
