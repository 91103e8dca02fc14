use Rattle.std.proofs.Common.{◌≡◌, ◌≤◌, ℕ, true, false, nat_lt, List, [], ◌∷◌, length, refl, sym, ap, subst, arith}
use Rattle.std.proofs.lemmas.Bool.{ltb-false}
use Rattle.std.proofs.lemmas.List.{length-map}
use Rattle.cargo_core.specs.Lists.{IsPrefix}
use Rattle.cargo_core.specs.declared.item.Item.{Item}
use Rattle.cargo_core.specs.declared.item.Item.TheVariants as ItemOf
use Rattle.play_core.specs.Moved.{Moved, with_put}
use Rattle.play_core.proofs.OneQueue.{whole_prefix}
use Rattle.play_core.proofs.Puts.{copy_more, copy_shorter}
use Rattle.play_core.proofs.Lists.{prefix_flat}
use Rattle.class_expect.specs.SerialSwitch.Carried.{byte_of}
use Rattle.serial_law.specs.Bytes.{bytes_in, byte_items, is_owed}

pub bytes_items : (bs : List ℕ) → bytes_in (byte_items bs) ≡ bs
bytes_items [] = refl
bytes_items (b ∷ bs) = ap (λ xs. b ∷ xs) (bytes_items bs)

-- what is a beginning of bytes as items is a beginning of them as bytes
pub bytes_of_begin : (xs : List Item) (bs : List ℕ) → IsPrefix xs (byte_items bs) → IsPrefix (bytes_in xs) bs
bytes_of_begin xs bs h = subst (IsPrefix (bytes_in xs)) (bytes_items bs) (prefix_flat byte_of xs (byte_items bs) h)

-- nothing is owed of a list that isn't longer
pub paid : {T U : Type 0} (xs : List T) (ys : List U) → is_owed xs ys ≡ false → length ys ≤ length xs
paid xs ys h = ltb-false (length xs) (length ys) h

-- of a beginning of items, where nothing is owed of their bytes
pub all_said : (xs : List Item) (bs : List ℕ) → IsPrefix xs (byte_items bs) → is_owed xs bs ≡ false → xs ≡ byte_items bs
all_said xs bs begins none =
    let few : length bs ≤ length xs = paid xs bs none in
    let same : length (byte_items bs) ≡ length bs = length-map bs _ in
    whole_prefix xs (byte_items bs) begins (omega (arith, few, same))

-- and of bytes that are said
pub say_more : (m : Moved) (n : ℕ) (bs : List ℕ) → IsPrefix (m.sent n) (byte_items bs) → is_owed (m.sent n) bs ≡ true → (x : Item) × IsPrefix ((with_put m n x).sent n) (byte_items bs)
say_more m n bs h lt = copy_more m n (byte_items bs) h (subst (λ k. nat_lt (length (m.sent n)) k ≡ true) (sym (length-map bs (λ b. ItemOf.Byte b))) lt)

pub say_shorter : (m : Moved) (n : ℕ) (bs : List ℕ) (x : Item) → IsPrefix ((with_put m n x).sent n) (byte_items bs) → is_owed (m.sent n) bs ≡ true
say_shorter m n bs x h = subst (λ k. nat_lt (length (m.sent n)) k ≡ true) (length-map bs (λ b. ItemOf.Byte b)) (copy_shorter m n (byte_items bs) x h)
