use Rattle.std.proofs.Common.{◌≡◌, ◌+◌, ℕ, List, [], ◌∷◌, ◌++◌, Option, Some, None, sym, ap, refl, ◌∙◌, map, take, slice_get, true, is_some, append_assoc}
use Rattle.std.specs.Option.{option_map, option_to_list}
use Rattle.std.proofs.lemmas.List.{take_more, map-append}
use Rattle.std.proofs.lemmas.Option.{slice_get_within, get_or_from_slice_get}
use Rattle.cargo_core.specs.declared.item.Item.{Item}
use Rattle.wire_core.specs.Deeds.{Cargo, given}
use Rattle.class_expect.specs.SerialSwitch.Carried.{byte_cargo, byte_of, bytes_carried}

-- What a source says, a byte further, and what entries carry.

spoken_more : (script : List ℕ) (n b : ℕ) → slice_get script n ≡ Some b → map byte_cargo (take (n + 1) script) ≡ map byte_cargo (take n script) ++ byte_cargo b ∷ []
spoken_more script n b h = rw (take_more script n 0 (slice_get_within script n b h), get_or_from_slice_get script n b 0 h) (map-append byte_cargo (take n script) (b ∷ []))

-- a put says the next byte
pub spoken_put : (script : List ℕ) (n : ℕ) (next : Option ℕ) (item : Option Item) (load : Option Cargo) → is_some item ≡ true → slice_get script n ≡ next → load ≡ option_map byte_cargo next → item ≡ option_map (λ c. c.0) (given item load) → map byte_cargo (take n script) ++ option_to_list (given item load) ≡ map byte_cargo (take (n + 1) script)
spoken_put script n next None load put at is same = cc
spoken_put script n None (Some i) load put at is same = let e : Some i ≡ option_map {T = Cargo} (λ c. c.0) None = same ∙ ap (option_map (λ c. c.0)) is in cc
spoken_put script n (Some b) (Some i) load put at is same = rw is (sym (spoken_more script n b at))

-- entries carry what they were made from
pub bytes_said : (xs : List ℕ) → bytes_carried (map byte_cargo xs) ≡ xs
bytes_said [] = refl
bytes_said (x ∷ xs) = ap (λ ys. x ∷ ys) (bytes_said xs)

pub bytes_join : (a b : List Cargo) → bytes_carried (a ++ b) ≡ bytes_carried a ++ bytes_carried b
bytes_join [] b = refl
bytes_join (c ∷ cs) b = ap (λ r. byte_of c.0 ++ r) (bytes_join cs b) ∙ sym (append_assoc (byte_of c.0) (bytes_carried cs) (bytes_carried b))
