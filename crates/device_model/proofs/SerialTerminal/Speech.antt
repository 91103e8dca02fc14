use Rattle.std.proofs.Common.{◌≡◌, ◌+◌, ℕ, List, [], ◌∷◌, ◌++◌, Option, Some, None, sym, ap, ◌∙◌, map, take, drop, slice_get, true, is_some}
use Rattle.std.specs.Option.{option_map, option_to_list}
use Rattle.std.proofs.lemmas.List.{take_more, map-append, take-append-drop}
use Rattle.std.proofs.lemmas.Option.{slice_get_within, get_or_from_slice_get}
use Rattle.cargo_core.specs.declared.item.Item.{Item}
use Rattle.wire_core.specs.Deeds.{Cargo, given}
use Rattle.wire_core.specs.Lists.{Passed}
use Rattle.class_expect.specs.SerialSwitch.Carried.{byte_cargo}
use Rattle.device_model.specs.declared.serial_terminal.Terminal.{Terminal}
use Rattle.device_model.specs.SerialTerminal.Terminals.{TerminalStandsFor, TerminalRow}

-- the script as far as it has come, one byte further
spoken_more : (script : List ℕ) (n b : ℕ) → slice_get script n ≡ Some b → map byte_cargo (take (n + 1) script) ≡ map byte_cargo (take n script) ++ byte_cargo b ∷ []
spoken_more script n b h = rw (take_more script n 0 (slice_get_within script n b h), get_or_from_slice_get script n b 0 h) (map-append byte_cargo (take n script) (b ∷ []))

-- a put says the next byte
pub spoken_put : (script : List ℕ) (n : ℕ) (next : Option ℕ) (item : Option Item) (load : Option Cargo) → is_some item ≡ true → slice_get script n ≡ next → load ≡ option_map byte_cargo next → item ≡ option_map (λ c. c.0) (given item load) → map byte_cargo (take n script) ++ option_to_list (given item load) ≡ map byte_cargo (take (n + 1) script)
spoken_put script n next None load put at is same = cc
spoken_put script n None (Some i) load put at is same = let e : Some i ≡ option_map {T = Cargo} (λ c. c.0) None = same ∙ ap (option_map (λ c. c.0)) is in cc
spoken_put script n (Some b) (Some i) load put at is same = rw is (sym (spoken_more script n b at))

-- what was put, and what is left, make the script
pub row_of : (t : Terminal) (passed : Passed) → TerminalStandsFor t passed → TerminalRow t passed
row_of t passed h = record {
  says = (map byte_cargo (drop t.next t.script), rw h.sent_is (sym (map-append byte_cargo (take t.next t.script) (drop t.next t.script)) ∙ ap (map byte_cargo) (take-append-drop t.next t.script)));
  recorded = h.record_is;
}
