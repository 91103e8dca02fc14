-- The lines of a generated trace, read one after another.
use Rattle.std.proofs.Common.{◌≡◌, refl, ◌∙◌, ℕ, ◌+◌, ◌-◌, ◌<◌, ◌≤◌, false, eqb, List, ◌∷◌, ◌++◌, length, take, drop, Option, Some, arith, length-append, length-take-le, length-drop}
use Rattle.std.proofs.lemmas.Bool.{lt-leb}
use Rattle.std.proofs.lemmas.List.{length-replicate}
use Rattle.std.proofs.lemmas.List.Splits.{slice_split_at}
use Rattle.cargo_core.specs.Lists.{replaced}
use Rattle.cargo_core.specs.declared.item.Ask.{Ask}
use Rattle.sdf_plan.specs.declared.plan.Plan.{Plan}
use Rattle.trace_text.specs.declared.reader.Reader.{Reader}
use Rattle.line_text.specs.Texts.{lines_of}
use Rattle.trace_text.specs.Events.{Event, meaning}
use Rattle.trace_text.specs.Reading.{after_line, is_refused, reader_with}
use Rattle.trace_text.proofs.Forms.{not_above, patch_inside}
use Rattle.trace_text.proofs.SoFar.{IsSoFar, so_far_more}
use Rattle.line_text.proofs.Pieces.{lines_more}
use Rattle.workload.proofs.WorkloadLaw.Texts.{Lacks}

-- the reader is at this place of a text, where it took no bad line so far, and no more than so many frames, bytes and requests
pub record IsAt (plan : Plan) (text rest : List ℕ) (frames bytes asks disks long : ℕ) : Type 0 where
  pub number : ℕ
  pub reader : Reader
  pub so_far : IsSoFar plan text rest number reader
  pub frames_most : reader.frame_lines ≤ frames
  pub bytes_most : reader.stream_bytes ≤ bytes
  pub asks_most : reader.request_lines ≤ asks
  pub disks_are : reader.disk_lines ≡ disks
  pub image : length reader.trace.image ≡ long

pub weaken : (plan : Plan) (text rest : List ℕ) (f b a f' b' a' d l : ℕ) → f ≤ f' → b ≤ b' → a ≤ a' → IsAt plan text rest f b a d l → IsAt plan text rest f' b' a' d l
weaken plan text rest f b a f' b' a' d l more_f more_b more_a at = record {
  number = at.number;
  reader = at.reader;
  so_far = at.so_far;
  frames_most = (let h = at.frames_most in omega arith);
  bytes_most = (let h = at.bytes_most in omega arith);
  asks_most = (let h = at.asks_most in omega arith);
  disks_are = at.disks_are;
  image = at.image;
}

length-replaced : (xs : List ℕ) (at : ℕ) (from : List ℕ) → at + length from ≤ length xs → length (replaced xs at from) ≡ length xs
length-replaced xs at from h =
    let front : length (take at xs) ≡ at = length-take-le at xs (omega (arith, h)) in
    let both : length (take at xs ++ from) ≡ length (take at xs) + length from = length-append (take at xs) from in
    let back : length (drop (at + length from) xs) ≡ length xs - (at + length from) = length-drop (at + length from) xs in
    length-append (take at xs ++ from) (drop (at + length from) xs) ∙ omega (arith, h, front, both, back)

first_line : (line rest : List ℕ) → Lacks 10 line → lines_of (line ++ 10 ∷ rest) ≡ line ∷ lines_of rest
first_line line rest h = lines_more (line ++ 10 ∷ rest) line rest (slice_split_at (λ b. eqb b 10) line 10 rest h refl)

taken_line : (r : Reader) (m : Option Event) (e : Event) → m ≡ Some e → is_refused r e ≡ false → after_line r m ≡ Some (reader_with r e)
taken_line r m e is good = rw (is, good) refl

line_read : (plan : Plan) (text line rest : List ℕ) (number : ℕ) (r : Reader) (e : Event) → IsSoFar plan text (line ++ 10 ∷ rest) number r → Lacks 10 line → meaning plan line ≡ Some e
    → is_refused r e ≡ false → IsSoFar plan text rest (number + 1) (reader_with r e)
line_read plan text line rest number r e so_far no_end is good =
    so_far_more plan text (line ++ 10 ∷ rest) line rest number r (reader_with r e) so_far (first_line line rest no_end)
    (let long = length-append line (10 ∷ rest) in omega (arith, long)) (taken_line r (meaning plan line) e is good)

pub rx_read : (plan : Plan) (text line rest frame : List ℕ) (f b a d l : ℕ) → Lacks 10 line → meaning plan line ≡ Some (Event.Rx frame) → f < 1024
    → IsAt plan text (line ++ 10 ∷ rest) f b a d l → IsAt plan text rest (f + 1) b a d l
rx_read plan text line rest frame f b a d l no_end is room at =
    let most = at.frames_most in
    record {
      number = at.number + 1;
      reader = reader_with at.reader (Event.Rx frame);
      so_far = line_read plan text line rest at.number at.reader (Event.Rx frame) at.so_far no_end is (lt-leb 1024 at.reader.frame_lines (omega (arith, most, room)));
      frames_most = omega (arith, most);
      bytes_most = at.bytes_most;
      asks_most = at.asks_most;
      disks_are = at.disks_are;
      image = at.image;
    }

pub send_read : (plan : Plan) (text line rest frame : List ℕ) (c f b a d l : ℕ) → Lacks 10 line → meaning plan line ≡ Some (Event.Send c frame) → f < 1024
    → IsAt plan text (line ++ 10 ∷ rest) f b a d l → IsAt plan text rest (f + 1) b a d l
send_read plan text line rest frame c f b a d l no_end is room at =
    let most = at.frames_most in
    record {
      number = at.number + 1;
      reader = reader_with at.reader (Event.Send c frame);
      so_far = line_read plan text line rest at.number at.reader (Event.Send c frame) at.so_far no_end is (lt-leb 1024 at.reader.frame_lines (omega (arith, most, room)));
      frames_most = omega (arith, most);
      bytes_most = at.bytes_most;
      asks_most = at.asks_most;
      disks_are = at.disks_are;
      image = at.image;
    }

pub in_read : (plan : Plan) (text line rest bytes : List ℕ) (f b a d l : ℕ) → Lacks 10 line → meaning plan line ≡ Some (Event.In bytes) → b + length bytes ≤ 81920
    → IsAt plan text (line ++ 10 ∷ rest) f b a d l → IsAt plan text rest f (b + length bytes) a d l
in_read plan text line rest bytes f b a d l no_end is room at =
    let most = at.bytes_most in
    record {
      number = at.number + 1;
      reader = reader_with at.reader (Event.In bytes);
      so_far = line_read plan text line rest at.number at.reader (Event.In bytes) at.so_far no_end is (not_above 81920 (at.reader.stream_bytes + length bytes) (omega (arith, most, room)));
      frames_most = at.frames_most;
      bytes_most = omega (arith, most);
      asks_most = at.asks_most;
      disks_are = at.disks_are;
      image = at.image;
    }

pub say_read : (plan : Plan) (text line rest bytes : List ℕ) (c f b a d l : ℕ) → Lacks 10 line → meaning plan line ≡ Some (Event.Say c bytes) → b + length bytes ≤ 81920
    → IsAt plan text (line ++ 10 ∷ rest) f b a d l → IsAt plan text rest f (b + length bytes) a d l
say_read plan text line rest bytes c f b a d l no_end is room at =
    let most = at.bytes_most in
    record {
      number = at.number + 1;
      reader = reader_with at.reader (Event.Say c bytes);
      so_far = line_read plan text line rest at.number at.reader (Event.Say c bytes) at.so_far no_end is (not_above 81920 (at.reader.stream_bytes + length bytes) (omega (arith, most, room)));
      frames_most = at.frames_most;
      bytes_most = omega (arith, most);
      asks_most = at.asks_most;
      disks_are = at.disks_are;
      image = at.image;
    }

pub disk_read : (plan : Plan) (text line rest : List ℕ) (f b a l : ℕ) → Lacks 10 line → meaning plan line ≡ Some (Event.Disk 64)
    → IsAt plan text (line ++ 10 ∷ rest) f b a 0 l → IsAt plan text rest f b a 1 32768
disk_read plan text line rest f b a l no_end is at =
    record {
      number = at.number + 1;
      reader = reader_with at.reader (Event.Disk 64);
      so_far = line_read plan text line rest at.number at.reader (Event.Disk 64) at.so_far no_end is (not_above 0 at.reader.disk_lines (let none = at.disks_are in omega (arith, none)));
      frames_most = at.frames_most;
      bytes_most = at.bytes_most;
      asks_most = at.asks_most;
      disks_are = (let none = at.disks_are in omega (arith, none));
      image = length-replicate {A = ℕ} 32768 0;
    }

pub patch_read : (plan : Plan) (text line rest bytes : List ℕ) (place f b a : ℕ) → Lacks 10 line → meaning plan line ≡ Some (Event.Patch place bytes) → place + length bytes ≤ 32768
    → IsAt plan text (line ++ 10 ∷ rest) f b a 1 32768 → IsAt plan text rest f b a 1 32768
patch_read plan text line rest bytes place f b a no_end is room at =
    let there : at.reader.disk_lines ≡ 0 → ⊥ = λ none. (let one = at.disks_are in omega (arith, none, one)) in
    let inside : place + length bytes ≤ length at.reader.trace.image = (let long = at.image in omega (arith, long, room)) in
    record {
      number = at.number + 1;
      reader = reader_with at.reader (Event.Patch place bytes);
      so_far = line_read plan text line rest at.number at.reader (Event.Patch place bytes) at.so_far no_end is (patch_inside at.reader place bytes there inside);
      frames_most = at.frames_most;
      bytes_most = at.bytes_most;
      asks_most = at.asks_most;
      disks_are = at.disks_are;
      image = length-replaced at.reader.trace.image place bytes inside ∙ at.image;
    }

pub ask_read : (plan : Plan) (text line rest : List ℕ) (c : ℕ) (ask : Ask) (f b a d l : ℕ) → Lacks 10 line → meaning plan line ≡ Some (Event.Request c ask) → a < 1024
    → IsAt plan text (line ++ 10 ∷ rest) f b a d l → IsAt plan text rest f b (a + 1) d l
ask_read plan text line rest c ask f b a d l no_end is room at =
    let most = at.asks_most in
    record {
      number = at.number + 1;
      reader = reader_with at.reader (Event.Request c ask);
      so_far = line_read plan text line rest at.number at.reader (Event.Request c ask) at.so_far no_end is (lt-leb 1024 at.reader.request_lines (omega (arith, most, room)));
      frames_most = at.frames_most;
      bytes_most = at.bytes_most;
      asks_most = omega (arith, most);
      disks_are = at.disks_are;
      image = at.image;
    }
