use Rattle.std.proofs.Common.{◌≡◌, ◌≤◌, ℕ, ◌∷◌, ◌++◌, [], Some, Option, None, length, slice_get, ap, ◌∙◌, arith}
use Rattle.cargo_core.specs.declared.item.Ask.{Ask}
use Rattle.cargo_core.specs.declared.item.BlkResp.{BlkResp}
use Rattle.wire_core.specs.Deeds.{Cargo}
use Rattle.buffer_kit.specs.Entries.{first_bytes}
use Rattle.client_programs.specs.Blk.Asking.{reply_to, read_bytes, and_one}
use Rattle.client_programs.proofs.BlkLemmas.Asks.{stands_received, due_ask, hand_count, came_count}
use Rattle.client_programs.proofs.blk.asking.Asking.receive.Goals as goal

within_one : (n m : ℕ) (o : Option Cargo) → and_one n o ≤ m → n ≤ m
within_one n m None h = h
within_one n m (Some x) h = omega (arith, h)

all_sent : (c : goal.After-prepare) → c.args.self.now.sent ≤ length c.args.self.now.script.items
all_sent c = within_one c.args.self.now.sent (length c.args.self.now.script.items) c.args.self.now.next c.requires.asking.within

recorded : (c : goal.After-prepare) (a : Ask) → slice_get c.args.self.now.script.items (length c.args.self.now.kept.shown) ≡ Some a → c.keep.new.self.shown ≡ c.args.self.now.kept.shown ++ reply_to a c.args.entry ∷ []
recorded c a at =
    c.keep.ensures.shown
    ∙ (ap (λ n. c.args.self.now.kept.shown ++ record { resp = c.response_of-resp.result; bytes = first_bytes n c.args.entry.1 } ∷ []) (c.read_bytes-len.ensures.bytes a at)
    ∙ ap (λ (r : BlkResp). c.args.self.now.kept.shown ++ record { resp = r; bytes = first_bytes (read_bytes a r) c.args.entry.1 } ∷ []) c.response_of-resp.ensures)

pub returns-clause-stands : goal.returns-clause-stands
returns-clause-stands c = λ start came put h.
    let due = due_ask c.args.self.now.script.items (length c.args.self.now.kept.shown) (let all = all_sent c in omega (arith, c.requires.due, all)) in
    c.prepare.ensures.stands start (came ++ c.args.entry ∷ []) put
    (stands_received c.args.self.now start came put c.keep.new.self c.args.entry due.0 due.1 (recorded c due.0 due.1) c.keep.ensures.pages c.requires.due (all_sent c) h)

pub returns-clause-held : goal.returns-clause-held
returns-clause-held c = λ f.
    let was = hand_count f c.args.self.now in
    let now = hand_count f (record c.args.self.now { kept = c.keep.new.self }) in
    let more = came_count f c.args.self.now.kept.pages c.keep.new.self.pages c.args.entry.1 c.keep.ensures.pages in
    let same = c.prepare.ensures.held f in
    omega (arith, was, now, more, same)
