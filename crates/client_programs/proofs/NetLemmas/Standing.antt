use Rattle.std.proofs.Common.{◌≡◌, ◌==◌, ◌&&◌, ◌++◌, ℕ, Bool, true, false, not, is_none, is_some, Some, None, Option, List, [], ◌∷◌, length, map, refl, sym, ap, ap₂, ◌∙◌, subst, append_assoc, slice_get, arith}
use Rattle.std.specs.Option.{option_to_list}
use Rattle.std.proofs.lemmas.Bool.{ne_eqb}
use Rattle.std.proofs.lemmas.List.{append-nil, length-append, length-map, map-append}
use Rattle.cargo_core.specs.Pages.{Paged}
use Rattle.wire_core.specs.declared.names.Event.{Event}
use Rattle.wire_core.specs.declared.names.QueueId.{QueueId}
use Rattle.wire_core.specs.Deeds.{Cargo}
use Rattle.wire_core.specs.Lists.{Lists, Passed, with, if_there}
use Rattle.wire_core.proofs.Places.{if_there_here}
use Rattle.turn_kit.specs.declared.turns.Turn.{Turn}
use Rattle.turn_kit.specs.declared.pipe.Pipe.{Pipe}
use Rattle.turn_kit.specs.declared.ends.Intake.{Intake}
use Rattle.turn_kit.specs.declared.ends.Outlet.{Outlet}
use Rattle.buffer_kit.specs.Entries.{frame_of}
use Rattle.buffer_kit.specs.Pools.{ArePool, given_entry}
use Rattle.buffer_kit.specs.Stocks.{stock_list, IsStock, IsStart, SameStock}
use Rattle.buffer_kit.specs.declared.stock.Stock.{Stock}
use Rattle.buffer_kit.specs.declared.recorder.Recorder.{Recorder}
use Rattle.client_programs.specs.declared.net.NetClient.{NetClient}
use Rattle.client_programs.specs.declared.net.outbox.Outbox.{Outbox}
use Rattle.client_programs.specs.Net.Programs.{frames_out, is_echo}
use Rattle.client_programs.specs.Net.Sending.{OutboxStandsFor, SendsFrames, needs_buffer, is_through}
use Rattle.client_programs.specs.Net.Clients.{ClientHolds, ClientStandsFor, ClientRow, client_frames, client_owes, needs_frame, is_answering, rx_active, rx_free, tx_active, tx_free}
use Rattle.client_programs.proofs.NetLemmas.Sending.{outbox_row, through_put, frames_grow, frames_more, echo_long, outbox_put, outbox_back}

-- what it holds is what its row says
pub row_of : (c : NetClient) (passed : Passed) → ClientStandsFor c passed → ClientRow c passed
row_of c passed h = record {
  start = h.start;
  is_start = h.is_start;
  given = (client_owes c, h.given);
  got = h.got;
  spare = h.sends.start;
  is_spare = h.sends.is_start;
  sends = subst (λ fs. SendsFrames (frames_out c.program fs) (map (given_entry c.outbox.stock.base c.outbox.stock.size) h.sends.start) (passed.taken (tx_free c)) (passed.sent (tx_active c))) h.got
      (outbox_row c.outbox (client_frames c) (passed.taken (tx_free c)) (passed.sent (tx_active c)) h.sends);
  answered = h.answered;
}

-- the same lists by other names
pub held_on : (c : NetClient) (came gave back put came' gave' back' put' : List Cargo) → came' ≡ came → gave' ≡ gave → back' ≡ back → put' ≡ put → ClientHolds c came gave back put → ClientHolds c came' gave' back' put'
held_on c came gave back put came' gave' back' put' a b d e h = rw (a, b, d, e) h

-- a client that keeps the same
pub held_by : (c d : NetClient) (came gave back put : List Cargo) → d.stock ≡ c.stock → d.frames.pipe.load ≡ c.frames.pipe.load → d.frames.tape.shown ≡ c.frames.tape.shown → d.outbox ≡ c.outbox → d.program ≡ c.program → ClientHolds c came gave back put → ClientHolds d came gave back put
held_by c d came gave back put stock load tape outbox program h = record {
  start = h.start;
  is_start = rw stock h.is_start;
  given = rw (stock, load) h.given;
  came_in = rw load h.came_in;
  first = rw (stock, load) h.first;
  got = tape ∙ h.got;
  sends = rw (outbox, program, tape) h.sends;
  answered = λ echo. h.answered (ap (λ p. is_echo p.kind) (sym program) ∙ echo);
}

-- a frame came
pub frame_came : (c : NetClient) (r : Recorder) (e : Cargo) (came gave back put : List Cargo) → c.frames.pipe.load ≡ None → r.pipe.load ≡ Some e → r.tape.shown ≡ c.frames.tape.shown ++ frame_of e ∷ [] → is_answering c ≡ false → ClientHolds c came gave back put → ClientHolds (record c { frames = r }) (came ++ e ∷ []) gave back put
frame_came c r e came gave back put none load tape through h =
    let first = map (given_entry c.stock.base c.stock.size) h.start in
    let stock : gave ++ stock_list c.stock ≡ first ++ came = sym (ap (λ l. gave ++ l) (append-nil (stock_list c.stock))) ∙ (ap (λ (l : Option Cargo). gave ++ (stock_list c.stock ++ option_to_list l)) (sym none) ∙ h.given) in
    let more = frames_more c.program c.frames.tape.shown (frame_of e) in
    let one = ap (λ (l : Option Cargo). length (option_to_list l)) load in
    let zero_before = ap (λ (l : Option Cargo). length (option_to_list l)) none in
    let long_now = length-append came (e ∷ []) in
    let grown : OutboxStandsFor c.outbox (client_frames c ++ more.0) back put = frames_grow c.outbox (client_frames c) more.0 back put h.sends in
    record {
      start = h.start;
      is_start = h.is_start;
      given = ap (λ (l : Option Cargo). gave ++ (stock_list c.stock ++ option_to_list l)) load ∙ (sym (append_assoc gave (stock_list c.stock) (e ∷ [])) ∙ (ap (λ l. l ++ e ∷ []) stock ∙ append_assoc first came (e ∷ [])));
      came_in = omega (arith, one, long_now);
      first = λ some. omega (arith, one, long_now, h.first some, zero_before);
      got = tape ∙ (ap (λ l. l ++ frame_of e ∷ []) h.got ∙ sym (map-append frame_of came (e ∷ [])));
      sends = subst (λ fs. OutboxStandsFor c.outbox fs back put) (sym (ap (frames_out c.program) tape ∙ more.1)) grown;
      answered = λ echo.
          let all = through_put c.outbox (client_frames c) back put h.sends (through_as (is_echo c.program.kind) (is_through c.outbox (length (client_frames c))) echo through) in
          let many = echo_long c.program c.frames.tape.shown echo in
          let long = ap length h.got ∙ length-map came frame_of in
          omega (arith, all, many, long, length-append came (e ∷ []));
    }
  where
    through_as : (a b : Bool) → a ≡ true → (a && not b) ≡ false → b ≡ true
    through_as true true x y = refl
    through_as true false x y = cc
    through_as false b x y = cc

-- where it needs a frame, it holds none, and none that it has yet to answer
pub needing : (c : NetClient) → needs_frame c ≡ true → (c.frames.pipe.load ≡ None) × (is_answering c ≡ false)
needing c h = by c.frames.pipe.load (is_answering c) h
  where
    by : (l : Option Cargo) (b : Bool) → (is_none l && not b) ≡ true → (l ≡ None) × (b ≡ false)
    by None false x = (refl, refl)
    by None true x = cc
    by (Some y) b x = cc

-- what it took went back
pub load_went : (c : NetClient) (r : Recorder) (went came gave back put : List Cargo) → c.stock.next ≡ None → stock_list c.stock ≡ [] → option_to_list c.frames.pipe.load ≡ went ++ option_to_list r.pipe.load → r.tape ≡ c.frames.tape → ClientHolds c came gave back put → ClientHolds (record c { frames = r }) came (gave ++ went) back put
load_went c r went came gave back put none empty load tape h =
    let old : gave ++ (stock_list c.stock ++ option_to_list c.frames.pipe.load) ≡ gave ++ (went ++ option_to_list r.pipe.load) = ap (λ l. gave ++ (l ++ option_to_list c.frames.pipe.load)) empty ∙ ap (λ l. gave ++ l) load in
    record {
      start = h.start;
      is_start = h.is_start;
      came_in = omega (arith, h.came_in, ap length load, length-append went (option_to_list r.pipe.load));
      first = λ some. let e : false ≡ true = sym (ap (λ (l : Option Cargo). is_some l) none) ∙ some in cc;
      given = ap (λ l. (gave ++ went) ++ (l ++ option_to_list r.pipe.load)) empty ∙ (append_assoc gave went (option_to_list r.pipe.load) ∙ (sym old ∙ h.given));
      got = rw tape h.got;
      sends = rw tape h.sends;
      answered = h.answered;
    }

-- the next buffer of its stock went
pub stock_went : (c : NetClient) (r : Recorder) (s : Stock) (went came gave back put : List Cargo) → is_some c.stock.next ≡ true → stock_list c.stock ≡ went ++ stock_list s → SameStock c.stock s → r.pipe.load ≡ c.frames.pipe.load → r.tape ≡ c.frames.tape → ClientHolds c came gave back put → ClientHolds (record c { frames = r; stock = s }) came (gave ++ went) back put
stock_went c r s went came gave back put some list same load tape h =
    let rest = option_to_list c.frames.pipe.load in
    let old : gave ++ (stock_list c.stock ++ rest) ≡ gave ++ (went ++ (stock_list s ++ rest)) = ap (λ l. gave ++ (l ++ rest)) list ∙ ap (λ l. gave ++ l) (append_assoc went (stock_list s) rest) in
    record {
      start = h.start;
      is_start = rw (same.base, same.size, same.same_pool) (record { are_pool = h.is_start.are_pool; many = h.is_start.many ∙ sym same.buffers });
      given = ap (λ (l : Option Cargo). (gave ++ went) ++ (stock_list s ++ option_to_list l)) load ∙ (append_assoc gave went (stock_list s ++ rest) ∙ (sym old ∙ (h.given ∙ sym (ap₂ (λ b z. map (given_entry b z) h.start ++ came) same.base same.size))));
      came_in = rw load h.came_in;
      first = λ left. rw load (h.first some);
      got = rw tape h.got;
      sends = rw tape h.sends;
      answered = h.answered;
    }

-- a buffer came back for a frame that is to be sent
pub buffer_came_back : (c : NetClient) (i : Intake) (got : Option Cargo) (came gave back put : List Cargo) → is_some got ≡ true → needs_buffer c.outbox (length (client_frames c)) ≡ true → IsStock c.outbox.stock → ClientHolds c came gave back put
    → ClientHolds (record c { sent = i; outbox = record c.outbox { stock = record c.outbox.stock { next = got } } }) came gave (back ++ option_to_list got) put
buffer_came_back c i None came gave back put some need is h = cc
buffer_came_back c i (Some e) came gave back put some need is h = record {
  start = h.start;
  is_start = h.is_start;
  given = h.given;
  came_in = h.came_in;
  first = h.first;
  got = h.got;
  sends = outbox_back c.outbox e (client_frames c) back put need is h.sends;
  answered = h.answered;
}

-- a frame was put
pub frame_put : (c : NetClient) (o : Outlet) (x y : Outbox) (went came gave back put : List Cargo) → ((back' put' : List Cargo) → OutboxStandsFor c.outbox (client_frames c) back' put' → OutboxStandsFor x (client_frames c) back' put') → option_to_list x.load ≡ went ++ option_to_list y.load → y.stock ≡ x.stock → y.next ≡ x.next → ClientHolds c came gave back put
    → ClientHolds (record c { send = o; outbox = y }) came gave back (put ++ went)
frame_put c o x y went came gave back put ready load stock next h =
    let sent : OutboxStandsFor (record x { load = y.load }) (client_frames c) back (put ++ went) = outbox_put x y.load (client_frames c) back put went load (ready back put h.sends) in
    record {
      start = h.start;
      is_start = h.is_start;
      given = h.given;
      came_in = h.came_in;
      first = h.first;
      got = h.got;
      sends = rw (stock, next) sent;
      answered = λ echo. omega (arith, h.answered echo, length-append put went);
    }

-- entries are at the queue where they came, and at no other
pub at_other : (n m : ℕ) (xs : List Cargo) → (n ≡ m → ⊥) → if_there (n == m) xs ≡ []
at_other n m xs apart = ap (λ b. if_there b xs) (ne_eqb n m apart)

-- nothing more
pub none_more : (xs ys : List Cargo) → ys ≡ [] → xs ++ ys ≡ xs
none_more xs ys none = ap (λ l. xs ++ l) none ∙ append-nil xs

-- no buffers are those of a pool without any
pub no_pages : ArePool 0 (record { 0 = 0 }) 1 []
no_pages = record {
  same_pool = λ k p at. absurd (none_at k p at);
  numbered = λ k p at. absurd (none_at k p at);
  sized = λ k p at. absurd (none_at k p at);
  some = omega arith;
  few = omega arith;
  ends = omega arith;
}
  where
    none_at : (k : ℕ) (p : Paged) → slice_get [] k ≡ Some p → ⊥
    none_at k p at = cc

-- two lists joined, at a queue by another name
at_queue : (old more : Lists) (q r : QueueId) (l xs : List Cargo) → q ≡ r → old r.0 ≡ l → more r.0 ≡ xs → old q.0 ++ more q.0 ≡ l ++ xs
at_queue old more q r l xs same was new = ap (λ (z : QueueId). old z.0 ++ more z.0) same ∙ ap₂ (λ x y. x ++ y) was new

no_more : (old more : Lists) (q r : QueueId) → q ≡ r → more r.0 ≡ [] → old q.0 ++ more q.0 ≡ old r.0
no_more old more q r same none = at_queue old more q r (old r.0) [] same refl none ∙ append-nil (old r.0)

-- a client with the same queues
pub record SameEnds (c d : NetClient) : Type 0 where
  pub rx_active : d.frames.pipe.input.queue ≡ c.frames.pipe.input.queue
  pub rx_free : d.frames.pipe.output.queue ≡ c.frames.pipe.output.queue
  pub tx_active : d.send.queue ≡ c.send.queue
  pub tx_free : d.sent.queue ≡ c.sent.queue

-- what one call took or put, and at which of the client's queues
module _ (c d : NetClient) (p : Passed) (took put : Lists) (calls : List Event) (xs : List Cargo) (same : SameEnds c d) where
  abbrev After : Passed
  After = record { taken = with p.taken took; sent = with p.sent put; calls = calls }

  pub frames_took : (rx_active c ≡ tx_free c → ⊥) → ((n : ℕ) → took n ≡ if_there (rx_active c == n) xs) → ((n : ℕ) → put n ≡ []) → ClientHolds d (p.taken (rx_active c) ++ xs) (p.sent (rx_free c)) (p.taken (tx_free c)) (p.sent (tx_active c)) → ClientStandsFor d After
  frames_took apart takes puts h = held_on d _ _ _ _ _ _ _ _
      (at_queue p.taken took _ _ (p.taken (rx_active c)) xs same.rx_active refl (takes (rx_active c) ∙ if_there_here (rx_active c) xs))
      (no_more p.sent put _ _ same.rx_free (puts (rx_free c)))
      (no_more p.taken took _ _ same.tx_free (takes (tx_free c) ∙ at_other (rx_active c) (tx_free c) xs apart))
      (no_more p.sent put _ _ same.tx_active (puts (tx_active c)))
      h

  pub buffers_took : (rx_active c ≡ tx_free c → ⊥) → ((n : ℕ) → took n ≡ if_there (tx_free c == n) xs) → ((n : ℕ) → put n ≡ []) → ClientHolds d (p.taken (rx_active c)) (p.sent (rx_free c)) (p.taken (tx_free c) ++ xs) (p.sent (tx_active c)) → ClientStandsFor d After
  buffers_took apart takes puts h = held_on d _ _ _ _ _ _ _ _
      (no_more p.taken took _ _ same.rx_active (takes (rx_active c) ∙ at_other (tx_free c) (rx_active c) xs (λ e. apart (sym e))))
      (no_more p.sent put _ _ same.rx_free (puts (rx_free c)))
      (at_queue p.taken took _ _ (p.taken (tx_free c)) xs same.tx_free refl (takes (tx_free c) ∙ if_there_here (tx_free c) xs))
      (no_more p.sent put _ _ same.tx_active (puts (tx_active c)))
      h

  pub buffers_put : (rx_free c ≡ tx_active c → ⊥) → ((n : ℕ) → took n ≡ []) → ((n : ℕ) → put n ≡ if_there (rx_free c == n) xs) → ClientHolds d (p.taken (rx_active c)) (p.sent (rx_free c) ++ xs) (p.taken (tx_free c)) (p.sent (tx_active c)) → ClientStandsFor d After
  buffers_put apart takes puts h = held_on d _ _ _ _ _ _ _ _
      (no_more p.taken took _ _ same.rx_active (takes (rx_active c)))
      (at_queue p.sent put _ _ (p.sent (rx_free c)) xs same.rx_free refl (puts (rx_free c) ∙ if_there_here (rx_free c) xs))
      (no_more p.taken took _ _ same.tx_free (takes (tx_free c)))
      (no_more p.sent put _ _ same.tx_active (puts (tx_active c) ∙ at_other (rx_free c) (tx_active c) xs apart))
      h

  pub frames_put : (rx_free c ≡ tx_active c → ⊥) → ((n : ℕ) → took n ≡ []) → ((n : ℕ) → put n ≡ if_there (tx_active c == n) xs) → ClientHolds d (p.taken (rx_active c)) (p.sent (rx_free c)) (p.taken (tx_free c)) (p.sent (tx_active c) ++ xs) → ClientStandsFor d After
  frames_put apart takes puts h = held_on d _ _ _ _ _ _ _ _
      (no_more p.taken took _ _ same.rx_active (takes (rx_active c)))
      (no_more p.sent put _ _ same.rx_free (puts (rx_free c) ∙ at_other (tx_active c) (rx_free c) xs (λ e. apart (sym e))))
      (no_more p.taken took _ _ same.tx_free (takes (tx_free c)))
      (at_queue p.sent put _ _ (p.sent (tx_active c)) xs same.tx_active refl (puts (tx_active c) ∙ if_there_here (tx_active c) xs))
      h

-- nothing was taken or put
pub nothing_more : (d : NetClient) (came gave back put none : List Cargo) → none ≡ [] → ClientHolds d came gave back put → ClientHolds d (came ++ none) gave back put
nothing_more d came gave back put none is h = subst (λ l. ClientHolds d l gave back put) (sym (none_more came none is)) h

pub no_buffer_more : (d : NetClient) (came gave back put none : List Cargo) → none ≡ [] → ClientHolds d came gave back put → ClientHolds d came gave (back ++ none) put
no_buffer_more d came gave back put none is h = subst (λ l. ClientHolds d came gave l put) (sym (none_more back none is)) h

-- the memory of its record was taken, and it is an end's turn
pub reserved_holds : (c : NetClient) (r : Recorder) (t : Turn) (p : Passed) → r.pipe ≡ c.frames.pipe → r.tape.shown ≡ c.frames.tape.shown → ClientStandsFor c p → ClientStandsFor (record c { frames = r; turn = t }) p
reserved_holds c r t p pipe tape h = held_on (record c { frames = r; turn = t }) (p.taken (rx_active c)) (p.sent (rx_free c)) (p.taken (tx_free c)) (p.sent (tx_active c)) _ _ _ _
    (ap (λ (x : Pipe). p.taken x.input.queue.0) pipe) (ap (λ (x : Pipe). p.sent x.output.queue.0) pipe) refl refl
    (held_by c (record c { frames = r; turn = t }) (p.taken (rx_active c)) (p.sent (rx_free c)) (p.taken (tx_free c)) (p.sent (tx_active c)) refl (ap (λ (x : Pipe). x.load) pipe) tape refl refl h)

-- it holds nothing yet but its buffers
pub new_holds : (c : NetClient) (pages : List Paged) → c.frames.pipe.load ≡ None → c.frames.tape.shown ≡ [] → IsStart c.stock pages → stock_list c.stock ≡ map (given_entry 0 c.stock.size) pages → c.stock.base ≡ 0 → OutboxStandsFor c.outbox (client_frames c) [] [] → ClientHolds c [] [] [] []
new_holds c pages none tape start list base sends = record {
  start = pages;
  is_start = start;
  given = ap (λ (l : Option Cargo). stock_list c.stock ++ option_to_list l) none ∙ (append-nil (stock_list c.stock) ∙ (list ∙ (ap (λ b. map (given_entry b c.stock.size) pages) (sym base) ∙ sym (append-nil (map (given_entry c.stock.base c.stock.size) pages)))));
  came_in = omega (arith, ap (λ (l : Option Cargo). length (option_to_list l)) none);
  first = λ some. omega arith;
  got = tape;
  sends = sends;
  answered = λ echo. omega arith;
}
