use Rattle.std.proofs.Common.{◌≡◌, ℕ, Some, List, [], ◌∷◌, ◌++◌, map, take, drop, refl, sym, ap, ◌∙◌}
use Rattle.std.specs.Option.{option_to_list}
use Rattle.std.proofs.lemmas.List.{append-nil, map-append, take-append-drop}
use Rattle.cargo_core.specs.Lists.{IsPrefix}
use Rattle.cargo_core.specs.declared.item.Item.TheVariants as ItemOf
use Rattle.wire_core.specs.Deeds.{Cargo}
use Rattle.wire_core.specs.Queues.{items_of}
use Rattle.wire_core.specs.Lists.{Passed}
use Rattle.class_expect.specs.SerialSwitch.Carried.{byte_cargo}
use Rattle.device_model.specs.SerialTerminal.Terminals.{TerminalStandsFor}
use Rattle.device_model.specs.declared.serial_terminal.Terminal.{Terminal}
use Rattle.turn_kit.specs.Pipes.{PipeStandsFor}
use Rattle.turn_kit.specs.declared.pipe.Pipe.{Pipe}
use Rattle.std.proofs.Common.{◌≤◌, Option, None, length, arith}
use Rattle.wire_core.specs.declared.names.QueueId.{QueueId}
use Rattle.turn_kit.specs.ManyEnds.{intake_queues}
use Rattle.class_expect.specs.SerialSwitch.Carried.{bytes_carried, byte_of}
use Rattle.serial_virt.specs.Receiving.{RxStandsFor}
use Rattle.serial_virt.proofs.Sharing.{rx_row as rx_row_of}
use Rattle.serial_law.specs.Dropped.{told_marks, client_queues}
use Rattle.serial_law.proofs.Telling.{told_shares}
use Rattle.wire_core.specs.Ends.{Consumer, Producer}
use Rattle.device_model.specs.Ethernet.Devices.{rx_free}
use Rattle.serial_virt.specs.declared.rx.SerialVirtRx.{SerialVirtRx}
use Rattle.serial_virt.specs.Sending.{TxStandsFor}
use Rattle.serial_virt.specs.declared.tx.SerialVirtTx.{SerialVirtTx}
use Rattle.serial_law.specs.Bytes.{bytes_in, byte_items}
use Rattle.play_core.proofs.Merges.{merge_map}
use Rattle.play_core.specs.Moved.{Moved}
use Rattle.play_core.specs.Sheets.{Scene}
use Rattle.eth_driver.specs.Four.{four_pipes}
use Rattle.device_model.proofs.EthernetLemmas.Holding.{row_of as device_row_of}
use Rattle.net_copier.proofs.Holding.{row_of as copier_row_of}
use Rattle.net_virt_rx.proofs.Rounds.{row_of as receiver_row_of}
use Rattle.net_virt_tx.proofs.Rounds.{row_of as sender_row_of}
use Rattle.net_law.specs.Parts.Table.{net_sheet}
use Rattle.net_law.specs.Parts.Playing.{device_part, driver_part, receiver_part, copier_part, client_part}
use Rattle.client_programs.proofs.NetLemmas.Standing.{row_of}
use Rattle.net_law.proofs.PartsLemmas.Items.{driver_row, client_row}
use Rattle.net_law.proofs.DropsLemmas.Telling.{device_row, copier_row, used_up}
use Rattle.net_law.proofs.PartsLemmas.Leasing.{receiver_row}
use Rattle.net_law.specs.TxParts.Table.{send_sheet}
use Rattle.net_law.specs.TxParts.Playing.{send_part}
use Rattle.net_law.proofs.TxParts.Items.{send_row}
use Rattle.pipe_driver.specs.Lengths.{two_pipes}
use Rattle.blk_virt.proofs.Rows.{row_of as server_row_of}
use Rattle.client_programs.proofs.BlkLemmas.Standing.{row_of as asker_row_of}
use Rattle.client_programs.specs.Blk.Asking.{replies_to}
use Rattle.blk_law.specs.Sheets.Table.{blk_sheet}
use Rattle.blk_law.specs.Sheets.Playing.{disk_part, blk_driver_part, virt_part, blk_client_part}
use Rattle.blk_law.proofs.SheetsLemmas.Items as block
use Rattle.blk_law.proofs.SheetsLemmas.Virtual.{virt_row}
use Rattle.actor_set.proofs.LawsLemmas.BlkRows.{disk_row_of}
use Rattle.actor_set.specs.Laws.Kinds.{sheet}
use Rattle.actor_set.specs.Laws.Turning.{InTurn}
use Rattle.actor_set.proofs.LawsLemmas.NetRows.{pipes_row_of, items_at}
use Rattle.actor_set.specs.Actors.{ActorStandsFor, part_of, numbers}
use Rattle.play_core.specs.Rests.Showing.{HaveItems}
use Rattle.actor_set.specs.Laws.Records.{record_of, record_by, frames_got, frames_by, replies_got, replies_by}
use Rattle.actor_set.specs.declared.actor.Actor.{Actor}
use Rattle.actor_set.specs.declared.actor.Actor.TheVariants as Kinds

pub items_of_bytes : (bs : List ℕ) → items_of (map byte_cargo bs) ≡ byte_items bs
items_of_bytes [] = refl
items_of_bytes (b ∷ bs) = ap (λ xs. ItemOf.Byte b ∷ xs) (items_of_bytes bs)

one_few : (load : Option Cargo) → length (items_of (option_to_list load)) ≤ 1
one_few None = omega arith
one_few (Some c) = omega arith

-- the bytes that entries carry are those of their items
pub carried_in : (cs : List Cargo) → bytes_carried cs ≡ bytes_in (items_of cs)
carried_in [] = refl
carried_in (c ∷ cs) = ap (λ bs. byte_of c.0 ++ bs) (carried_in cs)

split_at : (n : ℕ) (bs : List ℕ) → byte_items (take n bs) ++ byte_items (drop n bs) ≡ byte_items bs
split_at n bs = sym (map-append (λ b. ItemOf.Byte b) (take n bs) (drop n bs)) ∙ ap byte_items (take-append-drop n bs)

module _ (scene : Scene) (passed : Passed) (items : Moved) (h : HaveItems passed items) where
  terminal_row : (t : Terminal) → TerminalStandsFor t passed → IsPrefix (items.sent t.output.queue.0) (byte_items t.script)
  terminal_row t f = (byte_items (drop t.next t.script), rw (← h.sent t.output.queue.0, f.sent_is, items_of_bytes (take t.next t.script)) (split_at t.next t.script))

  pipe_row : (p : Pipe) → PipeStandsFor p passed → IsPrefix (items.sent p.output.queue.0) (items.taken p.input.queue.0)
  pipe_row p f = (items_of (option_to_list p.load), rw (← h.sent p.output.queue.0, ← h.taken p.input.queue.0, f) (sym (map-append (λ (c : Cargo). c.0) (passed.sent p.output.queue.0) (option_to_list p.load))))

  -- the bytes that were dropped are those that its calls tell
  rx_row : (v : SerialVirtRx) → RxStandsFor v passed → (sheet scene (part_of (Kinds.SerialVirtRx v))).row (items)
  rx_row v f = record {
    marks = told_marks v.input.queue.0 (client_queues v) v.drops.items passed.calls;
    out = told_shares v passed items (record { taken = h.taken v.input.queue.0; sent = λ k q at. h.sent q; noes = λ k q at. h.noes Producer q }) (rx_row_of v passed f);
  }

  tx_row : (v : SerialVirtTx) → TxStandsFor v passed → (sheet scene (part_of (Kinds.SerialVirtTx v))).row (items)
  tx_row v f = record {
    owed = items_of (option_to_list v.load);
    few = one_few v.load;
    merged =
        let all : map items_of (map (λ (q : QueueId). passed.taken q.0) (intake_queues v.inputs)) ≡ map (λ n. items.taken n) (numbers (intake_queues v.inputs)) = taken_alike (intake_queues v.inputs) in
        let put : items_of (passed.sent v.output.queue.0 ++ option_to_list v.load) ≡ (items.sent v.output.queue.0) ++ items_of (option_to_list v.load) = map-append (λ (x : Cargo). x.0) (passed.sent v.output.queue.0) (option_to_list v.load) ∙ ap (λ s. s ++ items_of (option_to_list v.load)) (h.sent v.output.queue.0) in
        rw (← all, ← put) (merge_map (λ (x : Cargo). x.0) (map (λ (q : QueueId). passed.taken q.0) (intake_queues v.inputs)) (passed.sent v.output.queue.0 ++ option_to_list v.load) f);
  }
    where
      taken_alike : (qs : List QueueId) → map items_of (map (λ (q : QueueId). passed.taken q.0) qs) ≡ map (λ n. items.taken n) (numbers qs)
      taken_alike [] = refl
      taken_alike (q ∷ qs) = ap (λ l. l ∷ map items_of (map (λ (q : QueueId). passed.taken q.0) qs)) (h.taken q.0) ∙ ap (λ ls. (items.taken q.0) ∷ ls) (taken_alike qs)

  -- the row of its sheet
  pub actor_row : (x : Actor) → InTurn scene x passed → ActorStandsFor x passed → (sheet scene (part_of x)).row (items)
  actor_row (Kinds.UartDevice x) turn f = terminal_row x.terminal f
  actor_row (Kinds.SerialClient x) turn f = terminal_row x.terminal f
  actor_row (Kinds.SerialVirtRx x) turn f = rx_row x f
  actor_row (Kinds.SerialVirtTx x) turn f = tx_row x f
  actor_row (Kinds.UartDriver x) turn f = (pipe_row x.driver.pipes.first f.0, pipe_row x.driver.pipes.rest f.1.0)
  actor_row (Kinds.EthDevice x) turn f = device_row scene x passed items (record { items = items_at (net_sheet scene (device_part x)).ends passed items h; noes = h.noes Consumer (rx_free x); settled = used_up x passed f }) (device_row_of x passed f)
  actor_row (Kinds.EthDriver x) turn f = driver_row scene (four_pipes x.driver.pipes) passed items (items_at (net_sheet scene (driver_part (four_pipes x.driver.pipes))).ends passed items h) (pipes_row_of (four_pipes x.driver.pipes) passed f)
  actor_row (Kinds.NetVirtRx x) turn f = let row = receiver_row_of x passed f in receiver_row scene x passed items (items_at (net_sheet scene (receiver_part x)).ends passed items h) turn.takes row (turn.in_turn row)
  actor_row (Kinds.NetCopier x) turn f = copier_row scene x passed items (record { items = items_at (net_sheet scene (copier_part x)).ends passed items h; noes = h.noes Consumer x.buffer_input.queue.0 }) turn (copier_row_of x passed f)
  actor_row (Kinds.NetClient x) turn f = client_row scene x passed items turn.0 turn.1 (items_at (net_sheet scene (client_part x)).ends passed items h) (row_of x passed f)
  actor_row (Kinds.NetVirtTx x) turn f = let row = sender_row_of x passed f in send_row x passed items (items_at (send_sheet (send_part x)).ends passed items h) turn.good row (turn.in_turn row)
  actor_row (Kinds.DiskDevice x) turn f = block.disk_row scene x.start.value x.device passed items turn (items_at (blk_sheet scene (disk_part x.start.value x.device)).ends passed items h) (disk_row_of x.start.value x.device passed f)
  actor_row (Kinds.BlkDriver x) turn f = driver_row scene (two_pipes x.driver.pipes) passed items (items_at (blk_sheet scene (blk_driver_part (two_pipes x.driver.pipes))).ends passed items h) (pipes_row_of (two_pipes x.driver.pipes) passed f)
  actor_row (Kinds.BlkVirt x) turn f = virt_row scene x passed items turn (items_at (blk_sheet scene (virt_part x)).ends passed items h) (server_row_of x passed f)
  actor_row (Kinds.BlkClient x) turn f = block.client_row x passed turn (asker_row_of x passed f) scene items (items_at (blk_sheet scene (blk_client_part x)).ends passed items h)
  actor_row (Kinds.Rogue x) turn f = tt

module _ (passed : Passed) (items : Moved) (h : HaveItems passed items) where
  -- what it recorded is what the items say of its part
  pub heard_here : (x : Actor) → ActorStandsFor x passed → record_of x ≡ record_by items (part_of x)
  heard_here (Kinds.UartDevice x) st = st.record_is ∙ (carried_in (passed.taken x.terminal.input.queue.0) ∙ ap bytes_in (h.taken x.terminal.input.queue.0))
  heard_here (Kinds.SerialClient x) st = st.record_is ∙ (carried_in (passed.taken x.terminal.input.queue.0) ∙ ap bytes_in (h.taken x.terminal.input.queue.0))
  heard_here (Kinds.UartDriver x) st = refl
  heard_here (Kinds.SerialVirtRx x) st = refl
  heard_here (Kinds.SerialVirtTx x) st = refl
  heard_here (Kinds.EthDevice x) st = refl
  heard_here (Kinds.EthDriver x) st = refl
  heard_here (Kinds.NetVirtRx x) st = refl
  heard_here (Kinds.NetCopier x) st = refl
  heard_here (Kinds.NetClient x) st = refl
  heard_here (Kinds.NetVirtTx x) st = refl
  heard_here (Kinds.DiskDevice x) st = refl
  heard_here (Kinds.BlkDriver x) st = refl
  heard_here (Kinds.BlkVirt x) st = refl
  heard_here (Kinds.BlkClient x) st = refl
  heard_here (Kinds.Rogue x) st = refl

-- the frames that it recorded are those of the entries that it took
pub frames_here : (passed : Passed) (x : Actor) → ActorStandsFor x passed → frames_got x ≡ frames_by passed (part_of x)
frames_here passed (Kinds.UartDevice x) st = refl
frames_here passed (Kinds.SerialClient x) st = refl
frames_here passed (Kinds.UartDriver x) st = refl
frames_here passed (Kinds.SerialVirtRx x) st = refl
frames_here passed (Kinds.SerialVirtTx x) st = refl
frames_here passed (Kinds.EthDevice x) st = st.sends.recorded
frames_here passed (Kinds.EthDriver x) st = refl
frames_here passed (Kinds.NetVirtRx x) st = refl
frames_here passed (Kinds.NetCopier x) st = refl
frames_here passed (Kinds.NetClient x) st = st.got
frames_here passed (Kinds.NetVirtTx x) st = refl
frames_here passed (Kinds.DiskDevice x) st = refl
frames_here passed (Kinds.BlkDriver x) st = refl
frames_here passed (Kinds.BlkVirt x) st = refl
frames_here passed (Kinds.BlkClient x) st = refl
frames_here passed (Kinds.Rogue x) st = refl

-- the replies that it recorded are those to the responses that it took
pub replies_here : (scene : Scene) (passed : Passed) (x : Actor) → InTurn scene x passed → ActorStandsFor x passed → replies_got x ≡ replies_by passed (part_of x)
replies_here scene passed (Kinds.UartDevice x) turn st = refl
replies_here scene passed (Kinds.SerialClient x) turn st = refl
replies_here scene passed (Kinds.UartDriver x) turn st = refl
replies_here scene passed (Kinds.SerialVirtRx x) turn st = refl
replies_here scene passed (Kinds.SerialVirtTx x) turn st = refl
replies_here scene passed (Kinds.EthDevice x) turn st = refl
replies_here scene passed (Kinds.EthDriver x) turn st = refl
replies_here scene passed (Kinds.NetVirtRx x) turn st = refl
replies_here scene passed (Kinds.NetCopier x) turn st = refl
replies_here scene passed (Kinds.NetClient x) turn st = refl
replies_here scene passed (Kinds.NetVirtTx x) turn st = refl
replies_here scene passed (Kinds.DiskDevice x) turn st = refl
replies_here scene passed (Kinds.BlkDriver x) turn st = refl
replies_here scene passed (Kinds.BlkVirt x) turn st = refl
replies_here scene passed (Kinds.BlkClient x) turn st =
    st.stands.replied ∙ ap (replies_to x.asking.script.items) (sym (st.taken ∙ (ap (λ o. st.came ++ option_to_list o) turn.free ∙ append-nil st.came)))
replies_here scene passed (Kinds.Rogue x) turn st = refl
