-- What each actor of a switch's system wants of its ends, by its own state.
use Rattle.std.specs.Prelude.{ℕ, ◌+◌, Bool, List, [], ◌∷◌, ◌++◌, length}
use Rattle.wire_core.specs.declared.names.QueueId.{QueueId}
use Rattle.play_core.specs.Wants.{Want, intake_want, outlet_want}
use Rattle.client_programs.specs.Net.Clients.{client_frames, is_giving, needs_frame, rx_active}
use Rattle.client_programs.specs.Net.Clients.{rx_free, tx_active, tx_free}
use Rattle.client_programs.specs.Net.Sending.{needs_buffer, is_sending}
use Rattle.net_switch.specs.SwitchDesk.Desks.{is_taking, is_returning, is_wanting, is_loaded}
use Rattle.net_switch.specs.Ends.{come_queues, back_queues, room_queues, copy_queues}
use Rattle.switched_law.specs.declared.switch_class.member.Member.{Member}
use Rattle.switched_law.specs.declared.switch_class.member.Member.TheVariants as Members

-- what is wanted of each of these queues, the first of which has this place
abbrev pub queue_wants : (want : ℕ → Bool → Want) → (need : ℕ → Bool) → (place : ℕ)
    → List QueueId → List Want
queue_wants want need place [] = []
queue_wants want need place (q ∷ qs) =
    want q.0 (need place) ∷ queue_wants want need (place + 1) qs

-- what an actor wants
abbrev pub member_wants : Member → List Want
member_wants (Members.Client c) = intake_want (rx_active c) (needs_frame c)
    ∷ outlet_want (rx_free c) (is_giving c)
    ∷ intake_want (tx_free c) (needs_buffer c.outbox (length (client_frames c)))
    ∷ outlet_want (tx_active c) (is_sending c.outbox (length (client_frames c))) ∷ []
member_wants (Members.Switch v) =
    queue_wants intake_want (is_taking v.desk) 0 (come_queues v.ends)
    ++ (queue_wants outlet_want (is_returning v.desk) 0 (back_queues v.ends)
    ++ (queue_wants intake_want (is_wanting v.desk) 0 (room_queues v.ends)
    ++ queue_wants outlet_want (is_loaded v.desk) 0 (copy_queues v.ends)))
