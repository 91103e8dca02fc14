-- What each line of a trace says.
use Rattle.std.specs.Prelude.{ℕ, ◌*◌, ◌%◌, ◌^◌, ◌==◌, ◌&&◌, nat_eq, nat_le, nat_lt, Bool, true}
use Rattle.std.specs.Prelude.{false}
use Rattle.std.specs.Prelude.{if◌then◌else◌, List, [], ◌∷◌, length, slice_index, slice_get, codes}
use Rattle.std.specs.Prelude.{Option, Some, None, is_some}
use Rattle.std.specs.Option.{option_and_then, option_map, option_map_or}
use Rattle.std.specs.List.{find}
use Rattle.std.specs.Cmp.Lexicographic.{pointwise}
use Rattle.cargo_core.specs.Blocks.{block_bytes}
use Rattle.cargo_core.specs.declared.act.Act.{Act}
use Rattle.cargo_core.specs.declared.act.Act.TheVariants as Does
use Rattle.cargo_core.specs.declared.act.Word.{Word}
use Rattle.cargo_core.specs.declared.act.Word.TheVariants as Named
use Rattle.cargo_core.specs.declared.item.Ask.{Ask}
use Rattle.cargo_core.specs.declared.item.Code.{Code}
use Rattle.cargo_core.specs.declared.item.Code.TheVariants as Asked
use Rattle.sdf_plan.specs.declared.plan.Plan.{Plan}
use Rattle.sdf_plan.specs.declared.plan.Domain.{Domain}
use Rattle.sdf_plan.specs.declared.plan.NetClient.{NetClient}
use Rattle.sdf_plan.specs.declared.plan.SerialClient.{SerialClient}
use Rattle.sdf_plan.specs.declared.plan.BlkClient.{BlkClient}
use Rattle.frame_core.specs.Frames.{is_frame_of}
use Rattle.trace_text.specs.declared.class.Class.{Class}
use Rattle.trace_text.specs.declared.class.Class.TheVariants as Of
use Rattle.trace_text.specs.Limits.{frame_most}
use Rattle.line_text.specs.Texts.{words_of, number_of, same_text, is_skipped}
use Rattle.line_text.specs.Data.{data_of}

-- what a line says
pub data Event : Type 0 where
  -- nothing: the line is skipped
  Skipped : Event
  -- the next frame at the Ethernet device
  Rx : List ℕ → Event
  -- the next bytes at the UART
  In : List ℕ → Event
  -- the next frame of a network client
  Send : ℕ → List ℕ → Event
  -- the next bytes of a serial client
  Say : ℕ → List ℕ → Event
  -- the disk has so many sectors
  Disk : ℕ → Event
  -- the image's bytes from a place on are these
  Patch : ℕ → List ℕ → Event
  -- the next request of a block client
  Request : ℕ → Ask → Event
  -- the next act of a hostile client of a class
  Rogue : Class → ℕ → Act → Event

-- whether the first domain of a name runs a program
abbrev pub runs : List Domain → List ℕ → List ℕ → Bool
runs domains name program =
    option_map_or (λ d. same_text d.program program) (find (λ d. same_text d.name name) domains)
    false

-- the clients of the network class, if there is one
abbrev pub net_clients : Plan → List NetClient
net_clients plan = option_map_or (λ net. net.client) plan.net []

-- the clients of the serial class, if there is one
abbrev pub serial_clients : Plan → List SerialClient
serial_clients plan = option_map_or (λ serial. serial.client) plan.serial []

-- the clients of the block class, if there is one
abbrev pub blk_clients : Plan → List BlkClient
blk_clients plan = option_map_or (λ blk. blk.client) plan.blk []

-- whether the network client of a number sends frames of its own
unfoldable pub is_source : Plan → ℕ → Bool
is_source plan c =
    option_map_or (λ client. runs plan.protection_domain client.pd (codes "net_source"))
    (slice_get (net_clients plan) c) false

-- whether the serial client of a number says bytes of its own
unfoldable pub is_speaker : Plan → ℕ → Bool
is_speaker plan c =
    option_map_or (λ client. runs plan.protection_domain client.pd (codes "serial_speaker"))
    (slice_get (serial_clients plan) c) false

-- whether the block client of a number makes requests of its own
unfoldable pub is_script : Plan → ℕ → Bool
is_script plan c =
    option_map_or (λ client. runs plan.protection_domain client.pd (codes "blk_script"))
    (slice_get (blk_clients plan) c) false

-- whether the network client of a number is a hostile one
unfoldable pub is_net_rogue : Plan → ℕ → Bool
is_net_rogue plan c =
    option_map_or (λ client. runs plan.protection_domain client.pd (codes "net_rogue"))
    (slice_get (net_clients plan) c) false

-- whether the serial client of a number is a hostile one
unfoldable pub is_serial_rogue : Plan → ℕ → Bool
is_serial_rogue plan c =
    option_map_or (λ client. runs plan.protection_domain client.pd (codes "serial_rogue"))
    (slice_get (serial_clients plan) c) false

-- whether the block client of a number is a hostile one
unfoldable pub is_blk_rogue : Plan → ℕ → Bool
is_blk_rogue plan c =
    option_map_or (λ client. runs plan.protection_domain client.pd (codes "blk_rogue"))
    (slice_get (blk_clients plan) c) false

-- whether the client of a number is a hostile one of its class
abbrev pub is_rogue : Plan → Class → ℕ → Bool
is_rogue plan Of.Net c = is_net_rogue plan c
is_rogue plan Of.Serial c = is_serial_rogue plan c
is_rogue plan Of.Blk c = is_blk_rogue plan c

-- an event that is there only where a condition holds
abbrev pub kept_if : Bool → Option Event → Option Event
kept_if holds event = if holds then event else None

-- the event of the number that a word stands for
abbrev pub with_number : List ℕ → (ℕ → Option Event) → Option Event
with_number word event = option_and_then event (number_of word)

-- the event of the bytes that a word stands for
abbrev pub with_data : List ℕ → (List ℕ → Option Event) → Option Event
with_data word event = option_and_then event (data_of word)

-- `rx DATA`
unfoldable pub rx_line : Plan → List ℕ → Option Event
rx_line plan word =
    with_data word (λ frame.
    kept_if (is_some plan.net && is_frame_of frame (frame_most plan)) (Some (Event.Rx frame)))

-- `in DATA`
unfoldable pub in_line : Plan → List ℕ → Option Event
in_line plan word = with_data word (λ bytes. kept_if (is_some plan.serial) (Some (Event.In bytes)))

-- `send C DATA`
unfoldable pub send_line : Plan → List ℕ → List ℕ → Option Event
send_line plan client word =
    with_number client (λ c. with_data word (λ frame.
    kept_if (is_source plan c && is_frame_of frame (frame_most plan)) (Some (Event.Send c frame))))

-- `say C DATA`
unfoldable pub say_line : Plan → List ℕ → List ℕ → Option Event
say_line plan client word =
    with_number client (λ c. with_data word (λ bytes.
    kept_if (is_speaker plan c) (Some (Event.Say c bytes))))

-- `disk N`: a number of sectors that makes blocks of 4,096 bytes
unfoldable pub disk_line : Plan → List ℕ → Option Event
disk_line plan word =
    with_number word (λ n.
    kept_if (is_some plan.blk && n % 8 == 0 && nat_le 8 n && nat_le n 65536) (Some (Event.Disk n)))

-- `bytes AT DATA`
unfoldable pub bytes_line : Plan → List ℕ → List ℕ → Option Event
bytes_line plan place word =
    with_number place (λ at. with_data word (λ bytes.
    kept_if (is_some plan.blk) (Some (Event.Patch at bytes))))

-- a request without bytes of its own
abbrev pub bare_ask : Code → ℕ → ℕ → Ask
bare_ask code block count = record { code = code; block = block; count = count; fill = [] }

-- the code of a request that names no blocks
abbrev pub order_code : List ℕ → Option Code
order_code order =
    if same_text order (codes "flush") then Some Asked.Flush
    else if same_text order (codes "barrier") then Some Asked.Barrier
    else None

-- `blk C flush`, `blk C barrier`
unfoldable pub blk_order_line : Plan → List ℕ → List ℕ → Option Event
blk_order_line plan client order =
    with_number client (λ c. option_and_then (λ code.
    kept_if (is_script plan c) (Some (Event.Request c (bare_ask code 0 0))))
    (order_code order))

-- whether these blocks can be asked for
abbrev pub is_reach : ℕ → ℕ → Bool
is_reach block count = nat_le block 4294967295 && nat_le 1 count && nat_le count 8

-- `blk C read B N`
unfoldable pub blk_read_line : Plan → List ℕ → List ℕ → List ℕ → Option Event
blk_read_line plan client first many =
    with_number client (λ c. with_number first (λ block. with_number many (λ count.
    kept_if (is_script plan c && is_reach block count)
    (Some (Event.Request c (bare_ask Asked.Read block count))))))

-- `blk C write B N DATA`
unfoldable pub blk_write_line : Plan → List ℕ → List ℕ → List ℕ → List ℕ → Option Event
blk_write_line plan client first many word =
    with_number client (λ c. with_number first (λ block. with_number many (λ count.
    with_data word (λ bytes.
    kept_if (is_script plan c && is_reach block count && length bytes == count * block_bytes)
    (Some (Event.Request c
    (record { code = Asked.Write; block = block; count = count; fill = bytes })))))))

-- a longer `blk` line of a client, by its words behind the request's code
abbrev pub blk_line : Plan → List ℕ → List ℕ → List (List ℕ) → Option Event
blk_line plan client code (first ∷ many ∷ []) =
    if same_text code (codes "read") then blk_read_line plan client first many else None
blk_line plan client code (first ∷ many ∷ word ∷ []) =
    if same_text code (codes "write") then blk_write_line plan client first many word else None
blk_line plan client code _ = None

-- the class of a name
abbrev pub class_of : List ℕ → Option Class
class_of name =
    if same_text name (codes "net") then Some Of.Net
    else if same_text name (codes "serial") then Some Of.Serial
    else if same_text name (codes "blk") then Some Of.Blk
    else None

-- the number that a word spells, where it passes a test
abbrev pub number_where : (ℕ → Bool) → List ℕ → Option ℕ
number_where test word =
    option_and_then (λ n. if test n then Some n else None) (number_of word)

-- how many inputs a hostile client has; its outputs are numbered behind them, and are as many
abbrev pub inputs_of : Class → ℕ
inputs_of Of.Net = 2
inputs_of Of.Serial = 1
inputs_of Of.Blk = 1

-- whether a queue of a hostile client is one of its inputs
abbrev pub is_input : Class → ℕ → Bool
is_input class k = nat_lt k (inputs_of class)

-- whether it is one of its outputs
abbrev pub is_output : Class → ℕ → Bool
is_output class k = nat_le (inputs_of class) k && nat_lt k (2 * inputs_of class)

-- whether it is one of either sort
abbrev pub is_queue : Class → ℕ → Bool
is_queue class k = nat_lt k (2 * inputs_of class)

-- whether a number can be an address, a length or a value: it has 64 bits
abbrev pub is_value : ℕ → Bool
is_value n = nat_lt n (2 ^ 64)

-- whether a number can be a place among what a hostile client keeps: it has 32 bits
abbrev pub is_place : ℕ → Bool
is_place n = nat_lt n (2 ^ 32)

-- the word of a queue that has a name
abbrev pub word_named : List ℕ → Option Word
word_named name =
    if same_text name (codes "head") then Some Named.Head
    else if same_text name (codes "tail") then Some Named.Tail
    else if same_text name (codes "flag") then Some Named.Flag
    else if same_text name (codes "flag_back") then Some Named.FlagBack
    else if same_text name (codes "pending") then Some Named.Pending
    else if same_text name (codes "pending_back") then Some Named.PendingBack
    else None

-- `take K`
unfoldable pub take_said : Class → List (List ℕ) → Option Act
take_said class (k ∷ []) = option_map (λ q. Does.Take q) (number_where (is_input class) k)
take_said class _ = None

-- `put K A L`
unfoldable pub put_said : Class → List (List ℕ) → Option Act
put_said class (k ∷ a ∷ l ∷ []) =
    option_and_then (λ q. option_and_then (λ address. option_map (λ long. Does.Put q address long)
    (number_where is_value l)) (number_where is_value a)) (number_where (is_output class) k)
put_said class _ = None

-- `give K P A L`
unfoldable pub give_said : Class → List (List ℕ) → Option Act
give_said class (k ∷ p ∷ a ∷ l ∷ []) =
    option_and_then (λ q. option_and_then (λ place. option_and_then (λ address.
    option_map (λ long. Does.Give q place address long)
    (number_where is_value l)) (number_where is_value a)) (number_where is_place p))
    (number_where (is_output class) k)
give_said class _ = None

-- `store K W V`
unfoldable pub store_said : Class → List (List ℕ) → Option Act
store_said class (k ∷ w ∷ v ∷ []) =
    option_and_then (λ q. option_and_then (λ word. option_map (λ value. Does.Store q word value)
    (number_where is_value v)) (word_named w)) (number_where (is_queue class) k)
store_said class _ = None

-- what the words of an act say
unfoldable pub act_said : Class → List (List ℕ) → Option Act
act_said class (name ∷ k ∷ more) =
    if same_text name (codes "take") then take_said class (k ∷ more)
    else if same_text name (codes "put") then put_said class (k ∷ more)
    else if same_text name (codes "give") then give_said class (k ∷ more)
    else if same_text name (codes "store") then store_said class (k ∷ more)
    else None
act_said class _ = None

-- `rogue CLASS C ACT`
unfoldable pub rogue_line : Plan → List ℕ → List ℕ → List (List ℕ) → Option Event
rogue_line plan name client words =
    option_and_then (λ class. with_number client (λ c. option_and_then (λ act.
    kept_if (is_rogue plan class c) (Some (Event.Rogue class c act)))
    (act_said class words))) (class_of name)

-- what the words of a line say: none where the line is bad by itself
unfoldable pub words_say : Plan → List (List ℕ) → Option Event
words_say plan (name ∷ a ∷ []) =
    if same_text name (codes "rx") then rx_line plan a
    else if same_text name (codes "in") then in_line plan a
    else if same_text name (codes "disk") then disk_line plan a
    else None
words_say plan (name ∷ a ∷ b ∷ []) =
    if same_text name (codes "send") then send_line plan a b
    else if same_text name (codes "say") then say_line plan a b
    else if same_text name (codes "bytes") then bytes_line plan a b
    else if same_text name (codes "blk") then blk_order_line plan a b
    else None
words_say plan (name ∷ a ∷ b ∷ c ∷ more) =
    if same_text name (codes "blk") then blk_line plan a b (c ∷ more)
    else if same_text name (codes "rogue") then rogue_line plan a b (c ∷ more)
    else None
words_say plan _ = None

-- what a line says: none where it is bad by itself
unfoldable pub meaning : Plan → List ℕ → Option Event
meaning plan line = if is_skipped line then Some Event.Skipped else words_say plan (words_of line)
