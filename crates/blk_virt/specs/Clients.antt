-- What the block virtualiser keeps of one client, and how that stands for what passed.
use Rattle.std.specs.Prelude.{◌≡◌, ◌+◌, ◌*◌, ◌<◌, ◌≤◌, ◌^◌, ◌&&◌, ℕ, Bool, true, false, is_some}
use Rattle.std.specs.Prelude.{is_none, if◌then◌else◌, Option, Some, None, List, [], ◌∷◌, ◌++◌}
use Rattle.std.specs.Prelude.{length, map}
use Rattle.std.specs.List.{filter}
use Rattle.std.specs.Option.{option_map, option_to_list}
use Rattle.cargo_core.specs.Blocks.{blk_buffer_bytes}
use Rattle.cargo_core.specs.declared.item.Body.{Body}
use Rattle.cargo_core.specs.declared.item.QueueKind.TheVariants as Kind
use Rattle.cargo_core.specs.Items.{kind_of}
use Rattle.wire_core.specs.Deeds.{Cargo}
use Rattle.blk_mbr.specs.declared.part.Part.{Part}
use Rattle.buffer_kit.specs.Conserving.{Count, weighed}
use Rattle.blk_virt.specs.declared.client.Client.{Client}
use Rattle.blk_virt.specs.declared.client.Current.{Current}
use Rattle.blk_virt.specs.declared.requests.Holder.{Holder}
use Rattle.blk_virt.specs.Requests.{request_of, goes_on, is_bad, for_disk, page_named, brings}
use Rattle.blk_virt.specs.Requests.{numbered, number_of, is_at}
use Rattle.blk_virt.specs.Serving.{answers_to, AllBring, unnumbered}
pub use Rattle.buffer_kit.specs.Clients.{capped, carried}

-- the count after a request came
abbrev pub counted : Holder → ℕ → Cargo → ℕ
counted h n x = if is_bad h x then capped (n + 1) else n

-- none of its requests is at the disk or on the way there, and no answer is held
abbrev pub is_idle : Client → Bool
is_idle c = is_none c.current && is_none c.held

-- a request is on its way to the driver
abbrev pub is_leaving : Client → Bool
is_leaving c = is_some c.leaving

-- a request is at the driver
abbrev pub is_away : Client → Bool
is_away c = is_some c.current && is_none c.leaving

-- a body is the buffer of its request at the driver, where that has one
abbrev pub brought : Option Current → Body → Bool
brought None body = false
brought (Some current) body = brings current.page body

-- what leaves, with this number
abbrev pub leaving_as : ℕ → Client → Option Cargo
leaving_as n c = option_map (numbered n) c.leaving

-- an answer is to go to the client
abbrev pub is_held : Client → Bool
is_held c = is_some c.held

-- the entries that it has
abbrev pub client_cargo : Client → List Cargo
client_cargo c = option_to_list c.leaving ++ option_to_list c.held

-- what is kept of a request that was sent on is so
pub record IsCurrent (h : Holder) (part : Option Part) (current : Current) (x : Cargo) :
    Type 0 where
  pub goes : goes_on h part x ≡ true
  pub id : (request_of x.0).id ≡ current.id
  pub page : page_named x.1 ≡ current.page

-- the request that has no answer yet, where there is one
abbrev pub IsPending : Holder → Option Part → Option Current → List Cargo → Type 0
IsPending h part None pending = pending ≡ []
IsPending h part (Some current) pending =
    (x : Cargo) × (pending ≡ x ∷ []) × IsCurrent h part current x

-- a request is kept, and has the buffer of this entry
abbrev pub IsOfPage : Option Current → Cargo → Type 0
IsOfPage None x = ⊥
IsOfPage (Some current) x = page_named x.1 ≡ current.page

-- what it keeps fits together
pub record IsClient (c : Client) : Type 0 where
  pub some : 0 < c.holder.buffers
  pub entry : c.holder.partition < 4
  pub room : c.holder.base + c.holder.buffers * blk_buffer_bytes ≤ 2 ^ 62
  pub leaves : (x : Cargo) → c.leaving ≡ Some x → (kind_of x.0 ≡ Kind.Req)
      × (is_at c.holder x ≡ true) × IsOfPage c.current x
  pub alone : is_some c.current ≡ true → c.held ≡ None
  pub answer : (x : Cargo) → c.held ≡ Some x → kind_of x.0 ≡ Kind.Resp

-- how it stands for what came from the client, what was sent to the driver for it, what the driver
-- answered and what went back to the client: its requests that go on were sent, but for one that
-- leaves; all its requests are answered but for one that is pending, and so is each that the driver
-- answered; what went back are the answers, but for one that is held
pub record ClientStands (c : Client) (part : Option Part) (came sent back gave : List Cargo) :
    Type 0 where
  pub earlier : List Cargo
  pub pending : List Cargo
  pub came_are : earlier ++ pending ≡ came
  pub is_pending : IsPending c.holder part c.current pending
  pub sends : unnumbered (sent ++ option_to_list c.leaving)
      ≡ map (for_disk c.holder part) (filter (goes_on c.holder part) came)
  pub answers : gave ++ option_to_list c.held ≡ answers_to c.holder part earlier back
  pub whole : length back ≡ length (filter (goes_on c.holder part) earlier)
  pub buffers : AllBring earlier (gave ++ option_to_list c.held)
  pub as_many : length (gave ++ option_to_list c.held) ≡ length earlier
  pub bad_many : c.bad ≡ capped (length (filter (is_bad c.holder) came))

-- so much more came from the client, was sent for it, was answered by the driver and went back
pub record Moved (part : Option Part) (old new : Client) (came sent back gave : List Cargo) :
    Type 0 where
  pub work : IsClient new
  pub holder : new.holder ≡ old.holder
  pub stands : (cs ss bs gs : List Cargo) → ClientStands old part cs ss bs gs
      → ClientStands new part (cs ++ came) (ss ++ sent) (bs ++ back) (gs ++ gave)
  pub held : (f : Count) → weighed f (client_cargo old) + (weighed f came + weighed f back)
      ≡ weighed f (client_cargo new) + (weighed f sent + weighed f gave)

-- a client at the start
pub record IsFresh (c : Client) : Type 0 where
  pub work : IsClient c
  pub none_current : c.current ≡ None
  pub none_leaving : c.leaving ≡ None
  pub none_held : c.held ≡ None
  pub none_bad : c.bad ≡ 0

-- the request that left is at the driver, with this number, at one of the client's buffers and with
-- the buffer that is kept of it
pub record WentOff (old new : Client) (n : ℕ) (sent : List Cargo) : Type 0 where
  pub entry : Cargo
  pub sent_is : sent ≡ entry ∷ []
  pub number : number_of entry ≡ n
  pub at : is_at old.holder entry ≡ true
  pub page : (current : Current) → new.current ≡ Some current → page_named entry.1 ≡ current.page
  pub away : is_away new ≡ true
