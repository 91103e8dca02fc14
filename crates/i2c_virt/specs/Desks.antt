-- What the virtualiser has of one client, and how that stands for what passed for it.
use Rattle.std.specs.Prelude.{◌≡◌, ◌+◌, ◌==◌, ◌&&◌, ℕ, Bool, true, false, is_some, is_none, Option}
use Rattle.std.specs.Prelude.{Some, None, List, [], ◌∷◌, ◌++◌, length}
use Rattle.std.specs.Option.{ForSome, option_to_list}
use Rattle.cargo_core.specs.declared.item.Body.TheVariants as Bodies
use Rattle.cargo_core.specs.declared.item.QueueKind.TheVariants as Kind
use Rattle.cargo_core.specs.Items.{kind_of}
use Rattle.cargo_core.specs.Pages.{Paged}
use Rattle.wire_core.specs.Deeds.{Cargo}
use Rattle.i2c_text.specs.declared.report.BusStatus.{BusStatus}
use Rattle.i2c_virt.specs.I2cKit.Entries.{item_at, own_place, shared_place}
use Rattle.i2c_virt.specs.I2cKit.Pages.{with_reply}
use Rattle.i2c_virt.specs.declared.desk.Desk.{Desk}

-- a page on its client's own queues
abbrev pub own_entry : Paged → Cargo
own_entry p = (item_at (own_place p.no), Bodies.Page p)

-- and on the driver's
abbrev pub shared_entry : Paged → Cargo
shared_entry p = (item_at (shared_place p.pool p.no), Bodies.Page p)

-- the answer of the virtualiser itself, in the request's own buffer
abbrev pub own_answer : BusStatus → Paged → Cargo
own_answer status p = own_entry (record p { bytes = with_reply p.bytes status [] })

-- a request that was taken in turn, by its page, and how it was judged: the status of the
-- virtualiser's own answer, or none where it goes to the driver
abbrev pub Judged : Type 0
Judged = Paged × Option BusStatus

-- what goes to the driver of these, in their order
abbrev pub forwarded : List Judged → List Cargo
forwarded [] = []
forwarded ((p, Some status) ∷ more) = forwarded more
forwarded ((p, None) ∷ more) = shared_entry p ∷ forwarded more

-- what came back from the driver has the request's buffer, and is given to the client as it came
pub record IsPassedOn (p : Paged) (came given : Cargo) : Type 0 where
  pub page : Paged
  pub same_pool : page.pool ≡ p.pool
  pub same_number : page.no ≡ p.no
  pub came_is : came ≡ shared_entry page
  pub given_is : given ≡ own_entry page

-- what a client got answers its requests in their order, as far as it goes, each in the request's
-- own buffer: it is the virtualiser's own answer, or what came back from the driver in its turn
abbrev pub AreGiven : List Judged → (back : List Cargo) → (given : List Cargo) → Type 0
AreGiven judged back [] = Unit {0}
AreGiven [] back (z ∷ zs) = ⊥
AreGiven ((p, Some status) ∷ more) back (z ∷ zs) =
    (z ≡ own_answer status p) × AreGiven more back zs
AreGiven ((p, None) ∷ more) [] (z ∷ zs) = ⊥
AreGiven ((p, None) ∷ more) (y ∷ back) (z ∷ zs) = IsPassedOn p y z × AreGiven more back zs

-- the client's next request may be taken: none is at the driver or on its way, and no answer is
-- held
abbrev pub is_open : Desk → Bool
is_open d = is_none d.current && is_none d.held

-- a number, where there is one, is this
abbrev pub is_number : Option ℕ → ℕ → Bool
is_number None n = false
is_number (Some m) n = m == n

-- its request in the buffer of this number is at the driver
abbrev pub is_away_in : Desk → ℕ → Bool
is_away_in d number = is_none d.leaving && is_number d.current number

-- an entry is a request of client k on its way to the driver, in the buffer of this number
pub record IsLeaving (k : ℕ) (current : Option ℕ) (x : Cargo) : Type 0 where
  pub page : Paged
  pub is : x ≡ shared_entry page
  pub own : page.pool.0 ≡ k
  pub number : current ≡ Some page.no

-- what is kept of client k fits together
pub record IsDesk (k : ℕ) (d : Desk) : Type 0 where
  pub leaves : ForSome d.leaving (IsLeaving k d.current)
  pub kind : ForSome d.held (λ x. kind_of x.0 ≡ Kind.Net)
  pub alone : is_some d.current ≡ true → d.held ≡ None

-- the request of client k that is under way, in the buffer of this number
abbrev pub IsUnderWay : (k : ℕ) → Option ℕ → List Judged → Type 0
IsUnderWay k None js = js ≡ []
IsUnderWay k (Some number) js =
    (p : Paged) × (js ≡ (p, None) ∷ []) × (p.pool.0 ≡ k) × (p.no ≡ number)

-- how it stands for the client's requests that were taken in turn, for what went to the driver of
-- them, for what came back, and for what the client got
pub record DeskStands (k : ℕ) (d : Desk) (judged : List Judged) (sent back gave : List Cargo) :
    Type 0 where
  pub before : List Judged
  pub under_way : List Judged
  pub parts : judged ≡ before ++ under_way
  pub current : IsUnderWay k d.current under_way
  pub went : sent ++ option_to_list d.leaving ≡ forwarded judged
  pub came_back : length back ≡ length (forwarded before)
  pub given : AreGiven before back (gave ++ option_to_list d.held)
  pub as_many : length gave + length (option_to_list d.held) ≡ length before

-- a client of which nothing came
abbrev pub new_desk : Desk
new_desk = record { current = None; leaving = None; held = None }

-- its request came, and is to go to the driver
abbrev pub forwarding : Paged → Desk → Desk
forwarding p d = record d { current = Some p.no; leaving = Some (shared_entry p) }

-- its request came, and the virtualiser's own answer to it is held
abbrev pub answering : BusStatus → Paged → Desk → Desk
answering status p d = record d { held = Some (own_answer status p) }

-- the one or the other, by how it is judged
abbrev pub asked_by : Option BusStatus → Paged → Desk → Desk
asked_by (Some status) p d = answering status p d
asked_by None p d = forwarding p d

-- the answer to its request came back
abbrev pub back_with : Paged → Desk → Desk
back_with p d = record d { current = None; held = Some (own_entry p) }
