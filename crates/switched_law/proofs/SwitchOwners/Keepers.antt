-- The actors of a switch's system have these keepers.
use Rattle.std.proofs.Common.{◌≡◌, ◌<◌, ℕ, Some, List, length, slice_get, sym, ◌∙◌, arith}
use Rattle.frame_core.specs.declared.mac.Mac.{Mac}
use Rattle.wire_core.specs.declared.names.QueueRow.{QueueRow}
use Rattle.wire_core.specs.Lists.{Passed}
use Rattle.play_core.specs.Moved.{Moved}
use Rattle.play_core.specs.Sheets.{HaveTwoOwners}
use Rattle.play_core.proofs.Lists.{there_is}
use Rattle.owner_law.specs.Keeping.{Keeper, AreDealt}
use Rattle.owner_law.specs.Pools.Handing.{HandsOn}
use Rattle.line_text.specs.declared.ports_text.ports.Ports.{Ports}
use Rattle.small_system.specs.Standing.{Begins}
use Rattle.small_system.specs.SmallLaw.Keepers.{HasKeeper, HaveKeepers}
use Rattle.switched_law.specs.declared.switch_class.member.Member.{Member}
use Rattle.switched_law.specs.SwitchClass.Queues.{AreQueues}
use Rattle.switched_law.specs.SwitchClass.Members.{made_of, MemberStandsFor, member_means}
use Rattle.switched_law.specs.SwitchClass.Casting.{CanBeMade, AreMade, client_made}
use Rattle.switched_law.proofs.SwitchClass.Lanes.{Lane, TxActive, TxFree, RxActive, RxFree, from_at, to_at, LaneRow, row_lane}
use Rattle.switched_law.specs.SwitchOwners.Owning.{client_keeper, switch_keeper, switch_keepers, switch_naming}
use Rattle.switched_law.proofs.SwitchOwners.Naming.{is_naming, no_answers}
use Rattle.switched_law.proofs.SwitchOwners.Seats.{client_given, client_all, client_apart, switch_given, switch_all, switch_apart}
use Rattle.switched_law.proofs.SwitchOwners.Spread.{keepers_many, all_keepers}
use Rattle.switched_law.proofs.SwitchOwners.Actors.{client_like_keeps, client_like_hands, switch_like_keeps, switch_like_hands}

-- no actor has both ends of a queue
apart_ends : (l : Lane) (port ports : ℕ) → port < ports → to_at l port ports ≡ from_at l port ports → ⊥
apart_ends TxActive port ports lt e = let no : ports ≡ port = e in absurd (omega (arith, lt, no))
apart_ends TxFree port ports lt e = let no : port ≡ ports = e in absurd (omega (arith, lt, no))
apart_ends RxActive port ports lt e = let no : port ≡ ports = e in absurd (omega (arith, lt, no))
apart_ends RxFree port ports lt e = let no : ports ≡ port = e in absurd (omega (arith, lt, no))

pub two_owners : (ports : ℕ) (rows : List QueueRow) → AreQueues ports rows → HaveTwoOwners rows
two_owners ports rows q k row at e = by (row_lane ports rows q k row at)
  where
    by : LaneRow ports k row → ⊥
    by x = apart_ends x.in_lane.lane x.in_lane.port ports x.in_lane.below (sym x.is.consumer_is ∙ (e ∙ x.is.producer_is))

module _ (ports : Ports) (rows : List QueueRow) (start : List Member) (can : CanBeMade ports) (q : AreQueues (length ports.macs) rows) (made : AreMade ports start) (begins : Begins member_means rows start) where
  abbrev n : ℕ
  n = length ports.macs

  -- of what the actor of a port is made
  pub record IsPort (port : ℕ) (x : Member) : Type 0 where
    pub mac : Mac
    pub frames : List (List ℕ)
    pub is : made_of x ≡ client_made port mac frames

  pub port_there : (port : ℕ) → port < n → (x : Member) → slice_get start port ≡ Some x → IsPort port x
  port_there port lt x at =
      let mac = there_is ports.macs port lt in
      let lists : length ports.sends ≡ n = can.lists in
      let frames = there_is ports.sends port (omega (arith, lt, lists)) in
      record { mac = mac.0; frames = frames.0; is = made.clients port mac.0 frames.0 x mac.1 frames.1 at }

  has_client : (port : ℕ) → port < n → (x : Member) → slice_get start port ≡ Some x → HasKeeper member_means (switch_naming n) x (client_keeper port)
  has_client port lt x at =
      let p = port_there port lt x at in
      record {
        given = client_given n rows q start begins port lt x at;
        all = client_all n rows q start begins port lt x at;
        apart = client_apart port;
        keeps = λ y part fit passed stands moves items. client_like_keeps n port lt p.mac p.frames passed moves y (part ∙ p.is) stands items;
      }

  has_switch : (x : Member) → slice_get start n ≡ Some x → HasKeeper member_means (switch_naming n) x (switch_keeper n)
  has_switch x at = record {
    given = switch_given n rows q start begins x at;
    all = switch_all n rows q start begins x at;
    apart = switch_apart n;
    keeps = λ y part fit passed stands moves items. switch_like_keeps ports.macs passed moves y (part ∙ made.switch x at) stands items;
  }

  pub have_keepers : AreDealt (switch_keepers n) → HaveKeepers member_means (switch_naming n) n rows start (switch_keepers n)
  have_keepers dealt = record {
    naming_is = is_naming n n rows q;
    unanswered = no_answers n;
    many = keepers_many n ∙ sym made.many;
    each = λ k x p here at. all_keepers n (λ k p. (x : Member) → slice_get start k ≡ Some x → HasKeeper member_means (switch_naming n) x p) has_client has_switch k p at x here;
    dealt = dealt;
  }

  -- each actor hands pages on
  pub hand_on : (k : ℕ) (x : Member) (p : Keeper) → slice_get start k ≡ Some x → slice_get (switch_keepers n) k ≡ Some p → (y : Member) → made_of y ≡ made_of x → (passed : Passed) → MemberStandsFor y passed → (moves : Moved) → HandsOn (switch_naming n) moves passed p.ends
  hand_on k x p here at y part passed stands moves =
      all_keepers n (λ k p. (x : Member) → slice_get start k ≡ Some x → made_of y ≡ made_of x → HandsOn (switch_naming n) moves passed p.ends)
      (λ j lt x at part. let c = port_there j lt x at in client_like_hands n j lt c.mac c.frames passed moves y (part ∙ c.is) stands)
      (λ x at part. switch_like_hands ports.macs passed moves y (part ∙ made.switch x at) stands) k p at x here part
