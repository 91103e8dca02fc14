-- What went through the queues of a system that is played: rows and needs of actors are said of
-- these lists.
use Rattle.std.specs.Prelude.{◌≡◌, ◌==◌, ℕ, Bool, cond, if◌then◌else◌, Some, List, [], ◌∷◌, ◌++◌}
use Rattle.std.specs.Prelude.{slice_get}
use Rattle.cargo_core.specs.declared.item.Item.{Item}
use Rattle.wire_core.specs.declared.names.Entry.{Entry}
use Rattle.wire_core.specs.Ends.{Role, Consumer, Producer}
use Rattle.wire_core.specs.Journal.{History, Track, track}

-- the items that were put to a queue
abbrev pub sent : History → ℕ → List Entry → List Item
sent history n journal = (track history n journal).sent

-- the items that were taken from a queue
abbrev pub taken : History → ℕ → List Entry → List Item
taken history n journal = (track history n journal).taken

-- how often this end of a queue looked in vain
abbrev pub noes_of : Role → Track → ℕ
noes_of Consumer t = t.consumer.noes
noes_of Producer t = t.producer.noes

-- of each queue, the items that were put there and those that were taken, and how often each of its
-- ends looked in vain
pub record Moved : Type 0 where
  pub sent : ℕ → List Item
  pub taken : ℕ → List Item
  pub noes : Role → ℕ → ℕ

-- what history and journal show
abbrev pub moved : History → List Entry → Moved
moved history journal = record {
  sent = λ n. sent history n journal;
  taken = λ n. taken history n journal;
  noes = λ r n. noes_of r (track history n journal);
}

-- one end of a queue
pub record Seat : Type 0 where
  pub queue : ℕ
  pub role : Role

-- what went through an end: a consumer takes, a producer puts
abbrev pub went : Moved → Role → ℕ → List Item
went m Consumer n = m.taken n
went m Producer n = m.sent n

-- the same went through each of these ends
abbrev pub AreAlike : List Seat → Moved → Moved → Type 0
AreAlike seats a b = (i : ℕ) (s : Seat) → slice_get seats i ≡ Some s
    → went a s.role s.queue ≡ went b s.role s.queue

-- each of these ends looked in vain as often
abbrev pub LookAlike : List Seat → Moved → Moved → Type 0
LookAlike seats a b = (i : ℕ) (s : Seat) → slice_get seats i ≡ Some s
    → a.noes s.role s.queue ≡ b.noes s.role s.queue

-- how many things were dropped for want of what an end waits for: each look in vain there dropped
-- one, where its actor may drop
abbrev pub gone_at : Bool → Moved → Role → ℕ → ℕ
gone_at drops m r n = cond drops (m.noes r n) 0

-- the same with one item more that was put to queue n
abbrev pub with_put : Moved → ℕ → Item → Moved
with_put m n item = record {
  sent = λ k. if n == k then m.sent k ++ item ∷ [] else m.sent k;
  taken = m.taken;
  noes = m.noes;
}
