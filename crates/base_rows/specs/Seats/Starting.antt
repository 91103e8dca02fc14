-- An end as a new ring gives it.
use Rattle.std.specs.Prelude.{◌≡◌, ℕ, List, slice_get, Some}
use Rattle.spsc_queue.specs.declared.view.Half.{Half}
use Rattle.spsc_queue.specs.Known.Ends.{EndIs, RingIs}

-- the end belongs to the ring at this place, and knows this
pub record StartsOn (rings : List RingIs) (k : ℕ) (half : Half) (e : EndIs) : Type 0 where
  pub ring : RingIs
  pub there : slice_get rings k ≡ Some ring
  pub on : e.ring ≡ ring.id
  pub knows : e.knows ≡ half
