-- What is known of a thread that was begun, and of one that was joined.
use Rattle.std.specs.Prelude.{◌≡◌, ◌≤◌, ℕ, List}
use Rattle.spsc_queue.specs.Known.Ends.{RingIs}
use Rattle.pd_runner.specs.declared.part.Part.{Part}
use Rattle.pd_runner.specs.declared.part.Ran.{Ran}
use Rattle.pd_runner.specs.declared.run.Begun.{Begun}
use Rattle.pd_runner.specs.declared.run.Begun.TheVariants.{Started, Back}
use Rattle.pd_runner.specs.Running.{Came}

-- the thread owes this part, or the part came back
abbrev pub BegunOf : List RingIs → ℕ → Part → Begun → Type 0
BegunOf rings limit old (Started handle) =
    (handle.promise.rings.now ≡ rings) × (handle.promise.was.value ≡ old)
    × (handle.promise.limit ≡ limit)
BegunOf rings limit old (Back ran) = Came rings old ran.made ran.part × (ran.made ≤ limit)

-- what a thread gave, or what came back
abbrev pub JoinedOf : Begun → Ran → Type 0
JoinedOf (Started handle) ran =
    Came handle.promise.rings.now handle.promise.was.value ran.made ran.part
    × (ran.made ≤ handle.promise.limit)
JoinedOf (Back back) ran = ran ≡ back

-- what the threads left of a part
abbrev pub RanOf : List RingIs → ℕ → Part → Ran → Type 0
RanOf rings limit old ran = Came rings old ran.made ran.part × (ran.made ≤ limit)
