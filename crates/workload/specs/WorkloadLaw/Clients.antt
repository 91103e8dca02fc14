-- The plans that the generated traces are for.
use Rattle.std.specs.Prelude.{◌≡◌, ◌≤◌, true, is_some}
use Rattle.sdf_plan.specs.declared.plan.Plan.{Plan}
use Rattle.trace_text.specs.Events.{is_source, is_speaker, is_script}
use Rattle.trace_text.specs.Limits.{frame_most}

-- a plan has all classes: its first network client sends frames of its own, of which one may have
-- 1,514 bytes at least, its first serial client says bytes of its own, and its first two block
-- clients make requests of their own
pub record HasClients (plan : Plan) : Type 0 where
  pub net : is_some plan.net ≡ true
  pub serial : is_some plan.serial ≡ true
  pub blk : is_some plan.blk ≡ true
  pub longest : 1514 ≤ frame_most plan
  pub source : is_source plan 0 ≡ true
  pub speaker : is_speaker plan 0 ≡ true
  pub first_disk : is_script plan 0 ≡ true
  pub second_disk : is_script plan 1 ≡ true
