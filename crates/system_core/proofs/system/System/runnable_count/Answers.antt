use Rattle.std.proofs.Common.{◌∙◌, ap, length, subst}
use Rattle.wire_core.specs.Journal.{EachMoment}
use Rattle.system_core.specs.Shows.{NamesTell, Shown}
use Rattle.system_core.specs.Plays.{runnable_now}
use Rattle.system_core.proofs.system.System.runnable_count.Goals as goal

pub returns-clause-count : goal.returns-clause-count
returns-clause-count c = c.len.ensures ∙ (ap length c.self.invariant.running ∙ ap (λ (s : Shown). length (runnable_now s)) c.self.view_is)

pub returns-clause-told : goal.returns-clause-told
returns-clause-told c = subst (λ (s : Shown). EachMoment (NamesTell s.setting) s.journal) c.self.view_is c.self.invariant.names_tell
