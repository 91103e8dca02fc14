use Rattle.switched_law.proofs.SwitchLaw.Going.{lost_nowhere, kept_somewhere}
use Rattle.switched_law.proofs.SwitchLaw.Merging.{merged, merged_whole}
use Rattle.switched_law.proofs.switch_law.ports_law.Goals as goal

pub returns-clause-merges : goal.returns-clause-merges
returns-clause-merges c = λ macs receiver mac sends sent many at first. merged macs receiver mac at sends sent first

pub returns-clause-whole : goal.returns-clause-whole
returns-clause-whole c = λ macs receiver mac sends sent many at all. merged_whole macs receiver mac at sends sent all

pub returns-clause-lost : goal.returns-clause-lost
returns-clause-lost c = lost_nowhere

pub returns-clause-kept : goal.returns-clause-kept
returns-clause-kept c = kept_somewhere
