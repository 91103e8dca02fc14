use Rattle.std.proofs.Common.{◌≡◌, ◌++◌, take}
use Rattle.std.specs.List.{flat_map}
use Rattle.export_text.specs.System.{domain_tags}
use Rattle.export_text.proofs.system.push_domains.Given as goal

abbrev pub invariant-loop-domain : goal.invariant-loop-domain
invariant-loop-domain l = l.tags ≡ l.fn.tags ++ flat_map domain_tags (take l.domain-index l.domains)
