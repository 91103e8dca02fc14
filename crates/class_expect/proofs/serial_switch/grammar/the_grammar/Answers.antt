use Rattle.class_expect.proofs.SerialSwitch.Splits.{splits, only_split}
use Rattle.class_expect.proofs.serial_switch.grammar.the_grammar.Goals as goal

pub returns-clause-total : goal.returns-clause-total
returns-clause-total c = splits

pub returns-clause-single : goal.returns-clause-single
returns-clause-single c = only_split
