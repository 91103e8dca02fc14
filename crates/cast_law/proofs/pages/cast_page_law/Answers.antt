use Rattle.cast_law.proofs.PagesLemmas.Holding.{cast_held, cast_whole, cast_shown, cast_once, cast_lengths, place_lengths}
use Rattle.cast_law.proofs.PagesLemmas.Showing.{all_add_up, shown_all}
use Rattle.cast_law.proofs.pages.cast_page_law.Goals as goal

pub returns-clause-held : goal.returns-clause-held
returns-clause-held c = cast_held

pub returns-clause-whole : goal.returns-clause-whole
returns-clause-whole c = cast_whole

pub returns-clause-once : goal.returns-clause-once
returns-clause-once c = λ rows actors passed world over pools place placed has pool number lt. cast_once rows actors passed world over pools place placed has pool number lt

pub returns-clause-lengths : goal.returns-clause-lengths
returns-clause-lengths c = λ rows actors passed world over pools place placed has i p at j q there some. cast_lengths rows actors passed world over pools place placed has i p at j q there some

pub returns-clause-all_lengths : goal.returns-clause-all_lengths
returns-clause-all_lengths c = λ rows actors passed world over pools place placed has i q at some. place_lengths rows actors passed world over pools place placed has i q at some

pub returns-clause-shown : goal.returns-clause-shown
returns-clause-shown c = λ history rows actors journal passed world play pools place placed has carry f. cast_shown history rows actors journal passed world play pools place placed has carry f

pub returns-clause-shown_beside : goal.returns-clause-shown_beside
returns-clause-shown_beside c = λ rows actors passed world over place placed m carry f. shown_all rows actors passed world over place placed m carry f

pub returns-clause-add_up : goal.returns-clause-add_up
returns-clause-add_up c = λ rows actors passed world over place placed m carry pools has. all_add_up rows actors passed world over place placed m carry pools has
