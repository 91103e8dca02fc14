use Rattle.cast_law.proofs.TurnsLemmas.{beside_turns, told_turns, told_rows, all_within, noted_tell, calm_turns}
use Rattle.cast_law.proofs.turns.cast_turn_law.Goals as goal

pub returns-clause-beside : goal.returns-clause-beside
returns-clause-beside c = λ ends rows pools actors passed in_place work wild. beside_turns ends rows pools actors passed in_place work wild

pub returns-clause-told : goal.returns-clause-told
returns-clause-told c = λ ends rows pools actors passed names in_place work sends kept k x at. told_turns ends rows pools actors passed in_place work sends names kept k x at

pub returns-clause-rows : goal.returns-clause-rows
returns-clause-rows c = λ ends rows pools actors passed names m in_place work sends kept items k p calm at. told_rows ends rows pools actors passed in_place work sends names kept m items k p calm at

pub returns-clause-within : goal.returns-clause-within
returns-clause-within c = λ ends rows pools actors passed names m in_place work sends kept items k p at. all_within ends rows pools actors passed in_place work sends names kept m items k p at

pub returns-clause-noted : goal.returns-clause-noted
returns-clause-noted c = noted_tell

pub returns-clause-calm : goal.returns-clause-calm
returns-clause-calm c = λ ends rows pools actors passed calm in_place work sends k x at. calm_turns ends rows pools actors passed in_place work calm sends k x at
