use Rattle.actor_set.proofs.LawsLemmas.Calm.{sheet_own}
use Rattle.actor_set.proofs.LawsLemmas.PartEnds.{to_part, from_part, end_seat, seat_end}
use Rattle.actor_set.proofs.LawsLemmas.Rows.{actor_row, heard_here, frames_here, replies_here}
use Rattle.actor_set.proofs.LawsLemmas.Rests.{rests}
use Rattle.actor_set.proofs.LawsLemmas.Beside.{fits_beside, stands_beside}
use Rattle.actor_set.proofs.LawsLemmas.Starts.{fits_whole}
use Rattle.actor_set.specs.Actors.{part_of}
use Rattle.actor_set.proofs.laws.actor_law.Goals as goal

pub returns-clause-row : goal.returns-clause-row
returns-clause-row c = λ scene a passed m turn stands has. actor_row scene passed m has a turn stands

pub returns-clause-record : goal.returns-clause-record
returns-clause-record c = λ a passed m stands has. heard_here passed m has a stands

pub returns-clause-rests : goal.returns-clause-rests
returns-clause-rests c = λ scene history journal world a passed calm turn fits stands has bells. rests history journal world bells scene a passed calm turn fits stands has

pub returns-clause-frames : goal.returns-clause-frames
returns-clause-frames c = λ a passed stands. frames_here passed a stands

pub returns-clause-replies : goal.returns-clause-replies
returns-clause-replies c = λ scene a passed turn stands. replies_here scene passed a turn stands

pub returns-clause-whole : goal.returns-clause-whole
returns-clause-whole c = fits_whole

pub returns-clause-ends : goal.returns-clause-ends
returns-clause-ends c = λ scene a r n whole own. end_seat scene (part_of a) r n (to_part a r n whole own)

pub returns-clause-no_others : goal.returns-clause-no_others
returns-clause-no_others c = λ scene a i s at. from_part a s.role s.queue (seat_end scene (part_of a) i s at)

pub returns-clause-own : goal.returns-clause-own
returns-clause-own c = sheet_own

pub returns-clause-fits_on : goal.returns-clause-fits_on
returns-clause-fits_on c = λ old new a same fits. fits_beside old new a same fits

pub returns-clause-stands_on : goal.returns-clause-stands_on
returns-clause-stands_on c = λ old new a whole same ins outs stands. stands_beside old new a whole same ins outs stands
