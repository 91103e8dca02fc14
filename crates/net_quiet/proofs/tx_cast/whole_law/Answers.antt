use Rattle.net_quiet.proofs.TxCast.Wholes.{none_out, good_taken, back_is, client_puts, client_begins, wire_is, wire_by, sends_calm, wire_calm}
use Rattle.net_quiet.proofs.tx_cast.whole_law.Goals as goal

pub returns-clause-turn : goal.returns-clause-turn
returns-clause-turn c = λ wild net frames passed h clients send row. none_out net frames passed h row wild clients send

pub returns-clause-good : goal.returns-clause-good
returns-clause-good c = λ wild net frames passed h clients send. good_taken net frames passed h h.sender_at.row wild clients send

pub returns-clause-back : goal.returns-clause-back
returns-clause-back c = λ net frames passed h. back_is net frames passed h h.sender_at.row

pub returns-clause-puts : goal.returns-clause-puts
returns-clause-puts c = client_puts

pub returns-clause-begins : goal.returns-clause-begins
returns-clause-begins c = λ net frames passed h k program mac q of client is sends. client_begins net frames passed h k program mac q of client is (back_is net frames passed h h.sender_at.row k program mac q of sends)

pub returns-clause-wire : goal.returns-clause-wire
returns-clause-wire c = λ wild net frames passed h clients send. wire_is net frames passed h h.sender_at.row wild clients send

pub returns-clause-told : goal.returns-clause-told
returns-clause-told c = λ wild net frames passed h clients send. wire_by net frames passed h h.sender_at.row wild clients send

pub returns-clause-calm : goal.returns-clause-calm
returns-clause-calm c = λ wild net frames passed h none. (sends_calm wild net frames passed h none, wire_calm wild net frames passed h none)
