use Rattle.view_plays.proofs.PlayView.RoomLemmas.{few-actors, few-queues}
use Rattle.view_plays.proofs.play_view.drawing.draw_play.Goals as goal

pub chart_of-requires-clause-actors : goal.chart_of-requires-clause-actors
chart_of-requires-clause-actors c = few-actors _ _ c.requires.layout (c.seat_law.ensures.few _ c.requires.valid)

pub chart_of-requires-clause-queues : goal.chart_of-requires-clause-queues
chart_of-requires-clause-queues c = few-queues _ _ c.requires.layout (c.seat_law.ensures.numbered _ c.requires.valid)

pub parts_of-requires-clause-actors : goal.parts_of-requires-clause-actors
parts_of-requires-clause-actors c = few-actors _ _ c.requires.layout (c.seat_law.ensures.few _ c.requires.valid)

pub parts_of-requires-clause-queues : goal.parts_of-requires-clause-queues
parts_of-requires-clause-queues c = few-queues _ _ c.requires.layout (c.seat_law.ensures.numbered _ c.requires.valid)
