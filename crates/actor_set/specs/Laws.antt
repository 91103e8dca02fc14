-- What ties the actors of all kinds to what is said of their parts: the table of the kinds (Kinds),
-- what actors recorded (Records), where nothing came out of turn (Turning: `InTurn`), and both by
-- the names that are told of pages (Scenes). The laws are in src/laws.rt and src/scenes.rt; for
-- proofs above each clause is a lemma: Rows, Rests, PartEnds and Beside
-- have those of `actor_law`, Rounds and Paces those of `turn_law`, Starts and Paces those of
-- `start_law`. Calm has what holds while no kind is hostile.
pub mod Kinds
pub mod Records
pub mod Turning
pub mod Scenes
