-- One moment of a switch's system: its actors and what passed between them (Scene), what the switch
-- took by the order of its calls (Takes), what is put in all (Puts), where nobody is runnable
-- (Quiet), and what each actor wants by what passed (Wants).
pub mod Scene
pub mod Takes
pub mod Puts
pub mod Quiet
pub mod Wants
