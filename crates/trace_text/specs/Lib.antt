-- Traces as texts: what each line says (Events), how much there may be (Limits), which lines are
-- bad and what the others give (Traces), and what the reader keeps (Reading) and hands out (Shapes).
pub mod Events
pub mod Limits
pub mod Traces
pub mod Reading
pub mod Shapes
