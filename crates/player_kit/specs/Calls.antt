-- What the wires with names say of a call: which name is the last one then.
pub mod Noting
pub mod Wildness
