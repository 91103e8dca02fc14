-- What the actors of the bus must fit, what they stand for, and their rows: of the virtualiser who
-- has which address (Owners), what it has of a client (Desks) and of all (Works), and its ends and
-- its row (Virtualising); the driver (Drivers); and the bus (BusDevices).
pub mod Owners
pub mod Desks
pub mod Works
pub mod Virtualising
pub mod Drivers
pub mod BusDevices
pub mod I2cKit
pub mod I2cClient
