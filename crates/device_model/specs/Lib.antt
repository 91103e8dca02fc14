-- What the contracts of the devices say: of the Ethernet device (Ethernet), of the disk (Disk), and
-- of the terminal that a serial device is (SerialTerminal).
pub mod Ethernet
pub mod Disk
pub mod SerialTerminal
