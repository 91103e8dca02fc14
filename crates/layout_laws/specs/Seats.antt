-- At which queues an actor of each job stands (Ends), and which numbers have which jobs (Named).
pub mod Ends
pub mod Named
