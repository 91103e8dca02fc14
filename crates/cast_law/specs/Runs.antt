-- What a run of actors over rings begins with, and what holds then.
pub mod Running
