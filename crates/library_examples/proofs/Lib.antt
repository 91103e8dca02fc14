pub mod ClassExample
