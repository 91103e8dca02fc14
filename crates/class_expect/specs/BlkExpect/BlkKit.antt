-- What the contracts on blocks, and on the pages that carry them, say.
pub mod Blocks
pub mod Pages
