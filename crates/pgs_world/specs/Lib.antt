-- What the steps of a script do to the groups of a pool, and what then holds.
pub mod State
pub mod Pool
pub mod Opening
pub mod Said
pub mod Jobs
pub mod Steps
pub mod Named
pub mod Sound
