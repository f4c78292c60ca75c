-- The jobs that wait for a scrub, and which of them is picked.
pub mod Jobs
