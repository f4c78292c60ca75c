-- What comparing the copies of a range finds.
pub mod Objects
pub mod Finding
pub mod Report
pub mod Parts
