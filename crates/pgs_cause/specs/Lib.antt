-- What a count of faults shows.
pub mod Count
