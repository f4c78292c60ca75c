-- What holds of parked writes as they come and go.
pub mod Parked
