-- What a client asks for.
pub mod Payloads
pub mod Ops
pub mod Contexts
