-- Laws of the digest, and why a look-up takes a byte in.
pub mod Steps
