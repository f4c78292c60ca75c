-- Laws of devices.
pub mod Devices
pub mod Pages
pub mod Strides
