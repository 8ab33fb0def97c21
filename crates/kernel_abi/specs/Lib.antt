pub mod Arguments
pub mod Devices
pub mod Faults
pub mod Ids
pub mod Leases
pub mod Notes
pub mod Syscalls
