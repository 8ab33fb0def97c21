pub mod Leases
pub mod Rows
pub mod Stays
pub mod Wells
