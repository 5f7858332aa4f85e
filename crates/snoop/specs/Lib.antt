pub mod Snooping
