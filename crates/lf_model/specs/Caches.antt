-- The parity caches of a core (GRLIB, LEON3FT, cache subsystem): what they hold, without the bytes of their lines.
pub mod Slot
pub mod Cache
pub mod Look
pub mod Change
pub mod Residence
