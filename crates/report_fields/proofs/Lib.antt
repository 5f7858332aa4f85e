pub mod Power
pub mod Steps
pub mod Laws
pub mod Decimal
pub mod Hexadecimal
pub mod Values
pub mod PartLaws
