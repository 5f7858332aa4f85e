pub mod Pairs
pub mod CoreLaws
pub mod TransferLaws
pub mod OutcomeLaws
