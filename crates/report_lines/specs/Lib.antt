pub mod CoreLines
pub mod TransferLine
pub mod OutcomeLines
