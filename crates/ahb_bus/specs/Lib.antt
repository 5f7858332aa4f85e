pub mod Grant
pub mod BusState
pub mod BusOk
pub mod Inside
pub mod Asks
pub mod Noting
