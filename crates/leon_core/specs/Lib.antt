pub mod RoomInside
pub mod CoreInside
pub mod Ends
pub mod LocalStep
pub mod Moves
pub mod EndsTurn
