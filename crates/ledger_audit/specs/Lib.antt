pub mod WalkState
pub mod WalkInside
pub mod Sorting
pub mod Account
pub mod FirstPlaces
pub mod Entries
pub mod LostStores
