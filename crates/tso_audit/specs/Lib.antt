pub mod LastPlaces
pub mod FirstPlaces
pub mod Audit
