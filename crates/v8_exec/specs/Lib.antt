pub mod Reading
pub mod Calculating
pub mod Accesses
pub mod Frame
pub mod Calls
pub mod Touching
pub mod CourseParts
pub mod Returning
