mod Digits
mod Lines
mod Writing
