pub mod BusStep
