pub mod WithLift
