pub mod ExactStraight
pub mod Beam
pub mod Rounded
pub mod Shapes
pub mod Straight
