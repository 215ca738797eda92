mod Cases
mod Few
mod LaneLegs
mod Left
