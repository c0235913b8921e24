pub mod TargetState
