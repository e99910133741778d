pub mod TestLaws
pub mod MotionLaws
pub mod CheckLaws
pub mod StepLaws
pub mod Turn
pub mod Verdicts
