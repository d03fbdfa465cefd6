-- Laws of counting.
pub mod CountLaws
pub mod StepLaws
