-- Laws for the writer's functions, and of its answers.
pub mod MachineLaws
pub mod PlantLaws
pub mod OneToOne
pub mod BasicExamples
