-- Computed examples, laws of events, the whole list of calls, and laws for the functions that keep a watcher.
pub mod BasicExamples
pub mod EventLaws
pub mod OneToOne
pub mod WholeListLaws
pub mod StepLaws
pub mod EventSteps
