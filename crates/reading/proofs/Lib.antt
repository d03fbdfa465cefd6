-- Laws of the answers.
pub mod OneToOne
