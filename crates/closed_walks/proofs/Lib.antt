-- Laws of the walks, of one round, and of the rounds from one start.
pub mod WalkLaws
pub mod RoundLaws
pub mod StartLaws
