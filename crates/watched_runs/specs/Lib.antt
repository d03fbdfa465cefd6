-- What a watcher says, what it stands for, what it keeps, what its calls owe, and the whole list of calls.
pub mod Answers
pub mod WatchedRuns
pub mod Keeping
pub mod Owed
pub mod WholeList
pub mod Inner
