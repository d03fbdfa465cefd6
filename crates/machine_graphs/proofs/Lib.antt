-- Laws of the graph of a machine's rows: one row, its links, sources and pairs, and all rows.
pub mod RowLaws
pub mod LinkLaws
pub mod SourceLaws
pub mod PairLaws
pub mod GraphLaws
