-- Decimal figures, lines of a word and figures, and what is written.
pub mod FigureLines
pub mod Writing
