-- What the figures are.
pub mod FigureSums
