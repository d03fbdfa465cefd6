-- A list of edges.
use Rattle.std.specs.Prelude.{List, ℕ, ◌≤◌, ◌<◌, length, get_or, pos}
use Rattle.edge_lists.specs.declared.Edge.{Edge}
use Rattle.edge_lists.specs.Signs.{rise, fall}

-- Edge i of a list; past its end one of zeros.
abbrev pub edge_in : List Edge → ℕ → Edge
edge_in edges i = get_or edges i (record { from = 0; to = 0; weight = pos 0; row = 0 })

-- So many edges between so many states, none of which weighs more than 65,535 either way.
pub record EdgesIn (states : ℕ) (edges : List Edge) : Type 0 where
  pub some_state : 1 ≤ states
  pub states_in : states ≤ 64
  pub few : length edges ≤ 256
  pub from_in : (e : ℕ) → e < length edges → (edge_in edges e).from < states
  pub to_in : (e : ℕ) → e < length edges → (edge_in edges e).to < states
  pub rise_in : (e : ℕ) → e < length edges → rise (edge_in edges e).weight ≤ 65535
  pub fall_in : (e : ℕ) → e < length edges → fall (edge_in edges e).weight ≤ 65535
