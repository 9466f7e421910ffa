-- The limits of a signature: how many types and features it may declare, and how many nodes what fills a type's
-- features in may have. Source: this project's own profile.
use Rattle.std.specs.Prelude.{ℕ}

-- the most types, `bot` among them
abbrev pub most_types : ℕ
most_types = 4096

abbrev pub most_features : ℕ
most_features = 1024

-- the most nodes that one type's fill may have, its own node among them
abbrev pub most_nodes : ℕ
most_nodes = 4096
