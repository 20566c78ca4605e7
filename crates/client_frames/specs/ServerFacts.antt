-- What a server tells all its clients of itself.
use Rattle.std.specs.Prelude.{ℕ, List}

-- NATS documentation, "Client Protocol", "INFO": its name, its host, and the port where it takes
-- clients, 0 where it takes none; and which of its lives this is (profile)
pub record ServerFacts : Type 0 where
  pub name : List ℕ
  pub inc : ℕ
  pub host : List ℕ
  pub port : ℕ
