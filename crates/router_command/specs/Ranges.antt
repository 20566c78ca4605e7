-- The ranges of the options of a mesh, and of one server. (Profile.)
use Rattle.std.specs.Prelude.{◌≡◌, ℕ, List, length, ◌+◌, ◌-◌, ◌*◌, ◌^◌, ◌≤◌, Some}
use Rattle.subj.specs.declared.limits.TheConstants.{MAX_INCARNATION, MAX_NODES, MAX_SHARDS}
use Rattle.router_command.specs.Levels.{level_named}
use Rattle.router_command.specs.declared.options.TheConstants.{MOST_DRAIN_SECONDS, MOST_PATH_BYTES}
use Rattle.router_command.specs.declared.options.OptionName.{OptionName}
use Rattle.router_command.specs.declared.options.OptionName.TheVariants.{Nodes, Port, Shards, Inc, StopAfter, LeastInc, Loops, DrainSeconds}
use Rattle.router_command.specs.declared.options.NodeGiven.{NodeGiven}
use Rattle.router_command.specs.declared.options.NodeOptions.{NodeOptions}
use Rattle.router_command.specs.declared.options.Given.{Given}
use Rattle.router_command.specs.declared.options.Options.{Options}

-- the least value that the option takes, and the greatest
abbrev pub range_of : OptionName → ℕ × ℕ
range_of Nodes = (1, MAX_NODES)
range_of Port = (1, 2 ^ 16 - 1)
range_of Shards = (1, MAX_SHARDS)
range_of Inc = (1, MAX_INCARNATION)
range_of StopAfter = (1, 2 ^ 64 - 1)
range_of LeastInc = (1, MAX_INCARNATION)
range_of Loops = (1, MAX_SHARDS)
range_of DrainSeconds = (1, MOST_DRAIN_SECONDS)

-- the system takes it as the path of a socket
abbrev pub IsPath : List ℕ → Type 0
IsPath path = (1 ≤ length path) × (length path ≤ MOST_PATH_BYTES)

-- as many servers as a cluster may have, of as many shards as a server may have, and a port for the
-- clients and one for the routes of each server, all of them ports, no more loops than shards, and
-- a time for a drain
pub record AreWithin (options : Options) : Type 0 where
  pub some : 1 ≤ options.nodes
  pub few : options.nodes ≤ MAX_NODES
  pub first_shard : 1 ≤ options.shards
  pub last_shard : options.shards ≤ MAX_SHARDS
  pub first_port : 1 ≤ options.port
  pub last_port : options.port + 2 * options.nodes ≤ 65536
  pub first_loop : 1 ≤ options.loops
  pub last_loop : options.loops ≤ options.shards
  pub some_time : 1 ≤ options.drain_seconds
  pub short_time : options.drain_seconds ≤ MOST_DRAIN_SECONDS

-- the numbers of a mesh are those that were given, but for the time of a drain
pub record AreNumbers (given : Given) (options : Options) : Type 0 where
  pub nodes : options.nodes ≡ given.nodes
  pub port : options.port ≡ given.port
  pub shards : options.shards ≡ given.shards
  pub inc : options.inc ≡ given.inc
  pub word : options.word ≡ given.word
  pub stop_after : options.stop_after ≡ given.stop_after
  pub loops : options.loops ≡ given.loops

-- a time that a drain may take
abbrev pub IsDrainTime : ℕ → Type 0
IsDrainTime seconds = (1 ≤ seconds) × (seconds ≤ MOST_DRAIN_SECONDS)

-- as many loops as the shards of some server allow
abbrev pub IsLoopCount : ℕ → Type 0
IsLoopCount loops = (1 ≤ loops) × (loops ≤ MAX_SHARDS)

-- a server is told what was given: the same texts and numbers, and the level that a text names
pub record AreNodeValues (given : NodeGiven) (options : NodeOptions) : Type 0 where
  pub name : options.name ≡ given.name.now
  pub mesh : options.mesh ≡ given.mesh
  pub state : options.state ≡ given.state
  pub least_inc : options.least_inc ≡ given.least_inc
  pub loops : options.loops ≡ given.loops
  pub log_level : level_named given.log_level.now ≡ Some options.log_level
  pub drain_seconds : options.drain_seconds ≡ given.drain_seconds
  pub control : options.control ≡ given.control
