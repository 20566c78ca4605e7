-- Why the options of a mesh, or of one server, are refused: each cause, and which of them is told.
-- (Profile.)
use Rattle.std.specs.Prelude.{ℕ, List, length, Option, Some, None, option_and_then, is_none, is_some, nat_lt, ◌||◌, ◌+◌, ◌*◌, if◌then◌else◌}
use Rattle.std.specs.Option.{option_or}
use Rattle.subj.specs.Names.{node_name_fault}
use Rattle.router_command.specs.Levels.{level_named}
use Rattle.router_command.specs.Ranges.{range_of}
use Rattle.router_command.specs.declared.options.TheConstants.{MOST_PATH_BYTES}
use Rattle.router_command.specs.declared.options.OptionFault.{OptionFault}
use Rattle.router_command.specs.declared.options.OptionFault.TheVariants.{BadValue, TooManyPorts, TooManyLoops, NoLevel, BadPath, BadName}
use Rattle.router_command.specs.declared.options.OptionName.{OptionName}
use Rattle.router_command.specs.declared.options.OptionName.TheVariants.{Nodes, Port, Shards, Inc, StopAfter, LeastInc, Loops, DrainSeconds}
use Rattle.router_command.specs.declared.options.NodeGiven.{NodeGiven}
use Rattle.router_command.specs.declared.options.Given.{Given}

-- the value of the option is out of its range
unfoldable pub value_fault : OptionName → ℕ → Option OptionFault
value_fault name value =
    if nat_lt value (range_of name).0 || nat_lt (range_of name).1 value then Some (BadValue name)
    else None

-- the last port would be above the greatest one
unfoldable pub ports_fault : ℕ → ℕ → Option OptionFault
ports_fault port nodes = if nat_lt 65536 (port + 2 * nodes) then Some TooManyPorts else None

-- a server would have more loops than shards
unfoldable pub loops_fault : ℕ → ℕ → Option OptionFault
loops_fault loops shards = if nat_lt shards loops then Some TooManyLoops else None

-- the text is no level
unfoldable pub level_fault : List ℕ → Option OptionFault
level_fault text = if is_none (level_named text) then Some NoLevel else None

-- the system does not take it as the path of a socket
unfoldable pub path_fault : List ℕ → Option OptionFault
path_fault path =
    if nat_lt (length path) 1 || nat_lt MOST_PATH_BYTES (length path) then Some BadPath else None

-- the text is no name of a server
unfoldable pub name_fault : List ℕ → Option OptionFault
name_fault text = if is_some (node_name_fault text) then Some BadName else None

-- the first of these, for a mesh
abbrev pub given_fault : Given → Option OptionFault
given_fault given =
    option_or (value_fault Nodes given.nodes)
    (option_or (value_fault Port given.port)
    (option_or (value_fault Shards given.shards)
    (option_or (value_fault Inc given.inc)
    (option_or (option_and_then (λ count. value_fault StopAfter count) given.stop_after)
    (option_or (value_fault Loops given.loops)
    (option_or (value_fault DrainSeconds given.drain_seconds)
    (option_or (ports_fault given.port given.nodes)
    (option_or (loops_fault given.loops given.shards)
    (option_or (level_fault given.log_level.now)
    (option_and_then (λ path. path_fault path.now) given.control))))))))))

-- and for one server
abbrev pub node_fault : NodeGiven → Option OptionFault
node_fault given =
    option_or (name_fault given.name.now)
    (option_or (option_and_then (value_fault LeastInc) given.least_inc)
    (option_or (value_fault Loops given.loops)
    (option_or (value_fault DrainSeconds given.drain_seconds)
    (option_or (level_fault given.log_level.now)
    (option_and_then (λ path. path_fault path.now) given.control)))))
