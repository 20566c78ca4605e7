-- What the command line asks for (profile).
use Rattle.std.specs.Prelude.{◌≡◌, ◌⊎◌, ℕ, Bool, true, false, List, codes, Option, Some}
use Rattle.std.specs.Prelude.{IsSome, IfSome, IsSomeAnd, option_map, ⊤}
use Rattle.std.specs.Str.Parse.{digits_value, without_leading_plus}
use Rattle.clap.specs.Values.{IsUnsignedIn}
use Rattle.clap.specs.Words.{Row, Text, first_of, one_of, subcommand_of}
use Rattle.router_command.specs.Line.{greatest_number, router}
use Rattle.router_command.specs.declared.command.Command.{Command}
use Rattle.router_command.specs.declared.command.Command.TheVariants.{Pipe, Match, Script, Audit, Serve, Drain, Node, Check}
use Rattle.router_command.specs.declared.options.NodeGiven.{NodeGiven}
use Rattle.router_command.specs.declared.options.Given.{Given}

-- by its word behind the program's name
abbrev pub name_of : Command → List ℕ
name_of Pipe = codes "pipe"
name_of (Match pattern subject) = codes "match"
name_of (Script audit) = codes "script"
name_of Audit = codes "audit"
name_of (Serve given) = codes "serve"
name_of (Drain path server) = codes "drain"
name_of (Node given) = codes "node"
name_of (Check path) = codes "check"

-- the number that a text writes in decimal digits, a plus before them or none
abbrev pub number_of : Text → ℕ
number_of text = digits_value 10 (without_leading_plus text)

-- the number of an option, where the option has a text
abbrev pub number_in : Text → List Row → Option ℕ
number_in name rows = option_map number_of (one_of name rows)

-- the text writes a number that fits
abbrev pub IsNumber : Text → Type 0
IsNumber text = IsUnsignedIn 0 greatest_number text

-- an option has a number
abbrev pub HasNumber : Text → List Row → Type 0
HasNumber name rows = IsSomeAnd (one_of name rows) IsNumber

-- all options of a mesh are there, but for the number of its clients, and where it is told to drain
pub record AreOptions (rows : List Row) : Type 0 where
  pub nodes : HasNumber (codes "nodes") rows
  pub port : HasNumber (codes "port") rows
  pub shards : HasNumber (codes "shards") rows
  pub inc : HasNumber (codes "inc") rows
  pub word : HasNumber (codes "word") rows
  pub stop_after : IfSome (one_of (codes "stop-after") rows) IsNumber
  pub loops : HasNumber (codes "loops") rows
  pub log_level : IsSome (first_of (codes "log-level") rows)
  pub drain_seconds : HasNumber (codes "drain-seconds") rows

-- each number of a mesh is what its option writes, in digits, and the level and the path are the
-- texts of their options
pub record HasOptions (rows : List Row) (given : Given) : Type 0 where
  pub written : AreOptions rows
  pub nodes : number_in (codes "nodes") rows ≡ Some given.nodes
  pub port : number_in (codes "port") rows ≡ Some given.port
  pub shards : number_in (codes "shards") rows ≡ Some given.shards
  pub inc : number_in (codes "inc") rows ≡ Some given.inc
  pub word : number_in (codes "word") rows ≡ Some given.word
  pub stop_after : number_in (codes "stop-after") rows ≡ given.stop_after
  pub loops : number_in (codes "loops") rows ≡ Some given.loops
  pub log_level : first_of (codes "log-level") rows ≡ Some given.log_level.now
  pub drain_seconds : number_in (codes "drain-seconds") rows ≡ Some given.drain_seconds
  pub control : first_of (codes "control") rows ≡ option_map (λ text. text.now) given.control

-- the name of a server, the file of its mesh and all its options are there, but for a first
-- incarnation, and where it is told to drain
pub record AreNodeOptions (rows : List Row) : Type 0 where
  pub name : IsSome (first_of (codes "NAME") rows)
  pub mesh : IsSome (first_of (codes "mesh") rows)
  pub state : IsSome (first_of (codes "state") rows)
  pub least_inc : IfSome (one_of (codes "least-inc") rows) IsNumber
  pub loops : HasNumber (codes "loops") rows
  pub log_level : IsSome (first_of (codes "log-level") rows)
  pub drain_seconds : HasNumber (codes "drain-seconds") rows

-- each text of a server is that of its word or option, and each number is what its option writes,
-- in digits
pub record HasNodeOptions (rows : List Row) (given : NodeGiven) : Type 0 where
  pub written : AreNodeOptions rows
  pub name : first_of (codes "NAME") rows ≡ Some given.name.now
  pub mesh : first_of (codes "mesh") rows ≡ Some given.mesh.now
  pub state : first_of (codes "state") rows ≡ Some given.state.now
  pub least_inc : number_in (codes "least-inc") rows ≡ given.least_inc
  pub loops : number_in (codes "loops") rows ≡ Some given.loops
  pub log_level : first_of (codes "log-level") rows ≡ Some given.log_level.now
  pub drain_seconds : number_in (codes "drain-seconds") rows ≡ Some given.drain_seconds
  pub control : first_of (codes "control") rows ≡ option_map (λ text. text.now) given.control

-- it is on where its text is `true`, and off where it is `false`
pub record IsFlag (name : Text) (rows : List Row) (flag : Bool) : Type 0 where
  pub on : one_of name rows ≡ Some (codes "true") → flag ≡ true
  pub off : one_of name rows ≡ Some (codes "false") → flag ≡ false

-- the values of a command are those of its words
abbrev pub HasValues : List Row → Command → Type 0
HasValues rows Pipe = ⊤
HasValues rows (Match pattern subject) =
    (first_of (codes "PATTERN") rows ≡ Some pattern.now)
    × (first_of (codes "SUBJECT") rows ≡ Some subject.now)
HasValues rows (Script audit) = IsFlag (codes "audit") rows audit
HasValues rows Audit = ⊤
HasValues rows (Serve given) = HasOptions rows given
HasValues rows (Drain path server) =
    (first_of (codes "PATH") rows ≡ Some path.now)
    × (first_of (codes "NAME") rows ≡ option_map (λ text. text.now) server)
HasValues rows (Node given) = HasNodeOptions rows given
HasValues rows (Check path) = first_of (codes "FILE") rows ≡ Some path.now

-- what was found names the command, and has its values
abbrev pub Names : Option (Text × List Row) → Command → Type 0
Names found command =
    (rows : List Row) × (found ≡ Some (name_of command, rows)) × HasValues rows command

-- the words ask for the command
abbrev pub AskFor : List Text → Command → Type 0
AskFor words command = Names (subcommand_of router words) command

-- ---- what is found where the words are taken

-- both words of a question are there
pub record AreWords (rows : List Row) : Type 0 where
  pub pattern : IsSome (first_of (codes "PATTERN") rows)
  pub subject : IsSome (first_of (codes "SUBJECT") rows)

-- a command is named, and has the values that it needs
abbrev pub IsWhole : Text × List Row → Type 0
IsWhole found =
    (found.0 ≡ codes "pipe")
    ⊎ ((found.0 ≡ codes "match") × AreWords found.1)
    ⊎ (found.0 ≡ codes "script")
    ⊎ (found.0 ≡ codes "audit")
    ⊎ ((found.0 ≡ codes "serve") × AreOptions found.1)
    ⊎ ((found.0 ≡ codes "drain") × IsSome (first_of (codes "PATH") found.1))
    ⊎ ((found.0 ≡ codes "node") × AreNodeOptions found.1)
    ⊎ ((found.0 ≡ codes "check") × IsSome (first_of (codes "FILE") found.1))
