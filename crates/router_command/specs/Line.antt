-- The command line: its commands, and what each takes (profile).
use Rattle.std.specs.Prelude.{◌≡◌, ℕ, ◌∷◌, [], codes, true, false, Some}
use Rattle.clap.specs.Words.{App, Rule, Text, app_of, new_app, new_rule, rule_of}
use Rattle.clap.specs.Words.{with_rule, with_subcommand}
use Rattle.clap.specs.declared.builder.arg.Arg.{Arg}
use Rattle.clap.specs.declared.builder.command.Command.{Command}
use Rattle.clap.specs.declared.builder.command.Command.TheViews.{out-Command}
use Rattle.clap.specs.Simple.{on_top}
use Rattle.clap.specs.declared.builder.action.ArgAction.TheVariants.{SetTrue}
use Rattle.clap.specs.declared.builder.value_parser.ValueParser.TheVariants as parser

-- the greatest number that an option may have
abbrev pub greatest_number : ℕ
greatest_number = 18446744073709551615

-- an option that is a number, under its name
abbrev pub number_rule : Text → Rule
number_rule name = record (new_rule name) {
  long = Some name;
  value_names = 1;
  parser = Some (parser.Unsigned 0 greatest_number);
}

-- that has to be there
abbrev pub required_rule : Rule → Rule
required_rule rule = record rule { required = true }

-- that has this value where it is not there
abbrev pub with_value : Rule → Text → Rule
with_value rule value = record rule { defaults = value ∷ [] }

-- how many servers, and from which port on
abbrev pub serve_with_ports : App
serve_with_ports = with_rule
    (with_rule (new_app (codes "serve")) (required_rule (number_rule (codes "nodes"))))
    (required_rule (number_rule (codes "port")))

-- the shards of each, the incarnation, and the seed of the words of claims
abbrev pub serve_with_defaults : App
serve_with_defaults = with_rule
    (with_rule
    (with_rule serve_with_ports (with_value (number_rule (codes "shards")) (codes "2")))
    (with_value (number_rule (codes "inc")) (codes "1")))
    (with_value (number_rule (codes "word")) (codes "0"))

-- the number of clients after which it ends
abbrev pub serve_with_end : App
serve_with_end = with_rule serve_with_defaults (number_rule (codes "stop-after"))

-- an option that is a text, under its name
abbrev pub text_rule : Text → Rule
text_rule name = record (new_rule name) {
  long = Some name;
  value_names = 1;
}

-- how many loops share the shards of a server
abbrev pub loops_rule : Rule
loops_rule = with_value (number_rule (codes "loops")) (codes "1")

-- how grave an event has to be to be told
abbrev pub level_rule : Rule
level_rule = with_value (text_rule (codes "log-level")) (codes "info")

-- the path where it is told to drain
abbrev pub control_rule : Rule
control_rule = text_rule (codes "control")

-- how many seconds a drain may take
abbrev pub seconds_rule : Rule
seconds_rule = with_value (number_rule (codes "drain-seconds")) (codes "30")

-- with the options of every server that runs
abbrev pub with_running : App → App
with_running command =
    with_rule (with_rule (with_rule (with_rule command loops_rule) level_rule) seconds_rule)
    control_rule

-- `serve`, with all its options
abbrev pub serve_command : App
serve_command = with_running serve_with_end

-- `drain`, with its path, and the name of a server or none
abbrev pub drain_command : App
drain_command = with_rule
    (with_rule (new_app (codes "drain")) (required_rule (new_rule (codes "PATH"))))
    (new_rule (codes "NAME"))

-- the server's name, the file of its mesh, and the folder that keeps its incarnation
abbrev pub node_with_texts : App
node_with_texts = with_rule
    (with_rule
    (with_rule (new_app (codes "node")) (required_rule (new_rule (codes "NAME"))))
    (required_rule (text_rule (codes "mesh"))))
    (with_value (text_rule (codes "state")) (codes "."))

-- a first incarnation
abbrev pub node_with_incarnation : App
node_with_incarnation = with_rule node_with_texts (number_rule (codes "least-inc"))

-- `node`, with all its options
abbrev pub node_command : App
node_command = with_running node_with_incarnation

-- `check`, with its file
abbrev pub check_command : App
check_command = with_rule (new_app (codes "check")) (required_rule (new_rule (codes "FILE")))

-- to write the lists of a run, which is a flag
abbrev pub audit_rule : Rule
audit_rule = record (new_rule (codes "audit")) {
  long = Some (codes "audit");
  action = Some SetTrue;
}

-- `script`, with its flag
abbrev pub script_command : App
script_command = with_rule (new_app (codes "script")) audit_rule

-- `match`, with its two words
abbrev pub match_command : App
match_command = with_rule
    (with_rule (new_app (codes "match")) (required_rule (new_rule (codes "PATTERN"))))
    (required_rule (new_rule (codes "SUBJECT")))

-- the program, which has a version and needs a command
abbrev pub program : App
program = on_top (λ shape. record shape {
  has_version = true;
  subcommand_required = true;
}) (new_app (codes "nats_mesh"))

-- the program and its four commands that need no socket
abbrev pub tools : App
tools = with_subcommand
    (with_subcommand
    (with_subcommand
    (with_subcommand program (new_app (codes "pipe")).top)
    match_command.top)
    script_command.top)
    (new_app (codes "audit")).top

-- the program and its eight commands
abbrev pub router : App
router = with_subcommand
    (with_subcommand
    (with_subcommand
    (with_subcommand tools serve_command.top)
    drain_command.top)
    node_command.top)
    check_command.top

-- ---- what is built of it

-- the argument has this rule, and is of no other command
pub record HasRule (arg : Arg) (rule : Rule) : Type 0 where
  pub same : rule_of arg ≡ rule
  pub local : arg.global ≡ false

-- the command is this one, and none of its arguments is of another command
pub record IsLine (command : Command) (app : App) : Type 0 where
  pub same : app_of command ≡ app
  pub local : (out-Command command).has_globals ≡ false
