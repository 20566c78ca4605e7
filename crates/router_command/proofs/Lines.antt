-- How the command line is put together.
use Rattle.std.proofs.Common.{◌≡◌, ◌∙◌, Bool, ap, ap₂}
use Rattle.std.specs.Prelude.{◌||◌}
use Rattle.clap.specs.Words.{AddsArg, AddsSubcommand, App, Rule, rule_of, with_rule, with_subcommand}
use Rattle.clap.specs.declared.builder.arg.Arg.{Arg}
use Rattle.clap.specs.declared.builder.command.Command.{Command}
use Rattle.router_command.specs.Line.{HasRule, IsLine}

-- an argument of which a setter was called
pub same_but : (x y : Arg) (f : Rule → Rule) (rule : Rule)
    → HasRule x rule
    → rule_of y ≡ f (rule_of x)
    → y.global ≡ x.global
    → HasRule y (f rule)
same_but x y f rule has same local = record { same = same ∙ ap f has.same; local = local ∙ has.local }

-- an argument comes to a command
pub with_arg : (old new : Command) (arg : Arg) (app : App) (rule : Rule) → IsLine old app → HasRule arg rule
    → AddsArg old arg new → IsLine new (with_rule app rule)
with_arg old new arg app rule line has added = record {
  same = added.shape has.local ∙ ap₂ with_rule line.same has.same;
  local = added.globals ∙ ap₂ (λ (a b : Bool). a || b) line.local has.local;
}

-- a command comes to a command
pub with_command : (old new sub : Command) (app part : App)
    → IsLine old app
    → IsLine sub part
    → AddsSubcommand old sub new
    → IsLine new (with_subcommand app part.top)
with_command old new sub app part line has added = record {
  same = added.shape has.local ∙ ap₂ (λ (a b : App). with_subcommand a b.top) line.same has.same;
  local = added.globals ∙ ap₂ (λ (a b : Bool). a || b) line.local has.local;
}
