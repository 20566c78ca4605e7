use Rattle.std.proofs.Common.{rules, ◌≡◌, Some, None, refl}
use Rattle.std.specs.Result.{result_err}
use Rattle.router_command.specs.Levels.{level_named}
use Rattle.router_command.proofs.Refused.{level_fails, level_passes}
use Rattle.router_command.proofs.options.NodeOptions.new.Goals as goal

pub returns-in_default-clause-refused : goal.returns-in_default-clause-refused
returns-in_default-clause-refused c =
    let none : None ≡ level_named c.args.given.log_level.now = search rules in
    rw (
      ← c.in_ok-name.ensures.refused,
      ← c.in_ok-least_inc.ensures.refused,
      ← c.in_ok-loops.ensures.refused,
      ← c.in_ok-drain_seconds.ensures.refused,
      ← (level_fails c.args.given.log_level.now none),
    )
    refl

pub returns-in_err-control_within-clause-refused : goal.returns-in_err-control_within-clause-refused
returns-in_err-control_within-clause-refused c =
    let told : result_err c.from_residual-in_err-control_within.result ≡ Some c.in_err-control_within.field-0.0 =
    search rules in
    let level = level_passes c.args.given.log_level.now c.in-Some.log_level c.in-Some.ensures in
    rw (
      ← c.in_ok-name.ensures.refused,
      ← c.in_ok-least_inc.ensures.refused,
      ← c.in_ok-loops.ensures.refused,
      ← c.in_ok-drain_seconds.ensures.refused,
      ← level,
      ← c.in_err-control_within.ensures.refused,
    )
    told

pub returns-clause-refused : goal.returns-clause-refused
returns-clause-refused c =
    let level = level_passes c.args.given.log_level.now c.in-Some.log_level c.in-Some.ensures in
    rw (
      ← c.in_ok-name.ensures.refused,
      ← c.in_ok-least_inc.ensures.refused,
      ← c.in_ok-loops.ensures.refused,
      ← c.in_ok-drain_seconds.ensures.refused,
      ← level,
      ← c.in_ok-control_within.ensures.refused,
    )
    refl
