use Rattle.std.proofs.Common.{rules, ◌≡◌, Some, None, refl}
use Rattle.std.specs.Result.{result_err}
use Rattle.subj.specs.Numbers.{incarnation_of}
use Rattle.router_command.specs.Levels.{level_named}
use Rattle.router_command.specs.Refusals.{loops_fault, ports_fault}
use Rattle.router_command.proofs.Refused.{inc_fails, inc_passes, level_fails, level_passes}
use Rattle.router_command.proofs.options.Options.new.Goals as goal

pub returns-in_default-clause-refused : goal.returns-in_default-clause-refused
returns-in_default-clause-refused c =
    let none : None ≡ incarnation_of c.args.given.inc = search rules in
    rw (
      ← c.in_ok-nodes.ensures.refused,
      ← c.in_ok-port.ensures.refused,
      ← c.in_ok-shards.ensures.refused,
      ← (inc_fails c.args.given.inc none),
    )
    refl

pub returns-in_err-stop_within-clause-refused : goal.returns-in_err-stop_within-clause-refused
returns-in_err-stop_within-clause-refused c =
    let told : result_err c.from_residual-in_err-stop_within.result ≡ Some c.in_err-stop_within.field-0.0 =
    search rules in
    let inc = inc_passes c.args.given.inc c.in-Some.inc c.in-Some.ensures in
    rw (
      ← c.in_ok-nodes.ensures.refused,
      ← c.in_ok-port.ensures.refused,
      ← c.in_ok-shards.ensures.refused,
      ← inc,
      ← c.in_err-stop_within.ensures,
    )
    told

pub returns-in_err-loops-clause-refused : goal.returns-in_err-loops-clause-refused
returns-in_err-loops-clause-refused c =
    let told : result_err c.from_residual-in_err-loops.result ≡ Some c.in_err-loops.field-0.0 =
    search rules in
    let inc = inc_passes c.args.given.inc c.in-Some.inc c.in-Some.ensures in
    rw (
      ← c.in_ok-nodes.ensures.refused,
      ← c.in_ok-port.ensures.refused,
      ← c.in_ok-shards.ensures.refused,
      ← inc,
      ← c.in_ok-stop_within.ensures,
      ← c.in_err-loops.ensures.refused,
    )
    told

pub returns-in_err-drain_seconds-clause-refused : goal.returns-in_err-drain_seconds-clause-refused
returns-in_err-drain_seconds-clause-refused c =
    let told : result_err c.from_residual-in_err-drain_seconds.result ≡ Some c.in_err-drain_seconds.field-0.0 =
    search rules in
    let inc = inc_passes c.args.given.inc c.in-Some.inc c.in-Some.ensures in
    rw (
      ← c.in_ok-nodes.ensures.refused,
      ← c.in_ok-port.ensures.refused,
      ← c.in_ok-shards.ensures.refused,
      ← inc,
      ← c.in_ok-stop_within.ensures,
      ← c.in_ok-loops.ensures.refused,
      ← c.in_err-drain_seconds.ensures.refused,
    )
    told

pub returns-in_err-ports_within-clause-refused : goal.returns-in_err-ports_within-clause-refused
returns-in_err-ports_within-clause-refused c =
    let told : result_err c.from_residual-in_err-ports_within.result ≡ Some c.in_err-ports_within.field-0.0 =
    search rules in
    let inc = inc_passes c.args.given.inc c.in-Some.inc c.in-Some.ensures in
    let ports : Some c.in_err-ports_within.field-0.0 ≡ ports_fault c.args.given.port c.args.given.nodes =
    rw (← c.in_ok-port.ensures.same, ← c.in_ok-nodes.ensures.same) c.in_err-ports_within.ensures.refused in
    rw (
      ← c.in_ok-nodes.ensures.refused,
      ← c.in_ok-port.ensures.refused,
      ← c.in_ok-shards.ensures.refused,
      ← inc,
      ← c.in_ok-stop_within.ensures,
      ← c.in_ok-loops.ensures.refused,
      ← c.in_ok-drain_seconds.ensures.refused,
      ← ports,
    )
    told

pub returns-in_err-loops_within-clause-refused : goal.returns-in_err-loops_within-clause-refused
returns-in_err-loops_within-clause-refused c =
    let told : result_err c.from_residual-in_err-loops_within.result ≡ Some c.in_err-loops_within.field-0.0 =
    search rules in
    let inc = inc_passes c.args.given.inc c.in-Some.inc c.in-Some.ensures in
    let ports : None ≡ ports_fault c.args.given.port c.args.given.nodes =
    rw (← c.in_ok-port.ensures.same, ← c.in_ok-nodes.ensures.same) c.in_ok-ports_within.ensures.refused in
    let shared : Some c.in_err-loops_within.field-0.0 ≡ loops_fault c.args.given.loops c.args.given.shards =
    rw (← c.in_ok-loops.ensures.same, ← c.in_ok-shards.ensures.same) c.in_err-loops_within.ensures.refused in
    rw (
      ← c.in_ok-nodes.ensures.refused,
      ← c.in_ok-port.ensures.refused,
      ← c.in_ok-shards.ensures.refused,
      ← inc,
      ← c.in_ok-stop_within.ensures,
      ← c.in_ok-loops.ensures.refused,
      ← c.in_ok-drain_seconds.ensures.refused,
      ← ports,
      ← shared,
    )
    told

pub returns-in_default-level_named-clause-refused : goal.returns-in_default-level_named-clause-refused
returns-in_default-level_named-clause-refused c =
    let none : None ≡ level_named c.args.given.log_level.now = search rules in
    let inc = inc_passes c.args.given.inc c.in-Some.inc c.in-Some.ensures in
    let ports : None ≡ ports_fault c.args.given.port c.args.given.nodes =
    rw (← c.in_ok-port.ensures.same, ← c.in_ok-nodes.ensures.same) c.in_ok-ports_within.ensures.refused in
    let shared : None ≡ loops_fault c.args.given.loops c.args.given.shards =
    rw (← c.in_ok-loops.ensures.same, ← c.in_ok-shards.ensures.same) c.in_ok-loops_within.ensures.refused in
    rw (
      ← c.in_ok-nodes.ensures.refused,
      ← c.in_ok-port.ensures.refused,
      ← c.in_ok-shards.ensures.refused,
      ← inc,
      ← c.in_ok-stop_within.ensures,
      ← c.in_ok-loops.ensures.refused,
      ← c.in_ok-drain_seconds.ensures.refused,
      ← ports,
      ← shared,
      ← (level_fails c.args.given.log_level.now none),
    )
    refl

pub returns-in_err-control_within-clause-refused : goal.returns-in_err-control_within-clause-refused
returns-in_err-control_within-clause-refused c =
    let told : result_err c.from_residual-in_err-control_within.result ≡ Some c.in_err-control_within.field-0.0 =
    search rules in
    let inc = inc_passes c.args.given.inc c.in-Some.inc c.in-Some.ensures in
    let ports : None ≡ ports_fault c.args.given.port c.args.given.nodes =
    rw (← c.in_ok-port.ensures.same, ← c.in_ok-nodes.ensures.same) c.in_ok-ports_within.ensures.refused in
    let shared : None ≡ loops_fault c.args.given.loops c.args.given.shards =
    rw (← c.in_ok-loops.ensures.same, ← c.in_ok-shards.ensures.same) c.in_ok-loops_within.ensures.refused in
    let level = level_passes c.args.given.log_level.now c.in-Some-level_named.log_level c.in-Some-level_named.ensures in
    rw (
      ← c.in_ok-nodes.ensures.refused,
      ← c.in_ok-port.ensures.refused,
      ← c.in_ok-shards.ensures.refused,
      ← inc,
      ← c.in_ok-stop_within.ensures,
      ← c.in_ok-loops.ensures.refused,
      ← c.in_ok-drain_seconds.ensures.refused,
      ← ports,
      ← shared,
      ← level,
      ← c.in_err-control_within.ensures.refused,
    )
    told

pub returns-clause-refused : goal.returns-clause-refused
returns-clause-refused c =
    let inc = inc_passes c.args.given.inc c.in-Some.inc c.in-Some.ensures in
    let ports : None ≡ ports_fault c.args.given.port c.args.given.nodes =
    rw (← c.in_ok-port.ensures.same, ← c.in_ok-nodes.ensures.same) c.in_ok-ports_within.ensures.refused in
    let shared : None ≡ loops_fault c.args.given.loops c.args.given.shards =
    rw (← c.in_ok-loops.ensures.same, ← c.in_ok-shards.ensures.same) c.in_ok-loops_within.ensures.refused in
    let level = level_passes c.args.given.log_level.now c.in-Some-level_named.log_level c.in-Some-level_named.ensures in
    rw (
      ← c.in_ok-nodes.ensures.refused,
      ← c.in_ok-port.ensures.refused,
      ← c.in_ok-shards.ensures.refused,
      ← inc,
      ← c.in_ok-stop_within.ensures,
      ← c.in_ok-loops.ensures.refused,
      ← c.in_ok-drain_seconds.ensures.refused,
      ← ports,
      ← shared,
      ← level,
      ← c.in_ok-control_within.ensures.refused,
    )
    refl
