use Rattle.std.proofs.Common.{sym, ◌∙◌}
use Rattle.std.proofs.lemmas.Option.{none-some}
use Rattle.node_parts.proofs.Routing.{issued_next}
use Rattle.node_parts.proofs.jobs.issue.Goals as goal

pub issue-requires : goal.issue-requires
issue-requires g c = c.requires.ready.turn

pub unreachable-requires : goal.unreachable-requires
unreachable-requires g c = none-some _ (sym c.requires.ready.free ∙ c.in_default.ensures.0)

pub give-requires-clause-enough : goal.give-requires-clause-enough
give-requires-clause-enough g c = c.requires.enough

pub give-requires-clause-room : goal.give-requires-clause-room
give-requires-clause-room g c = c.requires.ready.room

pub returns : goal.returns
returns g c = record { issued = issued_next _ _ _ c.in-Ok.ensures.1; given = c.give.ensures }
