use Rattle.std.proofs.Common.{refl, sym, ◌∙◌, subst}
use Rattle.std.proofs.lemmas.Option.{none-some}
use Rattle.node_parts.specs.Jobs.{MayRoute, AreRouted}
use Rattle.node_parts.proofs.Routing.{issued_next}
use Rattle.node_parts.proofs.jobs.route.Goals as goal

pub returns-then-not-is_message : goal.returns-then-not-is_message
returns-then-not-is_message g c =
    let race = g.R.Race.contents c.args.race.now in
    subst (λ b. AreRouted b race c.args.lines.now c.args.jobs.now.items race c.args.lines.now)
    c.if-not-is_message.ensures (refl, refl)

pub issue-requires : goal.issue-requires
issue-requires g c =
    (subst (λ b. MayRoute b (g.R.Race.contents c.args.race.now) c.args.lines.now c.args.jobs.now.items)
    (sym c.if-not-is_message.ensures) c.requires).0.turn

pub unreachable-requires : goal.unreachable-requires
unreachable-requires g c =
    let may = subst (λ b. MayRoute b (g.R.Race.contents c.args.race.now) c.args.lines.now c.args.jobs.now.items)
    (sym c.if-not-is_message.ensures) c.requires in
    none-some _ (sym may.0.free ∙ c.in_default.ensures.0)

pub hand_out-requires-clause-enough : goal.hand_out-requires-clause-enough
hand_out-requires-clause-enough g c =
    (subst (λ b. MayRoute b (g.R.Race.contents c.args.race.now) c.args.lines.now c.args.jobs.now.items)
    (sym c.if-not-is_message.ensures) c.requires).1

pub hand_out-requires-clause-room : goal.hand_out-requires-clause-room
hand_out-requires-clause-room g c =
    (subst (λ b. MayRoute b (g.R.Race.contents c.args.race.now) c.args.lines.now c.args.jobs.now.items)
    (sym c.if-not-is_message.ensures) c.requires).0.room

pub returns : goal.returns
returns g c =
    subst (λ b.
    AreRouted b (g.R.Race.contents c.args.race.now) c.args.lines.now c.args.jobs.now.items
    (g.R.Race.contents c.issue.new.self) c.hand_out.new.lines)
    c.if-not-is_message.ensures (record { issued = issued_next _ _ _ c.in-Ok.ensures.1; given = c.hand_out.ensures })
