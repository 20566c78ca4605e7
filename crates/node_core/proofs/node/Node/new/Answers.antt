use Rattle.std.proofs.Common.{sym, ap, ◌∙◌, subst}
use Rattle.claim_race.specs.Race.{IsNew}
use Rattle.node_core.specs.Served.{IsKept}
use Rattle.node_law.specs.State.{lines_from}
use Rattle.node_core.proofs.Calls.Starts.{starts_as, starts_kept}
use Rattle.node_core.proofs.node.Node.new.Goals as goal

pub invariant_of-result : goal.invariant_of-result
invariant_of-result g c =
    let race_is =
    subst (λ n. IsNew n (g.R.Race.contents c.in_ok-race.race)) c.shards-2.ensures.same c.in_ok-race.ensures in
    subst IsKept
    (sym (starts_as _ _ _ _ c.in_ok-side.ensures race_is
    (c.in_ok-lines.ensures ∙ ap (λ n. lines_from n 1 n) c.shards.ensures.same)))
    (starts_kept _ c.me-me.ensures.server)

pub returns : goal.returns
returns g c =
    let race_is =
    subst (λ n. IsNew n (g.R.Race.contents c.in_ok-race.race)) c.shards-2.ensures.same c.in_ok-race.ensures in
    starts_as _ _ _ _ c.in_ok-side.ensures race_is
    (c.in_ok-lines.ensures ∙ ap (λ n. lines_from n 1 n) c.shards.ensures.same)
