use Rattle.std.proofs.Common.{◌≡◌, ◌+◌, None, take, sym, ap, ◌∙◌, subst, arith}
use Rattle.claim_race.specs.Race.{busy_of}
use Rattle.hub_core.specs.Chosen.{turn_refusal}
use Rattle.hub_core.specs.Hubs.{Hub, hub_of_parts}
use Rattle.hub_core.specs.Local.{behind_local}
use Rattle.hub_core.proofs.Steps.Behind.{turn_behind_local}
use Rattle.hub_core.proofs.hub.Hub.turns_free.Goals as goal

pub returns : goal.returns
returns c = λ count low.
    let i = c.self.inside in
    let old = hub_of_parts i.server i.issued i.published i.changed i.draining i.counts i.peers.items in
    let finished = c.args.finished.now in
    let most = c.turns_among.ensures.most in
    let least = c.min-numbers.ensures in
    let issued = c.get.ensures.same in
    let free : busy_of (i.issued + count) (take i.server.shards finished) ≡ None =
    ap (busy_of (i.issued + count))
    (λ k. take (sym c.shards-shards.ensures.same k) (sym c.as_slice.ensures.same k))
    ∙ c.turns_among.ensures.free count low in
    subst (λ (hub : Hub). turn_refusal hub.server (behind_local count hub.state) finished ≡ None) c.self.view_is
    (turn_behind_local i.server old.state finished count free (omega arith) (omega arith))
