use Rattle.std.proofs.Common.{rules, ◌≡◌, ◌<◌, ◌≤◌, ◌+◌, false, length, refl, ap, subst, arith}
use Rattle.std.proofs.lemmas.Result.{err_from_is_err_and}
use Rattle.subj.specs.declared.limits.TheConstants.{MAX_KEYS, SUBSCRIPTION_BYTES}
use Rattle.subj.specs.Keys.{cost_of}
use Rattle.interest.specs.Counts.{Counts, total_cost, is_full, too_many_if}
use Rattle.interest.proofs.Counting.Deltas.{has_room}
use Rattle.interest.proofs.local.Local.add.Goals as goal

pub returns-in_err-copy : goal.returns-in_err-copy
returns-in_err-copy c =
    let counts = c.self.inside.entries.items in
    let few : length counts < MAX_KEYS = search rules in
    let small : total_cost counts + cost_of c.args.key.now ≤ SUBSCRIPTION_BYTES =
    (let cost = c.cost.ensures.same in
    let bytes : c.self.inside.bytes ≡ total_cost counts = c.self.invariant.cost_is in
    omega arith) in
    let room : is_full c.args.self.now c.args.key.now ≡ false = subst
    (λ (counts : Counts). is_full counts c.args.key.now ≡ false) c.self.view_is
    (has_room counts c.args.key.now few small) in
    let p = err_from_is_err_and c.from_residual.result c.from_residual.ensures.1 in
    rw (p.1, p.2) (ap too_many_if room, refl)
