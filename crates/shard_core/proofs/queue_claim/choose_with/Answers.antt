use Rattle.std.proofs.Common.{◌≡◌, ◌%◌, ◌<◌, Some, length, refl, sym, ap, ◌∙◌, arith}
use Rattle.std.specs.Prelude.{slice_get}
use Rattle.std.proofs.lemmas.Nat.{mod_below}
use Rattle.std.proofs.lemmas.Option.{slice_get-get_or}
use Rattle.shard_core.specs.Owed.{owed_entry}
use Rattle.shard_core.proofs.Turns.Claims.{nobody_chosen, chosen_fits, one_chosen}
use Rattle.shard_core.proofs.queue_claim.choose_with.Goals as goal

pub returns-then-count-eq0-clause-ok : goal.returns-then-count-eq0-clause-ok
returns-then-count-eq0-clause-ok g c =
    let claim = c.args.claim.now in
    let subs = c.args.openings.now.subs in
    let items = c.in_ok-subs.subs.items in
    let size : c.len-count.result ≡ length items = c.len-count.ensures ∙ c.in_ok-subs.subs.ok.0 in
    nobody_chosen claim.copies claim.shard c.args.conns.now.shown c.args.conns.now.next claim.job.now claim.name.now
    subs items c.requires.settled c.in_ok-subs.ensures.all (sym size ∙ c.if-count-eq0.true)

pub stage_chosen-requires-clause-room : goal.stage_chosen-requires-clause-room
stage_chosen-requires-clause-room g c =
    let claim = c.args.claim.now in
    let subs = c.args.openings.now.subs in
    let items = c.in_ok-subs.subs.items in
    let size : c.len-count.result ≡ length items = c.len-count.ensures ∙ c.in_ok-subs.subs.ok.0 in
    let some = c.if-count-eq0.false in
    let sub = c.index.result.now in
    let i = c.get.result % c.len-count.result in
    let below : i < c.len-count.result = mod_below c.get.result c.len-count.result (omega arith) in
    let at : slice_get items i ≡ Some sub =
    slice_get-get_or items i sub (omega (arith, below, size)) ∙ ap Some (sym c.index.ensures) in
    chosen_fits claim.copies claim.shard c.args.conns.now.shown c.args.conns.now.next claim.job.now claim.name.now subs
    items c.requires.settled c.in_ok-subs.ensures.all i sub at
    (owed_entry claim.shard c.args.conns.now.next claim.job.now sub.now.key.queue sub.now) refl

pub returns-clause-ok : goal.returns-clause-ok
returns-clause-ok g c =
    let claim = c.args.claim.now in
    let subs = c.args.openings.now.subs in
    let items = c.in_ok-subs.subs.items in
    let size : c.len-count.result ≡ length items = c.len-count.ensures ∙ c.in_ok-subs.subs.ok.0 in
    let some = c.if-count-eq0.false in
    let sub = c.index.result.now in
    let i = c.get.result % c.len-count.result in
    let below : i < c.len-count.result = mod_below c.get.result c.len-count.result (omega arith) in
    let at : slice_get items i ≡ Some sub =
    slice_get-get_or items i sub (omega (arith, below, size)) ∙ ap Some (sym c.index.ensures) in
    let place : i ≡ claim.job.now.turn % length items =
    ap (λ n. n % c.len-count.result) c.get.ensures.same ∙ ap (λ n. claim.job.now.turn % n) size in
    one_chosen claim.copies claim.shard c.args.conns.now.shown c.args.conns.now.next claim.job.now claim.name.now subs
    items c.requires.settled c.in_ok-subs.ensures.all i sub at
    (owed_entry claim.shard c.args.conns.now.next claim.job.now sub.now.key.queue sub.now) c.in_ok-candidate.candidate
    c.stage_chosen.new.conns.next c.in_ok-candidate.ensures.told c.open_candidates.ensures.rising place refl
    c.in_ok-candidate.ensures.staged
