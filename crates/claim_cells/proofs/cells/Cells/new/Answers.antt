use Rattle.std.proofs.Common.{[], ◌∷◌, ◌++◌, ◌≡◌, ◌+◌, lit<, arith, sym, ap, ◌∙◌, subst}
use Rattle.subj.specs.declared.limits.TheConstants.{MAX_COUNTER, MAX_QUEUE_NAMES, WINDOW}
use Rattle.claim_cells.specs.Seats.{RaceId}
use Rattle.claim_cells.specs.Calls.{AllNew}
use Rattle.claim_cells.proofs.Rules.Moves.{splits}
use Rattle.claim_cells.proofs.SeatSteps.Rounds.{split_off, one_more}
use Rattle.claim_cells.proofs.cells.Cells.new.Goals as goal

pub split_seat-part-requires : goal.split_seat-part-requires
split_seat-part-requires c =
    let width = c.cells.invariant.words in (
      c.loop-before.invariant.0,
      omega arith,
      splits MAX_COUNTER WINDOW MAX_QUEUE_NAMES c.cells.inside.table.shared.key (lit< tt) _ _,
    )

pub fresh-requires-clause-last : goal.fresh-requires-clause-last
fresh-requires-clause-last c =
    let inv = c.loop-before.invariant in
    let did = c.split_seat-part.ensures in
    let low = c.loop-before-test.true in
    let count =
    (split_off inv.1.0 c.loop-before.before c.args.shards c.loop-before.place.me c.split_seat-part.new.seat.me
    c.split_seat-part.result.me low inv.1.1 inv.1.2 did.2 did.4).1 in
    omega arith

pub fresh-requires-clause-whole : goal.fresh-requires-clause-whole
fresh-requires-clause-whole c =
    let inv = c.loop-before.invariant in
    let did = c.split_seat-part.ensures in
    (split_off inv.1.0 c.loop-before.before c.args.shards c.loop-before.place.me c.split_seat-part.new.seat.me
    c.split_seat-part.result.me c.loop-before-test.true inv.1.1 inv.1.2 did.2 did.4).0

pub fresh-requires-clause-part : goal.fresh-requires-clause-part
fresh-requires-clause-part c =
    let inv = c.loop-before.invariant in
    let did = c.split_seat-part.ensures in
    (split_off inv.1.0 c.loop-before.before c.args.shards c.loop-before.place.me c.split_seat-part.new.seat.me
    c.split_seat-part.result.me c.loop-before-test.true inv.1.1 inv.1.2 did.2 did.4).2

pub loop-before-preserved : goal.loop-before-preserved
loop-before-preserved c =
    let inv = c.loop-before.invariant in
    let did = c.split_seat-part.ensures in
    let now = split_off inv.1.0 c.loop-before.before c.args.shards c.loop-before.place.me c.split_seat-part.new.seat.me
    c.split_seat-part.result.me c.loop-before-test.true inv.1.1 inv.1.2 did.2 did.4 in
    let race : RaceId = record { table = c.cells.inside.table.shared.table_id; shards = c.cells.inside.shards } in
    let same : c.cells.inside.shards ≡ c.args.shards = ap (λ r. r.shards) c.cells.view_is ∙ c.in_ok-cells.ensures.0 in
    let pushed : c.push.new.self.items ≡ c.loop-before.seats.items ++ c.fresh.result ∷ [] =
    c.in_ok-push.ensures.items in
    let table : c.split_seat-part.result.table_id ≡ c.cells.inside.table.shared.table_id = did.3 ∙ inv.0 in (
      did.0 ∙ inv.0,
      now.3,
      subst (AllNew race (c.loop-before.before + 1)) (sym pushed)
          (one_more race c.loop-before.before c.loop-before.seats.items c.fresh.result inv.2
          (c.fresh.ensures.race
          ∙ (λ j. let r : RaceId = record { table = table j; shards = (now.1 ∙ sym same) j } in r))
          c.fresh.ensures.part),
    )
