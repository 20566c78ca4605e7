use Rattle.std.proofs.Common.{◌≡◌, ◌-◌, ◌<◌, set, length, sym, ap, ◌∙◌, subst, arith}
use Rattle.subj.specs.declared.limits.TheConstants.{MAX_COUNTER}
use Rattle.claim_race.specs.Race.{RaceState, IsInTurn, IsFinished}
use Rattle.claim_cells.specs.Seats.{RaceId}
use Rattle.claim_cells.specs.Calls.{finished_list}
use Rattle.claim_cells.specs.OneSeat.{race_of_seat, finished_in}
use Rattle.claim_cells.proofs.SeatSteps.OneSeat.{looked_part, ready, finishes, noted_finish}
use Rattle.claim_cells.proofs.cells_race.CellsRaceRace.finish.Goals as goal

pub load_issued-requires-clause-part : goal.load_issued-requires-clause-part
load_issued-requires-clause-part c =
    let me = c.self.inside.place.me in
    let look = c.load_finished in
    let on_turn = subst (λ (r : RaceState). IsInTurn r c.args.shard c.args.turn) (sym c.self.view_is) c.requires in
    looked_part me look.new.place.me c.self.invariant.whole c.args.shard c.args.turn on_turn MAX_COUNTER look.result
    look.ensures.told

pub finish_at-requires-clause-part : goal.finish_at-requires-clause-part
finish_at-requires-clause-part c =
    let me = c.self.inside.place.me in
    let look = c.load_finished in
    let load = c.load_issued in
    let on_turn = subst (λ (r : RaceState). IsInTurn r c.args.shard c.args.turn) (sym c.self.view_is) c.requires in
    (ready me look.new.place.me c.self.invariant.whole c.args.shard c.args.turn on_turn MAX_COUNTER look.result
    look.ensures.told load.new.place.me load.result load.ensures.told).part

pub finish_at-requires-clause-shard : goal.finish_at-requires-clause-shard
finish_at-requires-clause-shard c =
    let me = c.self.inside.place.me in
    let look = c.load_finished in
    let load = c.load_issued in
    let on_turn = subst (λ (r : RaceState). IsInTurn r c.args.shard c.args.turn) (sym c.self.view_is) c.requires in
    (ready me look.new.place.me c.self.invariant.whole c.args.shard c.args.turn on_turn MAX_COUNTER look.result
    look.ensures.told load.new.place.me load.result load.ensures.told).named

pub finish_at-requires-clause-seen : goal.finish_at-requires-clause-seen
finish_at-requires-clause-seen c =
    let me = c.self.inside.place.me in
    let look = c.load_finished in
    let load = c.load_issued in
    let on_turn = subst (λ (r : RaceState). IsInTurn r c.args.shard c.args.turn) (sym c.self.view_is) c.requires in
    (ready me look.new.place.me c.self.invariant.whole c.args.shard c.args.turn on_turn MAX_COUNTER look.result
    look.ensures.told load.new.place.me load.result load.ensures.told).sighted

pub invariant_of-self : goal.invariant_of-self
invariant_of-self c =
    let me = c.self.inside.place.me in
    let look = c.load_finished in
    let load = c.load_issued in
    let new = c.finish_at.new.place in
    let inv = c.self.invariant in
    let on_turn = subst (λ (r : RaceState). IsInTurn r c.args.shard c.args.turn) (sym c.self.view_is) c.requires in
    let is = ready me look.new.place.me inv.whole c.args.shard c.args.turn on_turn MAX_COUNTER look.result
    look.ensures.told load.new.place.me load.result load.ensures.told in
    let did = finishes me load.new.place.me new.me c.args.shard c.args.turn 0 is c.finish_at.ensures.told in
    let table : new.table_id ≡ c.self.inside.place.table_id =
    c.finish_at.ensures.table ∙ load.ensures.table ∙ look.ensures.table in
    let low : c.args.shard - 1 < length (finished_in me.0.shards) =
    (let first = on_turn.first in let last = on_turn.last in omega arith) in
    record {
      whole = did.0;
      same = (λ j. let r : RaceId = record { table = table j; shards = did.1 j } in r) ∙ inv.same;
      last = did.2.issued ∙ inv.last;
      finished =
          c.set.ensures
          ∙ ap (λ l. set l (c.args.shard - 1) c.args.turn) inv.finished
          ∙ noted_finish (finished_in me.0.shards) c.args.shard c.args.turn low
          ∙ ap finished_list (sym did.2.finished);
    }

pub returns : goal.returns
returns c =
    let me = c.self.inside.place.me in
    let look = c.load_finished in
    let load = c.load_issued in
    let new = c.finish_at.new.place in
    let on_turn = subst (λ (r : RaceState). IsInTurn r c.args.shard c.args.turn) (sym c.self.view_is) c.requires in
    let is = ready me look.new.place.me c.self.invariant.whole c.args.shard c.args.turn on_turn MAX_COUNTER look.result
    look.ensures.told load.new.place.me load.result load.ensures.told in
    let did = finishes me load.new.place.me new.me c.args.shard c.args.turn 0 is c.finish_at.ensures.told in
    subst (λ (r : RaceState). IsFinished r c.args.shard c.args.turn (race_of_seat new.me)) c.self.view_is did.2
