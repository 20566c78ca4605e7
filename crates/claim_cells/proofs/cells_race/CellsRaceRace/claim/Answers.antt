use Rattle.std.proofs.Common.{◌≡◌, sym, ap, ◌∙◌, subst}
use Rattle.subj.specs.declared.limits.TheConstants.{MAX_COUNTER}
use Rattle.claim_race.specs.Race.{RaceState, IsInTurn, IsClaimed}
use Rattle.claim_cells.specs.Seats.{RaceId}
use Rattle.claim_cells.specs.Calls.{finished_list}
use Rattle.claim_cells.specs.OneSeat.{race_of_seat}
use Rattle.claim_cells.proofs.SeatSteps.OneSeat.{looked_part, ready, claims}
use Rattle.claim_cells.proofs.cells_race.CellsRaceRace.claim.Goals as goal

pub load_issued-requires-clause-part : goal.load_issued-requires-clause-part
load_issued-requires-clause-part c =
    let me = c.self.inside.place.me in
    let look = c.load_finished in
    let on_turn = subst (λ (r : RaceState). IsInTurn r c.args.shard c.args.turn) (sym c.self.view_is) c.requires.turn in
    looked_part me look.new.place.me c.self.invariant.whole c.args.shard c.args.turn on_turn MAX_COUNTER look.result
    look.ensures.told

pub claim_at-requires-clause-part : goal.claim_at-requires-clause-part
claim_at-requires-clause-part c =
    let me = c.self.inside.place.me in
    let look = c.load_finished in
    let load = c.load_issued in
    let on_turn = subst (λ (r : RaceState). IsInTurn r c.args.shard c.args.turn) (sym c.self.view_is) c.requires.turn in
    (ready me look.new.place.me c.self.invariant.whole c.args.shard c.args.turn on_turn MAX_COUNTER look.result
    look.ensures.told load.new.place.me load.result load.ensures.told).part

pub claim_at-requires-clause-seen : goal.claim_at-requires-clause-seen
claim_at-requires-clause-seen c =
    let me = c.self.inside.place.me in
    let look = c.load_finished in
    let load = c.load_issued in
    let on_turn = subst (λ (r : RaceState). IsInTurn r c.args.shard c.args.turn) (sym c.self.view_is) c.requires.turn in
    (ready me look.new.place.me c.self.invariant.whole c.args.shard c.args.turn on_turn MAX_COUNTER look.result
    look.ensures.told load.new.place.me load.result load.ensures.told).sighted

pub invariant_of-self : goal.invariant_of-self
invariant_of-self c =
    let me = c.self.inside.place.me in
    let look = c.load_finished in
    let load = c.load_issued in
    let new = c.claim_at.new.place in
    let inv = c.self.invariant in
    let on_turn = subst (λ (r : RaceState). IsInTurn r c.args.shard c.args.turn) (sym c.self.view_is) c.requires.turn in
    let is = ready me look.new.place.me inv.whole c.args.shard c.args.turn on_turn MAX_COUNTER look.result
    look.ensures.told load.new.place.me load.result load.ensures.told in
    let did = claims me load.new.place.me new.me c.args.shard c.args.turn c.args.index is c.claim_at.result
    c.claim_at.ensures.told in
    let table : new.table_id ≡ c.self.inside.place.table_id =
    c.claim_at.ensures.table ∙ load.ensures.table ∙ look.ensures.table in
    record {
      whole = did.0;
      same = (λ j. let r : RaceId = record { table = table j; shards = did.1 j } in r) ∙ inv.same;
      last = did.3 ∙ inv.last;
      finished = inv.finished ∙ ap finished_list (sym did.4);
    }

pub returns : goal.returns
returns c =
    let me = c.self.inside.place.me in
    let look = c.load_finished in
    let load = c.load_issued in
    let new = c.claim_at.new.place in
    let on_turn = subst (λ (r : RaceState). IsInTurn r c.args.shard c.args.turn) (sym c.self.view_is) c.requires.turn in
    let is = ready me look.new.place.me c.self.invariant.whole c.args.shard c.args.turn on_turn MAX_COUNTER look.result
    look.ensures.told load.new.place.me load.result load.ensures.told in
    let did = claims me load.new.place.me new.me c.args.shard c.args.turn c.args.index is c.claim_at.result
    c.claim_at.ensures.told in
    subst (λ (r : RaceState). IsClaimed r c.args.shard c.args.turn c.args.index c.claim_at.result (race_of_seat new.me))
    c.self.view_is did.2
