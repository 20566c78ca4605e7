use Rattle.std.proofs.Common.{◌-◌, slice_set, sym, subst}
use Rattle.claim_race.specs.Race.{RaceState, IsInTurn, IsFinished}
use Rattle.claim_race.specs.PlainRace.{finished_in, race_of_table, IsTable}
use Rattle.claim_race.proofs.Steps.{finish_table, finishes, finished_in-set, next_in-set}
use Rattle.claim_race.proofs.plain_race.PlainRaceRace.finish.Goals as goal

pub invariant_of-self : goal.invariant_of-self
invariant_of-self c =
    let race = c.self.inside in
    let on_turn =
    subst (λ (race : RaceState). IsInTurn race c.args.shard c.args.turn) (sym c.self.view_is) c.requires in
    subst (λ finished. IsTable race.issued finished race.table.items)
    (sym (finished_in-set race.progress.items (c.args.shard - 1) (record { finished = c.args.turn; next = 0 })))
    (finish_table race.issued (finished_in race.progress.items) race.table.items (c.args.shard - 1) c.args.turn
    c.self.invariant on_turn.follows)

pub returns : goal.returns
returns c =
    let race = c.self.inside in
    let shard = c.args.shard - 1 in
    subst (λ (old : RaceState).
    IsFinished old c.args.shard c.args.turn
    (race_of_table race.issued (slice_set race.progress.items shard (record { finished = c.args.turn; next = 0 }))
    race.table.items))
    c.self.view_is
    (finishes race.issued race.progress.items
    (slice_set race.progress.items shard (record { finished = c.args.turn; next = 0 })) race.table.items c.args.shard
    c.args.turn (finished_in-set race.progress.items shard _) (next_in-set race.progress.items shard _))
