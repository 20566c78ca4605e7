use Rattle.std.proofs.Common.{◌≡◌, ℕ, ◌+◌, ◌-◌, ◌<◌, ◌*◌, slice_set, slice_index_or, true, false, length, Option, Some, None, sym, ap, ◌∙◌, subst, arith}
use Rattle.std.proofs.lemmas.List.{get_or_read, length-map}
use Rattle.subj.specs.declared.limits.TheConstants.{WINDOW, MAX_QUEUE_NAMES}
use Rattle.claim_race.specs.declared.plain_race.Progress.{Progress}
use Rattle.claim_race.specs.declared.plain_race.Claimed.{Claimed}
use Rattle.claim_race.specs.declared.plain_race.PlainRace.TheInside.{Inside}
use Rattle.claim_race.specs.Race.{RaceState, IsInTurn, IsNextIndex, IsClaimed}
use Rattle.claim_race.specs.PlainRace.{cell, finished_in, is_of_turn, race_of_table, IsTable}
use Rattle.claim_race.proofs.Steps.{lost, won, written_table, finished_in_kept, next_in-set}
use Rattle.claim_race.proofs.plain_race.PlainRaceRace.claim.Goals as goal

-- the shard's place among the shards
place_within : (race : Inside) (shard turn : ℕ)
    → IsInTurn (race_of_table race.issued race.progress.items race.table.items) shard turn
    → shard - 1 < length race.progress.items
place_within race shard turn on_turn =
    let first = on_turn.first in
    let last = on_turn.last in
    omega (arith, length-map race.progress.items (λ (shard : Progress). shard.finished))

-- what stands at the pair's place
held_is : (race : Inside) (turn index place : ℕ) (held : Option Claimed)
    → IsTable race.issued (finished_in race.progress.items) race.table.items
    → place ≡ cell turn index
    → place < WINDOW * MAX_QUEUE_NAMES
    → held ≡ slice_index_or race.table.items place held
    → slice_index_or race.table.items (cell turn index) None ≡ held
held_is race turn index place held is same within read =
    let below : place < length race.table.items = subst (λ n. place < n) (sym is.width) within in
    sym
    (get_or_read race.table.items place held below read None ∙ ap (λ k. slice_index_or race.table.items k None) same)

pub invariant_of-self : goal.invariant_of-self
invariant_of-self c =
    let race = c.self.inside in
    let on_turn =
    subst (λ (race : RaceState). IsInTurn race c.args.shard c.args.turn) (sym c.self.view_is) c.requires.turn in
    let within = place_within race c.args.shard c.args.turn on_turn in
    let read = c.index_mut.ensures.value in
    rw finished_in_kept c.self.invariant

pub returns-then-is_of_turn : goal.returns-then-is_of_turn
returns-then-is_of_turn c =
    let race = c.self.inside in
    let here = c.args.shard - 1 in
    let on_turn =
    subst (λ (race : RaceState). IsInTurn race c.args.shard c.args.turn) (sym c.self.view_is) c.requires.turn in
    let next =
    subst (λ (race : RaceState). IsNextIndex race c.args.shard c.args.index) (sym c.self.view_is) c.requires.index in
    let held = held_is race c.args.turn c.args.index c.place_of-place.result c.index.result.now c.self.invariant
    c.place_of-place.ensures.place c.place_of-place.ensures.within c.index.ensures in
    let shard : Progress = record { finished = c.index_mut.result.now.finished; next = c.args.index + 1 } in
    subst (λ (old : RaceState).
    IsClaimed old c.args.shard c.args.turn c.args.index false
    (race_of_table race.issued (slice_set race.progress.items here shard) race.table.items))
    c.self.view_is
    (lost race.issued race.progress.items race.table.items c.self.invariant c.args.shard c.args.turn c.args.index
    on_turn next (slice_set race.progress.items here shard)
    (finished_in_kept race.progress.items here (c.args.index + 1) c.index_mut.result.now
    (place_within race c.args.shard c.args.turn on_turn) c.index_mut.ensures.value)
    (next_in-set race.progress.items here shard)
    (ap (is_of_turn c.args.turn) held ∙ sym c.is_of_turn.ensures ∙ c.if-is_of_turn.true))

pub invariant_of-self-2 : goal.invariant_of-self-2
invariant_of-self-2 c =
    let race = c.self.inside in
    let on_turn =
    subst (λ (race : RaceState). IsInTurn race c.args.shard c.args.turn) (sym c.self.view_is) c.requires.turn in
    let next =
    subst (λ (race : RaceState). IsNextIndex race c.args.shard c.args.index) (sym c.self.view_is) c.requires.index in
    let within = place_within race c.args.shard c.args.turn on_turn in
    let read = c.index_mut.ensures.value in
    rw finished_in_kept
    (written_table race.issued (finished_in race.progress.items) race.table.items c.place_of-place.result _
    c.self.invariant c.place_of-place.ensures.within (sym c.place_of-place.ensures.place) next.most on_turn.issued)

pub returns : goal.returns
returns c =
    let race = c.self.inside in
    let here = c.args.shard - 1 in
    let on_turn =
    subst (λ (race : RaceState). IsInTurn race c.args.shard c.args.turn) (sym c.self.view_is) c.requires.turn in
    let next =
    subst (λ (race : RaceState). IsNextIndex race c.args.shard c.args.index) (sym c.self.view_is) c.requires.index in
    let held = held_is race c.args.turn c.args.index c.place_of-place.result c.index.result.now c.self.invariant
    c.place_of-place.ensures.place c.place_of-place.ensures.within c.index.ensures in
    let shard : Progress = record { finished = c.index_mut.result.now.finished; next = c.args.index + 1 } in
    let claimed : Option Claimed = Some (record { turn = c.args.turn; index = c.args.index; shard = c.args.shard }) in
    subst (λ (old : RaceState).
    IsClaimed old c.args.shard c.args.turn c.args.index true
    (race_of_table race.issued (slice_set race.progress.items here shard)
    (slice_set race.table.items c.place_of-place.result claimed)))
    c.self.view_is
    (subst (λ place.
    IsClaimed (race_of_table race.issued race.progress.items race.table.items) c.args.shard c.args.turn c.args.index
    true
    (race_of_table race.issued (slice_set race.progress.items here shard) (slice_set race.table.items place claimed)))
    (sym c.place_of-place.ensures.place)
    (won race.issued race.progress.items race.table.items c.self.invariant c.args.shard c.args.turn c.args.index on_turn
    next (slice_set race.progress.items here shard)
    (finished_in_kept race.progress.items here (c.args.index + 1) c.index_mut.result.now
    (place_within race c.args.shard c.args.turn on_turn) c.index_mut.ensures.value)
    (next_in-set race.progress.items here shard)
    (ap (is_of_turn c.args.turn) held ∙ sym c.is_of_turn.ensures ∙ c.if-is_of_turn.false)))
