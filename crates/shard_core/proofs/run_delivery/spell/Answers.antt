use Rattle.std.proofs.Common.{◌≡◌, ◌+◌, List, [], ◌∷◌, ◌++◌, map, take, ap, sym, ◌∙◌}
use Rattle.std.proofs.lemmas.List.{take_more, map-append}
use Rattle.std.proofs.lemmas.Option.{get_or_from_slice_get, slice_get_within}
use Rattle.outbox.specs.Views.{Tail}
use Rattle.subj.specs.declared.jobs.Job.{Job}
use Rattle.shard_core.specs.RunSteps.{tail_of}
use Rattle.shard_core.proofs.run_delivery.spell.Goals as goal

pub loop-place-preserved : goal.loop-place-preserved
loop-place-preserved c =
    let jobs = c.args.jobs.now in
    let i = c.loop-place.place in
    let job = c.get.result in
    let more : map tail_of (take (i + 1) jobs) ≡ map tail_of (take i jobs) ++ tail_of job ∷ [] =
    ap (map tail_of)
    (take_more jobs i job (slice_get_within jobs i job c.get.ensures)
    ∙ ap (λ (j : Job). take i jobs ++ j ∷ []) (get_or_from_slice_get jobs i job job c.get.ensures))
    ∙ map-append tail_of (take i jobs) (job ∷ []) in
    c.in_ok-spell_one.ensures
    ∙ ap (λ (l : List Tail). l ++ tail_of job ∷ []) c.loop-place.invariant
    ∙ sym more
