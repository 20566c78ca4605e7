use Rattle.std.proofs.Common.{◌+◌, ◌<◌, ◌++◌, length, map, take, add-one, arith, sym, ap, ◌∙◌, append_assoc}
use Rattle.shard_core.specs.Shards.{new_shard}
use Rattle.thread_report.specs.Owed.{owed_by_shard, owed_by_shards}
use Rattle.thread_report.proofs.Owing.{owed_by_shards_more}
use Rattle.thread_report.proofs.passes_told.behind_shards.Goals as goal

pub loop-place-preserved : goal.loop-place-preserved
loop-place-preserved g c =
    let l = c.loop-place in
    let n = l.place in
    let tapes = c.args.worked.now in
    let shards = length tapes in
    let d = c.index-worked-place.result in
    let rest = c.in_ok-rest.rest.now in
    let lt : n < length tapes = omega arith in
    let start = new_shard (n + 1) shards in
    let tape = c.as_slice.ensures.value ∙ ap (λ t. t.items) c.index-worked-place.is in
    let before = owed_by_shards shards 1 (map (λ t. t.items) (take n tapes)) in
    let here = owed_by_shard (n + 1) 0 start c.as_slice.result.now in
    rw add-one (l.invariant ∙ ap (λ w. before ++ w) c.in_ok-rest.ensures ∙ sym (append_assoc before here rest)
    ∙ ap (λ t. (before ++ owed_by_shard (n + 1) 0 start t) ++ rest) tape
    ∙ ap (λ w. w ++ rest) (sym (owed_by_shards_more (λ t. t.items) shards 1 (n + 1) n tapes d lt (omega arith))))
