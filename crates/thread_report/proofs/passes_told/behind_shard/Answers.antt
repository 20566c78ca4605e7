use Rattle.std.proofs.Common.{◌<◌, ◌++◌, length, get_or, take, add-one, arith, sym, ap, ◌∙◌, append_assoc}
use Rattle.shard_core.specs.Shards.{new_shard}
use Rattle.thread_report.specs.ShardAnswers.{state_after, state_behind}
use Rattle.thread_report.specs.Owed.{owed_by_shard, owed_one}
use Rattle.thread_report.proofs.Owing.{owed_by_shard_more}
use Rattle.thread_report.proofs.Replaying.{state_after_more}
use Rattle.thread_report.proofs.passes_told.behind_shard.Goals as goal

pub loop-place-preserved : goal.loop-place-preserved
loop-place-preserved g c =
    let l = c.loop-place in
    let n = l.place in
    let s = c.args.number in
    let start = new_shard s c.args.shards in
    let tape = c.args.tape.now in
    let d = c.index-tape-place.result in
    let rest = c.in_ok-rest.rest.now in
    let lt : n < length tape = omega arith in
    let before = owed_by_shard s 0 start (take n tape) in
    let state = state_after start (take n tape) in
    let here = owed_one s n state (get_or tape n d) in
    let told = c.in_ok-rest.ensures.told
    ∙ (λ k. owed_one s n (l.invariant.1 k) (c.index-tape-place.is k) ++ rest) in (
      rw add-one (l.invariant.0 ∙ ap (λ w. before ++ w) told ∙ sym (append_assoc before here rest)
          ∙ ap (λ w. w ++ rest) (sym (owed_by_shard_more s 0 n n start tape d lt (omega arith)))),
      rw add-one (c.in_ok-rest.ensures.state ∙ (λ k. state_behind (l.invariant.1 k) (c.index-tape-place.is k))
          ∙ sym (state_after_more n start tape d lt)),
    )
