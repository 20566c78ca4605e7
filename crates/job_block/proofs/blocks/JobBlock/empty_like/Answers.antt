use Rattle.std.proofs.Common.{◌≡◌, length, ap, sym, ◌∙◌, arith}
use Rattle.job_block.specs.Blocks.{Block}
use Rattle.job_block.specs.declared.blocks.TheConstants.{JOB_BYTES}
use Rattle.job_block.proofs.Places.{jobs_length, memory_within}
use Rattle.job_block.proofs.blocks.JobBlock.empty_like.Goals as goal

pub returns-clause-memory : goal.returns-clause-memory
returns-clause-memory c =
    let fields = c.self.inside in
    let jobs = c.args.self.now.jobs in
    let count : length jobs ≡ length fields.kept.items =
    sym (ap (λ (b : Block). length b.jobs) c.self.view_is)
    ∙ jobs_length fields.text.items fields.first_turn fields.kept.items in
    let few = c.len-2.ensures in
    let text = c.with_room.ensures.capacity in
    let most = c.min-text_room.ensures in
    let places = c.with_room-2.ensures.capacity in
    memory_within _ _ _ _ JOB_BYTES (omega (arith, text, most)) (omega (arith, count, few, places))
