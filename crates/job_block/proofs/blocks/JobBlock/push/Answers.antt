use Rattle.std.proofs.Common.{refl, ap}
use Rattle.job_block.specs.Blocks.{Block}
use Rattle.job_block.specs.Publications.{content_by}
use Rattle.job_block.specs.declared.kept.KeptJob.{KeptJob}
use Rattle.job_block.proofs.Places.{IsMore, IsSeen, kept_of, pushed, pushed_block, put_more}
use Rattle.job_block.proofs.blocks.JobBlock.push.Goals as goal

pub invariant_of-self-3 : goal.invariant_of-self-3
invariant_of-self-3 c =
    let fields = c.self.inside in
    let text = fields.text.items in
    let kept = fields.kept.items in
    let block = c.args.self.now in
    let content = content_by c.args.publication.now in
    let items = c.put_job.new.kept.items in
    let goes_on = c.goes_on_with-goes_on.result in
    let last : KeptJob = kept_of c.args.origin c.args.queues goes_on c.in_ok-message.message in
    let seen : IsSeen text fields.first_turn kept block = record {
      first = ap (λ (b : Block). b.first_turn) c.self.view_is;
      jobs = ap (λ (b : Block). b.jobs) c.self.view_is;
      is = c.self.invariant;
    } in
    let more : IsMore text c.keep.new.text.items kept items last block content =
    put_more text c.keep.new.text.items fields.first_turn kept c.reserve.new.self.items items c.args.origin
    c.args.queues goes_on c.in_ok-message.message block content content seen c.in_ok-reserve.ensures.items
    c.put_job.ensures c.in_ok-message.ensures.text c.in_ok-message.ensures.message refl
    c.goes_on_with-goes_on.ensures in
    pushed_block text c.keep.new.text.items fields.first_turn kept items last block content seen more c.requires.turn

pub returns-clause-ok : goal.returns-clause-ok
returns-clause-ok c =
    let fields = c.self.inside in
    let text = fields.text.items in
    let kept = fields.kept.items in
    let block = c.args.self.now in
    let content = content_by c.args.publication.now in
    let items = c.put_job.new.kept.items in
    let goes_on = c.goes_on_with-goes_on.result in
    let last : KeptJob = kept_of c.args.origin c.args.queues goes_on c.in_ok-message.message in
    let seen : IsSeen text fields.first_turn kept block = record {
      first = ap (λ (b : Block). b.first_turn) c.self.view_is;
      jobs = ap (λ (b : Block). b.jobs) c.self.view_is;
      is = c.self.invariant;
    } in
    let more : IsMore text c.keep.new.text.items kept items last block content =
    put_more text c.keep.new.text.items fields.first_turn kept c.reserve.new.self.items items c.args.origin
    c.args.queues goes_on c.in_ok-message.message block content content seen c.in_ok-reserve.ensures.items
    c.put_job.ensures c.in_ok-message.ensures.text c.in_ok-message.ensures.message refl
    c.goes_on_with-goes_on.ensures in
    pushed text c.keep.new.text.items fields.first_turn kept items last block content _ seen more
