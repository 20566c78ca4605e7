use Rattle.std.proofs.Common.{◌≡◌, not, sym, ap, subst, ◌∙◌, arith}
use Rattle.job_block.specs.Blocks.{Block}
use Rattle.job_block.specs.Publications.{content_by}
use Rattle.job_block.specs.declared.kept.KeptJob.{KeptJob}
use Rattle.job_block.proofs.Places.{IsMore, IsSeen, kept_of, pushed, pushed_block, put_next, last_part, some_there}
use Rattle.job_block.specs.Kept.{AreKept, jobs_in}
use Rattle.job_block.proofs.blocks.JobBlock.push_next.Goals as goal

pub invariant_of-self-2 : goal.invariant_of-self-2
invariant_of-self-2 c =
    let fields = c.self.inside in
    let text = fields.text.items in
    let kept = fields.kept.items in
    let block = c.args.self.now in
    let content = content_by c.args.publication.now in
    let items = c.put_job.new.kept.items in
    let goes_on = not c.is_empty-goes_on.result in
    let last : KeptJob = kept_of c.args.origin c.args.queues goes_on c.in_ok-message.message in
    let seen : IsSeen text fields.first_turn kept block = record {
      first = ap (λ (b : Block). b.first_turn) c.self.view_is;
      jobs = ap (λ (b : Block). b.jobs) c.self.view_is;
      is = c.self.invariant;
    } in
    let more : IsMore text c.keep.new.text.items kept items last block content =
    put_next text c.keep.new.text.items fields.first_turn kept c.reserve.new.self.items items c.args.origin
    c.args.queues goes_on c.in_ok-message.message block content seen c.in_ok-reserve.ensures.items
    c.put_job.ensures c.in_ok-message.ensures.text c.in_ok-message.ensures.message
    (λ goes.
    some_there c.reserve.new.self.items _ c.is_empty-goes_on.result goes c.is_empty-goes_on.ensures
    (omega (arith, c.reserve.new.self.ok.0))) c.requires.last
    c.requires.short in
    pushed_block text c.keep.new.text.items fields.first_turn kept items last block content seen more c.requires.turn

pub returns-clause-ok : goal.returns-clause-ok
returns-clause-ok c =
    let fields = c.self.inside in
    let text = fields.text.items in
    let kept = fields.kept.items in
    let block = c.args.self.now in
    let content = content_by c.args.publication.now in
    let items = c.put_job.new.kept.items in
    let goes_on = not c.is_empty-goes_on.result in
    let last : KeptJob = kept_of c.args.origin c.args.queues goes_on c.in_ok-message.message in
    let seen : IsSeen text fields.first_turn kept block = record {
      first = ap (λ (b : Block). b.first_turn) c.self.view_is;
      jobs = ap (λ (b : Block). b.jobs) c.self.view_is;
      is = c.self.invariant;
    } in
    let more : IsMore text c.keep.new.text.items kept items last block content =
    put_next text c.keep.new.text.items fields.first_turn kept c.reserve.new.self.items items c.args.origin
    c.args.queues goes_on c.in_ok-message.message block content seen c.in_ok-reserve.ensures.items
    c.put_job.ensures c.in_ok-message.ensures.text c.in_ok-message.ensures.message
    (λ goes.
    some_there c.reserve.new.self.items _ c.is_empty-goes_on.result goes c.is_empty-goes_on.ensures
    (omega (arith, c.reserve.new.self.ok.0))) c.requires.last
    c.requires.short in
    pushed text c.keep.new.text.items fields.first_turn kept items last block content _ seen more

pub keep-requires-clause-subject : goal.keep-requires-clause-subject
keep-requires-clause-subject c =
    let fields = c.self.inside in
    let text = fields.text.items in
    let same : c.as_slice.result.now ≡ fields.kept.items = c.as_slice.ensures.value ∙ c.in_ok-reserve.ensures.items in
    last_part text fields.first_turn c.as_slice.result.now c.args.self.now.jobs c.last_span-subject.result
    c.args.origin.publisher (content_by c.args.publication.now).subject c.args.origin.echo c.args.queues
    (ap (jobs_in text fields.first_turn) same ∙ ap (λ (b : Block). b.jobs) c.self.view_is)
    (subst (AreKept text) (sym same) c.self.invariant.each) c.last_span-subject.ensures c.requires.last
