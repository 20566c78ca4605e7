use Rattle.std.proofs.Common.{◌≡◌, ◌+◌, ◌-◌, ℕ, List, length, Some, ap, sym, subst}
use Rattle.std.specs.Prelude.{slice_get}
use Rattle.job_block.specs.Blocks.{Block, FollowsAlike, job_of}
use Rattle.job_block.specs.Kept.{job_in}
use Rattle.job_block.specs.Publications.{content_by}
use Rattle.job_block.specs.declared.kept.KeptJob.{KeptJob}
use Rattle.job_block.proofs.Places.{goes_on_kept}
use Rattle.job_block.proofs.blocks.JobBlock.goes_on_with.Goals as goal

pub returns-in-Some : goal.returns-in-Some
returns-in-Some c goes =
    let fields = c.self.inside in
    let last = c.in-Some.last.now in
    let content = content_by c.args.publication.now in
    let stands : slice_get fields.kept.items (length fields.kept.items - 1) ≡ Some last =
    subst (λ (l : List KeptJob). slice_get l (length l - 1) ≡ Some last) c.deref.ensures.value
    (sym c.in-Some.ensures.value) in
    goes_on_kept fields.text.items fields.first_turn fields.kept.items last c.args.self.now c.args.origin.now content
    c.args.queues.now (ap (λ (b : Block). b.first_turn) c.self.view_is) (ap (λ (b : Block). b.jobs) c.self.view_is)
    stands (λ n.
    subst
    (λ (text : List ℕ).
    FollowsAlike (job_in text n last) (job_of c.args.origin.now (n + 1) content c.args.queues.now))
    c.deref-in-Some.ensures.value (c.goes_on_with.ensures goes n))
