use Rattle.std.proofs.Common.{List, ℕ, Some, ap, sym, subst, ◌∙◌}
use Rattle.job_block.specs.Blocks.{Block}
use Rattle.job_block.specs.Kept.{IsKeptMessage, job_in}
use Rattle.job_block.proofs.Places.{kept_there, seen_there}
use Rattle.job_block.proofs.blocks.JobBlock.get.Goals as goal

pub of-requires : goal.of-requires
of-requires c =
    let fields = c.self.inside in
    let kept = c.index-kept.result.now in
    subst (λ (text : List ℕ). IsKeptMessage text kept.message) (sym c.deref.ensures.value)
    (kept_there fields.text.items fields.first_turn fields.kept.items c.args.place kept c.args.self.now.jobs
    c.self.invariant (ap (λ (b : Block). b.jobs) c.self.view_is) c.requires c.index-kept.ensures).0

pub returns : goal.returns
returns c =
    let fields = c.self.inside in
    let kept = c.index-kept.result.now in
    seen_there fields.text.items fields.first_turn fields.kept.items c.args.place kept c.args.self.now.jobs
    (ap (λ (b : Block). b.jobs) c.self.view_is) c.requires c.index-kept.ensures
    ∙ ap (λ (n : ℕ). Some (job_in fields.text.items n kept)) (sym c.turn_after.ensures)
    ∙ ap (λ (text : List ℕ). Some (job_in text c.turn_after.result kept)) (sym c.deref.ensures.value)
    ∙ ap (λ job. Some job) (sym c.of.ensures)
