use Rattle.std.proofs.Common.{◌≡◌, List, arith, subst}
use Rattle.std.specs.Prelude.{slice_get, Some}
use Rattle.subj.specs.declared.jobs.Job.{Job}
use Rattle.job_block.proofs.Ranges.{got, place_in}
use Rattle.job_block.proofs.slices.JobSlice.get.Goals as goal

pub overflow_add-self-inside : goal.overflow_add-self-inside
overflow_add-self-inside c =
    let slice = c.self.inside in
    let low =
    place_in slice.block.now.jobs slice.start slice.end c.args.place c.args.self.now c.self.invariant.0
    c.self.invariant.1 c.self.view_is c.requires in
    omega (arith, low)

pub returns : goal.returns
returns c =
    let slice = c.self.inside in
    let low =
    place_in slice.block.now.jobs slice.start slice.end c.args.place c.args.self.now c.self.invariant.0
    c.self.invariant.1 c.self.view_is c.requires in
    subst (λ (l : List Job). slice_get l c.args.place ≡ Some c.get.result) c.self.view_is
    (got slice.block.now.jobs slice.start slice.end c.args.place c.get.result low c.get.ensures)
