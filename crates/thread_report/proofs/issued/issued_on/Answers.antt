use Rattle.std.specs.Prelude.{option_to_list}
use Rattle.std.proofs.Common.{◌<◌, ◌++◌, length, take, arith, sym, ap, ◌∙◌}
use Rattle.thread_report.specs.Issued.{issued_by, issued_on}
use Rattle.thread_report.proofs.Naming.{issued_more, owned_more}
use Rattle.thread_report.proofs.issued.issued_on.Goals as goal

pub loop-entry-preserved : goal.loop-entry-preserved
loop-entry-preserved c =
    let l = c.loop-entry in
    let n = l.entry-index in
    let tape = c.args.tape.now in
    let entry = c.entry-item.result in
    let i = l.invariant in
    let lt : n < length tape = omega arith in
    let count = owned_more tape n entry lt c.entry-item.is in
    let own = c.count_own-next.ensures.count in
    let few = c.count_own-next.ensures.few in
    let here = i.0 in
    let bound = i.1 in (
      omega arith,
      omega arith,
      c.in_ok-add.ensures ∙ ap (λ w. w ++ option_to_list c.job_by.result) i.2
          ∙ ap (λ w. issued_on 1 (take n tape) ++ w)
          (c.job_by.ensures ∙ ap (λ k. issued_by k entry.event entry.told) here)
          ∙ sym (issued_more 1 tape n entry lt c.entry-item.is),
    )
