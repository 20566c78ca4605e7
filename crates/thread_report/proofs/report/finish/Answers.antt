use Rattle.std.proofs.Common.{map, subst}
use Rattle.thread_report.specs.Handing.{AreHanded}
use Rattle.thread_report.specs.Owed.{AreTold}
use Rattle.thread_report.proofs.Placing.{are_once}
use Rattle.thread_report.proofs.report.finish.Goals as goal

pub returns-clause-handed : goal.returns-clause-handed
returns-clause-handed g c = λ on.
    let handed = c.in_ok-compare.ensures.handed on in
    subst (λ hub. AreHanded hub (map (λ entries. entries.items) c.in_ok-report.report.worked.items))
    c.as_slice.ensures.value
    (subst (λ worked. AreHanded c.as_slice.result.now (map (λ entries. entries.items) worked))
    c.as_slice-2.ensures.value handed)

pub returns-clause-told : goal.returns-clause-told
returns-clause-told g c = λ on.
    let passes = c.args.passes.items in
    let server = c.in_ok-report.report.server in
    let told = c.in_ok-compare.ensures.told on in
    subst (λ hub. AreTold server passes hub (map (λ entries. entries.items) c.in_ok-report.report.worked.items))
    c.as_slice.ensures.value
    (subst (λ worked. AreTold server passes c.as_slice.result.now (map (λ entries. entries.items) worked))
    c.as_slice-2.ensures.value told)

pub returns-clause-once : goal.returns-clause-once
returns-clause-once g c =
    let report = c.in_ok-report.report in
    let legal = c.in_ok-report.ensures.legal in
    are_once report.kept legal.1 (map (λ entries. entries.items) report.worked.items) legal.8 legal.4.puts
