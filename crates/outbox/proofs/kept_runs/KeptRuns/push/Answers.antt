use Rattle.std.proofs.Common.{rules, ◌≡◌, ◌+◌, ◌<◌, ◌^◌, List, subst, sym}
use Rattle.std.specs.Prelude.{All}
use Rattle.outbox.specs.declared.run_tails.TailMark.{TailMark}
use Rattle.outbox.proofs.Fronts.{fit_both, runs_fit}
use Rattle.outbox.proofs.kept_runs.KeptRuns.push.Goals as goal

pub invariant_of-self-2 : goal.invariant_of-self-2
invariant_of-self-2 c =
    let own = c.self.inside in
    let tails = c.args.tails.now in
    let same : c.args.head_len ≡ own.head_len = search rules in
    let more = subst (λ n. All (λ (t : TailMark). n + t.len < 2 ^ 64) tails) same
    (runs_fit c.args.sub c.args.head_len tails c.requires) in
    subst (λ (ms : List TailMark). All (λ (t : TailMark). own.head_len + t.len < 2 ^ 64) ms)
    (sym c.in_ok-extend.ensures.ok) (fit_both own.head_len own.marks tails c.self.invariant more)
