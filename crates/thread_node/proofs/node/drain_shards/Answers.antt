use Rattle.std.proofs.Common.{of_calls, rules, ◌≡◌, ◌≤◌, false, true≢false, sym, ap, ◌∙◌, arith}
use Rattle.std.specs.Prelude.{◌||◌, is_some, Err}
use Rattle.subj.specs.declared.failures.Failure.TheVariants.{Refused}
use Rattle.hub_core.specs.declared.faults.HubFault.TheVariants.{Draining}
use Rattle.thread_node.proofs.Draining.{ask_one, none_left, stays_new, all_drained}
use Rattle.thread_node.proofs.node.drain_shards.Goals as goal
use Rattle.thread_node.proofs.node.drain_shards.Goals.{then-drain, else-drain, in-Ok, in-Err-Refused-Draining}

pub loop-place-preserved : goal.loop-place-preserved
loop-place-preserved g c =
    let any : c.if-drain.is_new ≡ (c.drain.result || c.loop-place.is_new) = elim c.if-drain.branch [
      | then-drain w ↦ w.is_new-is ∙ sym (ap (λ b. b || c.loop-place.is_new) w.if-drain.true)
      | else-drain w ↦ w.is_new-is ∙ sym (ap (λ b. b || c.loop-place.is_new) w.if-drain.false)
    ] in (
      search of_calls parts 8,
      λ last rest.
          c.loop-place.invariant.1 last
          (ask_one _ c.loop-place.drain c.drain.new.self c.loop-place.is_new c.drain.result c.if-drain.is_new
          c.loop-place.place c.args.shards last c.loop-place-test.true (search of_calls parts 8) any rest),
    )

pub returns-then-not-is_new : goal.returns-then-not-is_new
returns-then-not-is_new g c =
    let past : c.args.shards ≤ c.loop-place.place = omega (arith, c.loop-place-test.false) in
    let all = c.loop-place.invariant.1 (c.loop-place.drain, c.loop-place.is_new)
    (none_left _ (c.loop-place.drain, c.loop-place.is_new) c.loop-place.place c.args.shards past) in
    let none : c.loop-place.is_new ≡ false = grind (arith, c.if-not-is_new.true) in
    elim c.match-told.branch [
      | in-Ok w ↦
          absurd (true≢false (sym (stays_new _ _ c.args.drain c.is_some-is_new.result
          (c.loop-place.drain, c.loop-place.is_new) (c.is_some-is_new.ensures ∙ ap is_some w.cut-is) all) ∙ none))
      | in-Err-Refused-Draining w ↦
          let is : c.args.told ≡ Err (Refused Draining) = search rules in
          all_drained _ c.args.drain c.loop-place.drain c.args.shards c.is_some-is_new.result c.loop-place.is_new
          c.args.told is (c.is_some-is_new.ensures ∙ ap is_some w.cut-is) all none
    ]
