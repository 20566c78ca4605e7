use Rattle.std.proofs.Common.{◌≡◌, ◌<◌, length, set, Some, sym, ap, ◌∙◌, subst, refl}
use Rattle.std.specs.Prelude.{slice_get}
use Rattle.std.proofs.lemmas.Option.{slice_get-get_or}
use Rattle.subj.specs.Answers.{IsAnswered}
use Rattle.node_law.specs.declared.faults.NodeFault.TheVariants.{NoShard}
use Rattle.node_law.specs.Events.{Own, AtShard}
use Rattle.node_law.specs.declared.events.ShardWork.TheVariants.{Claim}
use Rattle.node_core.specs.Served.{ClaimStep, served_of_parts, refusal}
use Rattle.node_law.specs.Steps.{work_refusal}
use Rattle.node_core.proofs.Calls.Composed.{no_shard, shard_found}
use Rattle.node_core.proofs.Calls.Claiming.{may_claim, claim_call}
use Rattle.node_core.proofs.node.Node.claim.Goals as goal

pub claim-requires : goal.claim-requires
claim-requires g c =
    let old = c.self.inside in
    let lines = old.lines.items in
    let x = c.index_mut-line.result.now in
    let count : c.len.result ≡ length lines = c.len.ensures ∙ old.lines.ok.0 in
    let within : c.in-Some.place < length lines = subst (λ n. c.in-Some.place < n) count c.in-Some.ensures.within in
    let here : slice_get lines c.in-Some.place ≡ Some x =
    slice_get-get_or lines c.in-Some.place x within ∙ ap Some (sym c.index_mut-line.ensures.value) in
    let before = served_of_parts old.side (g.R.Race.contents old.race) lines in
    let p = shard_found before.node c.args.shard c.len.result c.in-Some.place c.place_of_shard.result x count
    c.place_of_shard.ensures.place c.in-Some.is here in
    may_claim before c.args.shard c.in-Some.place x c.self.invariant p here

pub invariant_of-self : goal.invariant_of-self
invariant_of-self g c =
    let old = c.self.inside in
    let lines = old.lines.items in
    let x = c.index_mut-line.result.now in
    let count : c.len.result ≡ length lines = c.len.ensures ∙ old.lines.ok.0 in
    let within : c.in-Some.place < length lines = subst (λ n. c.in-Some.place < n) count c.in-Some.ensures.within in
    let here : slice_get lines c.in-Some.place ≡ Some x =
    slice_get-get_or lines c.in-Some.place x within ∙ ap Some (sym c.index_mut-line.ensures.value) in
    let before = served_of_parts old.side (g.R.Race.contents old.race) lines in
    let p = shard_found before.node c.args.shard c.len.result c.in-Some.place c.place_of_shard.result x count
    c.place_of_shard.ensures.place c.in-Some.is here in
    let called = claim_call c.args.copies old.side (g.R.Race.contents old.race) (g.R.Race.contents c.claim.new.race)
    lines c.args.shard c.in-Some.place c.args.index x c.claim.new.self c.claim.result c.self.invariant p here
    c.claim.ensures in
    called.keeps

pub returns : goal.returns
returns g c =
    let old = c.self.inside in
    let lines = old.lines.items in
    let x = c.index_mut-line.result.now in
    let count : c.len.result ≡ length lines = c.len.ensures ∙ old.lines.ok.0 in
    let within : c.in-Some.place < length lines = subst (λ n. c.in-Some.place < n) count c.in-Some.ensures.within in
    let here : slice_get lines c.in-Some.place ≡ Some x =
    slice_get-get_or lines c.in-Some.place x within ∙ ap Some (sym c.index_mut-line.ensures.value) in
    let before = served_of_parts old.side (g.R.Race.contents old.race) lines in
    let p = shard_found before.node c.args.shard c.len.result c.in-Some.place c.place_of_shard.result x count
    c.place_of_shard.ensures.place c.in-Some.is here in
    let called = claim_call c.args.copies old.side (g.R.Race.contents old.race) (g.R.Race.contents c.claim.new.race)
    lines c.args.shard c.in-Some.place c.args.index x c.claim.new.self c.claim.result c.self.invariant p here
    c.claim.ensures in
    let after =
    served_of_parts old.side (g.R.Race.contents c.claim.new.race) (set lines c.in-Some.place c.claim.new.self) in
    subst (λ s.
    IsAnswered (refusal s (Own (AtShard c.args.shard (Claim c.args.index))))
    (λ y. ClaimStep c.args.copies s c.args.shard c.args.index y after) (after ≡ s) c.claim.result)
    c.self.view_is called.answers

pub returns-in_default : goal.returns-in_default
returns-in_default g c =
    let old = c.self.inside in
    let race = g.R.Race.contents old.race in
    let lines = old.lines.items in (
      subst (λ s. refusal s (Own (AtShard c.args.shard (Claim c.args.index))) ≡ Some NoShard) c.self.view_is
          (ap (work_refusal (Claim c.args.index))
          (no_shard (served_of_parts old.side race lines).node c.args.shard c.len.result c.place_of_shard.result
          (c.len.ensures ∙ old.lines.ok.0) c.place_of_shard.ensures.place c.in_default.is)),
      refl,
    )
