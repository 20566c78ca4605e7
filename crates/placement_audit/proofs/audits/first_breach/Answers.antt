use Rattle.std.proofs.Common.{rules, ◌≡◌, true, false, map, take, sym, ◌∙◌, subst}
use Rattle.placement_audit.specs.InCode.{placement_of}
use Rattle.placement_audit.specs.Seen.{AreSeen}
use Rattle.placement_audit.proofs.Judging.{kept_none}
use Rattle.placement_audit.proofs.Noting.{seen_none}
use Rattle.placement_audit.proofs.Walking.{breach_here, kept_further, kept_to_end, one_further}
use Rattle.placement_audit.proofs.audits.first_breach.Goals as goal

pub loop-place-init : goal.loop-place-init
loop-place-init c = λ ps ls sources lives. record {
  kept = kept_none ps ls;
  seen_so = seen_none c.new-seen.result c.new-seen.ensures.empty;
}

pub returns-then-not-branch : goal.returns-then-not-branch
returns-then-not-branch c = λ ps ls sources lives.
    let xs = c.args.placements.now in
    let i = c.loop-place.place in
    let x = c.index-placements-place.result in
    let walked = c.loop-place.invariant ps ls sources lives in
    let told = c.in_ok-judge.ensures ps ls (map placement_of (take i xs)) sources lives walked.seen_so in
    let fails : c.in_ok-judge.field-0 ≡ false = search rules in
    breach_here placement_of xs i x c.loop-place-test.true c.index-placements-place.is ps ls walked.kept
    (sym told.told_so ∙ fails)

pub loop-place-preserved : goal.loop-place-preserved
loop-place-preserved c = λ ps ls sources lives.
    let xs = c.args.placements.now in
    let i = c.loop-place.place in
    let x = c.index-placements-place.result in
    let walked = c.loop-place.invariant ps ls sources lives in
    let told = c.in_ok-judge.ensures ps ls (map placement_of (take i xs)) sources lives walked.seen_so in
    let passes : c.in_ok-judge.field-0 ≡ true = search rules in
    record {
      kept =
          kept_further placement_of xs i x c.loop-place-test.true c.index-placements-place.is ps ls walked.kept
          (sym told.told_so ∙ passes);
      seen_so =
          subst (AreSeen c.judge.new.seen)
          (sym (one_further placement_of xs i x c.loop-place-test.true c.index-placements-place.is))
          (told.noted passes);
    }

pub returns : goal.returns
returns c = λ ps ls sources lives.
    kept_to_end placement_of c.args.placements.now c.loop-place.place ps ls c.loop-place-test.false
    (c.loop-place.invariant ps ls sources lives).kept
