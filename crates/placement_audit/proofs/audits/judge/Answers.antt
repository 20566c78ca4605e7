use Rattle.std.proofs.Common.{rules, ◌≡◌, true, false, sym, ◌∙◌}
use Rattle.std.proofs.lemmas.Result.{IfOk-weaker}
use Rattle.placement_audit.specs.InCode.{placement_of}
use Rattle.placement_audit.specs.Seen.{IsJudged, IsNoted}
use Rattle.placement_audit.proofs.Noting.{judged, not_judged}
use Rattle.placement_audit.proofs.audits.judge.Goals as goal

pub returns-then-not-branch : goal.returns-then-not-branch
returns-then-not-branch c = λ ps ls done sources lives had.
    let fails : c.in_ok-is_owed.field-0 ≡ false = search rules in
    not_judged ps ls done (placement_of c.args.placement.now) c.args.seen.now
    (sym (c.in_ok-is_owed.ensures ps ls sources lives) ∙ fails)

pub returns : goal.returns
returns c = λ ps ls done sources lives had.
    let p = placement_of c.args.placement.now in
    let new = c.note_first.new.seen in
    let passes : c.in_ok-is_owed.field-0 ≡ true = search rules in
    IfOk-weaker c.note_first.result (IsNoted done p new) (IsJudged ps ls done p new)
    (λ told noted. judged ps ls done p new told (sym (c.in_ok-is_owed.ensures ps ls sources lives) ∙ passes) noted)
    (c.note_first.ensures done had)
