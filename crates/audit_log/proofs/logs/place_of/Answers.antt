use Rattle.std.proofs.Common.{ap, sym, ◌∙◌}
use Rattle.std.specs.Prelude.{position}
use Rattle.std.specs.Str.{bytes_eq}
use Rattle.audit_log.proofs.Cutting.{past_all}
use Rattle.audit_log.proofs.logs.place_of.Goals as goal

pub returns-clause-place : goal.returns-clause-place
returns-clause-place c =
    let found =
    c.listed_place.ensures ∙ ap (λ names. position (λ other. bytes_eq other c.args.name) names) c.deref.ensures.value in
    c.len-place.ensures ∙ c.args.names.now.ok.0 ∙ past_all _ c.args.names.now.items (sym found ∙ c.in_default.is)
