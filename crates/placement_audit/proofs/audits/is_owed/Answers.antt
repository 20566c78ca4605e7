use Rattle.std.proofs.Common.{◌≡◌, map, None, sym, ap, ◌∙◌}
use Rattle.std.specs.BTreeMap.{get}
use Rattle.std.specs.Option.{option_copied}
use Rattle.placement_audit.specs.declared.keys.LifeKey.{LifeKey}
use Rattle.placement_audit.specs.InCode.{lent_life, placement_of}
use Rattle.placement_audit.specs.Keys.{life_key_cmp}
use Rattle.placement_audit.specs.Named.{entries_in}
use Rattle.placement_audit.proofs.Naming.{no_life}
use Rattle.placement_audit.proofs.audits.is_owed.Goals as goal

pub returns-in_default-get : goal.returns-in_default-get
returns-in_default-get c = λ ps ls sources lives.
    let key : LifeKey = record { id = c.args.placement.now.life } in
    let none : get life_key_cmp c.args.lives.now key ≡ None =
    sym c.get-2.ensures.value ∙ ap option_copied c.in_default-get.is in
    no_life ps ls (placement_of c.args.placement.now) (sym (lives key) ∙ ap (λ o. map lent_life (entries_in o)) none)
