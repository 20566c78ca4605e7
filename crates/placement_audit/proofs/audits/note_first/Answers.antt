use Rattle.std.proofs.Common.{◌≡◌, true, not, cond, sym, ◌∙◌}
use Rattle.std.specs.BTreeSet.{contains}
use Rattle.std.specs.Ordering.{is_eq}
use Rattle.placement_audit.specs.declared.keys.Served.{Served}
use Rattle.placement_audit.specs.InCode.{placement_of}
use Rattle.placement_audit.specs.Keys.{served_cmp}
use Rattle.placement_audit.specs.Seen.{IsNoted}
use Rattle.placement_audit.proofs.Noting.{if_both, noted_first}
use Rattle.placement_audit.proofs.audits.note_first.Goals as goal

pub returns : goal.returns
returns c = λ done had.
    let p = placement_of c.args.placement.now in
    let old = c.args.seen.now in
    let new = c.insert_new.new.seen in
    let key = c.in_ok-served.served in
    if_both c.insert_new.result (λ told. told ≡ not (contains served_cmp old key))
    (λ told.
    (q : Served) → contains served_cmp new q ≡ cond (is_eq (served_cmp key q)) true (contains served_cmp old q))
    (IsNoted done p new)
    (λ told says put.
    noted_first done p old new c.plainly.result key told c.plainly.ensures c.in_ok-served.ensures had
    (sym c.contains.ensures ∙ c.if-contains.false) says put)
    c.insert_new.ensures.told c.insert_new.ensures.kept
