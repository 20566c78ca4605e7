use Rattle.std.proofs.Common.{rules, ◌++◌, ◌∷◌, [], ap, ◌∙◌}
use Rattle.node_net.proofs.TakingLemmas.{parts_more}
use Rattle.node_net.proofs.parts.Parts.put.Goals as goal

pub returns-clause-put : goal.returns-clause-put
returns-clause-put c =
    parts_more c.self.inside.bytes.items c.args.lent.now.items c.join.new.bytes.items c.len-start.result
    c.len-end.result c.self.inside.parts.items c.push_reserved.new.self.items c.args.key c.self.invariant
    c.if-not-join.ensures.put (search rules) (search rules) (search rules)
    ∙ ap (λ ps. ps ++ (c.args.key, c.args.lent.now.items) ∷ []) c.self.view_is
