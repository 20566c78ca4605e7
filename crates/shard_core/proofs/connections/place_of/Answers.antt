use Rattle.std.proofs.Common.{◌∙◌, rules}
use Rattle.std.proofs.lemmas.List.Sorted.{answers_always}
use Rattle.shard_core.proofs.Clients.Order.{place_found}
use Rattle.shard_core.proofs.connections.place_of.Goals as goal

pub returns : goal.returns
returns c =
    let facts = c.binary_search_by_key.ensures in
    let by_key = facts.position (λ conn. conn.number) (answers_always _ _ _ (λ f a r g called. search rules)) in
    c.ok.ensures.value
    ∙ place_found c.args.conns.now c.args.number c.requires c.binary_search_by_key.result facts.bound by_key
