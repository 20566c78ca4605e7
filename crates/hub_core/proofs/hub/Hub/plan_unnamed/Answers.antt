use Rattle.std.proofs.Common.{ℕ, List, length, ap, arith}
use Rattle.hub_core.specs.Publishing.{choice_of}
use Rattle.hub_core.specs.Chosen.{publication_by}
use Rattle.hub_core.proofs.Choices.Audiences.{none_picked}
use Rattle.hub_core.proofs.hub.Hub.plan_unnamed.Goals as goal

pub plan_by-requires-clause-servers : goal.plan_by-requires-clause-servers
plan_by-requires-clause-servers c =
    let hub = c.args.self.now in
    let p = publication_by c.args.conn c.args.publication.now c.args.word in
    let none = ap (λ (names : List (List ℕ)). length names) c.new-names.ensures in
    record {
      few = omega (arith, none);
      room = omega (arith, none);
      picks = none_picked (choice_of hub.server hub.state p) c.new-names.result _ c.new-names.ensures;
    }
