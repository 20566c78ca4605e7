use Rattle.std.proofs.Common.{◌∷◌, map, refl, subst}
use Rattle.std.proofs.lemmas.Result.{IfOk-weaker}
use Rattle.std.specs.Prelude.{IfOk, OnErr}
use Rattle.node_law.specs.Events.{Publish}
use Rattle.world_law.specs.Events.{At}
use Rattle.settled_law.specs.Promise.{Delivers}
use Rattle.cluster_world.specs.InCode.{event_of, outcomes_in}
use Rattle.cluster_world.specs.Value.{Ran, IsPart, GivesOnce}
use Rattle.cluster_world.proofs.Clusters.Settling.{none_made, gives_once}
use Rattle.cluster_world.proofs.world.World.settled_publish.Goals as goal

pub returns-in-Err-clause-err : goal.returns-in-Err-clause-err
returns-in-Err-clause-err g c = none_made c.args.self.now c.args.self.now _ refl

pub returns-clause-ok : goal.returns-clause-ok
returns-clause-ok g c =
    subst (λ m.
    IfOk c.make_behind.result (λ made.
    Ran c.args.self.now
    (At c.args.node (Publish (record {
      conn = c.args.conn;
      publication = record { message = m; echo = c.args.publication.now.echo };
      word = c.args.word;
    })) ∷ map event_of c.args.order.now)
    (outcomes_in made) c.make_behind.new.self))
    c.in-Ok.ensures c.make_behind.ensures.ok

pub returns-clause-err : goal.returns-clause-err
returns-clause-err g c =
    subst (λ m.
    OnErr c.make_behind.result
    (IsPart c.args.self.now
    (At c.args.node (Publish (record {
      conn = c.args.conn;
      publication = record { message = m; echo = c.args.publication.now.echo };
      word = c.args.word;
    })) ∷ map event_of c.args.order.now)
    c.make_behind.new.self))
    c.in-Ok.ensures c.make_behind.ensures.err

pub returns-clause-delivers : goal.returns-clause-delivers
returns-clause-delivers g c =
    let delivers = subst (λ s. ∥ Delivers s.cluster s.world ∥₁) c.self.view_is
    (c.carried_worlds_deliver.ensures _ c.self.invariant.apart _ c.self.invariant.carried) in
    IfOk-weaker c.make_behind.result _ _
    (λ made ran.
    subst (λ m.
    GivesOnce c.args.self.now c.args.node
    (record {
      conn = c.args.conn;
      publication = record { message = m; echo = c.args.publication.now.echo };
      word = c.args.word;
    })
    (map event_of c.args.order.now) (outcomes_in made) c.make_behind.new.self)
    c.in-Ok.ensures
    (gives_once c.args.self.now c.make_behind.new.self c.args.node _ (map event_of c.args.order.now) (outcomes_in made)
    delivers ran))
    c.make_behind.ensures.ok
