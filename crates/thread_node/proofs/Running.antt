-- Publications of a run, each as the call of a hub that publishes it.
use Rattle.std.proofs.Common.{◌≡◌, ℕ, List, [], ◌∷◌, Ok, refl, sym, ap, ◌∙◌, subst}
use Rattle.subj.specs.declared.messages.Pub.{Pub}
use Rattle.hub_core.specs.Chosen.{publication_by}
use Rattle.node_threads.specs.AtHub.{AtHub, Publishes}
use Rattle.node_threads.specs.HubRuns.{IssuesEach}
use Rattle.server_calls.specs.Runs.{PublishesEach}
use Rattle.thread_node.specs.Held.{MadeByHub}

-- of what holds a hub, that one may be put in its place
module _ {S : Type 0} (hub_of : S → AtHub) (put : S → AtHub → S)
    (got : (held : S) (w : AtHub) → hub_of (put held w) ≡ w)
    (again : (held : S) (w v : AtHub) → put (put held w) v ≡ put held v)
    (back : (held : S) → put held (hub_of held) ≡ held)
  where
    pub each_published : (shards conn : ℕ) (publications : List Pub) (held : S) (w : AtHub)
        → IssuesEach shards conn publications (hub_of held) w
        → PublishesEach (λ before conn publication word came after.
        MadeByHub shards (hub_of before) conn publication word came (hub_of after)) conn publications held (put held w)
    each_published shards conn [] held w each = ap (put held) each ∙ back held
    each_published shards conn (said ∷ others) held w each =
        let next = each.0 in (
          put held next,
          λ word. record {
            told = Ok each.1;
            publishes =
                subst (λ (v : AtHub). Publishes shards (hub_of held) (publication_by conn said word) (Ok each.1) v)
                (sym (got held next)) (each.2 word);
            comes = refl;
          },
          subst (λ (h : S).
              PublishesEach (λ before conn publication word came after.
              MadeByHub shards (hub_of before) conn publication word came (hub_of after)) conn others (put held next) h)
              (again held next w)
              (each_published shards conn others (put held next) w
              (subst (λ (v : AtHub). IssuesEach shards conn others v w) (sym (got held next)) each.3)),
        )
