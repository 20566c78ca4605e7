use Rattle.std.proofs.Common.{ℕ, Bool, List, [], ◌∷◌, refl, sym, ap, ◌∙◌, append-nil}
use Rattle.std.specs.Prelude.{if◌then◌else◌}
use Rattle.hub_core.specs.State.{Peer}
use Rattle.hub_core.specs.Telling.{is_slow, slow_from}
use Rattle.hub_core.proofs.Choices.Filled.{gathered_on, gathered_all}
use Rattle.hub_core.proofs.collects.slow_peers.Goals.{then-is_slow+in_ok-push, else-is_slow}
use Rattle.hub_core.proofs.collects.slow_peers.Goals as goal

pub loop-place-preserved : goal.loop-place-preserved
loop-place-preserved c =
    let l = c.loop-place in
    let put_where : Bool → List ℕ = λ slow. if slow then l.place ∷ [] else [] in
    let on = gathered_on (λ (q : ℕ) (peer : Peer). if is_slow c.args.count peer then q ∷ [] else [])
    (slow_from c.args.count) (λ q x xs. refl) c.args.peers.now l.place c.index-peers-place.result in
    elim c.if-is_slow.branch [
      | then-is_slow+in_ok-push w ↦
          rw w.places-is (on (l.place ∷ []) l.places.items w.push.new.self.items
          (slow_from c.args.count 0 c.args.peers.now) c.loop-place-test.true c.index-peers-place.is
          (sym (ap put_where (sym c.is_slow.ensures ∙ w.if-is_slow.true))) w.in_ok-push.ensures.items l.invariant)
      | else-is_slow w ↦
          rw w.places-is (on [] l.places.items l.places.items (slow_from c.args.count 0 c.args.peers.now)
          c.loop-place-test.true c.index-peers-place.is
          (sym (ap put_where (sym c.is_slow.ensures ∙ w.if-is_slow.false))) (sym (append-nil l.places.items))
          l.invariant)
    ]

pub returns : goal.returns
returns c =
    gathered_all (slow_from c.args.count) c.args.peers.now c.loop-place.place c.loop-place.places.items
    (slow_from c.args.count 0 c.args.peers.now) refl c.loop-place-test.false c.loop-place.invariant
