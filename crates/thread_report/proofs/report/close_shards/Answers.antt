use Rattle.std.proofs.Common.{◌≡◌, ◌+◌, List, [], ◌∷◌, ◌++◌, All, length, map, sym, ap, ◌∙◌, subst, refl, length-append, arith}
use Rattle.claim_cells.specs.Seats.{ShardShown}
use Rattle.node_threads.specs.Outlets.{AreFirst}
use Rattle.thread_report.specs.Reports.{AreClosed}
use Rattle.thread_report.proofs.Legal.{closed_none, closed_more}
use Rattle.thread_node.proofs.Starting.{all_first, all_rest, map_snoc}
use Rattle.thread_report.proofs.report.close_shards.Goals as goal

pub loop-line-init : goal.loop-line-init
loop-line-init g c = λ issued all. (
  all,
  subst (λ seats.
      AreClosed g.N.NodeName.race issued c.args.keep seats
      (map (λ entries. entries.items) c.new-closed.result.tapes.items))
      (sym c.new-closed.ensures.seats)
      (subst (λ tapes. AreClosed g.N.NodeName.race issued c.args.keep [] (map (λ entries. entries.items) tapes))
      (sym c.new-closed.ensures.tapes) (closed_none g.N.NodeName.race issued c.args.keep)),
)

pub loop-line-preserved : goal.loop-line-preserved
loop-line-preserved g c = λ issued all.
    let i = c.loop-line.invariant issued all in
    let race = g.N.NodeName.race in
    let kept = c.args.keep in
    let line = c.in-Some.line in
    let rest = c.next.new.self.a.rest.items in
    let lines = subst (All (λ l. AreFirst l.pushed issued)) c.in-Some.ensures.steps.0.0 i.0 in
    let e = c.in_ok-seat.ensures in
    let seat = c.in_ok-seat.seat in
    let entries = c.in_ok-seat.entries in
    let w = c.into_inner.result in
    let old = c.loop-line.closed.seats.items in
    let before = c.loop-line.closed.tapes.items in
    let seats : c.add.new.self.seats.items ≡ old ++ seat ∷ [] = c.in_ok-add.ensures.seats in
    let long = ap length seats ∙ length-append old (seat ∷ []) in
    let tapes = ap (map (λ l. l.items)) c.in_ok-add.ensures.tapes ∙ map_snoc (λ l. l.items) before entries in
    let number : w.part.shard ≡ length old + 1 =
    omega (arith, e.shard, c.len.ensures, c.loop-line.closed.seats.ok.0) in (
      all_rest (λ l. AreFirst l.pushed issued) line rest lines,
      subst (λ (l : List ShardShown). AreClosed race issued kept l (map (λ x. x.items) c.add.new.self.tapes.items))
          (sym {A = List ShardShown} seats)
          (subst (AreClosed race issued kept (old ++ seat ∷ [])) (sym tapes)
          (closed_more race issued line.pushed kept old (map (λ l. l.items) before) seat e.tape.0 entries.items w
          w.part.shard i.1 number e.seat.0 e.seat.1 refl e.tape.1 e.tape.2 e.popped
          (all_first (λ l. AreFirst l.pushed issued) line rest lines))),
    )

pub returns : goal.returns
returns g c =
    let from = ap (λ z. z.a.rest.items) c.into_iter-line-iterator.ensures.into_iter_gives
    ∙ ap (λ z. z.rest.items) c.zip-line-items.ensures.first ∙ c.into_iter.ensures.rest in (
      omega (arith, c.if-len-count.false, c.len-2.ensures, c.len-count.ensures),
      λ issued all. (c.loop-line.invariant issued (subst (All (λ l. AreFirst l.pushed issued)) (sym from) all)).1,
    )
