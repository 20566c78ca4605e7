use Rattle.std.proofs.Common.{◌<◌, ◌∙◌, Some, refl, ap, inl, inr, ⊎_elim, arith}
use Rattle.incarnation_file.proofs.Keeps.{next_is_more, still_kept, then_told}
use Rattle.incarnation_file.proofs.raising.raise.Goals as goal

pub returns-in_err-store-clause-kept : goal.returns-in_err-store-clause-kept
returns-in_err-store-clause-kept g c = λ last kept.
    let server = c.args.server in
    let old = c.args.disk.now in
    let n = c.in_ok-incarnation.incarnation in
    let line = c.in_ok-text.ensures in
    let text = c.deref.ensures.value ∙ line.whole in
    let found = kept (g.D.Disk.seen old) (g.met.D.Disk.now_counts old (g.D.Disk.seen old) (inl refl)) in
    let more : last < n = next_is_more server c.args.least last n (g.D.Disk.seen old) line.least found
    (c.in_ok-read_last.field-0, c.in_ok-read_last.ensures.last, c.in_ok-incarnation.ensures.next) in
    still_kept server last n (g.D.Disk.left old) (g.D.Disk.left c.store.new.disk) (omega (arith, more)) line.most kept
    (λ file left.
    ⊎_elim (λ was. inl ((c.read_last.ensures.left file).1 was)) (λ is. inr (is ∙ ap Some text))
    (c.store.ensures.left file left))

pub returns-clause-rises : goal.returns-clause-rises
returns-clause-rises g c = λ last kept.
    let server = c.args.server in
    let old = c.args.disk.now in
    let n = c.in_ok-incarnation.incarnation in
    let line = c.in_ok-text.ensures in
    let text = c.deref.ensures.value ∙ line.whole in
    let found = kept (g.D.Disk.seen old) (g.met.D.Disk.now_counts old (g.D.Disk.seen old) (inl refl)) in (
      next_is_more server c.args.least last n (g.D.Disk.seen old) line.least found
          (c.in_ok-read_last.field-0, c.in_ok-read_last.ensures.last, c.in_ok-incarnation.ensures.next),
      then_told server n (g.D.Disk.seen c.store.new.disk) (g.D.Disk.may_leave c.store.new.disk) line.most
          (c.in_ok-store.ensures.stored ∙ ap Some text)
          (λ file may. c.in_ok-store.ensures.durable file may ∙ ap Some text),
    )

pub returns-clause-kept : goal.returns-clause-kept
returns-clause-kept g c = λ last kept.
    let server = c.args.server in
    let old = c.args.disk.now in
    let n = c.in_ok-incarnation.incarnation in
    let line = c.in_ok-text.ensures in
    let text = c.deref.ensures.value ∙ line.whole in
    let found = kept (g.D.Disk.seen old) (g.met.D.Disk.now_counts old (g.D.Disk.seen old) (inl refl)) in
    let more : last < n = next_is_more server c.args.least last n (g.D.Disk.seen old) line.least found
    (c.in_ok-read_last.field-0, c.in_ok-read_last.ensures.last, c.in_ok-incarnation.ensures.next) in
    still_kept server last n (g.D.Disk.left old) (g.D.Disk.left c.store.new.disk) (omega (arith, more)) line.most kept
    (λ file left.
    ⊎_elim (λ was. inl ((c.read_last.ensures.left file).1 was)) (λ is. inr (is ∙ ap Some text))
    (c.store.ensures.left file left))
