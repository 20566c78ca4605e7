use Rattle.std.proofs.Common.{◌+◌, drop, get_or, refl, ap, sym, subst, ◌∙◌, inl, inr}
use Rattle.std.proofs.lemmas.List.{drop_more, drop_all}
use Rattle.shard_core.specs.Opened.{Opened, AreApart, CanCount, CanCountEach, with_counts}
use Rattle.shard_core.proofs.Closings.Opened.{no_counts, counts_step, still_counts}
use Rattle.shard_core.proofs.openings.Openings.count_all.Goals as goal

pub count-requires : goal.count-requires
count-requires g c =
    let given = c.args.given.now in
    let i = c.loop-serial.serial-index in
    subst (λ l. CanCountEach l c.loop-serial.self.subs) (drop_more given i 0 c.loop-serial-test.true)
    c.loop-serial.invariant.room (get_or given i 0) (inl refl)

pub loop-serial-preserved : goal.loop-serial-preserved
loop-serial-preserved g c =
    let given = c.args.given.now in
    let i = c.loop-serial.serial-index in
    let o = c.loop-serial.self in
    let k = get_or given i 0 in
    let rest = drop (i + 1) given in
    let next = drop_more given i 0 c.loop-serial-test.true in
    let apart = subst AreApart next c.loop-serial.invariant.apart in
    let room = subst (λ l. CanCountEach l o.subs) next c.loop-serial.invariant.room in
    record {
      apart = apart.1;
      room = λ j at.
          subst (λ (n : Opened). CanCount j n.subs) (sym c.count.ensures)
          (still_counts j k o.subs (apart.0 j at) (room j (inr at)));
      rest =
          ap (with_counts rest) c.count.ensures
          ∙ counts_step k rest o apart.0
          ∙ sym (ap (λ l. with_counts l o) next)
          ∙ c.loop-serial.invariant.rest;
    }

pub returns : goal.returns
returns g c =
    sym (no_counts c.loop-serial.self)
    ∙ sym (ap (λ l. with_counts l c.loop-serial.self)
    (drop_all c.loop-serial.serial-index c.args.given.now c.loop-serial-test.false))
    ∙ c.loop-serial.invariant.rest
