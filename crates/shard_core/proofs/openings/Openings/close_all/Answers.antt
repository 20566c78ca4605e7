use Rattle.std.proofs.Common.{◌+◌, drop, get_or, ap, sym, subst, ◌∙◌}
use Rattle.std.proofs.lemmas.List.{drop_more, drop_all}
use Rattle.shard_core.specs.Opened.{AreApart, with_closings}
use Rattle.shard_core.proofs.Closings.Opened.{no_closings, closings_step}
use Rattle.shard_core.proofs.openings.Openings.close_all.Goals as goal

pub loop-serial-preserved : goal.loop-serial-preserved
loop-serial-preserved g c =
    let ended = c.args.ended.now in
    let i = c.loop-serial.serial-index in
    let o = c.loop-serial.self in
    let k = get_or ended i 0 in
    let rest = drop (i + 1) ended in
    let next = drop_more ended i 0 c.loop-serial-test.true in
    let apart = subst AreApart next c.loop-serial.invariant.apart in
    record {
      apart = apart.1;
      rest =
          ap (with_closings rest) c.close.ensures
          ∙ closings_step k rest o apart.0
          ∙ sym (ap (λ l. with_closings l o) next)
          ∙ c.loop-serial.invariant.rest;
    }

pub returns : goal.returns
returns g c =
    sym (no_closings c.loop-serial.self)
    ∙ sym (ap (λ l. with_closings l c.loop-serial.self)
    (drop_all c.loop-serial.serial-index c.args.ended.now c.loop-serial-test.false))
    ∙ c.loop-serial.invariant.rest
