use Rattle.std.proofs.Common.{◌+◌, ap, sym, ◌∙◌}
use Rattle.interest.specs.Matches.{is_of_kind}
use Rattle.interest.proofs.Matching.Wanting.{kind_on, kind_behind, found_here}
use Rattle.interest.proofs.matches.has_match.Goals as goal

pub loop-place-init : goal.loop-place-init
loop-place-init g c =
    let on = c.next_match-place.ensures in
    record {
      within = on.within;
      found = on.found;
      left =
          sym
          (kind_on g.T.Keyed.entry c.args.subject.now c.args.entries.now c.args.plain 0 c.next_match-place.result on);
    }

pub loop-place-preserved : goal.loop-place-preserved
loop-place-preserved g c =
    let on = c.next_match-place-in-loop-place.ensures in
    let entries = c.args.entries.now in
    let subject = c.args.subject.now in
    let place = c.loop-place.place in
    let x = c.index-entries-place.result in
    let plain = c.args.plain in
    let found = found_here g.T.Keyed.entry subject entries place x c.index-entries-place.is c.loop-place-test.true
    c.loop-place.invariant.found in
    let other = ap (is_of_kind plain) (sym c.key_of.ensures) ∙ sym c.is_of_kind.ensures ∙ c.if-is_of_kind.false in
    record {
      within = on.within;
      found = on.found;
      left =
          sym (kind_on g.T.Keyed.entry subject entries plain (place + 1) c.next_match-place-in-loop-place.result on)
          ∙ sym (kind_behind g.T.Keyed.entry subject entries place x c.loop-place-test.true c.index-entries-place.is
          found plain other)
          ∙ c.loop-place.invariant.left;
    }
