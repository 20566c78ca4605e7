use Rattle.std.proofs.Common.{ap, ◌∙◌, arith}
use Rattle.subj.specs.declared.keys.Key.{Key}
use Rattle.interest.specs.Sights.{text_of}
use Rattle.interest.proofs.Matching.Passing.{moves_on, moves_to_end}
use Rattle.interest.proofs.seeks.next_match.Goals as goal

pub loop-place-preserved : goal.loop-place-preserved
loop-place-preserved g c =
    let facts = c.in-Before.ensures in
    let so_far = c.loop-place.invariant in
    let more = c.place_at-place.ensures.behind in
    let after = so_far.after in
    record {
      after = omega arith;
      within = c.place_at-place.ensures.within;
      passed =
          moves_on g.T.Keyed.entry c.args.entries.now c.requires.rising c.args.subject.now c.args.from
          c.loop-place.place so_far.passed c.loop-place-test.true c.index-entries-place.result c.index-entries-place.is
          c.bytes.result.now c.bytes-in-loop-place.result.now
          (c.bytes.ensures.same ∙ ap (λ (key : Key). key.pattern) c.key_of.ensures) c.bytes-in-loop-place.ensures.same
          (text_of c.in-Before.beginning) c.place_at-place.result more c.place_at-place.ensures.within facts.0 facts.1
          c.place_at-place.ensures.passed;
    }

pub returns-in-Nothing : goal.returns-in-Nothing
returns-in-Nothing g c =
    let so_far = c.loop-place.invariant in
    let after = so_far.after in
    let below = c.loop-place-test.true in
    record {
      after = omega arith;
      within = omega arith;
      passed =
          moves_to_end g.T.Keyed.entry c.args.entries.now c.requires.rising c.args.subject.now c.args.from
          c.loop-place.place so_far.passed c.loop-place-test.true c.index-entries-place.result c.index-entries-place.is
          c.bytes.result.now c.bytes-in-loop-place.result.now
          (c.bytes.ensures.same ∙ ap (λ (key : Key). key.pattern) c.key_of.ensures) c.bytes-in-loop-place.ensures.same
          c.in-Nothing.ensures;
      found = λ d far. absurd (omega arith);
    }
