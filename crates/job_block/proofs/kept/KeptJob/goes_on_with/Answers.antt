use Rattle.std.proofs.Common.{refl, sym, ◌∙◌}
use Rattle.std.proofs.lemmas.Slice.Eq.{bytes_eq-Decides}
use Rattle.job_block.proofs.kept.KeptJob.goes_on_with.Goals as goal

pub returns : goal.returns
returns c same turn =
    let short = c.is_short.ensures c.if-not-is_short.false in
    let from = c.is_from.ensures c.if-not-is_from.false in
    let names = c.are_same.ensures c.if-not-are_same.false in
    record {
      turn = refl;
      queues = sym c.as_slice-2.ensures.same ∙ sym names ∙ c.as_slice.ensures.same;
      plain = short.plain;
      short = short.short;
      subject =
          sym ((bytes_eq-Decides c.bytes.result.now c.args.publication.now.subject.now).0 (sym c.eq.ensures ∙ same))
          ∙ c.bytes.ensures.same ∙ c.subject.ensures;
      publisher = sym from.0;
      echo = sym from.1;
    }
