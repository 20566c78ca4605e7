use Rattle.std.proofs.Common.{drop, sym, ap, ◌∙◌}
use Rattle.std.proofs.lemmas.List.{drop-drop}
use Rattle.outbox.proofs.tail_marks.TailMarks.drop_first.Goals as goal

pub returns : goal.returns
returns c = sym (drop-drop 1 c.self.inside.gone c.self.inside.marks.items) ∙ ap (drop 1) c.self.view_is
