use Rattle.std.proofs.Common.{take, ap, sym, ◌∙◌}
use Rattle.incarnation_file.proofs.Files.{taken_back}
use Rattle.incarnation_file.proofs.disk.taken_back.Goals as goal

pub returns-clause-one : goal.returns-clause-one
returns-clause-one c =
    let files = take c.args.most c.args.past.now.items in
    taken_back c.args.count files c.pop-file.new.self.items c.pop-file.result
    (ap (take c.args.count) (sym c.truncate.ensures.items) ∙ sym c.truncate-2.ensures.items ∙ c.pop-file.ensures.items)
