use Rattle.std.proofs.Common.{inl, inr, ⊎_elim}
use Rattle.incarnation_file.specs.Memory.{front_is_in}
use Rattle.incarnation_file.proofs.disk.MemoryDiskCrashes.cut_off.Goals as goal

pub returns : goal.returns
returns c = λ file left.
    ⊎_elim (λ is. inl is) (λ had. inr (front_is_in c.len-all.result c.args.self.now.past.items file had))
    (c.fall_back.ensures file left)
