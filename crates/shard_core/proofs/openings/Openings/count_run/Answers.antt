use Rattle.std.proofs.Common.{◌+◌, ℕ, List, drop, get_or, refl, ap, sym, subst, ◌∙◌, inl, inr}
use Rattle.std.proofs.lemmas.List.{drop_more, drop_all}
use Rattle.list_laws.specs.Lists.{Each}
use Rattle.shard_core.specs.Opened.{Opened, AreApart}
use Rattle.shard_core.specs.RunSteps.{CanCountMore, subs_by_serials}
use Rattle.shard_core.proofs.Closings.Opened.{still_more}
use Rattle.shard_core.proofs.openings.Openings.count_run.Goals as goal

pub count_many-requires : goal.count_many-requires
count_many-requires g c =
    let given = c.args.given.now in
    let i = c.loop-serial.serial-index in
    subst (λ (l : List ℕ). Each (λ serial. CanCountMore c.args.count serial c.loop-serial.self.subs) l)
    (drop_more given i 0 c.loop-serial-test.true) c.loop-serial.invariant.room (get_or given i 0) (inl refl)

pub loop-serial-preserved : goal.loop-serial-preserved
loop-serial-preserved g c =
    let given = c.args.given.now in
    let n = c.args.count in
    let i = c.loop-serial.serial-index in
    let o = c.loop-serial.self in
    let k = get_or given i 0 in
    let rest = drop (i + 1) given in
    let next = drop_more given i 0 c.loop-serial-test.true in
    let apart = subst AreApart next c.loop-serial.invariant.apart in
    let room =
    subst (λ (l : List ℕ). Each (λ serial. CanCountMore n serial o.subs) l) next c.loop-serial.invariant.room in
    record {
      apart = apart.1;
      room = λ j at.
          subst (λ (m : Opened). CanCountMore n j m.subs) (sym c.count_many.ensures)
          (still_more j k n o.subs (apart.0 j at) (room j (inr at)));
      rest =
          ap (λ (m : Opened). record m { subs = subs_by_serials n rest m.subs }) c.count_many.ensures
          ∙ sym (ap (λ (l : List ℕ). record o { subs = subs_by_serials n l o.subs }) next)
          ∙ c.loop-serial.invariant.rest;
    }

pub returns : goal.returns
returns g c =
    sym (ap
    (λ (l : List ℕ). record c.loop-serial.self { subs = subs_by_serials c.args.count l c.loop-serial.self.subs })
    (drop_all c.loop-serial.serial-index c.args.given.now c.loop-serial-test.false))
    ∙ c.loop-serial.invariant.rest
