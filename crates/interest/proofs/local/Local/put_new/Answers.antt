use Rattle.std.proofs.Common.{rules, ◌≡◌, false, sym, subst, arith}
use Rattle.std.specs.Prelude.{insert}
use Rattle.subj.specs.Keys.{key_cmp}
use Rattle.interest.specs.Places.{IsGapFor}
use Rattle.interest.specs.Counts.{Counts, total_cost, is_full}
use Rattle.interest.proofs.Counting.Entries.{added, total_added}
use Rattle.interest.proofs.local.Local.put_new.Goals as goal

pub invariant_of-self : goal.invariant_of-self
invariant_of-self c =
    let counts = c.self.inside.entries.items in
    let bytes : c.self.inside.bytes ≡ total_cost counts = c.self.invariant.cost_is in
    let at =
    subst (λ (counts : Counts). IsGapFor key_cmp c.args.key counts c.args.place) (sym c.self.view_is) c.requires.gap in
    let room = subst (λ (counts : Counts). is_full counts c.args.key ≡ false) (sym c.self.view_is) c.requires.room in
    let items : c.insert.new.self.items ≡ insert counts c.args.place (c.args.key, 1) = search rules in
    record {
      valid = rw items (added counts c.args.key c.args.place c.self.invariant.valid at room);
      cost_is =
          rw items
          (let more = total_added counts c.args.key 1 c.args.place in let cost = c.cost.ensures.same in omega arith);
      room = (let same = c.insert.ensures.capacity in let room = c.self.invariant.room in omega arith);
    }
