use Rattle.std.proofs.Common.{◌≡◌, ◌≤◌, ◌+◌, ◌-◌, ℕ, sym, ap, ◌∙◌, subst, arith}
use Rattle.std.specs.Prelude.{remove, slice_set, slice_index_or}
use Rattle.subj.specs.declared.keys.Key.{Key}
use Rattle.subj.specs.Keys.{key_cmp, cost_of}
use Rattle.interest.specs.Places.{IsPlaceOf}
use Rattle.interest.specs.Counts.{Counts, total_cost, IsInterest}
use Rattle.interest.proofs.Counting.Entries.{changed, removed, total_set, total_removed}
use Rattle.interest.proofs.Counting.Ties.{tied_cost}
use Rattle.interest.proofs.local.Local.write_count.Goals as goal

pub overflow_sub-self : goal.overflow_sub-self
overflow_sub-self c =
    let counts = c.self.inside.entries.items in
    let at = subst (λ (counts : Counts). IsPlaceOf key_cmp c.args.key.now counts c.args.place) (sym c.self.view_is)
    c.requires.place in
    let less = total_removed counts c.args.place (c.args.key.now, 0) at.within in
    let same =
    tied_cost c.args.key.now (slice_index_or counts c.args.place (c.args.key.now, 0)).0 (at.ties (c.args.key.now, 0)) in
    let cost = c.cost.ensures.same in
    let bytes = c.self.invariant.cost_is in
    omega arith

pub invariant_of-self : goal.invariant_of-self
invariant_of-self c =
    let counts = c.self.inside.entries.items in
    let none : Key × ℕ = (c.args.key.now, 0) in
    let at = subst (λ (counts : Counts). IsPlaceOf key_cmp c.args.key.now counts c.args.place) (sym c.self.view_is)
    c.requires.place in
    let bytes : c.self.inside.bytes ≡ total_cost counts = c.self.invariant.cost_is in
    let less :
    total_cost (remove counts c.args.place) + cost_of (slice_index_or counts c.args.place none).0 ≡ total_cost counts =
    total_removed counts c.args.place none at.within in
    let cost : c.cost.result ≡ cost_of (slice_index_or counts c.args.place none).0 =
    c.cost.ensures.same ∙ tied_cost c.args.key.now (slice_index_or counts c.args.place none).0 (at.ties none) in
    record {
      valid =
          subst IsInterest (sym c.remove.ensures.items)
          (removed counts c.args.key.now c.args.place none c.self.invariant.valid at);
      cost_is =
          subst (λ (left : Counts). c.self.inside.bytes - c.cost.result ≡ total_cost left) (sym c.remove.ensures.items)
          (omega arith);
      room = (let same = c.remove.ensures.capacity in let room = c.self.invariant.room in omega arith);
    }

pub invariant_of-self-2 : goal.invariant_of-self-2
invariant_of-self-2 c =
    let counts = c.self.inside.entries.items in
    let entry = c.index_mut.result.now in
    let place = c.args.place in
    let at =
    subst (λ (counts : Counts). IsPlaceOf key_cmp c.args.key.now counts place) (sym c.self.view_is) c.requires.place in
    let some : 1 ≤ c.args.count = (let not_zero = c.if-count-eq0.false in omega arith) in
    let same = sym (ap (λ (entry : Key × ℕ). entry.0) c.index_mut.ensures.value) in
    record {
      valid =
          subst (λ (key : Key). IsInterest (slice_set counts place (key, c.args.count))) same
          (changed counts c.args.key.now place c.args.count entry c.self.invariant.valid at some c.requires.most);
      cost_is =
          subst (λ (key : Key). c.self.inside.bytes ≡ total_cost (slice_set counts place (key, c.args.count))) same
          (c.self.invariant.cost_is ∙ sym (total_set counts place c.args.count entry at.within));
      room = c.self.invariant.room;
    }
