use Rattle.std.proofs.Common.{ap, sym, subst}
use Rattle.interest.specs.Counts.{total_cost, IsInterest}
use Rattle.interest.proofs.Counting.Entries.{nothing}
use Rattle.interest.proofs.local.Local.new.Goals as goal

pub invariant_of-result : goal.invariant_of-result
invariant_of-result c = record {
  valid = subst IsInterest (sym c.in_ok-with_capacity.ensures.items) nothing;
  cost_is = sym (ap total_cost c.in_ok-with_capacity.ensures.items);
  room = c.in_ok-with_capacity.ensures.capacity;
}
