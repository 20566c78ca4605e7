use Rattle.std.proofs.Common.{rules, ◌≡◌, ◌∷◌, List, ℕ, subst}
use Rattle.std.specs.VecDeque.{deque_capacity}
use Rattle.job_lane.specs.Rule.{IsCount}
use Rattle.job_lane.proofs.Lists.{forgets}
use Rattle.job_lane.proofs.counts.Count.forget_first.Goals as goal

pub invariant_of-self : goal.invariant_of-self
invariant_of-self c =
    let count = c.self.inside in
    let items : count.lengths.items ≡ c.in-Some.jobs ∷ c.pop_front.new.self.items = search rules in
    let same : deque_capacity count.lengths ≡ deque_capacity c.pop_front.new.self = search rules in
    forgets count.most count.jobs (deque_capacity c.pop_front.new.self) c.in-Some.jobs c.pop_front.new.self.items
    (subst (λ (n : ℕ). IsCount count.most count.jobs (c.in-Some.jobs ∷ c.pop_front.new.self.items) n) same
    (subst (λ (l : List ℕ). IsCount count.most count.jobs l (deque_capacity count.lengths)) items c.self.invariant))
