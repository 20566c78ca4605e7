use Rattle.std.proofs.Common.{◌≡◌, ℕ, ◌+◌, ◌-◌, ◌≤◌, Some, sym, ◌∙◌, ap, subst, arith}
use Rattle.std.specs.Prelude.{find}
use Rattle.std.specs.Map.{values_of}
use Rattle.sub_table.specs.Subscriptions.{has_serial, without_serial, total_cost}
use Rattle.pattern_trie.specs.Held.{Holds}
use Rattle.sub_trie.specs.Rising.{is_keyed, is_rising, held_of, rows, subs_in_order}
use Rattle.sub_trie.proofs.Keyed.{found_by, removed_by, keyed_removed}
use Rattle.sub_trie.proofs.Listing.{found_row, rows_removed}
use Rattle.sub_trie.proofs.Risen.{rising_without, held_without, cost_without}
use Rattle.sub_trie.proofs.opened.Opened.remove.Goals as goal

pub returns-in-None-clause-closed : goal.returns-in-None-clause-closed
returns-in-None-clause-closed c =
    sym c.in-None.is
    ∙ c.remove.ensures.value
    ∙ found_row c.args.serial c.args.self.now.subs
    ∙ found_by c.args.serial (rows c.args.self.now.subs) c.args.self.now.keyed

pub returns-in-None-clause-rest : goal.returns-in-None-clause-rest
returns-in-None-clause-rest c =
    ap values_of (rows_removed c.args.serial c.args.self.now.subs c.remove.new.self c.remove.ensures.updates.0)
    ∙ removed_by c.args.serial (rows c.args.self.now.subs) c.args.self.now.keyed

pub returns-in-Some-clause-closed : goal.returns-in-Some-clause-closed
returns-in-Some-clause-closed c =
    sym c.in-Some.is
    ∙ c.remove.ensures.value
    ∙ found_row c.args.serial c.args.self.now.subs
    ∙ found_by c.args.serial (rows c.args.self.now.subs) c.args.self.now.keyed

pub returns-in-Some-clause-rest : goal.returns-in-Some-clause-rest
returns-in-Some-clause-rest c =
    ap values_of (rows_removed c.args.serial c.args.self.now.subs c.remove.new.self c.remove.ensures.updates.0)
    ∙ removed_by c.args.serial (rows c.args.self.now.subs) c.args.self.now.keyed

pub overflow_sub-self : goal.overflow_sub-self
overflow_sub-self c =
    let subs = subs_in_order c.args.self.now.subs in
    let found : find (has_serial c.args.serial) subs ≡ Some c.in-Some.sub =
    sym (found_row c.args.serial c.args.self.now.subs
    ∙ found_by c.args.serial (rows c.args.self.now.subs) c.args.self.now.keyed)
    ∙ sym c.remove.ensures.value
    ∙ c.in-Some.is in
    at_most c.cost.result c.args.self.now.cost (total_cost (without_serial c.args.serial subs))
    (c.args.self.now.counted ∙ cost_without c.args.serial subs c.in-Some.sub found
    ∙ ap (λ n. n + total_cost (without_serial c.args.serial subs)) (sym c.cost.ensures.same))
  where
    at_most : (a b d : ℕ) → b ≡ a + d → a ≤ b
    at_most a b d is = omega arith

pub invariant_of-self-in-Some : goal.invariant_of-self-in-Some
invariant_of-self-in-Some c =
    let subs = subs_in_order c.args.self.now.subs in
    let sub = c.in-Some.sub in
    let found : find (has_serial c.args.serial) subs ≡ Some sub =
    sym (found_row c.args.serial c.args.self.now.subs
    ∙ found_by c.args.serial (rows c.args.self.now.subs) c.args.self.now.keyed)
    ∙ sym c.remove.ensures.value
    ∙ c.in-Some.is in
    let items : subs_in_order c.remove.new.self ≡ without_serial c.args.serial subs =
    ap values_of (rows_removed c.args.serial c.args.self.now.subs c.remove.new.self c.remove.ensures.updates.0)
    ∙ removed_by c.args.serial (rows c.args.self.now.subs) c.args.self.now.keyed in
    record {
      keyed =
          ap is_keyed (rows_removed c.args.serial c.args.self.now.subs c.remove.new.self c.remove.ensures.updates.0)
          ∙ keyed_removed _ (rows c.args.self.now.subs) c.args.self.now.keyed;
      rising = ap is_rising items ∙ rising_without c.args.serial subs c.args.self.now.rising;
      held =
          subst (λ hs. Holds hs c.remove-in-Some.new.self.nodes)
          (sym (ap held_of items ∙ held_without c.args.serial subs sub found))
          (c.remove-in-Some.ensures (held_of subs) c.args.self.now.held);
      counted =
          ap (λ n. n - c.cost.result)
          (c.args.self.now.counted ∙ cost_without c.args.serial subs sub found
          ∙ ap (λ n. n + total_cost (without_serial c.args.serial subs)) (sym c.cost.ensures.same))
          ∙ less_first c.cost.result (total_cost (without_serial c.args.serial subs))
          ∙ sym (ap total_cost items);
      right = c.forget.ensures (subs_in_order c.remove.new.self);
    }
  where
    less_first : (a b : ℕ) → a + b - a ≡ b
    less_first a b = omega arith
