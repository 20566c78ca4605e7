use Rattle.std.proofs.Common.{rules, ◌≡◌, Some, None, refl, sym, ◌∙◌, ap, subst}
use Rattle.std.specs.Prelude.{nat_eq}
use Rattle.std.specs.Option.{option_copied_mut}
use Rattle.std.specs.Map.{lookup, values_of}
use Rattle.sub_table.specs.declared.Subscription.{Subscription}
use Rattle.sub_table.specs.Subscriptions.{total_cost}
use Rattle.pattern_trie.specs.Held.{Holds}
use Rattle.sub_trie.specs.Rising.{is_keyed, is_rising, held_of, rows, subs_in_order}
use Rattle.sub_trie.proofs.Keyed.{found_by, set_by, keyed_set, changed_nowhere}
use Rattle.sub_trie.proofs.Listing.{found_row, rows_set}
use Rattle.sub_trie.proofs.Risen.{rising_changed, held_changed, cost_changed}
use Rattle.sub_trie.proofs.Recalls.{right_still}
use Rattle.sub_trie.proofs.opened.Opened.set_max.Goals as goal

pub returns-in-Some : goal.returns-in-Some
returns-in-Some c =
    let subs = c.args.self.now.subs in
    let change : Subscription → Subscription = λ sub. record sub { max = c.args.max } in
    let had : lookup (nat_eq c.args.serial) (rows subs) ≡ Some c.in-Some.sub.now =
    sym (found_row c.args.serial subs) ∙ sym c.get_mut.ensures.value ∙ ap option_copied_mut c.in-Some.is in
    ap values_of (rows_set c.args.serial (change c.in-Some.sub.now) c.in-Some.sub.now subs
    (c.get_mut.follows.lender (change c.in-Some.sub.now)) had
    ((c.get_mut.follows.holds (change c.in-Some.sub.now)).3 (search rules)).0)
    ∙ set_by c.args.serial change (rows subs) c.in-Some.sub.now c.args.self.now.keyed had

pub returns-in_default : goal.returns-in_default
returns-in_default c =
    let subs = c.args.self.now.subs in
    let change : Subscription → Subscription = λ sub. record sub { max = c.args.max } in
    let none : lookup (nat_eq c.args.serial) (rows subs) ≡ None =
    sym (found_row c.args.serial subs) ∙ sym c.get_mut.ensures.value ∙ ap option_copied_mut c.in_default.is in
    ap subs_in_order c.get_mut.follows.holds-at-none
    ∙ sym (changed_nowhere c.args.serial change (subs_in_order subs)
    (sym (found_by c.args.serial (rows subs) c.args.self.now.keyed) ∙ none))

pub invariant_of-self : goal.invariant_of-self
invariant_of-self c =
    let es = rows c.args.self.now.subs in
    let subs = values_of es in
    let change : Subscription → Subscription = λ sub. record sub { max = c.args.max } in
    let had : lookup (nat_eq c.args.serial) es ≡ Some c.in-Some.sub.now =
    sym (found_row c.args.serial c.args.self.now.subs)
    ∙ sym c.get_mut.ensures.value
    ∙ ap option_copied_mut c.in-Some.is in
    let new = c.get_mut.follows.lender (change c.in-Some.sub.now) in
    let entries = rows_set c.args.serial (change c.in-Some.sub.now) c.in-Some.sub.now c.args.self.now.subs new had
    ((c.get_mut.follows.holds (change c.in-Some.sub.now)).3 (search rules)).0 in
    let items = ap values_of entries ∙ set_by c.args.serial change es c.in-Some.sub.now c.args.self.now.keyed had in
    record {
      keyed =
          ap is_keyed entries
          ∙ keyed_set (nat_eq c.args.serial) change (λ s. refl) es c.in-Some.sub.now c.args.self.now.keyed had;
      rising =
          ap is_rising items
          ∙ rising_changed c.args.serial change (λ s. refl) (λ s. refl) subs
          ∙ c.args.self.now.rising;
      held =
          subst (λ hs. Holds hs c.args.self.now.trie.nodes)
          (sym (ap held_of items ∙ held_changed c.args.serial change (λ s. refl) (λ s. refl) subs))
          c.args.self.now.held;
      counted =
          c.args.self.now.counted
          ∙ sym (ap total_cost items ∙ cost_changed c.args.serial change (λ s. refl) (λ s. refl) subs);
      right =
          right_still subs (subs_in_order new) c.args.self.now.recent.generation c.args.self.now.recent.slots.items
          (ap held_of items ∙ held_changed c.args.serial change (λ s. refl) (λ s. refl) subs) c.args.self.now.right;
    }
