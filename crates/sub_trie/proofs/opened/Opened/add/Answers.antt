use Rattle.std.specs.Bool.{nat_eq}
use Rattle.std.proofs.Common.{rules, arith, ◌≡◌, ℕ, ◌+◌, ◌<◌, ◌∷◌, [], ◌++◌, true, sym, ◌∙◌, ap, subst}
use Rattle.std.specs.Prelude.{nat_eq}
use Rattle.std.specs.Map.{values_of}
use Rattle.std.proofs.lemmas.Bool.Decides.{nat_tests}
use Rattle.std.proofs.lemmas.List.Elements.{recursion_from_All}
use Rattle.subj.specs.Keys.{cost_of}
use Rattle.sub_table.specs.declared.Subscription.{Subscription}
use Rattle.sub_table.specs.Subscriptions.{total_cost}
use Rattle.pattern_trie.specs.Held.{Holds, without_held}
use Rattle.sub_trie.specs.Rising.{is_keyed, is_rising, held_of, in_order, rows, subs_in_order}
use Rattle.sub_trie.proofs.Keyed.{values_push, keyed_push}
use Rattle.sub_trie.proofs.Listing.{rows_push}
use Rattle.sub_trie.proofs.Risen.{rising_push, held_push, cost_push, held_again}
use Rattle.sub_trie.proofs.opened.Opened.add.Goals as goal

pub returns-in-Ok-clause-ok : goal.returns-in-Ok-clause-ok
returns-in-Ok-clause-ok c =
    let es = rows c.args.self.now.subs in
    let n = c.args.sub.serial in
    ap values_of (rows_push n c.args.sub c.args.self.now.subs c.insert-2.new.self c.args.self.now.keyed
    (recursion_from_All (λ (other : Subscription). other.serial < n) (values_of es) c.requires)
    c.in-Ok.ensures.updates.0)
    ∙ values_push n c.args.sub es

pub invariant_of-self-in-Ok : goal.invariant_of-self-in-Ok
invariant_of-self-in-Ok c =
    let es = rows c.args.self.now.subs in
    let subs = values_of es in
    let n = c.args.sub.serial in
    let entries : rows c.insert-2.new.self ≡ es ++ (n, c.args.sub) ∷ [] = rows_push n c.args.sub c.args.self.now.subs
    c.insert-2.new.self c.args.self.now.keyed
    (recursion_from_All (λ (other : Subscription). other.serial < n) subs c.requires) c.in-Ok.ensures.updates.0 in
    let items : subs_in_order c.insert-2.new.self ≡ subs ++ c.args.sub ∷ [] =
    ap values_of entries ∙ values_push n c.args.sub es in
    let held : Holds (held_of subs ++ (c.args.sub.key.pattern, n) ∷ []) c.insert.new.self.nodes =
    search (rules, c.in_ok-insert.ensures.ok (held_of subs) c.args.self.now.held) in
    let cost : c.in_ok-cost.cost ≡ total_cost subs + cost_of c.args.sub.key = grind arith in
    record {
      keyed = ap is_keyed entries ∙ keyed_push n c.args.sub es (itself n) c.args.self.now.keyed;
      rising = ap is_rising items ∙ rising_push subs c.args.sub c.args.self.now.rising c.requires;
      held = subst (λ hs. Holds hs c.insert.new.self.nodes) (sym (ap held_of items ∙ held_push subs c.args.sub)) held;
      counted = cost ∙ sym (ap total_cost items ∙ cost_push subs c.args.sub);
      right = c.forget.ensures (subs_in_order c.insert-2.new.self);
    }
  where
    itself : (n : ℕ) → nat_eq n n ≡ true
    itself n = grind (arith, nat_tests)

pub invariant_of-self-in-Err : goal.invariant_of-self-in-Err
invariant_of-self-in-Err c =
    let subs = subs_in_order c.args.self.now.subs in
    let n = c.args.sub.serial in
    let p = c.args.sub.key.pattern in
    let entries : c.insert-2.new.self.entries ≡ c.args.self.now.subs.entries = c.in-Err.ensures.err in
    let held : Holds (held_of subs ++ (p, n) ∷ []) c.insert.new.self.nodes =
    search (rules, c.in_ok-insert.ensures.ok (held_of subs) c.args.self.now.held) in
    let back : Holds (without_held nat_eq p n (held_of subs ++ (p, n) ∷ [])) c.remove.new.self.nodes =
    subst
    (λ pair. Holds (without_held nat_eq pair.1.key.pattern n (held_of subs ++ (p, n) ∷ [])) c.remove.new.self.nodes)
    c.in-Err.ensures.value_returned (c.remove.ensures (held_of subs ++ (p, n) ∷ []) held) in
    record {
      keyed = ap (λ es. is_keyed (in_order es)) entries ∙ c.args.self.now.keyed;
      rising = ap (λ es. is_rising (values_of (in_order es))) entries ∙ c.args.self.now.rising;
      held =
          subst (λ hs. Holds hs c.remove.new.self.nodes)
          (held_again p n subs c.requires ∙ sym (ap (λ es. held_of (values_of (in_order es))) entries)) back;
      counted = c.args.self.now.counted ∙ sym (ap (λ es. total_cost (values_of (in_order es))) entries);
      right = c.forget.ensures (subs_in_order c.insert-2.new.self);
    }
