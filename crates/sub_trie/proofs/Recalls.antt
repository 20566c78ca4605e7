-- What is kept in mind, under changes.
use Rattle.std.proofs.Common.{◌≡◌, ℕ, true, ◌<◌, ◌≤◌, arith, List, sym, ◌∙◌, ap, All, filter}
use Rattle.std.proofs.lemmas.List.Elements.{All-weaker}
use Rattle.sub_table.specs.declared.Subscription.{Subscription}
use Rattle.sub_table.specs.Subscriptions.{gets}
use Rattle.pattern_trie.specs.Matchers.{matching_values}
use Rattle.sub_trie.specs.declared.slot.Slot.{Slot}
use Rattle.sub_trie.specs.Recalls.{AreRight, IsRight, serials_for, subs_of_serials}
use Rattle.sub_trie.specs.Rising.{held_of, is_rising}
use Rattle.sub_trie.proofs.Orders.{matched_is, looked_all}

-- where each subject finds the same serials
pub right_still : (old new : List Subscription) (generation : ℕ) (slots : List Slot)
    → held_of new ≡ held_of old
    → AreRight old generation slots
    → AreRight new generation slots
right_still old new generation slots same right =
    All-weaker (IsRight old generation) (IsRight new generation)
    (λ slot is now.
    is now
    ∙ sym (matched_is slot.subject.items old)
    ∙ ap (matching_values slot.subject.items) (sym same)
    ∙ matched_is slot.subject.items new)
    slots right

-- where no slot has a subject
pub right_empty : (subs : List Subscription) (generation : ℕ) (slots : List Slot)
    → 0 < generation
    → All (λ slot. slot.generation ≡ 0) slots
    → AreRight subs generation slots
right_empty subs generation slots some none =
    All-weaker (λ (slot : Slot). slot.generation ≡ 0) (IsRight subs generation) (λ slot is now. absurd (omega arith))
    slots none

pub older_empty : (generation : ℕ) (slots : List Slot)
    → All (λ slot. slot.generation ≡ 0) slots
    → All (λ slot. slot.generation ≤ generation) slots
older_empty generation slots none =
    All-weaker (λ (slot : Slot). slot.generation ≡ 0) (λ (slot : Slot). slot.generation ≤ generation)
    (λ slot is. omega arith) slots none

-- the subscriptions of what a subject finds
pub looked_for : (subject : List ℕ) (subs : List Subscription) (serials : List ℕ)
    → is_rising subs ≡ true
    → serials ≡ serials_for subject subs
    → subs_of_serials subs serials ≡ filter (gets subject) subs
looked_for subject subs serials rising is = ap (subs_of_serials subs) is ∙ looked_all (gets subject) subs rising
