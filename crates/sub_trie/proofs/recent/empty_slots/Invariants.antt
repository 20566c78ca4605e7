use Rattle.std.proofs.Common.{◌≡◌, All}
use Rattle.sub_trie.proofs.recent.empty_slots.Given as goal

abbrev pub invariant-loop : goal.invariant-loop
invariant-loop l = All (λ slot. slot.generation ≡ 0) l.slots.items
