use Rattle.std.proofs.Common.{◌≡◌, drop}
use Rattle.sub_trie.specs.Rising.{subs_in_order}
use Rattle.sub_trie.specs.Groups.{AreCalled, without_each}
use Rattle.sub_trie.proofs.table.close_each.Given as goal

-- without the serials that are left, what is open is what all of them leave
abbrev pub invariant-loop-serial : goal.invariant-loop-serial
invariant-loop-serial l = record {
  called : AreCalled l.by_sid (subs_in_order l.opened.subs);
  rest : without_each (drop l.serial-index l.serials) (subs_in_order l.opened.subs)
      ≡ without_each l.serials (subs_in_order l.fn.opened.subs);
}
