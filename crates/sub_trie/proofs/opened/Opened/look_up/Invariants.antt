use Rattle.std.proofs.Common.{◌≡◌, map, take}
use Rattle.sub_trie.specs.Rising.{subs_in_order}
use Rattle.sub_trie.specs.Recalls.{subs_of_serials}
use Rattle.sub_trie.proofs.opened.Opened.look_up.Given as goal

abbrev pub invariant-loop-serial : goal.invariant-loop-serial
invariant-loop-serial l =
    map (λ sub. sub.now) l.subs.items ≡ subs_of_serials (subs_in_order l.self.subs) (take l.serial-index l.serials)
