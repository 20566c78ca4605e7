use Rattle.std.proofs.Common.{◌+◌, drop, sym, ◌∙◌, ap}
use Rattle.sub_trie.specs.Rising.{subs_in_order}
use Rattle.sub_trie.specs.Groups.{without_each}
use Rattle.sub_trie.proofs.Closing.{without_more}
use Rattle.sub_trie.proofs.table.close_each.Goals as goal

pub loop-serial-preserved : goal.loop-serial-preserved
loop-serial-preserved c =
    let k = c.loop-serial.serial-index in
    let serials = c.args.serials.now in
    record {
      called = c.close_one.ensures.called;
      rest =
          ap (without_each (drop (k + 1) serials)) c.close_one.ensures.closed
          ∙ sym (without_more serials k 0 (subs_in_order c.loop-serial.opened.subs) c.loop-serial-test.true)
          ∙ c.loop-serial.invariant.rest;
    }
