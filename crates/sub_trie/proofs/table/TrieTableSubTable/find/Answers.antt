use Rattle.std.proofs.Common.{◌∙◌, ap}
use Rattle.std.specs.Prelude.{find}
use Rattle.std.specs.Option.{option_map}
use Rattle.sub_trie.specs.Rising.{subs_in_order}
use Rattle.sub_table.specs.Subscriptions.{is_called, serial_of}
use Rattle.sub_trie.specs.Groups.{first_of}
use Rattle.sub_trie.proofs.Owned.{first_if}
use Rattle.sub_trie.proofs.table.TrieTableSubTable.find.Goals as goal

pub returns : goal.returns
returns c =
    let subs = subs_in_order c.args.self.now.opened.subs in
    let key = c.call_key.result in
    c.first_serial.ensures
    ∙ ap first_of (c.args.self.now.called key)
    ∙ first_if (is_called key.0 key.1.items) subs
    ∙ ap (λ k. option_map serial_of (find (is_called k key.1.items) subs)) c.call_key.ensures.conn
    ∙ ap (λ t. option_map serial_of (find (is_called c.args.conn t) subs)) c.call_key.ensures.sid
