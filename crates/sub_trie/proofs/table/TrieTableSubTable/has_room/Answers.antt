use Rattle.std.proofs.Common.{◌∙◌, ap}
use Rattle.sub_table.specs.Subscriptions.{is_room, matching_of, serials_of}
use Rattle.sub_trie.specs.Recalls.{subs_of_serials}
use Rattle.sub_trie.specs.Rising.{subs_in_order}
use Rattle.sub_trie.proofs.Rooms.{matching_owned}
use Rattle.sub_trie.proofs.table.TrieTableSubTable.has_room.Goals as goal

pub returns : goal.returns
returns c =
    let contents = subs_in_order c.args.self.now.opened.subs in
    let conn = c.args.conn in
    let subject = c.args.subject.now in
    c.has_room.ensures
    ∙ ap (λ ns. is_room c.args.len c.args.room (matching_of conn subject (subs_of_serials contents ns)))
    (c.serials_under-serials.ensures ∙ c.args.self.now.owned c.get.result
    ∙ ap (λ k. serials_of k contents) c.get.ensures)
    ∙ ap (is_room c.args.len c.args.room) (matching_owned conn subject contents c.args.self.now.opened.rising)
