use Rattle.std.proofs.Common.{sym, ◌∙◌, ap}
use Rattle.std.specs.Bool.{nat_eq}
use Rattle.sub_trie.specs.Rising.{subs_in_order}
use Rattle.sub_table.specs.Subscriptions.{serials_of}
use Rattle.sub_trie.specs.Groups.{list_at}
use Rattle.sub_trie.proofs.Closing.{closed_of, conn_closed}
use Rattle.sub_trie.proofs.table.TrieTableSubTable.close.Goals as goal

pub invariant_of-self : goal.invariant_of-self
invariant_of-self c =
    let subs = subs_in_order c.args.self.now.opened.subs in
    let k = c.get.result in
    let closed = closed_of c.args.conn k subs (subs_in_order c.close_each.new.opened.subs) c.deref.result.now
    c.take_all-serials.result.items c.args.self.now.opened.rising c.close_each.ensures.closed c.deref.ensures.value
    (c.take_all-serials.ensures.given ∙ c.args.self.now.owned k) c.get.ensures in
    record {
      owned = λ conn.
          conn_closed k c.args.conn (list_at nat_eq c.args.self.now.by_conn)
          (list_at nat_eq c.take_all-serials.new.groups) subs c.get.ensures c.args.self.now.owned
          c.take_all-serials.ensures.left conn
          ∙ sym (ap (serials_of conn) closed);
      called = c.close_each.ensures.called;
    }

pub returns : goal.returns
returns c =
    let subs = subs_in_order c.args.self.now.opened.subs in
    let k = c.get.result in
    closed_of c.args.conn k subs (subs_in_order c.close_each.new.opened.subs) c.deref.result.now
    c.take_all-serials.result.items c.args.self.now.opened.rising c.close_each.ensures.closed c.deref.ensures.value
    (c.take_all-serials.ensures.given ∙ c.args.self.now.owned k) c.get.ensures
