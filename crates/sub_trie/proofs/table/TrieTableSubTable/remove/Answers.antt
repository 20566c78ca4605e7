use Rattle.std.proofs.Common.{◌≡◌, Some, None, sym, ◌∙◌, ap}
use Rattle.std.specs.Prelude.{find}
use Rattle.std.specs.Bool.{nat_eq}
use Rattle.sub_trie.specs.Rising.{subs_in_order}
use Rattle.sub_table.specs.Subscriptions.{has_serial, serials_of}
use Rattle.sub_trie.specs.Groups.{list_at, called_eq, serials_called}
use Rattle.sub_trie.proofs.Owned.{conn_without, key_without, without_nowhere}
use Rattle.sub_trie.proofs.table.TrieTableSubTable.remove.Goals as goal

pub invariant_of-self : goal.invariant_of-self
invariant_of-self c =
    let subs = subs_in_order c.args.self.now.opened.subs in
    let none : find (has_serial c.args.serial) subs ≡ None = sym c.remove.ensures.closed ∙ c.in-None.is in
    let same : subs_in_order c.remove.new.self.subs ≡ subs =
    c.remove.ensures.rest ∙ without_nowhere c.args.serial subs none in
    record {
      owned = λ conn. c.args.self.now.owned conn ∙ sym (ap (serials_of conn) same);
      called = λ key. c.args.self.now.called key ∙ sym (ap (serials_called key) same);
    }

pub invariant_of-self-in-Some : goal.invariant_of-self-in-Some
invariant_of-self-in-Some c =
    let subs = subs_in_order c.args.self.now.opened.subs in
    let n = c.args.serial in
    let sub = c.in-Some.sub in
    let found : find (has_serial n) subs ≡ Some sub = sym c.remove.ensures.closed ∙ c.in-Some.is in
    let rising = c.args.self.now.opened.rising in
    let old = list_at nat_eq c.args.self.now.by_conn in
    record {
      owned = λ conn.
          conn_without c.get.result old (list_at nat_eq c.take_serial.new.groups) subs sub c.get.ensures
          c.args.self.now.owned n rising found c.take_serial.ensures conn
          ∙ sym (ap (serials_of conn) c.remove.ensures.rest);
      called = λ key.
          key_without c.call_key.result (list_at called_eq c.args.self.now.by_sid)
          (list_at called_eq c.take_serial-in-Some.new.groups) subs sub c.call_key.ensures.conn c.call_key.ensures.sid
          c.args.self.now.called n rising found c.take_serial-in-Some.ensures key
          ∙ sym (ap (serials_called key) c.remove.ensures.rest);
    }
