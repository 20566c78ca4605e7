use Rattle.std.proofs.Common.{◌≡◌, Some, None, sym, ◌∙◌, ap}
use Rattle.std.specs.Prelude.{find}
use Rattle.sub_trie.specs.Rising.{subs_in_order}
use Rattle.sub_table.specs.Subscriptions.{has_serial}
use Rattle.sub_trie.specs.Groups.{list_at, called_eq, serials_called}
use Rattle.sub_trie.proofs.Owned.{key_without, without_nowhere}
use Rattle.sub_trie.proofs.table.close_one.Goals as goal

pub returns-in-None-clause-called : goal.returns-in-None-clause-called
returns-in-None-clause-called c =
    let subs = subs_in_order c.args.opened.now.subs in
    let none : find (has_serial c.args.serial) subs ≡ None = sym c.remove.ensures.closed ∙ c.in-None.is in
    let same : subs_in_order c.remove.new.self.subs ≡ subs =
    c.remove.ensures.rest ∙ without_nowhere c.args.serial subs none in
    λ key. c.requires key ∙ sym (ap (serials_called key) same)

pub returns-in-Some-clause-called : goal.returns-in-Some-clause-called
returns-in-Some-clause-called c =
    let subs = subs_in_order c.args.opened.now.subs in
    let n = c.args.serial in
    let sub = c.in-Some.sub in
    let found : find (has_serial n) subs ≡ Some sub = sym c.remove.ensures.closed ∙ c.in-Some.is in
    λ key.
    key_without c.call_key.result (list_at called_eq c.args.by_sid.now) (list_at called_eq c.take_serial.new.groups)
    subs sub c.call_key.ensures.conn c.call_key.ensures.sid c.requires n c.args.opened.now.rising found
    c.take_serial.ensures key
    ∙ sym (ap (serials_called key) c.remove.ensures.rest)
