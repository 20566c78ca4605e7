use Rattle.std.proofs.Common.{◌≡◌, ℕ, ◌∷◌, [], ◌++◌, sym, ◌∙◌, ap}
use Rattle.std.specs.Bool.{nat_eq}
use Rattle.sub_trie.specs.Rising.{subs_in_order}
use Rattle.sub_table.specs.Subscriptions.{serials_of, without_serial}
use Rattle.sub_trie.specs.Groups.{list_at, called_eq, serials_called}
use Rattle.sub_trie.proofs.Owned.{conn_push, conn_without, key_push, last_closed, last_is, on_ok, on_err}
use Rattle.sub_trie.proofs.Risen.{rising_push}
use Rattle.sub_trie.proofs.table.TrieTableSubTable.add.Goals as goal

pub returns-then-is_err-clause-err : goal.returns-then-is_err-clause-err
returns-then-is_err-clause-err c =
    let subs = subs_in_order c.args.self.now.opened.subs in
    let opened : subs_in_order c.add.new.self.subs ≡ subs ++ c.args.sub ∷ [] = c.in_ok-add.ensures.ok in
    c.remove.ensures.rest ∙ ap (without_serial c.args.sub.serial) opened ∙ last_closed c.args.sub subs c.requires

pub returns-then-is_err-2-clause-err : goal.returns-then-is_err-2-clause-err
returns-then-is_err-2-clause-err c =
    let subs = subs_in_order c.args.self.now.opened.subs in
    let opened : subs_in_order c.add.new.self.subs ≡ subs ++ c.args.sub ∷ [] = c.in_ok-add.ensures.ok in
    c.remove-then-is_err-2.ensures.rest
    ∙ ap (without_serial c.args.sub.serial) opened
    ∙ last_closed c.args.sub subs c.requires

pub invariant_of-self-then-is_err : goal.invariant_of-self-then-is_err
invariant_of-self-then-is_err c =
    let subs = subs_in_order c.args.self.now.opened.subs in
    let opened : subs_in_order c.add.new.self.subs ≡ subs ++ c.args.sub ∷ [] = c.in_ok-add.ensures.ok in
    let same : subs_in_order c.remove.new.self.subs ≡ subs =
    c.remove.ensures.rest ∙ ap (without_serial c.args.sub.serial) opened ∙ last_closed c.args.sub subs c.requires in
    let kept = on_err _ _ (sym c.is_err.ensures.value ∙ c.if-is_err.true) c.push_serial.ensures.err in
    record {
      owned = λ conn. kept conn ∙ c.args.self.now.owned conn ∙ sym (ap (serials_of conn) same);
      called = λ key. c.args.self.now.called key ∙ sym (ap (serials_called key) same);
    }

pub invariant_of-self-then-is_err-2 : goal.invariant_of-self-then-is_err-2
invariant_of-self-then-is_err-2 c =
    let subs = subs_in_order c.args.self.now.opened.subs in
    let sub = c.args.sub in
    let k = c.get-conn.result in
    let old = list_at nat_eq c.args.self.now.by_conn in
    let mid = list_at nat_eq c.push_serial.new.groups in
    let opened : subs_in_order c.add.new.self.subs ≡ subs ++ sub ∷ [] = c.in_ok-add.ensures.ok in
    let closed = last_closed sub subs c.requires in
    let same : subs_in_order c.remove-then-is_err-2.new.self.subs ≡ subs =
    c.remove-then-is_err-2.ensures.rest ∙ ap (without_serial sub.serial) opened ∙ closed in
    let pushed = on_ok _ _ (sym c.is_err.ensures.value ∙ c.if-is_err.false) c.push_serial.ensures.ok in
    let before : (q : ℕ) → mid q ≡ serials_of q (subs ++ sub ∷ []) =
    conn_push k old mid subs sub c.get-conn.ensures c.args.self.now.owned pushed in
    let after = conn_without k mid (list_at nat_eq c.take_serial.new.groups) (subs ++ sub ∷ []) sub c.get-conn.ensures
    before sub.serial (rising_push subs sub c.args.self.now.opened.rising c.requires) (last_is sub subs c.requires)
    c.take_serial.ensures in
    let kept = on_err _ _ (sym c.is_err-2.ensures.value ∙ c.if-is_err-2.true) c.push_serial-2.ensures.err in
    record {
      owned = λ conn. after conn ∙ ap (serials_of conn) closed ∙ sym (ap (serials_of conn) same);
      called = λ key. kept key ∙ c.args.self.now.called key ∙ sym (ap (serials_called key) same);
    }

pub invariant_of-self-else-is_err-2 : goal.invariant_of-self-else-is_err-2
invariant_of-self-else-is_err-2 c =
    let subs = subs_in_order c.args.self.now.opened.subs in
    let sub = c.args.sub in
    let opened : subs_in_order c.add.new.self.subs ≡ subs ++ sub ∷ [] = c.in_ok-add.ensures.ok in
    let by_conn = on_ok _ _ (sym c.is_err.ensures.value ∙ c.if-is_err.false) c.push_serial.ensures.ok in
    let by_sid = on_ok _ _ (sym c.is_err-2.ensures.value ∙ c.if-is_err-2.false) c.push_serial-2.ensures.ok in
    record {
      owned = λ conn.
          conn_push c.get-conn.result (list_at nat_eq c.args.self.now.by_conn) (list_at nat_eq c.push_serial.new.groups)
          subs sub c.get-conn.ensures c.args.self.now.owned by_conn conn
          ∙ sym (ap (serials_of conn) opened);
      called = λ key.
          key_push c.call_key-key.result (list_at called_eq c.args.self.now.by_sid)
          (list_at called_eq c.push_serial-2.new.groups) subs sub c.call_key-key.ensures.conn c.call_key-key.ensures.sid
          c.args.self.now.called by_sid key
          ∙ sym (ap (serials_called key) opened);
    }
