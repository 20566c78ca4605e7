use Rattle.std.proofs.Common.{refl, sym, ◌∙◌, ap}
use Rattle.sub_trie.specs.Rising.{subs_in_order}
use Rattle.sub_table.specs.declared.Subscription.{Subscription}
use Rattle.sub_table.specs.Subscriptions.{is_of, is_called, serials_of}
use Rattle.sub_trie.specs.Groups.{serials_called}
use Rattle.sub_trie.proofs.Owned.{changed_if}
use Rattle.sub_trie.proofs.table.TrieTableSubTable.set_max.Goals as goal

pub invariant_of-self : goal.invariant_of-self
invariant_of-self c =
    let subs = subs_in_order c.args.self.now.opened.subs in
    let change : Subscription → Subscription = λ sub. record sub { max = c.args.max } in
    record {
      owned = λ conn.
          c.args.self.now.owned conn
          ∙ sym (ap (serials_of conn) c.set_max.ensures
          ∙ changed_if (is_of conn) c.args.serial change (λ s. refl) (λ s. refl) subs);
      called = λ key.
          c.args.self.now.called key
          ∙ sym (ap (serials_called key) c.set_max.ensures
          ∙ changed_if (is_called key.0 key.1.items) c.args.serial change (λ s. refl) (λ s. refl) subs);
    }
