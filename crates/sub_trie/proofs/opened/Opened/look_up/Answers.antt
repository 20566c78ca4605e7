use Rattle.std.proofs.Common.{rules, arith, ◌≡◌, ◌<◌, ◌∷◌, [], ◌++◌, map, take, length, get_or, Some, None, sym, ◌∙◌, ap, Bor}
use Rattle.std.specs.Prelude.{find}
use Rattle.std.specs.Option.{option_to_list, option_copied}
use Rattle.sub_trie.specs.Rising.{subs_in_order}
use Rattle.std.proofs.lemmas.List.{map-append, take_all, append-nil}
use Rattle.sub_table.specs.declared.Subscription.{Subscription}
use Rattle.sub_table.specs.Subscriptions.{has_serial}
use Rattle.sub_trie.specs.Recalls.{subs_of_serials}
use Rattle.sub_trie.proofs.Orders.{looked_more}
use Rattle.sub_trie.proofs.opened.Opened.look_up.Goals as goal
use Rattle.sub_trie.proofs.opened.Opened.look_up.Goals.{in-Some+in_ok-push, in_default}

pub loop-serial-preserved : goal.loop-serial-preserved
loop-serial-preserved c =
    let contents = subs_in_order c.args.self.now.subs in
    let ns = c.args.serials.now in
    let i = c.loop-serial.serial-index in
    let n = get_or ns i 0 in
    let within : i < length ns = search rules in
    let more = looked_more contents ns i 0 within in
    let asked : option_copied c.get.result ≡ find (has_serial n) contents = search (rules, c.get.ensures) in
    elim c.match-get.branch [
      | in-Some+in_ok-push w ↦
          let sub = w.in-Some.sub.now in
          let found : find (has_serial n) contents ≡ Some sub = sym asked ∙ ap option_copied w.in-Some.is in
          let items : w.push.new.self.items ≡ c.loop-serial.subs.items ++ w.in-Some.sub ∷ [] = search rules in
          ap (λ v. map (λ (s : Bor Subscription). s.now) v.items) w.subs-is
          ∙ ap (map (λ (s : Bor Subscription). s.now)) items
          ∙ map-append (λ (s : Bor Subscription). s.now) c.loop-serial.subs.items (w.in-Some.sub ∷ [])
          ∙ ap (λ l. l ++ sub ∷ []) c.loop-serial.invariant
          ∙ sym (more ∙ ap (λ o. subs_of_serials contents (take i ns) ++ option_to_list o) found)
      | in_default w ↦
          let found : find (has_serial n) contents ≡ None = sym asked ∙ ap option_copied w.in_default.is in
          ap (λ v. map (λ (s : Bor Subscription). s.now) v.items) w.subs-is
          ∙ c.loop-serial.invariant
          ∙ sym (more ∙ ap (λ o. subs_of_serials contents (take i ns) ++ option_to_list o) found
          ∙ append-nil (subs_of_serials contents (take i ns)))
    ]

pub returns : goal.returns
returns c =
    let contents = subs_in_order c.args.self.now.subs in
    let ns = c.args.serials.now in
    let end : c.loop-serial.serial-index ≡ length ns =
    grind (arith, c.loop-serial-test.false, c.loop-serial.auto.serial-index-end) in
    c.loop-serial.invariant
    ∙ ap (λ k. subs_of_serials contents (take k ns)) end
    ∙ ap (subs_of_serials contents) (take_all (length ns) ns (omega arith))
