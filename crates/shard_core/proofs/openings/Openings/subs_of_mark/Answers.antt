use Rattle.std.proofs.Common.{rules, arith, ◌≡◌, ◌<◌, ◌∷◌, [], ◌++◌, map, take, length, get_or, Some, None, sym, ◌∙◌, ap, Bor}
use Rattle.std.specs.Option.{option_to_list, option_copied}
use Rattle.std.proofs.lemmas.List.{map-append, take_all, append-nil}
use Rattle.sub_table.specs.declared.Subscription.{Subscription}
use Rattle.shard_core.specs.Members.{found_at, found_of}
use Rattle.shard_core.proofs.Turns.Groups.{found_more}
use Rattle.shard_core.proofs.openings.Openings.subs_of_mark.Goals as goal
use Rattle.shard_core.proofs.openings.Openings.subs_of_mark.Goals.{in-Some+in_ok-push, in_default}

pub loop-member-preserved : goal.loop-member-preserved
loop-member-preserved g c =
    let subs = c.args.self.now.subs in
    let mark = c.args.mark in
    let ms = c.args.members.now in
    let i = c.loop-member.member-index in
    let m = get_or ms i (record { mark = 0; serial = 0 }) in
    let within : i < length ms = search rules in
    let more = found_more subs mark ms i (record { mark = 0; serial = 0 }) within in
    let asked : option_copied c.found_at.result ≡ found_at subs mark m = search (rules, c.found_at.ensures) in
    elim c.match-found_at.branch [
      | in-Some+in_ok-push w ↦
          let sub = w.in-Some.sub.now in
          let found : found_at subs mark m ≡ Some sub = sym asked ∙ ap option_copied w.in-Some.is in
          let items : w.push.new.self.items ≡ c.loop-member.subs.items ++ w.in-Some.sub ∷ [] = search rules in
          ap (λ v. map (λ (s : Bor Subscription). s.now) v.items) w.subs-is
          ∙ ap (map (λ (s : Bor Subscription). s.now)) items
          ∙ map-append (λ (s : Bor Subscription). s.now) c.loop-member.subs.items (w.in-Some.sub ∷ [])
          ∙ ap (λ l. l ++ sub ∷ []) c.loop-member.invariant
          ∙ sym (more ∙ ap (λ o. found_of subs mark (take i ms) ++ option_to_list o) found)
      | in_default w ↦
          let found : found_at subs mark m ≡ None = sym asked ∙ ap option_copied w.in_default.is in
          ap (λ v. map (λ (s : Bor Subscription). s.now) v.items) w.subs-is
          ∙ c.loop-member.invariant
          ∙ sym (more ∙ ap (λ o. found_of subs mark (take i ms) ++ option_to_list o) found
          ∙ append-nil (found_of subs mark (take i ms)))
    ]

pub returns : goal.returns
returns g c =
    let subs = c.args.self.now.subs in
    let ms = c.args.members.now in
    let end : c.loop-member.member-index ≡ length ms =
    grind (arith, c.loop-member-test.false, c.loop-member.auto.member-index-end) in
    c.loop-member.invariant
    ∙ ap (λ k. found_of subs c.args.mark (take k ms)) end
    ∙ ap (found_of subs c.args.mark) (take_all (length ms) ms (omega arith))
