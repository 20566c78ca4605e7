use Rattle.std.proofs.Common.{◌≡◌, ◌++◌, ◌∷◌, [], take, sym, ap, ◌∙◌, arith}
use Rattle.outbox.specs.Kept.{Queued}
use Rattle.outbox.specs.Views.{Waiting, Written, reply_entry, on_both, with_last}
use Rattle.outbox.proofs.Staged.{sound_shut, last_line_used, seen_last}
use Rattle.outbox.proofs.outbox.Outbox.put_last.Goals as goal

pub invariant_of-self : goal.invariant_of-self
invariant_of-self c =
    let sound = c.self.invariant.0 in
    let size = c.len-self-inside.ensures in
    (sound_shut _ _ _ _ _ _ (omega (arith, size)) sound.shown_fit sound.bytes_fit, last_line_used _ _)

pub returns : goal.returns
returns c =
    let line = c.args.line.now in
    let entries = c.self.inside.entries.entries in
    let entry : c.reply.result ≡ reply_entry line = c.reply.ensures ∙ ap reply_entry c.last_text-text.ensures in
    let put : c.push_whole_reserved.new.self.entries ≡ entries ++ reply_entry line ∷ [] =
    ap (λ (q : Queued). q.entries) c.push_whole_reserved.ensures ∙ ap (λ (e : Written). entries ++ e ∷ []) entry in
    let settled : take c.self.inside.shown entries ≡ entries = ap (λ (box : Waiting). box.shown.entries) c.self.view_is
    ∙ sym (ap (λ backlog. backlog.entries) c.requires.settled)
    ∙ sym (ap (λ (box : Waiting). box.next.entries) c.self.view_is) in
    seen_last entries _ (reply_entry line) c.self.inside.shown _ _ _ put c.len-self-inside.ensures settled
    ∙ ap (on_both (with_last line)) c.self.view_is
