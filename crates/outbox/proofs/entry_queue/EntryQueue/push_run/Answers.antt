use Rattle.std.proofs.Common.{◌≡◌, ◌++◌, ◌<◌, ◌^◌, List, length, ap, sym, subst, ◌∙◌, arith}
use Rattle.std.proofs.lemmas.List.{length-map}
use Rattle.outbox.specs.Tails.{mark_of}
use Rattle.outbox.proofs.Seen.{length_seen}
use Rattle.outbox.proofs.Staged.{ok_of}
use Rattle.outbox.specs.Kept.{Queued, copied_of, kept_run, written_in}
use Rattle.outbox.specs.Views.{message_run}
use Rattle.outbox.specs.declared.run_tails.TailMark.{TailMark}
use Rattle.outbox.proofs.Runs.{copied_run_size, put_run, run_size}
use Rattle.outbox.proofs.entry_queue.EntryQueue.push_run.Goals as goal

pub push_run-requires : goal.push_run-requires
push_run-requires c =
    subst (λ n. n < 2 ^ 64) (run_size c.args.sub c.args.head.now c.args.tails.now) c.requires.small

pub push_run-requires-2-clause-fits : goal.push_run-requires-2-clause-fits
push_run-requires-2-clause-fits c =
    let head = c.args.head.now in
    let size =
    ap (λ (ms : List TailMark). copied_of (kept_run c.args.sub (length head) ms)) c.marks.ensures
    ∙ copied_run_size c.args.sub head c.args.tails.now in
    subst (λ n. n < 2 ^ 64) (sym size) c.requires.small

pub push_run-requires-2-clause-few : goal.push_run-requires-2-clause-few
push_run-requires-2-clause-few c =
    let ks = c.self.inside.kept.items in
    let count = length_seen ks c.self.inside.text in
    let seen : length (written_in ks c.self.inside.text) ≡ length c.args.self.now.entries =
    ap (λ (q : Queued). length q.entries) c.self.view_is in
    let more : length c.marks.result.now ≡ length c.args.tails.now =
    ap (λ (ms : List TailMark). length ms) c.marks.ensures ∙ length-map c.args.tails.now mark_of in
    omega (arith, count, seen, more, c.requires.few)

pub invariant_of-self-else-is_err : goal.invariant_of-self-else-is_err
invariant_of-self-else-is_err c =
    let head = c.args.head.now in
    let ks = c.self.inside.kept.items in
    let kept = ok_of c.push_run-2.result (sym c.is_err.ensures.value ∙ c.if-is_err.false) c.push_run-2.ensures.ok
    ∙ ap (λ (ms : List TailMark). ks ++ kept_run c.args.sub (length head) ms) c.marks.ensures in
    (put_run ks _ _ _ head c.args.tails.now c.args.sub c.self.invariant kept c.in_ok-len.ensures.ok).0

pub returns-clause-len : goal.returns-clause-len
returns-clause-len c = c.in_ok-len.ensures.len ∙ sym (run_size c.args.sub c.args.head.now c.args.tails.now)

pub returns-clause-ok : goal.returns-clause-ok
returns-clause-ok c =
    let head = c.args.head.now in
    let ks = c.self.inside.kept.items in
    let run = message_run c.args.sub head c.args.tails.now in
    let kept = ok_of c.push_run-2.result (sym c.is_err.ensures.value ∙ c.if-is_err.false) c.push_run-2.ensures.ok
    ∙ ap (λ (ms : List TailMark). ks ++ kept_run c.args.sub (length head) ms) c.marks.ensures in
    (put_run ks _ _ _ head c.args.tails.now c.args.sub c.self.invariant kept c.in_ok-len.ensures.ok).1
    ∙ ap (λ (q : Queued). q.entries ++ run) c.self.view_is
