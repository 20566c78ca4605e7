use Rattle.std.proofs.Common.{◌≡◌, ◌<◌, ◌+◌, List, length, get_or, subst, sym, ap, ◌∙◌}
use Rattle.std.proofs.lemmas.List.{length-map}
use Rattle.outbox.specs.Kept.{kept_at, kept_in_run}
use Rattle.outbox.specs.declared.kept.Kept.{Kept}
use Rattle.outbox.specs.declared.kept.Kept.TheVariants.{Copied}
use Rattle.outbox.specs.declared.entries.Tag.TheVariants.{Reply, Msg}
use Rattle.outbox.specs.declared.entries.Mode.TheVariants.{Plain}
use Rattle.outbox.specs.declared.run_tails.TailMark.{TailMark}
use Rattle.outbox.proofs.Fronts.{message_at}
use Rattle.outbox.proofs.kept_runs.KeptRuns.len_at.Goals as goal

pub returns : goal.returns
returns c =
    let own = c.self.inside in
    let i = c.args.place in
    let d = c.index-as_slice-place.result in
    let mark = get_or own.marks i d in
    let count : length c.args.self.now ≡ length own.marks =
    ap (λ (ks : List Kept). length ks) (sym c.self.view_is)
    ∙ length-map own.marks (λ (t : TailMark). kept_in_run own.sub own.head_len t) in
    let lt : i < length own.marks = subst (λ n. i < n) count c.requires in (
      Msg mark.id own.sub Plain,
      sym (ap (λ (ks : List Kept). kept_at ks i) c.self.view_is)
          ∙ message_at own.sub own.head_len own.marks i (Copied Reply 0) d lt
          ∙ ap (λ (ms : List TailMark). Copied (Msg mark.id own.sub Plain) (own.head_len + (get_or ms i d).len))
          (sym c.as_slice.ensures),
    )
