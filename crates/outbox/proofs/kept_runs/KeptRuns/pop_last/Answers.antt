use Rattle.std.proofs.Common.{◌≡◌, ◌-◌, ◌++◌, ◌∷◌, [], List, length, take, get_or, sym, ap, ◌∙◌}
use Rattle.std.proofs.lemmas.List.{length-map}
use Rattle.outbox.specs.Kept.{kept_in_run, kept_run}
use Rattle.outbox.specs.declared.kept.Kept.{Kept}
use Rattle.outbox.specs.declared.kept.Kept.TheVariants.{Copied}
use Rattle.outbox.specs.declared.entries.Tag.TheVariants.{Reply}
use Rattle.outbox.specs.declared.run_tails.TailMark.{TailMark}
use Rattle.outbox.proofs.Fronts.{first_of_run, last_and_rest}
use Rattle.outbox.proofs.kept_runs.KeptRuns.pop_last.Goals as goal

pub returns : goal.returns
returns c =
    let own = c.self.inside in
    let ks = c.args.self.now in
    let count : length ks ≡ length own.marks =
    ap (λ (l : List Kept). length l) (sym c.self.view_is)
    ∙ length-map own.marks (λ (t : TailMark). kept_in_run own.sub own.head_len t) in
    let rest : take (length ks - 1) ks ≡ kept_run own.sub own.head_len c.drop_last.new.self =
    ap (take (length ks - 1)) (sym c.self.view_is)
    ∙ sym (first_of_run own.sub own.head_len own.marks (length ks - 1))
    ∙ ap (λ n. kept_run own.sub own.head_len (take (n - 1) own.marks)) count
    ∙ ap (kept_run own.sub own.head_len) (sym c.drop_last.ensures) in
    let last : get_or ks (length ks - 1) (Copied Reply 0) ≡ Copied c.len_at-len.ensures.0 c.len_at-len.result =
    ap (λ n. get_or ks (n - 1) (Copied Reply 0)) (sym c.len.ensures.len) ∙ c.len_at-len.ensures.1 in (
      c.len_at-len.ensures.0,
      last_and_rest ks (Copied Reply 0) c.requires
          ∙ ap (λ (l : List Kept). l ++ get_or ks (length ks - 1) (Copied Reply 0) ∷ []) rest
          ∙ ap (λ (k : Kept). kept_run own.sub own.head_len c.drop_last.new.self ++ k ∷ []) last,
    )
