use Rattle.std.proofs.Common.{◌≡◌, ◌+◌, ◌<◌, ℕ, List, Some, None, length, sym, ap, ◌∙◌, subst}
use Rattle.std.specs.Prelude.{slice_get}
use Rattle.std.proofs.lemmas.Option.{slice_get-get_or}
use Rattle.shard_core.specs.Shards.{State}
use Rattle.shard_core.specs.ShardSteps.{claim_refusal}
use Rattle.shard_core.specs.Held.{Held, Chooses, IsSound, with_serial}
use Rattle.shard_core.specs.Opened.{Opened}
use Rattle.shard_core.proofs.Turns.Claims.{chooses, sound_chosen, claims_next, few_tried}
use Rattle.shard_core.proofs.shard.Shard.candidate.Goals as goal

pub returns : goal.returns
returns g c =
    let of : Opened → State = λ o. record {
      shard = c.self.inside.shard;
      shards = c.self.inside.shards;
      next_conn = c.self.inside.next_conn;
      opened = c.self.inside.opened;
      finished = c.self.inside.finished;
      hand = c.self.inside.hand;
      next_index = c.self.inside.next_index;
      clients = c.self.inside.conns.shown;
      subs = o.subs;
      draining = c.self.inside.draining;
      deltas = o.deltas;
    } in
    let s : State = of c.note_members_for.new.openings in
    let job = c.in-Some.job in
    let index = c.args.index in
    let names = c.as_slice-names in
    let lt : index < length job.queues =
    subst (λ (l : List (List ℕ)). index < length l) names.ensures.same c.if-index-names.false in
    let name = c.index-names-index.result in
    let at : slice_get job.queues index ≡ Some name =
    ap (λ (l : List (List ℕ)). slice_get l index) (sym names.ensures.same)
    ∙ slice_get-get_or names.result.now index name c.if-index-names.false
    ∙ ap Some (sym c.index-names-index.is) in
    let new : Held = record {
      state = record s { next_index = s.next_index + 1; clients = c.choose.new.conns.shown };
      chosen = with_serial c.serial_of-self-inside.result s.subs;
    } in
    subst (λ (h : Held).
    (claim_refusal h.state index h.state.hand ≡ None) × Chooses c.args.copies h index c.in_ok-candidate.candidate new)
    (ap (λ (o : Opened). record { state = of o; chosen = with_serial c.self.inside.chosen o.subs })
    c.note_members_for.ensures ∙ c.self.view_is) (
      claims_next s job index c.in-Some.is c.if-index-self.false lt,
      chooses c.args.copies s job index name c.in_ok-candidate.candidate c.serial_of-self-inside.result
          c.drop_candidate.new.conns c.choose.new.conns c.in-Some.is at c.drop_candidate.ensures.conns
          c.in_ok-candidate.ensures.shown c.in_ok-candidate.ensures.ok c.serial_of-self-inside.ensures
          (with_serial c.self.inside.chosen s.subs),
    )

pub invariant_of-self-2 : goal.invariant_of-self-2
invariant_of-self-2 g c =
    let of : Opened → State = λ o. record {
      shard = c.self.inside.shard;
      shards = c.self.inside.shards;
      next_conn = c.self.inside.next_conn;
      opened = c.self.inside.opened;
      finished = c.self.inside.finished;
      hand = c.self.inside.hand;
      next_index = c.self.inside.next_index;
      clients = c.self.inside.conns.shown;
      subs = o.subs;
      draining = c.self.inside.draining;
      deltas = o.deltas;
    } in
    let s : State = of c.note_members_for.new.openings in
    let job = c.in-Some.job in
    let index = c.args.index in
    let names = c.as_slice-names in
    let lt : index < length job.queues =
    subst (λ (l : List (List ℕ)). index < length l) names.ensures.same c.if-index-names.false in
    let name = c.index-names-index.result in
    let at : slice_get job.queues index ≡ Some name =
    ap (λ (l : List (List ℕ)). slice_get l index) (sym names.ensures.same)
    ∙ slice_get-get_or names.result.now index name c.if-index-names.false
    ∙ ap Some (sym c.index-names-index.is) in
    sound_chosen c.args.copies s job index name c.in_ok-candidate.candidate c.serial_of-self-inside.result
    c.drop_candidate.new.conns c.choose.new.conns c.in-Some.is at c.drop_candidate.ensures.conns
    c.in_ok-candidate.ensures.shown c.in_ok-candidate.ensures.ok c.serial_of-self-inside.ensures _ _
    (subst (λ (o : Opened). IsSound (of o) (with_serial c.self.inside.chosen o.subs) c.self.inside.conns.next)
    (sym c.note_members_for.ensures) c.self.invariant)
    (few_tried s job index c.if-index-self.false lt names.ensures.valid)
