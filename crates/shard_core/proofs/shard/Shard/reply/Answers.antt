use Rattle.std.proofs.Common.{◌∙◌}
use Rattle.client_frames.specs.Frames.{reply_line}
use Rattle.outbox.specs.Views.{reply_entry, with_entry, with_last}
use Rattle.shard_core.specs.Shards.{clients_with_change}
use Rattle.shard_core.proofs.Steps.Kept.{numbered_changed, sound_changed, sound_closed, still_possible}
use Rattle.shard_core.proofs.shard.Shard.reply.Goals as goal

pub invariant_of-self-then-branch : goal.invariant_of-self-then-branch
invariant_of-self-then-branch g c =
    let change = with_entry (reply_entry (reply_line c.args.frame.now)) in
    sound_changed _ _ _ _ c.drop_candidate.new.conns c.put_answer.new.conns (clients_with_change change c.args.conn)
    c.self.inside.openings c.self.invariant c.drop_candidate.ensures.chosen c.drop_candidate.ensures.conns
    (c.in_ok-put_answer.ensures.put c.if-branch.true)
    (numbered_changed _ _ change c.args.conn _ c.self.invariant.numbered) (still_possible _ _ _ c.self.invariant)

pub invariant_of-self-2 : goal.invariant_of-self-2
invariant_of-self-2 g c =
    let change = with_last c.line-line.result.now in
    sound_closed _ _ _ _ c.put_answer.new.conns c.shut_with.new.conns (clients_with_change change c.args.conn)
    c.shut_with.new.openings _ c.self.invariant c.drop_candidate.ensures.chosen
    (c.in_ok-put_answer.ensures.full c.if-branch.false ∙ c.drop_candidate.ensures.conns) c.in_ok-ended.ensures.conns
    (numbered_changed _ _ change c.args.conn _ c.self.invariant.numbered) c.in_ok-ended.ensures.openings
