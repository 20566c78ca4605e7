use Rattle.node_law.proofs.laws.servers_keep_their_promises.Goals as goal

pub returns : goal.returns
returns c server h a listed ran = record {
  winners = c.queue_names_have_one_winner.ensures server h a listed ran;
  placed = c.queue_messages_are_placed_once.ensures server h a listed ran;
  ended = c.ended_turns_have_each_claim_once.ensures server h a listed ran;
  jobs = c.turns_have_one_job.ensures server h a listed ran;
  outboxes = c.outboxes_are_known.ensures server h a ran;
  counts = c.counts_are_open.ensures server h a listed ran;
  peers = c.peers_are_kept.ensures server h a listed ran;
}
