use Rattle.thread_report.proofs.report.close_shard.Goals as goal

pub returns-clause-tape : goal.returns-clause-tape
returns-clause-tape g c = (c.into_parts-state.result.1, c.into_parts-state.ensures.tape, c.in_ok-entries.ensures)
