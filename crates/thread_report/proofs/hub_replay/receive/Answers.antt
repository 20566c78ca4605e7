use Rattle.thread_report.proofs.HubReplaying.{receives_again}
use Rattle.thread_report.proofs.hub_replay.receive.Goals as goal

pub returns : goal.returns
returns c =
    receives_again c.args.side.now c.take_in.new.side c.args.frame.now c.args.finished.now c.none.result
    c.in_ok-_received.ensures.1.0 c.none.ensures
