use Rattle.hub_core.specs.Chosen.{publication_by}
use Rattle.thread_report.proofs.HubReplaying.{publishes_again}
use Rattle.thread_report.proofs.hub_replay.publish.Goals as goal

pub commit_publish-requires : goal.commit_publish-requires
commit_publish-requires c =
    let planned = c.in_ok-frames.ensures in
    record {
      publication = publication_by c.args.conn c.args.publication.now c.args.word;
      finished = c.args.finished.now;
      taken = planned.0;
      frames_are = planned.1.frames;
    }

pub returns : goal.returns
returns c =
    publishes_again c.args.side.now c.commit_publish.new.self
    (publication_by c.args.conn c.args.publication.now c.args.word) c.args.finished.now
    c.in_ok-frames.field-0.frames.items c.none.result c.in_ok-frames.ensures.1.frames c.commit_publish.ensures
    c.none.ensures
