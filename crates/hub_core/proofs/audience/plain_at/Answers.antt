use Rattle.std.proofs.Common.{◌≤◌, ◌+◌, length, sym, ap, ◌∙◌, subst, arith}
use Rattle.interest.specs.Matches.{has_plain_match}
use Rattle.hub_core.specs.State.{Peer}
use Rattle.hub_core.proofs.Choices.Filled.{mapped_on, mapped_all}
use Rattle.hub_core.proofs.audience.plain_at.Goals as goal

pub loop-peer-preserved : goal.loop-peer-preserved
loop-peer-preserved c =
    let l = c.loop-peer in
    record {
      filled =
          mapped_on (λ (peer : Peer). has_plain_match c.args.subject.now peer.heard.keys) c.args.peers.now l.peer-index
          c.peer-item.result c.has_plain.result l.plain.items c.push_reserved.new.self.items c.loop-peer-test.true
          c.peer-item.is
          (c.has_plain.ensures
          ∙ ap (λ (peer : Peer). has_plain_match c.args.subject.now peer.heard.keys) c.peer.view_is)
          c.push_reserved.ensures.items l.invariant.filled;
      count = c.push_reserved.ensures.len ∙ ap (λ n. n + 1) l.invariant.count;
      room = subst (λ n. length c.args.peers.now ≤ n) (sym c.push_reserved.ensures.capacity) l.invariant.room;
    }

pub push_reserved-requires : goal.push_reserved-requires
push_reserved-requires c = omega arith

pub returns : goal.returns
returns c =
    mapped_all (λ (peer : Peer). has_plain_match c.args.subject.now peer.heard.keys) c.args.peers.now
    c.loop-peer.peer-index c.loop-peer.plain.items c.loop-peer-test.false c.loop-peer.invariant.filled
