-- Nothing is unwritten just where all is written.
use Rattle.std.proofs.Common.{◌≡◌, length, arith}
use Rattle.std.proofs.lemmas.Bool.{leb-true, le-leb}
use Rattle.net_streams.proofs.OutgoingLemmas.{none_left, all_past}
use Rattle.net_streams.proofs.outgoing.Outgoing.is_empty.Goals as goal

pub returns : goal.returns
returns c =
    let size : c.len.result ≡ length c.self.inside.bytes.items = omega arith in (
      λ past.
          none_left c.self.inside.bytes.items c.args.self.now c.self.inside.start c.self.view_is
          (rw (← size) (leb-true _ _ past)),
      λ none.
          le-leb _ _
          (rw size (all_past c.self.inside.bytes.items c.args.self.now c.self.inside.start c.self.view_is none)),
    )
