use Rattle.std.proofs.Common.{subst}
use Rattle.node_net.specs.Keyed.{ChangesAt, Behind}
use Rattle.node_net.specs.Sending.{SendsTaken, Rests, IsNoted}
use Rattle.node_net.proofs.KeyedLemmas.{changes_twice}
use Rattle.node_net.proofs.connections.Connections.write_part.Goals as goal

pub returns : goal.returns
returns g c =
    changes_twice (Behind (SendsTaken g.S.Stream.gave g.S.Stream.wrote c.args.bytes.now) Rests) IsNoted c.args.key
    c.args.self.now.table c.rest_later.new.self.table c.leave_if_gone.new.self.table
    (changes_twice (SendsTaken g.S.Stream.gave g.S.Stream.wrote c.args.bytes.now) Rests c.args.key
    c.args.self.now.table c.send_part.new.self.table c.rest_later.new.self.table c.send_part.ensures
    c.rest_later.ensures)
    (subst (λ s. ChangesAt IsNoted c.args.key s c.leave_if_gone.new.self.table) c.note_quiet.ensures
    c.leave_if_gone.ensures)
