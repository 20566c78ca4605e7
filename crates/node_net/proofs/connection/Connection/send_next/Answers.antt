-- What the stream does not take of the bytes is put behind what waits.
use Rattle.std.proofs.Common.{rules, ◌≡◌, [], inl, inr}
use Rattle.node_net.proofs.SendingLemmas.{TookFirst, took_first, took_none, rest_kept, rest_lost}
use Rattle.node_net.proofs.connection.Connection.send_next.Goals as goal
use Rattle.node_net.proofs.connection.Connection.send_next.Goals.{then-is_empty, else-is_empty}

pub returns-then-is_err : goal.returns-then-is_err
returns-then-is_err g c =
    let first : TookFirst g.S.Stream.gave g.S.Stream.wrote c.args.self.now c.args.bytes.now c.if-is_empty.rest.now
    c.if-is_empty.self = elim c.if-is_empty.branch [
      | then-is_empty w ↦
          let none : c.args.self.now.out ≡ [] = search rules in
          rw w.rest-is (took_first g.S.Stream.gave g.S.Stream.wrote c.args.self.now c.args.bytes.now
          w.write-rest.result.now w.write-rest.new.self c.saturating_add-self.result c.if-is_empty.self none
          c.saturating_add-self.ensures w.write-rest.ensures.written w.write-rest.ensures.others w.self-is)
      | else-is_empty w ↦
          let some : ¬ (c.args.self.now.out ≡ []) = search rules in
          rw w.rest-is (took_none g.S.Stream.gave g.S.Stream.wrote c.args.self.now c.args.bytes.now
          c.saturating_add-self.result c.if-is_empty.self some c.saturating_add-self.ensures w.self-is)
    ] in
    inr (rest_lost g.S.Stream.gave g.S.Stream.wrote c.args.self.now c.args.bytes.now c.if-is_empty.rest.now
    c.if-is_empty.self c.append.result c.append.new.self c.want_memory.new.self first c.if-is_err.ensures.value
    c.append.ensures.err c.want_memory.ensures)

pub returns-else-is_err : goal.returns-else-is_err
returns-else-is_err g c =
    let first : TookFirst g.S.Stream.gave g.S.Stream.wrote c.args.self.now c.args.bytes.now c.if-is_empty.rest.now
    c.if-is_empty.self = elim c.if-is_empty.branch [
      | then-is_empty w ↦
          let none : c.args.self.now.out ≡ [] = search rules in
          rw w.rest-is (took_first g.S.Stream.gave g.S.Stream.wrote c.args.self.now c.args.bytes.now
          w.write-rest.result.now w.write-rest.new.self c.saturating_add-self.result c.if-is_empty.self none
          c.saturating_add-self.ensures w.write-rest.ensures.written w.write-rest.ensures.others w.self-is)
      | else-is_empty w ↦
          let some : ¬ (c.args.self.now.out ≡ []) = search rules in
          rw w.rest-is (took_none g.S.Stream.gave g.S.Stream.wrote c.args.self.now c.args.bytes.now
          c.saturating_add-self.result c.if-is_empty.self some c.saturating_add-self.ensures w.self-is)
    ] in
    inl (rest_kept g.S.Stream.gave g.S.Stream.wrote c.args.self.now c.args.bytes.now c.if-is_empty.rest.now
    c.if-is_empty.self c.append.result c.append.new.self first c.if-is_err.ensures.value c.append.ensures.ok)
