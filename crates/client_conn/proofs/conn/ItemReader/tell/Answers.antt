use Rattle.std.proofs.Common.{sym, ap, subst}
use Rattle.wire_cut.specs.Reading.{finding_before}
use Rattle.client_frames.specs.Streams.{client_grammar, command_told}
use Rattle.client_frames.specs.declared.client_line.Awaited.TheVariants as awaits
use Rattle.client_conn.specs.Streams.{end_of, TellsFound}
use Rattle.client_conn.specs.declared.conn.Looked.TheVariants as looks
use Rattle.client_conn.proofs.Looking.{announced, command_asked, is_in_step, too_large}
use Rattle.client_conn.proofs.conn.ItemReader.tell.Goals as goal

pub returns-in-Pub-clause-tells : goal.returns-in-Pub-clause-tells
returns-in-Pub-clause-tells c =
    subst (λ l.
    TellsFound c.announce.result c.args.open_asks.now c.announce.new.open_asks
    (finding_before client_grammar c.args.self.now.cutter.unread (command_told l)) (end_of c.announce.new.self))
    (sym c.in-Pub.is) c.announce.ensures.tells

pub returns-in-Err-clause-tells : goal.returns-in-Err-clause-tells
returns-in-Err-clause-tells c =
    subst (λ l.
    TellsFound c.end_with.result c.args.open_asks.now c.end_with.new.open_asks
    (finding_before client_grammar c.args.self.now.cutter.unread (command_told l)) (end_of c.end_with.new.self))
    (sym c.in-PubBad.is)
    (too_large c.end_with.result c.args.open_asks.now c.end_with.new.open_asks c.args.self.now c.end_with.new.self
    (awaits.LostPayload c.in-PubBad.size) c.in-PubBad.size c.in-Err.fault c.of_cut.result c.requires.behind
    (sym c.in-Err.ensures.answer) c.end_with.ensures.told c.of_cut.ensures c.end_with.ensures.asks
    (ap end_of c.end_with.ensures.ended))

pub returns-in_default-expect-clause-tells : goal.returns-in_default-expect-clause-tells
returns-in_default-expect-clause-tells c =
    subst (λ l.
    TellsFound looks.Announced c.args.open_asks.now c.args.open_asks.now
    (finding_before client_grammar c.args.self.now.cutter.unread (command_told l))
    (end_of (record c.args.self.now { cutter = c.expect.new.self; awaited = awaits.LostPayload c.in-PubBad.size })))
    (sym c.in-PubBad.is)
    (announced c.args.open_asks.now c.args.self.now c.expect.new.self (awaits.LostPayload c.in-PubBad.size)
    c.in-PubBad.size c.requires.behind (sym c.in_default-expect.ensures.answer) c.expect.ensures.state)

pub returns-in_default : goal.returns-in_default
returns-in_default c = record {
  tells =
      command_asked c.args.open_asks.now c.ask_command.new.self c.args.self.now c.args.command c.requires.behind
      c.in_default.not-Pub c.in_default.not-PubBad c.ask_command.ensures;
  step = is_in_step c.args.self.now c.requires.behind;
}
