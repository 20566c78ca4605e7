use Rattle.std.proofs.Common.{sym, ap, ◌∙◌}
use Rattle.wire_cut.specs.Cut.{payload}
use Rattle.client_conn.specs.declared.conn.Looked.TheVariants as looks
use Rattle.client_conn.specs.Items.{body_in}
use Rattle.client_conn.proofs.Looking.{moved, published_found, bad_headers_found, passed, line_due_behind, unread_moved}
use Rattle.client_conn.proofs.conn.ItemReader.publication.Goals as goal

pub returns-in-Err-clause-ok : goal.returns-in-Err-clause-ok
returns-in-Err-clause-ok c =
    let cut = rw c.in-Err.fault-is at c.in-Err.ensures.answer in
    unread_moved c.end_with.result c.args.open_asks.now c.end_with.new.open_asks c.args.self.now c.end_with.new.self
    c.in-Err.fault c.of_cut.result c.requires.step c.requires.reads (sym cut) c.end_with.ensures.told c.of_cut.ensures
    c.end_with.ensures.asks c.end_with.ensures.ended

pub returns-in_default-clause-ok : goal.returns-in_default-clause-ok
returns-in_default-clause-ok c =
    let cut =
    rw (c.in-Ok-Some-Payload.field-0-is, c.in-Ok-Some-Payload.field-0-0-is) at c.in-Ok-Some-Payload.ensures.answer in
    let none = sym c.in_default.is ∙ c.in_ok-copy_body-in-Ok-Some-Payload.ensures.body
    ∙ ap (λ h. body_in h c.in-Ok-Some-Payload.bytes.now) c.headers-headers.ensures in
    moved c.lose.result c.args.open_asks.now c.lose.new.open_asks c.args.self.now
    (payload c.in-Ok-Some-Payload.bytes.now) _ c.requires.step c.requires.reads (sym cut)
    (bad_headers_found c.lose.result c.args.open_asks.now c.lose.new.open_asks c.requires.due.0 c.args.self.now.awaited
    c.in-Ok-Some-Payload.bytes.now _ _ c.lose.ensures.told c.requires.due.1 none c.lose.ensures.asks
    (passed c.args.self.now c.lose.new.self c.requires.reads c.lose.ensures.passed))

pub returns-clause-ok : goal.returns-clause-ok
returns-clause-ok c =
    let cut =
    rw (c.in-Ok-Some-Payload.field-0-is, c.in-Ok-Some-Payload.field-0-0-is) at c.in-Ok-Some-Payload.ensures.answer in
    let some = sym c.in-Some.is ∙ c.in_ok-copy_body-in-Ok-Some-Payload.ensures.body
    ∙ ap (λ h. body_in h c.in-Ok-Some-Payload.bytes.now) c.headers-headers.ensures in
    let made = c.in_ok-message.ensures.ok in
    moved looks.Told c.args.open_asks.now c.ask_publication.new.self c.args.self.now
    (payload c.in-Ok-Some-Payload.bytes.now) _ c.requires.step c.requires.reads (sym cut)
    (published_found c.args.open_asks.now c.ask_publication.new.self made.0.0 c.args.self.now.awaited
    c.in-Ok-Some-Payload.bytes.now _ c.in-Some.body c.in_ok-message.message _ made.0.1 some made.0.2
    c.ask_publication.ensures
    (line_due_behind c.args.self.now.cutter c.consume.new.self c.args.self.now.ended _ c.requires.reads made.1
    c.consume.ensures))
