-- What came in stands behind the bytes that were kept.
use Rattle.std.proofs.Common.{◌≡◌, ◌++◌, length, take, ap, ◌∙◌, sym, arith}
use Rattle.std.proofs.lemmas.List.{take_all}
use Rattle.wire_cut.proofs.WindowLemmas.{grown_items}
use Rattle.wire_cut.proofs.window.Window.append.Goals as goal

pub returns-clause-ok : goal.returns-clause-ok
returns-clause-ok c =
    let copied = c.copy_from_slice.ensures.after in
    let all : take (length c.args.bytes.now) c.copy_from_slice.new.self ≡ c.args.bytes.now =
    rw copied (take_all _ _ (omega arith)) in
    grown_items _ _ _ _ _ _ _ _ (length c.args.bytes.now) (omega arith)
    (omega (arith, c.in_ok-self-inside.ensures.room)) (sym c.make_room.new.buffer.ok.0) c.deref_mut.ensures.value
    (omega (arith, ap length copied)) (omega arith)
    (c.in_ok-self-inside.ensures.kept ∙ ap (λ w. w.unread) c.self.view_is)
    ∙ ap (λ bytes. c.args.self.now.unread ++ bytes) all
