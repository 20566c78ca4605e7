-- What was read stands behind the bytes that were kept.
use Rattle.std.proofs.Common.{◌≡◌, length, take, ap, ◌∙◌, sym, arith}
use Rattle.std.proofs.lemmas.Grind.{common_steps}
use Rattle.std.proofs.lemmas.Result.{err_from_is_err_and}
use Rattle.wire_cut.proofs.WindowLemmas.{grown_items, kept_items}
use Rattle.wire_cut.proofs.window.Window.read_from.Goals as goal

pub returns-clause-ok : goal.returns-clause-ok
returns-clause-ok g c =
    let told = c.in_ok-count.ensures.bytes in
    let bound = c.in_ok-count.ensures.bound in
    let room : length c.read.new.buffer ≡ c.args.most = grind (arith, common_steps, c.in_ok-self-inside.ensures.room) in
    record {
      bytes = take c.in_ok-count.count c.read.new.buffer;
      grown =
          grown_items _ _ _ _ _ _ _ _ c.in_ok-count.count (omega arith)
          (omega (arith, c.in_ok-self-inside.ensures.room)) (sym c.make_room.new.buffer.ok.0) c.deref_mut.ensures.value
          (omega arith) (omega arith) (c.in_ok-self-inside.ensures.kept ∙ ap (λ w. w.unread) c.self.view_is);
      count = sym bound.1;
      bound = omega arith;
      consumed = told.0;
      end = λ none some. told.1 none (omega arith);
    }

pub returns-in_err-count-clause-err : goal.returns-in_err-count-clause-err
returns-in_err-count-clause-err g c =
    let room : length c.read.new.buffer ≡ c.args.most = grind (arith, common_steps, c.in_ok-self-inside.ensures.room) in
    let failed = err_from_is_err_and c.from_residual-in_err-count.result c.from_residual-in_err-count.ensures.1 in
    rw failed.1 (kept_items _ _ _ _ _ _ _ _ (omega arith) (omega (arith, c.in_ok-self-inside.ensures.room))
    (sym c.make_room.new.buffer.ok.0) c.deref_mut.ensures.value (omega arith)
    (c.in_ok-self-inside.ensures.kept ∙ ap (λ w. w.unread) c.self.view_is))
