use Rattle.std.proofs.Common.{refl, sym, ap, ◌∙◌}
use Rattle.std.specs.Option.{option_copied}
use Rattle.mesh_pipe.proofs.Text.Said.{ask_worked, ask_closed, none_there}
use Rattle.mesh_pipe.proofs.pipe.look.Goals as goal

pub returns-in-None : goal.returns-in-None
returns-in-None g c = record {
  same = refl;
  asking = c.next.follows.holds-at-none.asking;
  none = none_there _ (sym c.in_ok-next.ensures.first ∙ ap option_copied c.in-None.is);
}

pub returns-in-Closed : goal.returns-in-Closed
returns-in-Closed g c =
    let serves = rw c.in-Closed.is at c.in_ok-outcome-in-Some.ensures.served in
    ask_closed c.in-Some.ask.now c.args.conn.now c.args.server.now c.serve.new.self
    (sym c.in_ok-next.ensures.first ∙ ap option_copied c.in-Some.is) serves

pub returns-in-Answered : goal.returns-in-Answered
returns-in-Answered g c =
    let serves = rw c.in-Answered.is at c.in_ok-outcome-in-Some.ensures.served in
    let may = rw c.in-Answered.is at c.in_ok-outcome-in-Some.ensures.told in
    let given = c.next.follows.holds-at-none.is_given (rw (c.in_ok-next.was, c.in-Some.is) refl) in
    ask_worked c.in-Answered.answer c.in-Some.ask.now c.args.conn.now c.next.follows.lender-at-none c.answer.new.self
    c.args.server.now c.serve.new.self c.requires (sym c.in_ok-next.ensures.first ∙ ap option_copied c.in-Some.is)
    serves may c.next.follows.holds-at-none.asking given c.answer.ensures
