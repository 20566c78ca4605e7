-- A line that was passed is on the subject, and announces the payload that is looked for behind it.
use Rattle.std.proofs.Common.{◌<◌, arith}
use Rattle.publication_runs.specs.declared.runs.LentRun.TheInside.{Inside}
use Rattle.publication_runs.specs.Cuts.{fields_in}
use Rattle.publication_runs.specs.Lent.{LentState}
use Rattle.publication_runs.proofs.Scanned.{no_line_there, no_payload_there, found_ahead}
use Rattle.publication_runs.proofs.runs.LentRun.peek.Goals as goal

abbrev state_of : Inside → LentState
state_of run = record {
  run = record { behind = run.behind.now; left = run.left };
  subject = run.subject.now;
  echo = run.echo;
}

pub returns-in_err-behind_line-clause-ended : goal.returns-in_err-behind_line-clause-ended
returns-in_err-behind_line-clause-ended c =
    let s = state_of c.self.inside in
    rw (c.from_residual.ensures, ← c.self.view_is)
    (no_line_there s.subject s.run (rw c.of.ensures at c.in_err-behind_line.ensures.none))

pub returns-in_err-payload-clause-ended : goal.returns-in_err-payload-clause-ended
returns-in_err-payload-clause-ended c =
    let s = state_of c.self.inside in
    let line = c.in-Some.line in
    rw (c.from_residual-in_err-payload.ensures, ← c.self.view_is)
    (no_payload_there s.subject s.run line.text.now (fields_in line.fields) line.size
    c.in_ok-behind_line.behind_line.now line.plain (rw c.in-Some.is at c.in_ok-behind_line.ensures.line)
    c.in_err-payload.ensures)

pub returns-clause-found : goal.returns-clause-found
returns-clause-found c =
    let s = state_of c.self.inside in
    let line = c.in-Some.line in
    let more : 0 < s.run.left = omega arith in
    rw (← c.self.view_is)
    (found_ahead s line.text.now (fields_in line.fields) line.size c.in_ok-behind_line.behind_line.now
    c.in_ok-payload.payload.now c.in_ok-payload.behind.now c.new.result line.plain
    (rw (c.in-Some.is, c.of.ensures) at c.in_ok-behind_line.ensures.on)
    (rw c.in-Some.is at c.in_ok-behind_line.ensures.line) c.in_ok-payload.ensures more
    (rw c.subject.ensures at c.new.ensures))
