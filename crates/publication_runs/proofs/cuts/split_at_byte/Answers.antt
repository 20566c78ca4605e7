use Rattle.publication_runs.proofs.Bytes.{found_nowhere, found_at}
use Rattle.publication_runs.proofs.cuts.split_at_byte.Goals as goal

pub returns-in_err-at : goal.returns-in_err-at
returns-in_err-at c = rw c.from_residual.ensures (found_nowhere c.args.byte c.args.text.now c.in_err-at.ensures)

pub returns : goal.returns
returns c =
    found_at c.args.byte c.args.text.now c.split_at.result.0.now c.split_at.result.1.now c.in_ok-at.at
    c.in_ok-at.ensures c.split_at.ensures.front c.split_at.ensures.back
