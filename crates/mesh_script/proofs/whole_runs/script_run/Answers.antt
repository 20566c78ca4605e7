use Rattle.mesh_script.proofs.Alike.{ends_alike, reads_alike, runs_alike, writes_alike}
use Rattle.mesh_script.proofs.whole_runs.script_run.Goals as goal

pub returns-in-Ok-clause-text : goal.returns-in-Ok-clause-text
returns-in-Ok-clause-text g c = runs_alike _ _ _ _ _ _ (λ read answers. answers) c.in-Ok.ensures.text

pub returns-in-Err-clause-text : goal.returns-in-Err-clause-text
returns-in-Err-clause-text g c =
    runs_alike _ _ _ _ _ _ (λ read answers. ends_alike (Unit {0}) (Unit {0}) c.in-Err.fault read _ _ _ answers)
    c.in-Err.ensures.text

pub returns-in-Err-clause-reads : goal.returns-in-Err-clause-reads
returns-in-Err-clause-reads g c = reads_alike (Unit {0}) (Unit {0}) c.in-Err.fault _ _ c.in-Err.ensures.reads

pub returns-in-Err-clause-writes : goal.returns-in-Err-clause-writes
returns-in-Err-clause-writes g c = writes_alike (Unit {0}) (Unit {0}) c.in-Err.fault _ _ c.in-Err.ensures.writes
