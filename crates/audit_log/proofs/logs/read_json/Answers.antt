use Rattle.std.proofs.Common.{rules, refl, sym}
use Rattle.serde_json.specs.Errors.{IsMemory}
use Rattle.client_frames.proofs.Texts.{is_json, no_json}
use Rattle.audit_log.proofs.logs.read_json.Goals as goal

pub returns-in-Ok : goal.returns-in-Ok
returns-in-Ok c = sym (is_json c.args.line.now _ c.in-Ok.ensures.ok.0 c.in-Ok.ensures.ok.1)

pub returns-else-is_memory : goal.returns-else-is_memory
returns-else-is_memory c =
    let text : ¬ (IsMemory c.in-Err.error) = search rules in
    (sym (no_json c.args.line.now (c.in-Err.ensures.err text)), refl)
