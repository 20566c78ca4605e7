use Rattle.std.proofs.Common.{rules}
use Rattle.serde_json.specs.Errors.{IsMemory}
use Rattle.route_frames.proofs.Again.Json.{is_json, no_json}
use Rattle.route_frames.proofs.greetings.read_json.Goals as goal

pub returns-in-Ok : goal.returns-in-Ok
returns-in-Ok c = is_json c.args.text.now _ c.in-Ok.ensures.ok.0 c.in-Ok.ensures.ok.1

pub returns-else-is_memory : goal.returns-else-is_memory
returns-else-is_memory c =
    let text : ¬ (IsMemory c.in-Err.error) = search rules in
    no_json c.args.text.now (c.in-Err.ensures.err text)
