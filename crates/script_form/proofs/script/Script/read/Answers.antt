use Rattle.std.proofs.Common.{arith}
use Rattle.script_form.proofs.Texts.{some_bytes}
use Rattle.script_form.proofs.script.Script.read.Goals as goal

pub returns-in-Err-OutOfMemory : goal.returns-in-Err-OutOfMemory
returns-in-Err-OutOfMemory c = (some_bytes c.args.bytes.now _ c.in_ok-json.ensures, grind arith)
