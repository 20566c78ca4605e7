use Rattle.std.proofs.Common.{◌≡◌, drop}
use Rattle.serde_json.specs.View.{items_view}
use Rattle.script_form.specs.Acts.{step_in}
use Rattle.script_form.specs.Form.{each}
use Rattle.script_form.proofs.Lists.{front}
use Rattle.script_form.proofs.script.read_steps.Given as goal

-- the steps so far and those of the rest are all
abbrev pub invariant-loop-item : goal.invariant-loop-item
invariant-loop-item l =
    front l.steps.items (each step_in (items_view (drop l.item-index l.items))) ≡ each step_in (items_view l.items)
