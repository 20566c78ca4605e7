use Rattle.std.proofs.Common.{◌≡◌, drop}
use Rattle.serde_json.specs.View.{items_view}
use Rattle.script_form.specs.Form.{each}
use Rattle.script_form.specs.Members.{node}
use Rattle.script_form.proofs.Lists.{front}
use Rattle.script_form.proofs.script.read_names.Given as goal

-- the names so far and those of the rest are all
abbrev pub invariant-loop-item : goal.invariant-loop-item
invariant-loop-item l =
    front l.names.items (each node (items_view (drop l.item-index l.items))) ≡ each node (items_view l.items)
