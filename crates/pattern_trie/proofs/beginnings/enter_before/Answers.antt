use Rattle.std.proofs.Common.{rules, arith, subst, sym, take, ◌+◌, ◌∙◌, ap}
use Rattle.std.proofs.lemmas.List.{take_rest}
use Rattle.pattern_trie.specs.Beginnings.{is_beginning}
use Rattle.std.proofs.lemmas.Bool.Decides.{nat_tests}
use Rattle.pattern_trie.specs.Classes.{is_in}
use Rattle.pattern_trie.specs.Nodes.{Enters, EntersEach}
use Rattle.pattern_trie.proofs.Marked.{begins_marked}
use Rattle.pattern_trie.proofs.Steps.{enters_one, enters_none}
use Rattle.pattern_trie.proofs.beginnings.enter_before.Goals as goal
use Rattle.pattern_trie.proofs.beginnings.enter_before.Goals.{then-text-at-eq46+else-is_err, else-text-at-eq46}

pub loop-at-preserved : goal.loop-at-preserved
loop-at-preserved g c =
    elim c.if-text-at-eq46.branch [
      | then-text-at-eq46+else-is_err w ↦
          let this : Enters (take c.loop-at.at c.args.text.now) (λ k. is_in k w.of_first_token-marks.result)
          c.loop-at.nodes w.enter.new.nodes = search rules in
          enters_one c.args.text.now c.loop-at.at (λ k. is_in k w.of_first_token-marks.result) c.args.nodes.now
          c.loop-at.nodes _ c.loop-at-test.true (grind (arith, nat_tests))
          (λ k so.
          begins_marked k _ w.of_first_token-marks.result w.of_first_token-marks.ensures
          (ap (is_beginning k) (take_rest c.args.text.now (c.loop-at.at + 1)) ∙ so))
          c.loop-at.invariant (subst (Enters _ _ c.loop-at.nodes) (sym w.nodes-is) this)
      | else-text-at-eq46 w ↦
          enters_none c.args.text.now c.loop-at.at c.args.nodes.now _ (grind (arith, nat_tests))
          (subst (EntersEach _ _ c.args.nodes.now) (sym w.nodes-is) c.loop-at.invariant)
    ]
