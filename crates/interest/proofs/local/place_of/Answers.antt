use Rattle.std.proofs.Common.{rules, ℕ}
use Rattle.subj.specs.declared.keys.Key.{Key}
use Rattle.subj.specs.Keys.{key_cmp}
use Rattle.interest.proofs.Matching.Calls.{always_same}
use Rattle.interest.specs.KeyOrder.{key_order_total}
use Rattle.interest.proofs.Counting.Places.{searched}
use Rattle.interest.proofs.local.place_of.Goals as goal

pub returns : goal.returns
returns c =
    let key = c.args.key.now in
    let facts = c.binary_search_by.ensures in
    searched key_order_total key c.args.entries.now c.binary_search_by.result c.requires facts.bound
    (facts.position (λ (entry : Key × ℕ). key_cmp entry.0 key)
    (always_same _ _ _ (λ a r f' called. (search rules, search rules))))
