-- The order of keys is a total order, and keys that tie are the same.
use Rattle.std.specs.Cmp.{IsTotalOrder, then_total, on_total}
use Rattle.std.specs.Cmp.Lexicographic.{nat_list_cmp_total, options_total}
use Rattle.subj.specs.declared.keys.Key.{Key}
use Rattle.subj.specs.Keys.{key_cmp}

pub key_order_total : IsTotalOrder key_cmp
key_order_total =
    then_total (on_total (λ (key : Key). key.pattern) nat_list_cmp_total)
    (on_total (λ (key : Key). key.queue) (options_total nat_list_cmp_total))
