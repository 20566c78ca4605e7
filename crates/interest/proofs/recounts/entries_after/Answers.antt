use Rattle.std.proofs.Common.{◌≡◌, ◌∷◌, ◌++◌, length, ap, sym, ◌∙◌, arith}
use Rattle.subj.specs.declared.keys.Key.{Key}
use Rattle.interest.specs.Recounts.{below, from_key, without_first, one_if}
use Rattle.interest.proofs.Counting.Recounted.{put_next, put_rises, rest_rises}
use Rattle.interest.proofs.recounts.entries_after.Goals as goal

pub loop-key-preserved : goal.loop-key-preserved
loop-key-preserved c =
    let numbers = c.loop-key.numbers.entries in
    let rest = c.pop_first.new.self.entries in
    let n = c.in-Some.number in
    let key = c.into_key.result in
    let done = c.loop-key.done.items in
    let left = c.loop-key.left.items in
    let done_after = c.put_number.new.done.items in
    let left_after = c.put_number.new.entries.items in
    let removed : numbers ≡ (c.in-Some.key, n) ∷ rest = c.in-Some.ensures.removal in
    let are : numbers ≡ (key, n) ∷ rest = removed ∙ ap (λ (k : Key). (k, n) ∷ rest) (sym c.into_key.ensures) in
    let left_is : left_after ≡ without_first key (from_key key left) = c.put_number.ensures.left in
    let done_is : done_after ≡ done ++ (below key left ++ one_if key n) = c.put_number.ensures.done in
    record {
      rising =
          put_rises numbers rest done left (key, n) are c.loop-key.invariant.ordered done_after left_after left_is
          c.loop-key.invariant.rising;
      ordered =
          rest_rises numbers rest done left (key, n) are c.loop-key.invariant.ordered done_after left_after left_is;
      room =
          (let fewer = ap length are in
          let room = c.loop-key.invariant.room in
          let more = c.put_number.ensures.room in
          let same = c.put_number.ensures.capacity in
          omega arith);
      items =
          put_next numbers rest done left (key, n) are c.loop-key.invariant.ordered done_after left_after left_is
          done_is c.loop-key.invariant.rising
          ∙ c.loop-key.invariant.items;
      capacity = c.put_number.ensures.capacity ∙ c.loop-key.invariant.capacity;
    }
