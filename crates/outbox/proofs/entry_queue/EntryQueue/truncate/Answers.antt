use Rattle.std.proofs.Common.{◌≡◌, ◌-◌, ◌≤◌, List, length, take, refl, ap, sym, ◌∙◌, arith, length-take-le}
use Rattle.std.proofs.lemmas.List.{take-take, take_all}
use Rattle.outbox.specs.Views.{Written}
use Rattle.outbox.proofs.entry_queue.EntryQueue.truncate.Goals as goal

-- one entry less of the first ones
one_less : (xs ys zs : List Written)
    → ys ≡ take (length ys) xs
    → zs ≡ take (length ys - 1) ys
    → (zs ≡ take (length zs) xs) × (length zs ≡ length ys - 1)
one_less xs ys zs first less =
    let n = length ys in
    let len : length zs ≡ n - 1 = ap length less ∙ length-take-le (n - 1) ys (omega arith) in
    (less ∙ ap (take (n - 1)) first ∙ take-take (n - 1) n xs (omega arith) ∙ ap (λ k. take k xs) (sym len), len)

pub loop-dropped-init : goal.loop-dropped-init
loop-dropped-init c = record {
  entries = sym (take_all (length c.args.self.now.entries) c.args.self.now.entries (omega arith));
  left = refl;
  places = λ count small was. was;
}

pub drop_last-requires : goal.drop_last-requires
drop_last-requires c =
    let left = c.loop-dropped.invariant.left in
    let all = c.len-dropped-end.ensures in
    let test = c.loop-dropped-test.true in
    omega arith

pub loop-dropped-preserved : goal.loop-dropped-preserved
loop-dropped-preserved c =
    let kept = c.loop-dropped.invariant in
    let less = one_less c.args.self.now.entries c.loop-dropped.self.entries c.drop_last.new.self.entries kept.entries
    c.drop_last.ensures.entries in
    let left = kept.left in
    let all = c.len-dropped-end.ensures in
    let test = c.loop-dropped-test.true in
    let len = less.1 in
    record {
      entries = less.0;
      left = omega arith;
      places =
          λ count small was. c.drop_last.ensures.places count small (kept.places count (omega (arith, small, len)) was);
    }

pub returns-clause-entries : goal.returns-clause-entries
returns-clause-entries c =
    let kept = c.loop-dropped.invariant in
    let left = kept.left in
    let all = c.len-dropped-end.ensures in
    let there = c.requires in
    let end = c.loop-dropped.auto._dropped-end in
    let test = c.loop-dropped-test.false in
    let upto : c.args.count ≤ c.len-dropped-end.result = omega arith in
    let last = end upto in
    let len : length c.loop-dropped.self.entries ≡ c.args.count = omega arith in
    kept.entries ∙ ap (λ n. take n c.args.self.now.entries) len

pub returns-clause-places : goal.returns-clause-places
returns-clause-places c = λ was.
    let kept = c.loop-dropped.invariant in
    let left = kept.left in
    let all = c.len-dropped-end.ensures in
    let there = c.requires in
    let end = c.loop-dropped.auto._dropped-end in
    let test = c.loop-dropped-test.false in
    let upto : c.args.count ≤ c.len-dropped-end.result = omega arith in
    let last = end upto in
    let len : length c.loop-dropped.self.entries ≡ c.args.count = omega arith in
    kept.places c.args.count (omega (arith, len)) was
