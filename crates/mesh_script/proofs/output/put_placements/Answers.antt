use Rattle.std.proofs.Common.{◌∙◌, map, drop, arith, ◌+◌, ◌≡◌, length}
use Rattle.std.specs.List.{flat_map}
use Rattle.cluster_world.specs.InCode.{life_of, placements_in}
use Rattle.mesh_script.specs.Placing.{cluster_named}
use Rattle.mesh_script.proofs.Putting.{puts_failed, some_breaks, some_on}
use Rattle.mesh_script.proofs.Texts.{flat_dropped, text_split, count_split}
use Rattle.mesh_script.proofs.output.put_placements.Goals as goal

pub returns-in_err-count-clause-text : goal.returns-in_err-count-clause-text
returns-in_err-count-clause-text g c =
    let xs = c.args.all.now in
    let i = c.loop-placements.placements-index in
    let x = c.placements-item.result in
    let split = flat_dropped placements_in xs i x c.loop-placements-test.true c.placements-item.is in
    puts_failed _ _ _ _ _ _ c.from_residual.ensures.0
    (some_breaks _ _ _ _ _ _ _ _ _
    (text_split (cluster_named c.args.known.names.now) (map life_of c.args.known.lives.now) _ _ _ split)
    c.loop-placements.invariant.some c.in_err-count.ensures.text)

pub loop-placements-preserved : goal.loop-placements-preserved
loop-placements-preserved g c =
    let xs = c.args.all.now in
    let i = c.loop-placements.placements-index in
    let x = c.placements-item.result in
    let all = flat_map placements_in (drop i xs) in
    let rest = flat_map placements_in (drop (i + 1) xs) in
    let split = flat_dropped placements_in xs i x c.loop-placements-test.true c.placements-item.is in
    let counts : length all ≡ length (placements_in x) + length rest = count_split all (placements_in x) rest split in
    let sum = c.in_ok-count.ensures.count in
    let so_far = c.loop-placements.invariant.count in
    record {
      some =
          some_on _ _ _ _ _ _ _ _ _ _
          (text_split (cluster_named c.args.known.names.now) (map life_of c.args.known.lives.now) all (placements_in x)
          rest split)
          c.loop-placements.invariant.some c.in_ok-count.ensures.text;
      count = omega arith;
      failures = c.in_ok-count.ensures.failures ∙ c.loop-placements.invariant.failures;
    }
