use Rattle.std.proofs.Common.{arith}
use Rattle.std.specs.Option.{option_copied}
use Rattle.cluster_world.specs.Adding.{closed_if}
use Rattle.cluster_world.specs.InCode.{life_of}
use Rattle.cluster_world.proofs.Clusters.Living.{map_on, rest_on, whole}
use Rattle.cluster_world.proofs.lists.close_lives.Goals as goal

pub loop-i-preserved : goal.loop-i-preserved
loop-i-preserved c =
    let r = c.index-lives-i.result in
    let y = c.close_if.new.life in
    let a = c.args.acted.now in
    record {
      rest = rest_on c.loop-i.lives c.args.lives.now c.loop-i.i y c.loop-i.invariant.rest;
      so_far =
          map_on life_of (λ x. closed_if a.step a.node a.inc (option_copied c.args.ended) (life_of x)) c.loop-i.lives
          c.args.lives.now c.loop-i.i r y (omega (arith, c.loop-i-test.true, c.loop-i.auto.lives, c.loop-i.auto.i-end))
          (omega (arith, c.loop-i-test.true, c.loop-i.auto.lives, c.loop-i.auto.i-end)) c.loop-i.invariant.rest
          c.close_if.ensures c.loop-i.invariant.so_far;
    }

pub returns : goal.returns
returns c =
    let a = c.args.acted.now in
    whole life_of (closed_if a.step a.node a.inc (option_copied c.args.ended)) c.loop-i.lives c.args.lives.now
    c.loop-i.i (omega (arith, c.loop-i-test.false, c.loop-i.auto.lives, c.loop-i.auto.i-end))
    (omega (arith, c.loop-i-test.false, c.loop-i.auto.lives, c.loop-i.auto.i-end)) c.loop-i.invariant.so_far
