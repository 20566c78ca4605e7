use Rattle.std.proofs.Common.{[], refl, ◌∙◌, map, drop, arith, ◌+◌, ◌≡◌, length}
use Rattle.cluster_world.specs.InCode.{life_of, placing_server}
use Rattle.world_law.specs.Changes.{placement_of}
use Rattle.world_law.specs.Play.{placements_put}
use Rattle.mesh_script.specs.Placing.{cluster_named}
use Rattle.mesh_script.proofs.Putting.{puts_failed, some_breaks, some_stops, some_flushed, some_more}
use Rattle.mesh_script.proofs.Texts.{put_dropped, text_split, count_split}
use Rattle.mesh_script.proofs.output.put_step.Goals as goal

pub returns-in_err-flush_much-clause-text : goal.returns-in_err-flush_much-clause-text
returns-in_err-flush_much-clause-text g c =
    puts_failed _ _ _ _ _ _ c.from_residual.ensures.0
    (some_breaks _ _ [] _ _ _ _ _ _ refl c.loop-placed.invariant.some c.in_err-flush_much.ensures.text)

pub returns-in_err-more-clause-text : goal.returns-in_err-more-clause-text
returns-in_err-more-clause-text g c =
    puts_failed _ _ _ _ _ _ c.from_residual-in_err-more.ensures.0
    (some_stops _ _ _ _ _ _ (some_flushed _ _ _ _ _ _ _ _ c.loop-placed.invariant.some c.in_ok-flush_much.ensures.text))

pub returns-in_default-clause-text : goal.returns-in_default-clause-text
returns-in_default-clause-text g c =
    some_stops _ _ _ _ _ _ (some_flushed _ _ _ _ _ _ _ _ c.loop-placed.invariant.some c.in_ok-flush_much.ensures.text)

pub loop-placed-preserved : goal.loop-placed-preserved
loop-placed-preserved g c =
    let l = cluster_named c.args.known.names.now in
    let lives = map life_of c.args.known.lives.now in
    let server = placing_server c.args.placements.now.node c.args.placements.now.inc in
    let now = c.args.placements.now.step in
    let items = c.args.placements.now.entries.items in
    let i = c.loop-placed.placed-index in
    let x = c.placed-item.result in
    let first = placement_of server now x.conn x.headers x.entry.bytes x.entry.tag in
    let all = placements_put server now (drop i items) in
    let rest = placements_put server now (drop (i + 1) items) in
    let split = put_dropped server now c.deref-placed-items.result.now items i x c.deref-placed-items.ensures.value
    c.loop-placed-test.true c.placed-item.is in
    let counts : length all ≡ length first + length rest = count_split all first rest split in
    let sum = c.in-Some.ensures.1 in
    let one = c.in_ok-more.ensures.counted in
    let so_far = c.loop-placed.invariant.count in
    record {
      some =
          some_more _ _ _ _ _ _ _ _ _ (text_split l lives all first rest split)
          (some_flushed _ _ _ _ _ _ _ _ c.loop-placed.invariant.some c.in_ok-flush_much.ensures.text)
          c.in_ok-more.ensures.text;
      count = omega arith;
      failures = c.in_ok-flush_much.ensures.failures ∙ c.loop-placed.invariant.failures;
    }
