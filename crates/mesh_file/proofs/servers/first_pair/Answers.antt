use Rattle.std.proofs.Common.{◌<◌, length, sym, ap, ◌∙◌, arith}
use Rattle.std.specs.List.{position}
use Rattle.mesh_file.proofs.Firsts.{earlier_more, first_found, with_server}
use Rattle.mesh_file.proofs.servers.first_pair.Goals as goal

pub returns-in-Some : goal.returns-in-Some
returns-in-Some c =
    let within : c.loop-first.first < length c.args.servers.now = omega arith in
    first_found c.args.shared c.args.servers.now c.loop-first.first c.in-Some.behind c.index-servers-first.result within
    c.index-servers-first.is
    (ap (position (with_server c.args.shared c.index-servers-first.result)) (sym c.split_at.ensures.back)
    ∙ sym c.in-Some.ensures)
    c.loop-first.invariant

pub loop-first-preserved : goal.loop-first-preserved
loop-first-preserved c =
    let within : c.loop-first.first < length c.args.servers.now = omega arith in
    earlier_more c.args.shared c.args.servers.now c.loop-first.first c.index-servers-first.result within
    c.index-servers-first.is
    (ap (position (with_server c.args.shared c.index-servers-first.result)) (sym c.split_at.ensures.back)
    ∙ sym c.in_default.ensures)
    c.loop-first.invariant
