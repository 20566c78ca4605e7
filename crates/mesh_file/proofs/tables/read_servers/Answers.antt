use Rattle.std.proofs.Common.{◌<◌, length, arith}
use Rattle.mesh_file.proofs.Described.{entry_fault, one_more_read}
use Rattle.mesh_file.proofs.tables.read_servers.Goals as goal

pub returns-in-Some-clause-read : goal.returns-in-Some-clause-read
returns-in-Some-clause-read c =
    let within : c.loop-at.at < length c.args.entries.now = omega arith in
    entry_fault c.args.entries.now c.loop-at.at c.index-entries-at.result c.loop-at.servers.items c.in-Some.fault within
    c.index-entries-at.is c.loop-at.invariant.read (rw c.in-Some.is at c.in_ok-refused.ensures)

pub loop-at-preserved : goal.loop-at-preserved
loop-at-preserved c =
    let within : c.loop-at.at < length c.args.entries.now = omega arith in
    let both = one_more_read c.args.entries.now c.loop-at.at c.index-entries-at.result c.loop-at.servers.items
    c.add_server.new.servers.items within c.index-entries-at.is c.loop-at.invariant.read c.loop-at.invariant.valid
    (rw c.in_default.is at c.in_ok-refused.ensures) in
    record { read = both.0; valid = both.1 }
