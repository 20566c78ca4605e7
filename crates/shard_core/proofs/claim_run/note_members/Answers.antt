use Rattle.std.proofs.Common.{◌<◌, length, refl, arith}
use Rattle.std.proofs.lemmas.Option.{slice_get_read}
use Rattle.shard_core.proofs.ClaimNotes.{members_on, undue_on}
use Rattle.shard_core.proofs.claim_run.note_members.Goals as goal

pub loop-place-preserved : goal.loop-place-preserved
loop-place-preserved c =
    let many = c.if-most-eq0.false in
    let some : 0 < c.in_ok-most.most = omega (arith, many) in
    let below = c.in_ok-most.ensures.few in
    let most = c.loop-place.invariant.few in
    let at =
    slice_get_read c.args.receivers.now (length c.args.receivers.now) c.loop-place.place
    c.index-receivers-place.result refl c.loop-place-test.true c.index-receivers-place.is in
    let notes = c.in_ok-most.ensures.noted some in
    record {
      few = omega (arith, below, most);
      undue =
          undue_on c.in_ok-most.most c.loop-place.most c.loop-place.place c.args.claims.now.first
          c.args.claims.now.name.now c.args.receivers.now c.index-receivers-place.result c.args.conns.now.next
          c.loop-place.members.items c.note_member.new.members.items below at notes c.loop-place.invariant.undue;
      members =
          members_on c.in_ok-most.most c.loop-place.most c.loop-place.place c.args.claims.now.first
          c.args.claims.now.name.now c.args.receivers.now c.index-receivers-place.result c.args.conns.now.next
          c.loop-place.members.items c.note_member.new.members.items below at notes c.loop-place.invariant.members;
    }
