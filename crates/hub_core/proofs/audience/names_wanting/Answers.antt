use Rattle.hub_core.proofs.Choices.Audiences.{some_names}
use Rattle.hub_core.proofs.audience.names_wanting.Goals as goal

pub unwrap-requires : goal.unwrap-requires
unwrap-requires c =
    some_names c.args.server.now c.args.counts.now c.args.peers.now c.args.subject.now c.gather_names.new.names
    c.in_ok-copies.copies.items c.in_ok-names.names c.in_ok-names.ensures.names c.in_ok-copies.ensures
    c.in-Ok.ensures.0 c.in-Ok.ensures.1
