use Rattle.std.proofs.Common.{Bool, Option, Some, None, refl, sym, ap, ◌∙◌, subst}
use Rattle.std.specs.Prelude.{IsSome, if◌then◌else◌}
use Rattle.std.proofs.lemmas.Option.{same_Some}
use Rattle.route_values.specs.Frames.{Frame}
use Rattle.hub_core.proofs.Neighbours.Sending.{listed_name}
use Rattle.hub_core.proofs.peers.frame_to.Goals as goal

pub unwrap-requires : goal.unwrap-requires
unwrap-requires c =
    let here : Frame = record {
      from = c.name.result;
      inc = c.inc.result;
      to = c.index-names-place.result;
      to_inc = c.args.inc;
      number = c.args.number;
      body = c.args.body;
    } in
    let some_where : Bool → Option Frame = λ is. if is then Some here else None in
    subst IsSome (sym (c.new-frame.ensures ∙ ap some_where c.requires.number)) refl

pub returns : goal.returns
returns c =
    let server = c.args.server.now in
    let to = c.index-names-place.result in
    let here : Frame = record {
      from = c.name.result;
      inc = c.inc.result;
      to = to;
      to_inc = c.args.inc;
      number = c.args.number;
      body = c.args.body;
    } in
    let some_where : Bool → Option Frame = λ is. if is then Some here else None in
    let called =
    listed_name server c.names.result.now c.args.place to c.names.ensures c.requires.place c.index-names-place.is in
    same_Some c.unwrap.result here (sym c.unwrap.ensures ∙ c.new-frame.ensures ∙ ap some_where c.requires.number)
    ∙ (λ k. record here { from = c.name.ensures k; inc = c.inc.ensures k; to = called k })
