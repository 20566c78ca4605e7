use Rattle.std.proofs.Common.{Some, sym, ap, ◌∙◌}
use Rattle.std.specs.Option.{option_map, option_copied}
use Rattle.shard_core.specs.Answers.{call_of}
use Rattle.shard_core.proofs.Closings.Serials.{called_by_serial}
use Rattle.shard_core.proofs.shard.called_sub.Goals as goal

pub returns-in_err-sub : goal.returns-in_err-sub
returns-in_err-sub g c =
    c.from_residual-in_err-sub.ensures
    ∙ sym (ap (option_map (call_of c.args.max))
    (called_by_serial c.args.conn c.args.sid.now _ c.in_ok-serial.serial c.requires
    (sym c.find.ensures ∙ c.in_ok-serial.was) ∙ sym c.get.ensures ∙ ap option_copied c.in_err-sub.was))

pub returns : goal.returns
returns g c =
    ap (λ ends. Some (record { serial = c.in_ok-sub.sub.now.serial; ends = ends })) c.ends_now.ensures
    ∙ sym (ap (option_map (call_of c.args.max))
    (called_by_serial c.args.conn c.args.sid.now _ c.in_ok-serial.serial c.requires
    (sym c.find.ensures ∙ c.in_ok-serial.was) ∙ sym c.get.ensures ∙ ap option_copied c.in_ok-sub.was))
