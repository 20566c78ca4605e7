use Rattle.std.proofs.Common.{◌≡◌, ◌<◌, length, set, Some, sym, ap, ◌∙◌, subst, refl}
use Rattle.std.specs.Prelude.{slice_get}
use Rattle.std.proofs.lemmas.Option.{slice_get-get_or}
use Rattle.subj.specs.Answers.{IsAnswered}
use Rattle.shard_core.specs.ShardEvents.{WasShut}
use Rattle.node_law.specs.Events.{Own, OfConn}
use Rattle.node_law.specs.declared.faults.NodeFault.TheVariants.{Shard}
use Rattle.shard_core.specs.declared.faults.ShardFault.TheVariants.{NoConn}
use Rattle.node_law.specs.declared.events.ConnEvent.TheVariants.{Shut}
use Rattle.node_core.specs.Served.{ConnStep, served_of_parts, refusal}
use Rattle.node_core.proofs.Calls.Composed.{conn_call, some_lines, no_conn}
use Rattle.node_core.proofs.node.Node.shut.Goals as goal

pub invariant_of-self : goal.invariant_of-self
invariant_of-self g c =
    let old = c.self.inside in
    let lines = old.lines.items in
    let x = c.index_mut-line.result.now in
    let count : c.len.result ≡ length lines = c.len.ensures ∙ old.lines.ok.0 in
    let within : c.in-Some.place < length lines = subst (λ n. c.in-Some.place < n) count c.in-Some.ensures.within in
    let here : slice_get lines c.in-Some.place ≡ Some x =
    slice_get-get_or lines c.in-Some.place x within ∙ ap Some (sym c.index_mut-line.ensures.value) in
    (conn_call old.side (g.R.Race.contents old.race) lines c.args.conn c.len.result c.in-Some.place
    c.place_of_conn.result (Shut c.args.text) x c.shut.new.self (λ ended. WasShut ended.items) c.shut.result
    c.self.invariant count c.place_of_conn.ensures.place c.in-Some.is here c.shut.ensures).keeps

pub returns : goal.returns
returns g c =
    let old = c.self.inside in
    let lines = old.lines.items in
    let x = c.index_mut-line.result.now in
    let e = Shut c.args.text in
    let after = served_of_parts old.side (g.R.Race.contents old.race) (set lines c.in-Some.place c.shut.new.self) in
    let count : c.len.result ≡ length lines = c.len.ensures ∙ old.lines.ok.0 in
    let within : c.in-Some.place < length lines = subst (λ n. c.in-Some.place < n) count c.in-Some.ensures.within in
    let here : slice_get lines c.in-Some.place ≡ Some x =
    slice_get-get_or lines c.in-Some.place x within ∙ ap Some (sym c.index_mut-line.ensures.value) in
    subst (λ s.
    IsAnswered (refusal s (Own (OfConn c.args.conn e))) (λ y. ConnStep s c.args.conn e (WasShut y.items) after)
    (after ≡ s) c.shut.result)
    c.self.view_is
    (conn_call old.side (g.R.Race.contents old.race) lines c.args.conn c.len.result c.in-Some.place
    c.place_of_conn.result e x c.shut.new.self (λ ended. WasShut ended.items) c.shut.result c.self.invariant count
    c.place_of_conn.ensures.place c.in-Some.is here c.shut.ensures).answers

pub place_of_conn-requires : goal.place_of_conn-requires
place_of_conn-requires g c =
    let old = c.self.inside in
    some_lines old.side (g.R.Race.contents old.race) old.lines.items c.len.result c.self.invariant
    (c.len.ensures ∙ old.lines.ok.0)

pub returns-in_default : goal.returns-in_default
returns-in_default g c =
    let old = c.self.inside in (
      subst (λ s. refusal s (Own (OfConn c.args.conn (Shut c.args.text))) ≡ Some (Shard NoConn)) c.self.view_is
          (no_conn old.side (g.R.Race.contents old.race) old.lines.items c.args.conn c.len.result c.place_of_conn.result
          (Shut c.args.text) c.place_of_conn.ensures.place c.in_default.is),
      refl,
    )
