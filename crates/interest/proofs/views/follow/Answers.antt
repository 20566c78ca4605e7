use Rattle.std.proofs.Common.{sym, subst}
use Rattle.std.specs.BTreeMap.{insert_entry}
use Rattle.subj.specs.Keys.{key_cmp}
use Rattle.interest.specs.Heard.{IsHeard}
use Rattle.interest.proofs.News.Hearing.{no_keys, put_is_heard, less_is_heard, either_heard}
use Rattle.interest.proofs.views.follow.Goals as goal

pub returns-in-Up-clause-heard : goal.returns-in-Up-clause-heard
returns-in-Up-clause-heard c =
    let keys = c.args.keys.now.items in
    let weighted = c.in-Up.weighted in
    let taken = rw c.in-Up.is at c.requires.taken in
    either_heard c.put.result (insert_entry key_cmp keys weighted.0 weighted.1) keys c.put.new.keys.items
    c.put.ensures.ok c.put.ensures.err (put_is_heard keys weighted c.requires.heard taken) c.requires.heard

pub returns-in-Gone-clause-heard : goal.returns-in-Gone-clause-heard
returns-in-Gone-clause-heard c =
    rw c.take_away.ensures (less_is_heard c.args.keys.now.items c.in-Gone.key c.requires.heard)

pub returns-in-Clear-clause-heard : goal.returns-in-Clear-clause-heard
returns-in-Clear-clause-heard c = subst IsHeard (sym c.clear.ensures.items) no_keys
