use Rattle.std.proofs.Common.{◌≡◌, ◌++◌, ◌∷◌, List, length, take, drop, map, ap, sym, ◌∙◌, arith}
use Rattle.outbox.specs.declared.kept.Kept.{Kept}
use Rattle.outbox.specs.declared.kept.Mark.{Mark}
use Rattle.outbox.specs.Kept.{copied_of, kept_of, written_in, KeptItems}
use Rattle.outbox.specs.Views.{size_of}
use Rattle.outbox.proofs.Marks.{first_copied, first_fits, first_size}
use Rattle.outbox.proofs.kept_queue.KeptQueue.pop_first.Goals as goal

pub returns-in-Some-clause-rest : goal.returns-in-Some-clause-rest
returns-in-Some-clause-rest c =
    ap (λ (ms : List Mark). drop 1 (map (kept_of c.self.inside.mode) ms ++ c.self.inside.others.items))
    (sym c.in-Some.ensures.items)
    ∙ ap (λ (q : KeptItems). drop 1 q.items) c.self.view_is

pub returns-in-Some-clause-place : goal.returns-in-Some-clause-place
returns-in-Some-clause-place c = λ was.
    let others = c.self.inside.others.items in
    let items = ap (λ (q : KeptItems). length q.items) c.self.view_is in
    let places = ap (λ (q : KeptItems). q.places) c.self.view_is in
    let fewer =
    ap (λ (ms : List Mark). length (map (kept_of c.self.inside.mode) ms ++ others)) c.in-Some.ensures.items in
    let marks = ap (λ (ms : List Mark). length ms) c.in-Some.ensures.items in
    omega (arith, items, places, fewer, marks, was)

pub returns-in-Some-clause-all : goal.returns-in-Some-clause-all
returns-in-Some-clause-all c = λ text fits.
    let mark = c.in-Some.mark in
    let rest = map (kept_of c.self.inside.mode) c.pop_front.new.self.items ++ c.self.inside.others.items in
    let whole =
    ap (λ (ms : List Mark). map (kept_of c.self.inside.mode) ms ++ c.self.inside.others.items)
    (sym c.in-Some.ensures.items)
    ∙ ap (λ (q : KeptItems). q.items) c.self.view_is in
    let first : copied_of (kept_of c.self.inside.mode mark ∷ rest) ≡ copied_of c.args.self.now.items =
    ap copied_of whole in
    c.len.ensures c.self.inside.mode
    ∙ first_size c.self.inside.mode mark rest text
    (first_fits c.self.inside.mode mark rest text (omega (arith, first, fits)))
    ∙ ap (λ (ks : List Kept). size_of (take 1 (written_in ks text))) whole

pub returns-in-Some-clause-copied : goal.returns-in-Some-clause-copied
returns-in-Some-clause-copied c =
    let rest = map (kept_of c.self.inside.mode) c.pop_front.new.self.items ++ c.self.inside.others.items in
    c.len-in-Some.ensures c.self.inside.mode
    ∙ first_copied (kept_of c.self.inside.mode c.in-Some.mark) rest
    ∙ ap (λ (ms : List Mark). copied_of (take 1 (map (kept_of c.self.inside.mode) ms ++ c.self.inside.others.items)))
    (sym c.in-Some.ensures.items)
    ∙ ap (λ (q : KeptItems). copied_of (take 1 q.items)) c.self.view_is
