use Rattle.std.proofs.Common.{◌≡◌, ◌-◌, false, length, take, drop, sym, ap, ◌∙◌, arith, length-drop}
use Rattle.std.proofs.lemmas.List.{take_all}
use Rattle.std.proofs.lemmas.List.Sums.{sum_by-take-drop}
use Rattle.outbox.specs.Views.{Waiting, Written, size_of}
use Rattle.outbox.proofs.outbox.Outbox.remove_first.Goals as goal

pub invariant_of-self : goal.invariant_of-self
invariant_of-self c =
    let entries = c.self.inside.entries.entries in
    let n = c.args.count in
    let left = c.drop_front.new.self.entries in
    let gone = c.drop_front.ensures.rest in
    let sound = c.self.invariant.0 in
    let alike : c.self.inside.closing ≡ c.self.inside.shut = ap (λ (box : Waiting). box.next.shut) c.self.view_is
    ∙ ap (λ backlog. backlog.shut) c.requires ∙ sym (ap (λ (box : Waiting). box.shown.shut) c.self.view_is) in
    let rest = sum_by-take-drop (λ (entry : Written). length entry.bytes) entries n in
    let same : size_of left ≡ size_of (drop n entries) = ap size_of gone in
    let size : length left ≡ length entries - n = ap length gone ∙ length-drop n entries in
    let whole : c.len-self-inside.result ≡ length left = c.len-self-inside.ensures in
    let all : take c.len-self-inside.result left ≡ left = take_all c.len-self-inside.result left (omega arith) in
    let counted : c.self.inside.closing ≡ false → c.drop_front.new.bytes ≡ size_of left =
    λ e. let was = sound.counted e in omega (arith, c.drop_front.ensures.bytes) in (
      record {
        within = omega arith;
        counted = counted;
        shown_counted = λ e. counted (alike ∙ e) ∙ sym (ap size_of all);
        still_shut = sound.still_shut;
        bytes_fit = let was = sound.bytes_fit in omega (arith, c.drop_front.ensures.bytes);
        shown_fit = let was = sound.bytes_fit in omega (arith, c.drop_front.ensures.bytes);
        places = λ e. c.drop_front.ensures.place (sound.places e);
        shown_places =
            λ e. let place = c.drop_front.ensures.place (sound.places (alike ∙ e)) in omega (arith, whole, place);
      },
      c.self.invariant.1,
    )
