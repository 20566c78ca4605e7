use Rattle.std.proofs.Common.{◌≡◌, ◌+◌, ◌<◌, ◌++◌, ◌∷◌, [], List, take, drop, length, get_or, sym, ap, ◌∙◌, arith, append_assoc, length-drop}
use Rattle.std.proofs.lemmas.List.{take_more, drop_more}
use Rattle.route_values.specs.Frames.{Frame}
use Rattle.hub_core.proofs.peers.move_front.Goals.{in-Some, in_default}
use Rattle.hub_core.proofs.peers.move_front.Goals as goal

pub loop-moved-preserved : goal.loop-moved-preserved
loop-moved-preserved c = elim c.match-pop_front.branch [
  | in-Some w ↦
      (let xs = c.args.from.now.items in
      let before = c.args.to.now.items in
      let k = c.loop-moved.moved in
      let frame = w.in-Some.frame in
      let within : k < length xs = omega arith in
      let left : frame ∷ c.pop_front.new.self.items ≡ get_or xs k frame ∷ drop (k + 1) xs =
      sym w.in-Some.ensures.items ∙ c.loop-moved.invariant.from ∙ drop_more xs k frame within in
      let here : frame ≡ get_or xs k frame = ap (λ (l : List Frame). get_or l 0 frame) left in
      record {
        room =
            rw w.to-is
            (let len = w.push_reserved.ensures.len in let capacity = w.push_reserved.ensures.capacity in omega arith);
        to =
            rw w.to-is
            (w.push_reserved.ensures.items
            ∙ ap (λ (l : List Frame). l ++ frame ∷ []) c.loop-moved.invariant.to
            ∙ append_assoc before (take k xs) (frame ∷ [])
            ∙ ap (λ (l : List Frame). before ++ l)
            (ap (λ (f : Frame). take k xs ++ f ∷ []) here ∙ sym (take_more xs k frame within)));
        from = ap (drop 1) left;
        capacity = c.pop_front.ensures.capacity ∙ c.loop-moved.invariant.capacity;
      })
  | in_default w ↦
      (let xs = c.args.from.now.items in
      let k = c.loop-moved.moved in
      let none = w.in_default.ensures.cases in
      absurd (omega (arith, none.0, ap length c.loop-moved.invariant.from, length-drop k xs)))
]
