use Rattle.std.proofs.Common.{◌≡◌, ℕ, zero, suc, ◌+◌, ◌<◌, List, [], ◌∷◌, ◌++◌, map, take, drop, set, get_or, length, sym, ap, ◌∙◌, arith}
use Rattle.hub_core.specs.State.{Peer}
use Rattle.hub_core.specs.Telling.{without_slow}
use Rattle.hub_core.proofs.collects.cut_slow.Goals as goal

mapped : {A : Type 0} (f : A → A) (xs : List A) (k : ℕ) (x : A)
    → k < length xs
    → x ≡ get_or (map f (take k xs) ++ drop k xs) k x
    → set (map f (take k xs) ++ drop k xs) k (f x) ≡ map f (take (suc k) xs) ++ drop (suc k) xs
mapped f [] k x lt at = absurd (omega arith)
mapped f (y ∷ ys) zero x lt at = ap (λ z. f z ∷ ys) at
mapped f (y ∷ ys) (suc k) x lt at = ap (λ zs. f y ∷ zs) (mapped f ys k x (omega arith) at)

pub loop-peer-preserved : goal.loop-peer-preserved
loop-peer-preserved c =
    let f = without_slow c.args.count in
    let xs = c.args.peers.now in
    let k = c.loop-peer.peer-index in
    let x = c.peer-item.result in
    let at : x ≡ get_or (map f (take k xs) ++ drop k xs) k x =
    c.peer-item.is ∙ ap (λ (items : List Peer). get_or items k x) c.loop-peer.invariant in
    let next : suc k ≡ k + 1 = omega arith in
    ap (λ (items : List Peer). set items k c.cut_if_slow.new.peer) c.loop-peer.invariant
    ∙ ap (set (map f (take k xs) ++ drop k xs) k) (c.cut_if_slow.ensures ∙ ap f (sym c.peer-item.is))
    ∙ mapped f xs k x c.loop-peer-test.true at
    ∙ ap (λ (n : ℕ). map f (take n xs) ++ drop n xs) next
