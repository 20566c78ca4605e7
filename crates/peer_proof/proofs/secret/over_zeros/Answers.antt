use Rattle.std.proofs.Common.{◌≡◌, ℕ, List, ◌++◌, length, drop, ap, ◌∙◌, refl}
use Rattle.std.specs.Prelude.{replicate}
use Rattle.std.proofs.lemmas.List.{drop-replicate}
use Rattle.peer_proof.specs.declared.secret.TheConstants.{BLOCK}
use Rattle.peer_proof.specs.Hmac.{zeros_behind}
use Rattle.peer_proof.proofs.secret.over_zeros.Goals as goal

-- a key that is written over zeros
over : (written key zeros : List ℕ)
    → written ≡ key
    → zeros ≡ replicate BLOCK 0
    → written ++ drop (length key) zeros ≡ zeros_behind key
over written key zeros same are =
    ap (λ bytes. bytes ++ drop (length key) zeros) same
    ∙ ap (λ rest. key ++ rest) (ap (drop (length key)) are ∙ drop-replicate (length key) BLOCK 0)

pub returns : goal.returns
returns c = over _ _ _ c.copy_from_slice.ensures.after refl
