-- A list of peers in which one is changed.
use Rattle.std.proofs.Common.{◌≡◌, ℕ, ◌<◌, List, length, get_or, sym, ap, ◌∙◌}
use Rattle.std.specs.Prelude.{slice_set}
use Rattle.std.proofs.lemmas.List.{set-get_or}
use Rattle.std.proofs.lemmas.Option.{slice_get-get_or}
use Rattle.hub_core.specs.State.{Peer, changed_in, changed_at}

-- the peer x at the place, which is there, is new after the change
pub changed_is : (change : Peer → Peer) (peers : List Peer) (q : ℕ) (x new : Peer)
    → q < length peers
    → x ≡ get_or peers q x
    → new ≡ change x
    → slice_set peers q new ≡ changed_at change q peers
changed_is change peers q x new within at is =
    ap (λ p. slice_set peers q p) (is ∙ ap change at)
    ∙ sym (ap (λ o. changed_in change q o peers) (slice_get-get_or peers q x within))

-- where it is as it was, they all are
pub set_same : (peers : List Peer) (q : ℕ) (x new : Peer)
    → x ≡ get_or peers q x
    → new ≡ x
    → slice_set peers q new ≡ peers
set_same peers q x new at same = ap (λ p. slice_set peers q p) (same ∙ at) ∙ set-get_or peers q x
