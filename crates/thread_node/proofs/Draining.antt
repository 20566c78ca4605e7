-- Each shard is asked whether it drains only now.
use Rattle.std.proofs.Common.{◌≡◌, ℕ, suc, ◌+◌, ◌-◌, ◌<◌, ◌≤◌, Bool, true, false, List, [], ◌∷◌, Option, None, Result, Ok, Err, refl, sym, ap, ◌∙◌, subst, arith}
use Rattle.std.specs.Prelude.{◌||◌, if◌then◌else◌}
use Rattle.std.specs.List.{FoldsTo, range_with_len}
use Rattle.subj.specs.declared.failures.Failure.{Failure}
use Rattle.subj.specs.declared.failures.Failure.TheVariants.{Refused}
use Rattle.hub_core.specs.declared.faults.HubFault.{HubFault}
use Rattle.hub_core.specs.declared.faults.HubFault.TheVariants.{Draining}
use Rattle.node_law.specs.declared.faults.NodeFault.{NodeFault}
use Rattle.node_law.specs.declared.faults.NodeFault.TheVariants.{Hub}
use Rattle.thread_node.specs.Drains.{Asks, AreAsked, DrainsAll}

-- one more
pub ask_one : {F : Type 0} (step : F → ℕ → Bool → F → Type 0) (f g : F) (before is_new after : Bool) (k n : ℕ)
    (last : F × Bool)
    → k < n
    → step f (k + 1) is_new g
    → after ≡ (is_new || before)
    → FoldsTo (Asks step) (g, after) (range_with_len (k + 1 + 1) (n - (k + 1))) last
    → FoldsTo (Asks step) (f, before) (range_with_len (k + 1) (n - k)) last
ask_one step f g before is_new after k n last below asked any rest =
    let more : n - k ≡ suc (n - (k + 1)) = omega arith in
    subst (λ m. FoldsTo (Asks step) (f, before) (range_with_len (k + 1) m) last) (sym more)
    ((g, after), record { is_new = is_new; asked = asked; any = any }, rest)

-- none is left
pub none_left : {P : Type 0} (R : P → ℕ → P → Type 0) (p : P) (k n : ℕ)
    → n ≤ k
    → FoldsTo R p (range_with_len (k + 1) (n - k)) p
none_left R p k n past =
    let none : n - k ≡ 0 = omega arith in
    subst (λ m. FoldsTo R p (range_with_len (k + 1) m) p) (sym none) refl

-- where one drained only now, it stays so
pub stays_new : {F : Type 0} (step : F → ℕ → Bool → F → Type 0) (shards : List ℕ) (f : F) (before : Bool)
    (last : F × Bool)
    → before ≡ true
    → FoldsTo (Asks step) (f, before) shards last
    → last.1 ≡ true
stays_new step [] f before last new same = sym (ap (λ (p : _ × Bool). p.1) same) ∙ new
stays_new step (shard ∷ shards) f before last new (mid, asked, rest) =
    stays_new step shards mid.0 mid.1 last (asked.any ∙ any_true asked.is_new before new) rest
  where
    any_true : (a b : Bool) → b ≡ true → (a || b) ≡ true
    any_true true b e = refl
    any_true false b e = e

-- a hub that drained already, and no shard that did not
pub all_drained : {F T : Type 0} (step : F → ℕ → Bool → F → Type 0) (drain last : F) (shards : ℕ) (before any : Bool)
    (told : Result T (Failure HubFault))
    → told ≡ Err (Refused Draining)
    → before ≡ false
    → FoldsTo (Asks step) (drain, before) (range_with_len 1 shards) (last, any)
    → any ≡ false
    → DrainsAll step drain shards told (Err (Refused (Hub Draining)))
all_drained {F} {T} step drain last shards before any told is new asked none =
    let answer : Bool → Result (Option T) (Failure NodeFault) =
    λ b. if b then Ok None else Err (Refused (Hub Draining)) in
    let asked_all : AreAsked step drain shards false any =
    subst (λ (b : Bool). AreAsked step drain shards b any) new (record { last = last; asked = asked }) in
    subst (λ (t : Result T (Failure HubFault)). DrainsAll step drain shards t (Err (Refused (Hub Draining)))) (sym is)
    (any, asked_all, sym (ap answer none))
