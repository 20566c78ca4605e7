-- No serial is above the last one that was opened, whatever is closed or noted.
use Rattle.std.proofs.Common.{ℕ, ◌+◌, ◌≤◌, true, false, cond, List, [], ◌∷◌, All}
use Rattle.std.specs.Prelude.{Option, filter}
use Rattle.std.specs.List.{AllByRecursion}
use Rattle.std.proofs.lemmas.List.Elements.{recursion_from_All, All-from_recursion}
use Rattle.sub_table.specs.declared.Subscription.{Subscription}
use Rattle.sub_table.specs.Subscriptions.{has_serial, without_serial, is_of_another, with_changed, with_more, with_max}

below_left : (last n : ℕ) (subs : List Subscription)
    → AllByRecursion (λ other. other.serial ≤ last) subs
    → AllByRecursion (λ other. other.serial ≤ last) (without_serial n subs)
below_left last n [] below = below
below_left last n (s ∷ subs) below =
    elim (has_serial n s) as
    (λ b. AllByRecursion (λ other. other.serial ≤ last) (cond b subs (s ∷ without_serial n subs))) [
      | true ↦ below.1
      | false ↦ (below.0, below_left last n subs below.1)
    ]

below_kept : (last conn : ℕ) (subs : List Subscription)
    → AllByRecursion (λ other. other.serial ≤ last) subs
    → AllByRecursion (λ other. other.serial ≤ last) (filter (is_of_another conn) subs)
below_kept last conn [] below = below
below_kept last conn (s ∷ subs) below =
    elim (is_of_another conn s) as (λ b.
    AllByRecursion (λ other. other.serial ≤ last)
    (cond b (s ∷ filter (is_of_another conn) subs) (filter (is_of_another conn) subs))) [
      | true ↦ (below.0, below_kept last conn subs below.1)
      | false ↦ below_kept last conn subs below.1
    ]

-- a change that keeps the serial
below_noted : (last n : ℕ) (change : Subscription → Subscription) (subs : List Subscription)
    → ((s : Subscription) → s.serial ≤ last → (change s).serial ≤ last)
    → AllByRecursion (λ other. other.serial ≤ last) subs
    → AllByRecursion (λ other. other.serial ≤ last) (with_changed n change subs)
below_noted last n change [] keeps below = below
below_noted last n change (s ∷ subs) keeps below =
    elim (has_serial n s) as
    (λ b. AllByRecursion (λ other. other.serial ≤ last) (cond b (change s ∷ subs) (s ∷ with_changed n change subs))) [
      | true ↦ (keeps s below.0, below.1)
      | false ↦ (below.0, below_noted last n change subs keeps below.1)
    ]

pub below_without : (last n : ℕ) (subs : List Subscription)
    → All (λ other. other.serial ≤ last) subs
    → All (λ other. other.serial ≤ last) (without_serial n subs)
below_without last n subs below =
    All-from_recursion (λ (other : Subscription). other.serial ≤ last) (without_serial n subs)
    (below_left last n subs (recursion_from_All (λ (other : Subscription). other.serial ≤ last) subs below))

pub below_filter : (last conn : ℕ) (subs : List Subscription)
    → All (λ other. other.serial ≤ last) subs
    → All (λ other. other.serial ≤ last) (filter (is_of_another conn) subs)
below_filter last conn subs below =
    All-from_recursion (λ (other : Subscription). other.serial ≤ last) (filter (is_of_another conn) subs)
    (below_kept last conn subs (recursion_from_All (λ (other : Subscription). other.serial ≤ last) subs below))

pub below_counted : (last n count : ℕ) (subs : List Subscription) → All (λ other. other.serial ≤ last) subs
    → All (λ other. other.serial ≤ last) (with_more n count subs)
below_counted last n count subs below =
    All-from_recursion (λ (other : Subscription). other.serial ≤ last) (with_more n count subs)
    (below_noted last n (λ sub. record sub { delivered = sub.delivered + count }) subs (λ s at. at)
    (recursion_from_All (λ (other : Subscription). other.serial ≤ last) subs below))

pub below_max : (last n : ℕ) (max : Option ℕ) (subs : List Subscription)
    → All (λ other. other.serial ≤ last) subs
    → All (λ other. other.serial ≤ last) (with_max n max subs)
below_max last n max subs below =
    All-from_recursion (λ (other : Subscription). other.serial ≤ last) (with_max n max subs)
    (below_noted last n (λ sub. record sub { max = max }) subs (λ s at. at)
    (recursion_from_All (λ (other : Subscription). other.serial ≤ last) subs below))
