-- How a start keeps the last number.
use Rattle.std.proofs.Common.{◌≡◌, ◌⊎◌, ⊎_elim, ℕ, ◌+◌, ◌<◌, ◌≤◌, List, Option, None, Some, sym, ◌∙◌, subst, arith}
use Rattle.std.proofs.lemmas.Option.{same_Some}
use Rattle.subj.specs.declared.limits.TheConstants.{MAX_INCARNATION}
use Rattle.incarnation_file.specs.Disk.{Content, IsFound}
use Rattle.incarnation_file.specs.Line.{line_of}
use Rattle.incarnation_file.specs.Kept.{IsAtLeast, IsKept}
use Rattle.incarnation_file.specs.Raising.{IsLast, IsNext, number_after, ReadTells, FaultTells}
use Rattle.incarnation_file.specs.declared.raising.RaiseFault.{RaiseFault}
use Rattle.incarnation_file.specs.declared.raising.RaiseFault.TheVariants.{Missing, Damaged, OtherServer, Spent, Disk, OutOfMemory}
use Rattle.incarnation_file.proofs.Digits.{one_number}

-- the number of a start is above the last one
pub next_is_more : (server : List ℕ) (least : Option ℕ) (last n : ℕ) (file : Content)
    → 1 ≤ n
    → IsAtLeast server last file
    → IsNext server least file n
    → last < n
next_is_more server least last n None one kept next = omega (arith, one, kept)
next_is_more server least last n (Some bytes) one kept next = go least next.0 next.1 next.2
  where
    go : (least' old : Option ℕ) → IsLast server (Some bytes) old → number_after least' old ≡ Some n → last < n
    go least' None is after = absurd is
    go None (Some m) is after = omega (arith, same_Some (m + 1) n after, kept m is)
    go (Some k) (Some m) is after = omega (arith, same_Some _ n after, kept m is)

-- a line of a number that is no less
pub line_is_kept : (server : List ℕ) (last n : ℕ) (file : Content)
    → last ≤ n
    → n ≤ MAX_INCARNATION
    → file ≡ Some (line_of server n)
    → IsAtLeast server last file
line_is_kept server last n file le most is =
    let at : IsAtLeast server last (Some (line_of server n)) =
    λ m line. subst (λ k. last ≤ k) (one_number server n m most line.most line.whole) le in
    subst (IsAtLeast server last) (sym is) at

module _ (server : List ℕ) (last n : ℕ) (left_before left : Content → Type 0) where
  -- a start that ends at any moment
  pub still_kept : last ≤ n
      → n ≤ MAX_INCARNATION
      → IsKept left_before server last
      → ((c : Content) → left c → left_before c ⊎ (c ≡ Some (line_of server n)))
      → IsKept left server last
  still_kept le most kept leaves = λ c found.
      ⊎_elim (λ (e : left_before c). kept c e)
      (λ (e : c ≡ Some (line_of server n)). line_is_kept server last n c le most e) (leaves c found)

-- a start that ends well
pub then_told : (server : List ℕ) (n : ℕ) (seen : Content) (may_leave : Content → Type 0)
    → n ≤ MAX_INCARNATION
    → seen ≡ Some (line_of server n)
    → ((c : Content) → may_leave c → c ≡ Some (line_of server n))
    → IsKept (IsFound seen may_leave) server n
then_told server n seen may_leave most stored durable = λ c found.
    ⊎_elim (λ (e : c ≡ seen). line_is_kept server n n c (omega arith) most (e ∙ stored))
    (λ (e : may_leave c). line_is_kept server n n c (omega arith) most (durable c e)) found

-- a fault of reading the file is one of the start
pub read_tells : (server : List ℕ) (least : Option ℕ) (file : Content) (fault : RaiseFault)
    → ReadTells server file fault
    → FaultTells server least file fault
read_tells server least file Missing tells = absurd tells
read_tells server least file Spent tells = absurd tells
read_tells server least file Damaged tells = tells
read_tells server least file (OtherServer other) tells = tells
read_tells server least file (Disk cause) tells = tells
read_tells server least file OutOfMemory tells = tells
