-- Messages of runs to one subscription, and entries behind them.
use Rattle.std.proofs.Common.{◌≡◌, ℕ, zero, suc, ◌+◌, ◌-◌, ◌<◌, ◌^◌, List, [], ◌∷◌, ◌++◌, length, take, drop, get_or, refl, sym, ap, ◌∙◌, arith, append-nil}
use Rattle.std.specs.Prelude.{filter, All}
use Rattle.std.proofs.lemmas.List.{take_all, take_more}
use Rattle.subj.specs.declared.identities.SubId.{SubId}
use Rattle.outbox.specs.Kept.{copied_of, kept_in_run, kept_run, is_whole}
use Rattle.outbox.specs.declared.kept.Kept.{Kept}
use Rattle.outbox.specs.declared.run_tails.TailMark.{TailMark}
use Rattle.outbox.proofs.Runs.{one_of_run}

pub none_whole : (sub : SubId) (head_len : ℕ) (marks : List TailMark)
    → filter is_whole (kept_run sub head_len marks) ≡ []
none_whole sub head_len [] = refl
none_whole sub head_len (mark ∷ marks) = none_whole sub head_len marks

-- each message has a length that fits
pub runs_fit : (sub : SubId) (head_len : ℕ) (marks : List TailMark) → copied_of (kept_run sub head_len marks) < 2 ^ 64
    → All (λ (mark : TailMark). head_len + mark.len < 2 ^ 64) marks
runs_fit sub head_len marks fits = λ i d lt.
    let one = one_of_run sub head_len marks i d lt in omega (arith, one, fits)

pub message_at : (sub : SubId) (head_len : ℕ) (marks : List TailMark) (i : ℕ) (k : Kept) (d : TailMark)
    → i < length marks
    → get_or (kept_run sub head_len marks) i k ≡ kept_in_run sub head_len (get_or marks i d)
message_at sub head_len [] i k d lt = absurd (omega arith)
message_at sub head_len (mark ∷ marks) zero k d lt = refl
message_at sub head_len (mark ∷ marks) (suc i) k d lt = message_at sub head_len marks i k d (omega arith)

pub first_and_rest : (ks : List Kept) (k : Kept) → 0 < length ks → ks ≡ get_or ks 0 k ∷ drop 1 ks
first_and_rest [] k some = absurd (omega arith)
first_and_rest (first ∷ ks) k some = refl

pub rest_of_run : (sub : SubId) (head_len : ℕ) (marks : List TailMark)
    → kept_run sub head_len (drop 1 marks) ≡ drop 1 (kept_run sub head_len marks)
rest_of_run sub head_len [] = refl
rest_of_run sub head_len (mark ∷ marks) = refl

pub first_of_run : (sub : SubId) (head_len : ℕ) (marks : List TailMark) (n : ℕ)
    → kept_run sub head_len (take n marks) ≡ take n (kept_run sub head_len marks)
first_of_run sub head_len marks zero = refl
first_of_run sub head_len [] (suc n) = refl
first_of_run sub head_len (mark ∷ marks) (suc n) =
    ap (λ (ks : List Kept). kept_in_run sub head_len mark ∷ ks) (first_of_run sub head_len marks n)

pub last_and_rest : (ks : List Kept) (k : Kept) → 0 < length ks
    → ks ≡ take (length ks - 1) ks ++ get_or ks (length ks - 1) k ∷ []
last_and_rest ks k some =
    sym (take_all ((length ks - 1) + 1) ks (omega arith)) ∙ take_more ks (length ks - 1) k (omega arith)

pub last_in_front : (xs behind : List Kept) (x : Kept) → length behind ≡ 0
    → (xs ++ x ∷ []) ++ behind ≡ (xs ++ behind) ++ x ∷ []
last_in_front xs [] x none = append-nil (xs ++ x ∷ []) ∙ sym (ap (λ (l : List Kept). l ++ x ∷ []) (append-nil xs))
last_in_front xs (k ∷ behind) x none = absurd (omega arith)

pub fit_both : (head_len : ℕ) (marks more : List TailMark)
    → All (λ (mark : TailMark). head_len + mark.len < 2 ^ 64) marks
    → All (λ (mark : TailMark). head_len + mark.len < 2 ^ 64) more
    → (i : ℕ) (d : TailMark) → i < length (marks ++ more) → head_len + (get_or (marks ++ more) i d).len < 2 ^ 64
fit_both head_len [] more own others i d lt = others i d lt
fit_both head_len (mark ∷ marks) more own others zero d lt = own zero d (omega arith)
fit_both head_len (mark ∷ marks) more own others (suc i) d lt =
    fit_both head_len marks more (λ j e below. own (suc j) e (omega (arith, below))) others i d (omega (arith, lt))
