-- Bytes that are written by several writes.
use Rattle.std.proofs.Common.{◌≡◌, ℕ, ◌-◌, List, [], ◌++◌, length, take, drop, Option, refl, sym, ap, ◌∙◌, subst, append_assoc, append-nil, take-append-drop, arith}
use Rattle.std.specs.Io.KnownBytes.{Appends, Keeps}
use Rattle.std.proofs.KnownBytes.{Appends-nil, Appends-trans, Appends-kept}
use Rattle.std.proofs.lemmas.List.{length-append, take_at, take_rest, nil_from_length}
use Rattle.wire_cut.specs.Flow.{AppendsFront}

-- of the bytes, those in front of `rest` were written, and no write has failed
pub record HasWritten (before after : Option (List ℕ)) (old new : ℕ) (bytes rest : List ℕ) : Type 0 where
  pub front : List ℕ
  pub split : bytes ≡ front ++ rest
  pub written : Appends before after front
  pub failures : new ≡ old

pub HasWritten-none : (before : Option (List ℕ)) (old : ℕ) (bytes : List ℕ)
    → HasWritten before before old old bytes bytes
HasWritten-none before old bytes = record { front = []; split = refl; written = Appends-nil before; failures = refl }

pub HasWritten-more : (before after later : Option (List ℕ)) (old new last : ℕ) (bytes rest : List ℕ) (n : ℕ)
    → HasWritten before after old new bytes rest
    → Appends after later (take n rest)
    → last ≡ new
    → HasWritten before later old last bytes (take (length rest - n) (drop n rest))
HasWritten-more before after later old new last bytes rest n was more same =
    rw (take_rest rest n) (record {
      front = was.front ++ take n rest;
      split =
          was.split
          ∙ ap (λ xs. was.front ++ xs) (sym (take-append-drop n rest))
          ∙ sym (append_assoc was.front (take n rest) (drop n rest));
      written = Appends-trans before after later was.front (take n rest) was.written more;
      failures = same ∙ was.failures;
    })

pub HasWritten-all : (before after : Option (List ℕ)) (old new : ℕ) (bytes rest : List ℕ)
    → HasWritten before after old new bytes rest
    → length rest ≡ 0
    → Appends before after bytes
HasWritten-all before after old new bytes rest was none =
    let whole : was.front ≡ bytes =
    sym (was.split ∙ ap (λ xs. was.front ++ xs) (nil_from_length rest none) ∙ append-nil was.front) in
    subst (Appends before after) whole was.written

pub HasWritten-failed : (before after later : Option (List ℕ)) (old new : ℕ) (bytes rest : List ℕ)
    → HasWritten before after old new bytes rest
    → (length rest ≡ 0 → ⊥)
    → Keeps after later
    → AppendsFront before later bytes
HasWritten-failed before after later old new bytes rest was some kept =
    let front_is : take (length was.front) bytes ≡ was.front =
    ap (take (length was.front)) was.split ∙ take_at was.front rest (length was.front) refl in (
      length was.front,
      omega (arith, ap length was.split, length-append was.front rest),
      subst (Appends before later) (sym front_is) (Appends-kept before after later was.front was.written kept),
    )
