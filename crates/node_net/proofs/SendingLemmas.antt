-- Bytes that are sent, step by step.
use Rattle.std.proofs.Common.{◌≡◌, ℕ, ◌+◌, ◌-◌, ◌^◌, min, Bool, true, false, List, [], ◌∷◌, ◌++◌, length, Result, Ok, Err, refl, ap, ◌∙◌, append-nil}
use Rattle.std.specs.Prelude.{OnOk, OnErr}
use Rattle.std.specs.Result.{is_err}
use Rattle.std.proofs.lemmas.Bool.{OnTrue_at}
use Rattle.net_streams.specs.Writes.{Came, HasWritten}
use Rattle.net_streams.specs.Lives.{Lives, all_put, all_taken}
use Rattle.net_streams.proofs.LifeLemmas.{keeps_order}
use Rattle.net_streams.specs.declared.wire.Wire.{Wire}
use Rattle.node_net.specs.declared.connection.Connection.{Connection}
use Rattle.node_net.specs.Sending.{out_of_memory, sending, sent_to, Keeps, Loses, KeptInOrder, LostAtTheEnd, NothingBehindALoss}

-- nothing waited, and a run of writes was made
lives_written : {S : Type 0} (gave wrote : S → Came → S → Type 0) (out bytes : List ℕ) (was : Bool) (before : S)
    (rest : List ℕ) (failed : Bool) (after : S)
    → out ≡ []
    → HasWritten wrote bytes was before rest failed after
    → (front : List ℕ) × Lives gave wrote out was before (sending out bytes front) (out ++ rest) failed after
lives_written gave wrote [] bytes was before rest failed after none has = (
  has.0,
  (rest, failed, after, has.1, (refl, refl, refl)),
)
lives_written gave wrote (first ∷ others) bytes was before rest failed after none has = absurd (cc)

-- some waited, and none was made
lives_put : {S : Type 0} (gave wrote : S → Came → S → Type 0) (out bytes : List ℕ) (was : Bool) (before : S)
    → ¬ (out ≡ [])
    → (front : List ℕ) × Lives gave wrote out was before (sending out bytes front) (out ++ bytes) was before
lives_put gave wrote [] bytes was before some = absurd (some refl)
lives_put gave wrote (first ∷ others) bytes was before some = ([], (refl, refl, refl))

-- what the stream took of bytes that are sent was written, and the rest is not kept yet
pub record TookFirst {S : Type 0} (gave wrote : S → Came → S → Type 0) (old : Connection S) (bytes rest : List ℕ)
    (there : Connection S) : Type 0 where
  pub front : List ℕ
  pub failed : Bool
  pub stream : S
  pub lives : Lives gave wrote old.out old.wire.has_failed old.wire.stream (sending old.out bytes front)
      (old.out ++ rest) failed stream
  pub is : there ≡ sent_to old bytes old.out failed stream

there_is : {S : Type 0} (old : Connection S) (bytes : List ℕ) (wire : Wire S) (moved : ℕ) (there : Connection S)
    → moved ≡ min (old.moved + length bytes) (2 ^ 64 - 1)
    → wire ≡ record old.wire { stream = wire.stream; has_failed = wire.has_failed }
    → there ≡ record old { wire = wire; moved = moved }
    → there ≡ sent_to old bytes old.out wire.has_failed wire.stream
there_is old bytes wire moved there count same is =
    is
    ∙ ap (λ w. record old { wire = w; moved = moved }) same
    ∙ ap (λ n. record old { wire = record old.wire { stream = wire.stream; has_failed = wire.has_failed }; moved = n })
    count

pub took_first : {S : Type 0} (gave wrote : S → Came → S → Type 0) (old : Connection S) (bytes rest : List ℕ)
    (wire : Wire S) (moved : ℕ) (there : Connection S)
    → old.out ≡ []
    → moved ≡ min (old.moved + length bytes) (2 ^ 64 - 1)
    → HasWritten wrote bytes old.wire.has_failed old.wire.stream rest wire.has_failed wire.stream
    → wire ≡ record old.wire { stream = wire.stream; has_failed = wire.has_failed }
    → there ≡ record old { wire = wire; moved = moved }
    → TookFirst gave wrote old bytes rest there
took_first gave wrote old bytes rest wire moved there none count has same is =
    let life = lives_written gave wrote old.out bytes old.wire.has_failed old.wire.stream rest wire.has_failed
    wire.stream none has in
    record {
      front = life.0;
      failed = wire.has_failed;
      stream = wire.stream;
      lives = life.1;
      is = there_is old bytes wire moved there count same is;
    }

pub took_none : {S : Type 0} (gave wrote : S → Came → S → Type 0) (old : Connection S) (bytes : List ℕ) (moved : ℕ)
    (there : Connection S)
    → ¬ (old.out ≡ [])
    → moved ≡ min (old.moved + length bytes) (2 ^ 64 - 1)
    → there ≡ record old { moved = moved }
    → TookFirst gave wrote old bytes bytes there
took_none gave wrote old bytes moved there some count is =
    let life = lives_put gave wrote old.out bytes old.wire.has_failed old.wire.stream some in
    record {
      front = life.0;
      failed = old.wire.has_failed;
      stream = old.wire.stream;
      lives = life.1;
      is = there_is old bytes old.wire moved there count refl is;
    }

-- the rest is put behind what waited
pub rest_kept : {S T E : Type 0} (gave wrote : S → Came → S → Type 0) (old : Connection S) (bytes rest : List ℕ)
    (there : Connection S) (result : Result T E) (out : List ℕ)
    → TookFirst gave wrote old bytes rest there
    → false ≡ is_err result
    → OnOk result (out ≡ there.out ++ rest)
    → Keeps gave wrote old bytes (record there { out = out })
rest_kept gave wrote old bytes rest there (Ok value) out first ok put = record {
  front = first.front;
  waiting = old.out ++ rest;
  failed = first.failed;
  stream = first.stream;
  lives = first.lives;
  is =
      ap (λ (c : Connection _). record c { out = out }) first.is
      ∙ ap (λ xs. sent_to old bytes xs first.failed first.stream)
      (put ∙ ap (λ (c : Connection _). c.out ++ rest) first.is);
}
rest_kept gave wrote old bytes rest there (Err error) out first ok put = absurd (cc)

-- there is no memory for the rest
pub rest_lost : {S T E : Type 0} (gave wrote : S → Came → S → Type 0) (old : Connection S) (bytes rest : List ℕ)
    (there : Connection S) (result : Result T E) (out : List ℕ) (new : Connection S)
    → TookFirst gave wrote old bytes rest there
    → true ≡ is_err result
    → OnErr result (out ≡ there.out)
    → new ≡ out_of_memory (record there { out = out })
    → Loses gave wrote old bytes new
rest_lost gave wrote old bytes rest there (Ok value) out new first failed same is = absurd (cc)
rest_lost gave wrote old bytes rest there (Err error) out new first failed same is = record {
  front = first.front;
  lost = rest;
  failed = first.failed;
  stream = first.stream;
  lives = first.lives;
  is =
      is
      ∙ ap (λ (c : Connection _). out_of_memory (record c { out = out })) first.is
      ∙ ap (λ xs. out_of_memory (sent_to old bytes xs first.failed first.stream))
      (same ∙ ap (λ (c : Connection _). c.out) first.is);
}

-- ---- in order

put_once : (out bytes front : List ℕ) → all_put (sending out bytes front) ≡ bytes
put_once [] bytes front = append-nil bytes
put_once (first ∷ others) bytes front = append-nil bytes

in_order : {S : Type 0} (gave wrote : S → Came → S → Type 0) (out bytes front : List ℕ) (was : Bool) (before : S)
    (rest : List ℕ) (failed : Bool) (after : S)
    → Lives gave wrote out was before (sending out bytes front) rest failed after
    → all_taken (sending out bytes front) ++ rest ≡ out ++ bytes
in_order gave wrote out bytes front was before rest failed after lives =
    keeps_order gave wrote out was before (sending out bytes front) rest failed after lives
    ∙ ap (λ xs. out ++ xs) (put_once out bytes front)

pub kept_in_order : {S : Type 0} (gave wrote : S → Came → S → Type 0) → KeptInOrder gave wrote
kept_in_order gave wrote old bytes new keeps =
    ap (λ (c : Connection _). all_taken (sending old.out bytes keeps.front) ++ c.out) keeps.is
    ∙ in_order gave wrote old.out bytes keeps.front old.wire.has_failed old.wire.stream keeps.waiting keeps.failed
    keeps.stream keeps.lives

pub lost_at_the_end : {S : Type 0} (gave wrote : S → Came → S → Type 0) → LostAtTheEnd gave wrote
lost_at_the_end gave wrote old bytes new loses = (
  ap (λ (c : Connection _). all_taken (sending old.out bytes loses.front) ++ (c.out ++ loses.lost)) loses.is
      ∙ in_order gave wrote old.out bytes loses.front old.wire.has_failed old.wire.stream (old.out ++ loses.lost)
      loses.failed loses.stream loses.lives,
  ap (λ (c : Connection _). c.ending) loses.is,
)

pub nothing_behind_a_loss : {S : Type 0} (gave wrote : S → Came → S → Type 0) → NothingBehindALoss gave wrote
nothing_behind_a_loss gave wrote old bytes gone more new loses sends =
    OnTrue_at (ap (λ (c : Connection _). c.has_gap) loses.is) sends.0
