-- What a reader answers is spelt, or refused for its cause.
use Rattle.route_frames.specs.declared.reading.RouteLine.{RouteLine}
use Rattle.route_frames.specs.Lines.{announced_size, line_meaning}
use Rattle.route_frames.specs.TextViews.{is_json, text_meaning, size_in, joined_text}
use Rattle.route_frames.specs.declared.reading.LineText.TheVariants as said
use Rattle.std.specs.Borrow.{Bor}
use Rattle.route_frames.specs.declared.reading.LineText.{LineText}
use Rattle.route_frames.specs.declared.reading.NumberedLine.{NumberedLine}
use Rattle.route_frames.specs.declared.reading.RouteLine.TheVariants as route_line
use Rattle.std.proofs.Common.{◌≡◌, ℕ, Bool, true, false, ◌||◌, ◌&&◌, is_ok, true≢false, List, refl, sym, ◌∙◌, ◌⊎◌, inl, inr, Option, Some, None, Result, Ok, Err, ap, subst}
use Rattle.std.specs.Prelude.{unwrap_or}
use Rattle.subj.specs.declared.failures.Failure.{Failure}
use Rattle.subj.specs.declared.failures.Failure.TheVariants.{Refused, OutOfMemory}
use Rattle.route_values.specs.declared.frames.RouteFrame.{RouteFrame}
use Rattle.route_frames.specs.declared.faults.RouteFault.{RouteFault}
use Rattle.route_frames.specs.declared.faults.RouteFault.TheVariants.{BadArgs}
use Rattle.route_frames.specs.Meaning.{Meaning, RouteMeans, MeansBy, ◌>>=◌}
use Rattle.route_frames.specs.Decoding.{size_meaning, frame_meaning, body_fits, line_fits, frame_of_line, takes_memory, is_snapshot_body, is_snapshot_behind, body_has_payload, line_has_payload, frame_behind, JoinsBy, Joins, failure_of}
use Rattle.route_frames.specs.Operations.{is_json_line}
use Rattle.route_frames.specs.declared.reading.Unjoined.{Unjoined}
use Rattle.route_frames.specs.declared.reading.Unjoined.TheVariants as back
use Rattle.route_frames.specs.Causes.{line_cause}
use Rattle.route_frames.specs.Refusals.{IsSizeOf, IsFrameOf, IsReadOf}
use Rattle.route_frames.specs.Laws.{SpellsOneFrame, AnnouncesOneSize}
use Rattle.route_frames.proofs.Refused.Agreement.{Agrees}
use Rattle.route_frames.proofs.Refused.Whole.{size_agrees, frame_agrees}
use Rattle.route_frames.proofs.Spelt.Chains.{ok_same}
use Rattle.route_frames.proofs.Spelt.Whole.{read_is_spelt, told_is_announced, sized_is_spelt}
use Rattle.route_frames.proofs.Meaning.Whole.{spelt_is_read, announced_is_told}

cause_told : {A : Type 0} (cause : Option RouteFault) (read : Result A RouteFault) (fault : RouteFault)
    → Agrees cause read
    → read ≡ Err fault
    → fault ≡ unwrap_or cause BadArgs
cause_told (Some cause) (Ok x) fault agrees e = absurd (cc)
cause_told (Some cause) (Err other) fault agrees e = cc
cause_told None (Ok x) fault agrees e = absurd (cc)
cause_told None (Err other) fault agrees e = cc

not_both : {A : Type 0} (read : Result A RouteFault) (x : A) (fault : RouteFault) → read ≡ Ok x → read ≡ Err fault → ⊥
not_both read x fault e e_too = cc

-- want of memory where the test takes memory, or in place of a value
or_ok : {A : Type 0} (memory : Bool) (read : Result A RouteFault)
    → (memory || is_ok read) ≡ true
    → (memory ≡ true) ⊎ ((x : A) × (read ≡ Ok x))
or_ok true read e = inl refl
or_ok false (Ok x) e = inr (x, refl)
or_ok false (Err fault) e = absurd (true≢false (sym e))

or_so : {A B C : Type 0} → A ⊎ B → (B → C) → A ⊎ C
or_so (inl x) so = inl x
or_so (inr y) so = inr (so y)

pub size_answered : (line : List ℕ) (answer : Result (Option ℕ) (Failure RouteFault))
    → RouteMeans (is_json_line line) (size_meaning line) answer
    → IsSizeOf line answer
size_answered line (Ok size) means = told_is_announced line size means
size_answered line (Err (Refused fault)) means = (
  cause_told (line_cause line) (size_meaning line) fault (size_agrees line) means,
  λ spelt. not_both (size_meaning line) spelt.0 fault (announced_is_told line spelt.0 spelt.1) means,
)
size_answered line (Err OutOfMemory) means =
    or_so (or_ok (is_json_line line) (size_meaning line) means) (λ told. (told.0, told_is_announced line told.0 told.1))

told_of : {A B : Type 0} (read : Result A RouteFault) (x : A) (f : A → B)
    → read ≡ Ok x
    → (read >>= λ y. Ok (f y)) ≡ Ok (f x)
told_of read x f e = ap (λ read. read >>= λ y. Ok (f y)) e

told_fault : {A B : Type 0} (read : Result A RouteFault) (fault : RouteFault) (next : A → Result B RouteFault)
    → read ≡ Err fault
    → (read >>= next) ≡ Err fault
told_fault read fault next e = ap (λ read. read >>= next) e

-- ---- a line that was judged, and then copied or asked for its size

abbrev size_behind : Meaning RouteLine → Meaning (Option ℕ)
size_behind read = read >>= λ read. Ok (announced_size read)

pub copy_means : (line : List ℕ) (text : LineText) (answer : Result RouteLine (Failure RouteFault))
    → line_meaning line ≡ text_meaning text
    → is_json_line line ≡ is_json text
    → RouteMeans (is_json text) (text_meaning text) answer
    → RouteMeans (is_json_line line) (line_meaning line) answer
copy_means line text (Ok read) is json means = is ∙ means
copy_means line text (Err (Refused fault)) is json means = is ∙ means
copy_means line text (Err OutOfMemory) is json means =
    ap (λ json. json || is_ok (line_meaning line)) json ∙ ap (λ read. is_json text || is_ok read) is ∙ means

pub size_means : (line : List ℕ) (text : LineText) (answer : Result (Option ℕ) (Failure RouteFault))
    → line_meaning line ≡ text_meaning text
    → is_json_line line ≡ is_json text
    → RouteMeans (is_json text) (size_in text) answer
    → RouteMeans (is_json_line line) (size_meaning line) answer
size_means line text (Ok size) is json means = ap size_behind is ∙ means
size_means line text (Err (Refused fault)) is json means = ap size_behind is ∙ means
size_means line text (Err OutOfMemory) is json means =
    ap (λ json. json || is_ok (size_meaning line)) json
    ∙ ap (λ read. is_json text || is_ok (size_behind read)) is
    ∙ means

pub size_fault : (line : List ℕ) (fault : RouteFault) → line_meaning line ≡ Err fault → size_meaning line ≡ Err fault
size_fault line fault is = ap size_behind is

pub line_answered : (line : List ℕ) (answer : Result RouteLine (Failure RouteFault))
    → RouteMeans (is_json_line line) (line_meaning line) answer
    → IsReadOf line answer
line_answered line (Ok read) means =
    told_is_announced line (announced_size read) (told_of (line_meaning line) read announced_size means)
line_answered line (Err (Refused fault)) means =
    size_answered line (Err (Refused fault))
    (told_fault (line_meaning line) fault (λ read. Ok (announced_size read)) means)
line_answered line (Err OutOfMemory) means =
    or_so (or_ok (is_json_line line) (line_meaning line) means) (λ told. (
      announced_size told.0,
      told_is_announced line (announced_size told.0) (told_of (line_meaning line) told.0 announced_size told.1),
    ))

pub frame_answered : (line payload : List ℕ) (answer : Result RouteFrame (Failure RouteFault))
    → RouteMeans (takes_memory line payload) (frame_meaning line payload) answer
    → IsFrameOf line payload answer
frame_answered line payload (Ok frame) means = read_is_spelt frame line payload means
frame_answered line payload (Err (Refused fault)) means = (
  cause_told (line_cause line) (frame_meaning line payload) fault (frame_agrees line payload) means,
  λ spelt. not_both (frame_meaning line payload) spelt.0 fault (spelt_is_read spelt.0 line payload spelt.1) means,
)
frame_answered line payload (Err OutOfMemory) means =
    or_so (or_ok (takes_memory line payload) (frame_meaning line payload) means)
    (λ told. (told.0, read_is_spelt told.0 line payload told.1))

pub spells_one_frame : SpellsOneFrame
spells_one_frame one other line payload spelt spelt_too =
    ok_same one other (sym (spelt_is_read one line payload spelt) ∙ spelt_is_read other line payload spelt_too)

pub announces_one_size : AnnouncesOneSize
announces_one_size line one other told told_too =
    ok_same one other (sym (announced_is_told line one told) ∙ announced_is_told line other told_too)

or_true : (b : Bool) → (b || true) ≡ true
or_true true = refl
or_true false = refl

-- ---- a numbered line, whose size is judged before its parts are copied

sized_answers : (line payload : List ℕ) (numbered : NumberedLine) (is_snapshot : Bool)
    → is_snapshot_body numbered.body ≡ is_snapshot
    → line_meaning line ≡ Ok (route_line.Numbered numbered)
    → body_fits numbered.body payload ≡ Ok tt
    → (takes_memory line payload || is_ok (frame_meaning line payload)) ≡ true
sized_answers line payload numbered true kind is fits =
    let memory : takes_memory line payload ≡ true = ap (λ read. is_json_line line || is_snapshot_behind read payload) is
    ∙ ap (λ b. is_json_line line || (b && is_ok (body_fits numbered.body payload))) kind
    ∙ ap (λ fits. is_json_line line || (true && is_ok fits)) fits ∙ or_true (is_json_line line) in
    ap (λ memory. memory || is_ok (frame_meaning line payload)) memory
sized_answers line payload numbered false kind is fits =
    let spelt = sized_is_spelt line payload numbered is fits kind in
    ap (λ read. takes_memory line payload || is_ok read) (spelt_is_read spelt.0 line payload spelt.1)
    ∙ or_true (takes_memory line payload)

is_done : (read : Meaning (Unit {0})) → is_ok read ≡ true → read ≡ Ok tt
is_done (Ok done) e = refl
is_done (Err fault) e = absurd (true≢false (sym e))

pub numbered_means : (line payload : List ℕ) (numbered : NumberedLine) (answer : Result RouteFrame (Failure RouteFault))
    → line_meaning line ≡ Ok (route_line.Numbered numbered)
    → MeansBy (λ frame. frame) (is_ok (body_fits numbered.body payload))
    (frame_of_line (route_line.Numbered numbered) payload) answer
    → RouteMeans (takes_memory line payload) (frame_meaning line payload) answer
unfolding frame_meaning
numbered_means line payload numbered (Ok frame) is means =
    ap (λ read. read >>= λ read. frame_of_line read payload) is ∙ means
numbered_means line payload numbered (Err (Refused fault)) is means =
    ap (λ read. read >>= λ read. frame_of_line read payload) is ∙ means
numbered_means line payload numbered (Err OutOfMemory) is means =
    sized_answers line payload numbered (is_snapshot_body numbered.body) refl is
    (is_done (body_fits numbered.body payload) means)

pub greeting_means : (line payload : List ℕ) (text : LineText) (answer : Result RouteFrame (Failure RouteFault))
    → line_meaning line ≡ text_meaning text
    → is_json_line line ≡ true
    → MeansBy (λ frame. frame) true (joined_text text payload) answer
    → RouteMeans (takes_memory line payload) (frame_meaning line payload) answer
unfolding frame_meaning
greeting_means line payload text (Ok frame) is json means =
    ap (λ read. read >>= λ read. frame_of_line read payload) is ∙ means
greeting_means line payload text (Err (Refused fault)) is json means =
    ap (λ read. read >>= λ read. frame_of_line read payload) is ∙ means
greeting_means line payload text (Err OutOfMemory) is json means =
    ap (λ b. (b || is_snapshot_behind (line_meaning line) payload) || is_ok (frame_meaning line payload)) json

pub bad_line_means : (line payload : List ℕ) (fault : RouteFault)
    → line_meaning line ≡ Err fault
    → frame_meaning line payload ≡ Err fault
unfolding frame_meaning
bad_line_means line payload fault is = ap (λ read. read >>= λ read. frame_of_line read payload) is

-- ---- what was joined, as it is told

and_right : (a b : Bool) → (a && b) ≡ true → b ≡ true
and_right true b e = e
and_right false b e = absurd (true≢false (sym e))

-- a payload of the size that a line announces is joined with it as the rest of the meaning says
pub fitting_joins : (read : RouteLine) (payload : List ℕ) (answer : Result RouteFrame Unjoined)
    → line_fits read payload ≡ Ok tt
    → JoinsBy (line_has_payload read) (frame_behind read payload) read payload answer
    → Joins read payload answer
fitting_joins read payload (Ok frame) fits joins = ap (λ fits. fits >>= λ fits. frame_behind read payload) fits ∙ joins
fitting_joins read payload (Err (back.Refused fault)) fits joins =
    ap (λ fits. fits >>= λ fits. frame_behind read payload) fits ∙ joins
fitting_joins read payload (Err (back.OutOfMemory line bytes)) fits joins =
    (joins.0, joins.1, ap (λ fits. line_has_payload read && is_ok fits) fits ∙ ap (λ memory. memory && true) joins.2)

-- a line that was read, and the payload that it is joined with
pub joined_answered : (line payload : List ℕ) (read : RouteLine) (answer : Result RouteFrame Unjoined)
    → line_meaning line ≡ Ok read
    → Joins read payload answer
    → IsFrameOf line payload (failure_of answer)
unfolding frame_meaning
joined_answered line payload read (Ok frame) is joins =
    frame_answered line payload (Ok frame) (ap (λ read. read >>= λ read. frame_of_line read payload) is ∙ joins)
joined_answered line payload read (Err (back.Refused fault)) is joins =
    frame_answered line payload (Err (Refused fault))
    (ap (λ read. read >>= λ read. frame_of_line read payload) is ∙ joins)
joined_answered line payload (route_line.Info info) (Err (back.OutOfMemory other bytes)) is joins =
    absurd (true≢false (sym joins.2))
joined_answered line payload (route_line.Connect connect) (Err (back.OutOfMemory other bytes)) is joins =
    absurd (true≢false (sym joins.2))
joined_answered line payload (route_line.Numbered numbered) (Err (back.OutOfMemory other bytes)) is joins =
    let fits = is_done (body_fits numbered.body payload)
    (and_right (body_has_payload numbered.body) (is_ok (body_fits numbered.body payload)) joins.2) in
    frame_answered line payload (Err OutOfMemory)
    (sized_answers line payload numbered (is_snapshot_body numbered.body) refl is fits)

told_means : (read : RouteLine) (payload : List ℕ) (answer : Result RouteFrame Unjoined)
    → Joins read payload answer
    → MeansBy (λ frame. frame) (is_ok (line_fits read payload)) (frame_of_line read payload) (failure_of answer)
told_means read payload (Ok frame) joins = joins
told_means read payload (Err (back.Refused fault)) joins = joins
told_means read payload (Err (back.OutOfMemory line bytes)) joins =
    and_right (line_has_payload read) (is_ok (line_fits read payload)) joins.2

pub numbered_told : (numbered copy : NumberedLine) (payload : List ℕ) (answer : Result RouteFrame Unjoined)
    (told : Result RouteFrame (Failure RouteFault))
    → copy ≡ numbered
    → told ≡ failure_of answer
    → Joins (route_line.Numbered copy) payload answer
    → MeansBy (λ frame. frame) (is_ok (body_fits numbered.body payload))
    (frame_of_line (route_line.Numbered numbered) payload) told
numbered_told numbered copy payload answer told same is joins =
    subst (λ told.
    MeansBy (λ frame. frame) (is_ok (body_fits numbered.body payload))
    (frame_of_line (route_line.Numbered numbered) payload) told)
    (sym is)
    (subst (λ numbered.
    MeansBy (λ frame. frame) (is_ok (body_fits numbered.body payload))
    (frame_of_line (route_line.Numbered numbered) payload) (failure_of answer))
    same (told_means (route_line.Numbered copy) payload answer joins))

greeting_told_by : (text : LineText) (read : RouteLine) (payload : List ℕ) (answer : Result RouteFrame Unjoined)
    → text_meaning text ≡ Ok read
    → Joins read payload answer
    → MeansBy (λ frame. frame) true (joined_text text payload) (failure_of answer)
greeting_told_by text read payload (Ok frame) is joins =
    ap (λ read. read >>= λ read. frame_of_line read payload) is ∙ joins
greeting_told_by text read payload (Err (back.Refused fault)) is joins =
    ap (λ read. read >>= λ read. frame_of_line read payload) is ∙ joins
greeting_told_by text read payload (Err (back.OutOfMemory line bytes)) is joins = refl

pub greeting_told : (text : LineText) (read : RouteLine) (payload : List ℕ) (answer : Result RouteFrame Unjoined)
    (told : Result RouteFrame (Failure RouteFault))
    → text_meaning text ≡ Ok read
    → told ≡ failure_of answer
    → Joins read payload answer
    → MeansBy (λ frame. frame) true (joined_text text payload) told
greeting_told text read payload answer told is same joins =
    subst (λ told. MeansBy (λ frame. frame) true (joined_text text payload) told) (sym same)
    (greeting_told_by text read payload answer is joins)

pub greeting_is_json : (text : LineText)
    → ((x : Bor (List ℕ)) × (text ≡ said.Info x)) ⊎ ((x : Bor (List ℕ)) × (text ≡ said.Connect x))
    → is_json text ≡ true
greeting_is_json text (inl info) = ap is_json info.1
greeting_is_json text (inr connect) = ap is_json connect.1
