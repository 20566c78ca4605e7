-- The rows of arguments that take one value each: where a level has no fault, the first value of each row passes the
-- parser of its argument.
use Rattle.std.proofs.Common.{◌≡◌, ◌∙◌, Bool, cond, true, false, refl, sym, ap, true≢false, arith, length, ne_eqb, List, [], ◌∷◌, ◌++◌, Option, Some, None}
use Rattle.std.specs.Prelude.{IfSome, is_some, option_map, slice_get, find, ◌||◌}
use Rattle.std.specs.List.{fold}
use Rattle.std.specs.Option.{option_map_or}
use Rattle.std.specs.Str.{bytes_eq}
use Rattle.std.proofs.lemmas.Slice.Eq.{bytes_eq-Decides}
use Rattle.clap.specs.Facts.{explicit_source, parser_of_value}
use Rattle.clap.specs.Values.{read_as}
use Rattle.clap.specs.Kinds.{or_else, request_kinds, value_kinds}
use Rattle.clap.specs.Walk.{Row, Rule, Text, action_of, arg_by_id, at_row, default_rows, has_row, is_empty, more_values, reading_by, row_text, stronger, with_default, with_values, without}
use Rattle.clap.specs.Takes.{is_given}
use Rattle.clap.specs.Faults.{repeat_fault, values_fault}
use Rattle.clap.specs.declared.builder.action.ArgAction.TheVariants.{Set, Help}
use Rattle.clap.specs.declared.builder.value_parser.Reading.{Reading}
use Rattle.clap.specs.declared.parser.matches.ValueSource.{ValueSource}
use Rattle.clap.specs.declared.parser.matches.ValueSource.TheVariants.{DefaultValue, CommandLine}
use Rattle.router_command.proofs.Walks.{Each, Keeps, KeepsDefault, both_pass}

-- the text passes the parser of the argument
abbrev pub Passes : Rule → Text → Type 0
Passes a text = value_kinds a.ignore_case (parser_of_value a.parser) text ≡ []

abbrev pub FirstPasses : Rule → List Text → Type 0
FirstPasses a [] = ⊥
FirstPasses a (v ∷ vs) = Passes a v

-- the row is one of the argument's
abbrev pub Reads : Rule → Row → Type 0
Reads a r = (r.reading ≡ reading_by a) × FirstPasses a r.values

abbrev pub RowFits : List Rule → Row → Type 0
RowFits c r = IfSome (arg_by_id c r.id) (λ a. Reads a r)

-- ---- rows that are changed

each_joined : {X : Type 0} (P : X → Type 0) (xs ys : List X) → Each P xs → Each P ys → Each P (xs ++ ys)
each_joined P [] ys a b = b
each_joined P (x ∷ xs) ys a b = (a.0, each_joined P xs ys a.1 b)

row_keeps : (P : Row → Type 0) (id : Text) (change : Row → List Row) (missing rows : List Row)
    → ((r : Row) → P r → Each P (change r))
    → Each P missing
    → Each P rows
    → Each P (at_row id change missing rows)
row_keeps P id change missing [] changed more all = more
row_keeps P id change missing (r ∷ rs) changed more all =
    go (bytes_eq r.id id) (row_keeps P id change missing rs changed more all.1)
  where
    go : (b : Bool)
        → Each P (at_row id change missing rs)
        → Each P (cond b (change r ++ rs) (r ∷ at_row id change missing rs))
    go true rest = each_joined P (change r) rs (changed r all.0) all.1
    go false rest = (all.0, rest)

first_stays : (a : Rule) (vs more : List Text) → FirstPasses a vs → FirstPasses a (vs ++ more)
first_stays a [] more h = absurd h
first_stays a (v ∷ vs) more h = h

more_fits : (o : Option Rule) (r : Row) (source : Option ValueSource) (more : List Text) → IfSome o (λ a. Reads a r)
    → IfSome o (λ a. Reads a (record r { values = r.values ++ more; source = source }))
more_fits None r source more h = tt
more_fits (Some a) r source more h = (h.0, first_stays a r.values more h.1)

fits_alone : (c : List Rule) (a : Rule) (r : Row) → arg_by_id c r.id ≡ Some a → Reads a r → RowFits c r
fits_alone c a r own h = rw own h

values_fit : (c : List Rule) (a : Rule) (source : ValueSource) (v : Text) (vs : List Text) (rows : List Row)
    → arg_by_id c a.id ≡ Some a
    → Passes a v
    → Each (RowFits c) rows
    → Each (RowFits c) (with_values a.id (reading_by a) source (v ∷ vs) rows)
values_fit c a source v vs rows own passes all =
    let new : Row = record { id = a.id; values = v ∷ vs; count = None; source = Some source; reading = reading_by a } in
    row_keeps (RowFits c) a.id (more_values source (v ∷ vs)) (new ∷ []) rows
    (λ r h. (more_fits (arg_by_id c r.id) r (Some (stronger r.source source)) (v ∷ vs) h, tt))
    (fits_alone c a new own (refl, passes), tt) all

removed_fit : (c : List Rule) (id : Text) (rows : List Row) → Each (RowFits c) rows → Each (RowFits c) (without id rows)
removed_fit c id rows all = row_keeps (RowFits c) id (λ _. []) [] rows (λ r h. tt) tt all

-- ---- uses and defaults

-- an argument that takes one value
abbrev pub one_value : Rule → Rule
one_value a = record a {
  action = Some Set;
  range = Some (record { start_inclusive = 1; end_inclusive = 1 });
}

-- that asks for help
abbrev pub for_help : Rule → Rule
for_help a = record a { action = Some Help }

pub value_keeps : (again : Bool) (c : List Rule) (a : Rule)
    → arg_by_id c (one_value a).id ≡ Some (one_value a)
    → Keeps again (Each (RowFits c)) (one_value a)
value_keeps again c a own [] rows e all = let bad : ⊥ = cc in absurd bad
value_keeps again c a own (v ∷ vs) rows e all =
    let used = (both_pass _ _ e).1 in
    let passed = (both_pass (repeat_fault again a.id rows) (values_fault (one_value a) (v ∷ vs)) used).1 in
    let first = (both_pass (value_kinds a.ignore_case (parser_of_value a.parser) v) _ passed).0 in
    values_fit c (one_value a) CommandLine v vs (without a.id rows) own first (removed_fit c a.id rows all)

pub help_keeps : (again : Bool) (R : List Row → Type 0) (a : Rule) → Keeps again R (for_help a)
help_keeps again R a values rows e r =
    let asked = (both_pass _ (request_kinds Help) e).1 in
    let bad : ⊥ = cc in absurd bad

pub default_keeps : (c : List Rule) (a : Rule) → arg_by_id c a.id ≡ Some a → KeepsDefault (Each (RowFits c)) a
default_keeps c a own rows e all = go (has_row a.id rows) a.defaults e
  where
    go : (b : Bool) (ds : List Text)
        → cond (b || is_empty ds) [] (or_else (request_kinds (action_of a)) (values_fault a ds)) ≡ []
        → Each (RowFits c) (cond b rows (default_rows a.id (reading_by a) ds rows))
    go true ds h = all
    go false [] h = all
    go false (v ∷ vs) h =
        let full : is_empty (v ∷ vs) ≡ false = ne_eqb (length (v ∷ vs)) 0 (λ z. omega arith) in
        let passed = (both_pass (request_kinds (action_of a)) (values_fault a (v ∷ vs)) (rw full at h)).1 in
        values_fit c a DefaultValue v vs rows own
        (both_pass (value_kinds a.ignore_case (parser_of_value a.parser) v) _ passed).0 all

-- ---- rows that are there

same_text : (id : Text) → bytes_eq id id ≡ true
same_text id = (bytes_eq-Decides id id).1 refl

either : (a b c : Bool) → (b ≡ true → c ≡ true) → (a || b) ≡ true → (a || c) ≡ true
either true b c f e = refl
either false b c f e = f e

values_stay : (id key : Text) (how : Reading) (source : ValueSource) (vs : List Text) (rows : List Row)
    → has_row id rows ≡ true → has_row id (with_values key how source vs rows) ≡ true
values_stay id key how source vs [] e = absurd (true≢false (sym e))
values_stay id key how source vs (r ∷ rs) e = go (bytes_eq r.id key) (values_stay id key how source vs rs)
  where
    go : (b : Bool) → (has_row id rs ≡ true → has_row id (with_values key how source vs rs) ≡ true)
        → has_row id (cond b (more_values source vs r ++ rs) (r ∷ with_values key how source vs rs)) ≡ true
    go true later = e
    go false later = either (bytes_eq r.id id) (has_row id rs) (has_row id (with_values key how source vs rs)) later e

values_come : (id : Text) (how : Reading) (source : ValueSource) (vs : List Text) (rows : List Row)
    → has_row id (with_values id how source vs rows) ≡ true
values_come id how source vs [] = rw (same_text id) refl
values_come id how source vs (r ∷ rs) = go (bytes_eq r.id id) refl (values_come id how source vs rs)
  where
    go : (b : Bool) → bytes_eq r.id id ≡ b → has_row id (with_values id how source vs rs) ≡ true
        → has_row id (cond b (more_values source vs r ++ rs) (r ∷ with_values id how source vs rs)) ≡ true
    go true e later = rw e refl
    go false e later = rw e later

default_stays : (id : Text) (a : Rule) (rows : List Row)
    → has_row id rows ≡ true
    → has_row id (with_default rows a) ≡ true
default_stays id a rows e = go (has_row a.id rows) a.defaults
  where
    go : (b : Bool) (ds : List Text) → has_row id (cond b rows (default_rows a.id (reading_by a) ds rows)) ≡ true
    go true ds = e
    go false [] = e
    go false (v ∷ vs) = values_stay id a.id (reading_by a) DefaultValue (v ∷ vs) rows e

-- a row stays where defaults are filled in
pub defaults_stay : (id : Text) (rules : List Rule) (rows : List Row)
    → has_row id rows ≡ true
    → has_row id (fold with_default rows rules) ≡ true
defaults_stay id [] rows e = e
defaults_stay id (a ∷ rest) rows e = defaults_stay id rest (with_default rows a) (default_stays id a rows e)

-- an argument that has a default has a row
pub default_comes : (a : Rule) (v : Text) (rows : List Row)
    → has_row a.id (with_default rows (record a { defaults = v ∷ [] })) ≡ true
default_comes a v rows = go (has_row a.id rows) refl
  where
    go : (b : Bool)
        → has_row a.id rows ≡ b
        → has_row a.id (cond b rows (with_values a.id (reading_by a) DefaultValue (v ∷ []) rows)) ≡ true
    go true e = e
    go false e = values_come a.id (reading_by a) DefaultValue (v ∷ []) rows

-- ---- what is read

-- the first row of an argument reads as its parser says
pub row_of_rule : (c : List Rule) (id : Text) (a : Rule) (rows : List Row)
    → arg_by_id c id ≡ Some a
    → Each (RowFits c) rows
    → IfSome (find (λ r. bytes_eq r.id id) rows) (Reads a)
row_of_rule c id a [] own all = tt
row_of_rule c id a (r ∷ rs) own all = go (bytes_eq r.id id) refl (row_of_rule c id a rs own all.1)
  where
    here : (o : Option Rule) → o ≡ Some a → IfSome o (λ b. Reads b r) → Reads a r
    here o is h = rw is at h

    go : (b : Bool) → bytes_eq r.id id ≡ b → IfSome (find (λ x. bytes_eq x.id id) rs) (Reads a)
        → IfSome (cond b (Some r) (find (λ x. bytes_eq x.id id) rs)) (Reads a)
    go true e rest = here (arg_by_id c r.id) (ap (arg_by_id c) ((bytes_eq-Decides r.id id).0 e) ∙ own) all.0
    go false e rest = rest

-- its text, as `get_str` and `get_one` read it
pub text_of_row : (a : Rule) (r : Row)
    → Reads a r
    → (t : Text) × (slice_get r.values 0 ≡ Some t) × (row_text r ≡ Some (read_as (reading_by a) t)) × Passes a t
text_of_row a r h = go r.values h.1
  where
    go : (vs : List Text)
        → FirstPasses a vs
        → (t : Text) × (slice_get vs 0 ≡ Some t)
        × (option_map (read_as r.reading) (slice_get vs 0) ≡ Some (read_as (reading_by a) t)) × Passes a t
    go [] bad = absurd bad
    go (v ∷ vs) ok = (v, refl, ap (λ how. Some (read_as how v)) h.0, ok)

-- an id that has a row is found
pub row_found : (id : Text) (rows : List Row)
    → has_row id rows ≡ true
    → is_some (find (λ r. bytes_eq r.id id) rows) ≡ true
row_found id [] e = absurd (true≢false (sym e))
row_found id (r ∷ rs) e = go (bytes_eq r.id id) e (row_found id rs)
  where
    go : (b : Bool)
        → (b || has_row id rs) ≡ true
        → (has_row id rs ≡ true → is_some (find (λ x. bytes_eq x.id id) rs) ≡ true)
        → is_some (cond b (Some r) (find (λ x. bytes_eq x.id id) rs)) ≡ true
    go true h later = refl
    go false h later = later h

-- and so is one that was given
pub given_found : (id : Text) (rows : List Row)
    → is_given id rows ≡ true
    → is_some (find (λ r. bytes_eq r.id id) rows) ≡ true
given_found id rows e = go (find (λ r. bytes_eq r.id id) rows) e
  where
    go : (o : Option Row) → option_map_or (λ r. explicit_source r.source) o false ≡ true → is_some o ≡ true
    go None h = absurd (true≢false (sym h))
    go (Some r) h = refl
