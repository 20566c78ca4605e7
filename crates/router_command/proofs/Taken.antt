-- Words that the command line takes name a command, and give it all that it needs.
use Rattle.std.proofs.Common.{◌≡◌, ℕ, Bool, cond, codes, true, false, refl, sym, ap, subst, true≢false, inl, inr, List, [], ◌∷◌, drop, Option, Some, None}
use Rattle.std.specs.Prelude.{IfSome, IsSome, IsSomeAnd, is_some, option_and_then, option_map, slice_get, find, not, ◌||◌, ◌&&◌}
use Rattle.std.specs.List.{fold}
use Rattle.std.specs.Option.{option_map_or}
use Rattle.std.specs.Str.{bytes_eq}
use Rattle.std.proofs.lemmas.Slice.Eq.{bytes_eq-Decides}
use Rattle.clap.specs.Values.{refused_kind}
use Rattle.clap.specs.ValueTests.{accepts}
use Rattle.clap.specs.Kinds.{Kinds}
use Rattle.clap.specs.Walk.{Row, Rule, Text, answers_to, arg_by_id, finished, first_of, has_row, nothing_held, row_text, rows_after, settled, walk, walk_from, with_default}
use Rattle.clap.specs.Simple.{App, Shape, argument_words, built, entered, help_rule, is_simple, label_of, names_of, new_rule, new_shape, rows_at, subcommand_of}
use Rattle.clap.specs.Takes.{is_given}
use Rattle.clap.specs.Faults.{check_fault, defaults_fault, entered_fault, fault_of, is_simple_and_free, level_fault, settle_fault, walk_fault}
use Rattle.clap.specs.declared.error.kind.ErrorKind.{ErrorKind}
use Rattle.clap.specs.declared.error.kind.ErrorKind.TheVariants as kind
use Rattle.clap.specs.declared.builder.value_parser.ValueParser.TheVariants as vp
use Rattle.clap.proofs.ValueTestLemmas.{accepts-Accepts}
use Rattle.router_command.specs.Line.{control_rule, greatest_number, level_rule, number_rule, required_rule, router, text_rule, with_value}
use Rattle.router_command.specs.Command.{AreNodeOptions, AreOptions, AreWords, HasNumber, IsNumber, IsWhole}
use Rattle.router_command.proofs.Walks.{Each, IsNoHelp, Keeps, KeepsDefault, both_pass, level_keeps, walk_stops}
use Rattle.router_command.proofs.Rows.{Passes, Reads, RowFits, default_comes, default_keeps, defaults_stay, given_found, help_keeps, one_value, row_found, row_of_rule, text_of_row, value_keeps}

-- ---- the commands as they are built

abbrev whole_line : App
whole_line = built router

-- an argument that is a text, as it is built
abbrev as_text : Rule → Rule
as_text a = record (one_value a) { parser = Some vp.String }

-- a word at its place
abbrev word_rule : ℕ → Text → Rule
word_rule place name = record (as_text (required_rule (new_rule name))) { index = Some place }

-- an option that is a number, as it is built
abbrev option_rule : Text → Rule
option_rule name = one_value (number_rule name)

abbrev nodes_rule : Rule
nodes_rule = required_rule (option_rule (codes "nodes"))

abbrev port_rule : Rule
port_rule = required_rule (option_rule (codes "port"))

abbrev shards_rule : Rule
shards_rule = with_value (option_rule (codes "shards")) (codes "2")

abbrev inc_rule : Rule
inc_rule = with_value (option_rule (codes "inc")) (codes "1")

abbrev seed_rule : Rule
seed_rule = with_value (option_rule (codes "word")) (codes "0")

abbrev end_rule : Rule
end_rule = option_rule (codes "stop-after")

abbrev threads_rule : Rule
threads_rule = with_value (option_rule (codes "loops")) (codes "1")

abbrev log_rule : Rule
log_rule = as_text level_rule

abbrev time_rule : Rule
time_rule = with_value (option_rule (codes "drain-seconds")) (codes "30")

abbrev socket_rule : Rule
socket_rule = as_text control_rule

abbrev pattern_rule : Rule
pattern_rule = word_rule 1 (codes "PATTERN")

abbrev subject_rule : Rule
subject_rule = word_rule 2 (codes "SUBJECT")

abbrev path_rule : Rule
path_rule = word_rule 1 (codes "PATH")

-- a word that need not be there
abbrev server_rule : Rule
server_rule = record (as_text (new_rule (codes "NAME"))) { index = Some 2 }

abbrev name_rule : Rule
name_rule = word_rule 1 (codes "NAME")

abbrev mesh_rule : Rule
mesh_rule = as_text (required_rule (text_rule (codes "mesh")))

abbrev state_rule : Rule
state_rule = with_value (as_text (text_rule (codes "state"))) (codes ".")

abbrev first_rule : Rule
first_rule = option_rule (codes "least-inc")

abbrev file_rule : Rule
file_rule = word_rule 1 (codes "FILE")

-- the flag that each command has
abbrev flag_rule : Rule
flag_rule = record help_rule {
  range = Some (record { start_inclusive = 0; end_inclusive = 0 });
  parser = Some vp.String;
}

-- a command of these arguments
abbrev built_of : Text → List Rule → Shape
built_of name rules = record (new_shape name) {
  rules = rules;
  disable_help_subcommand = true;
  is_built = true;
}

abbrev match_shape : Shape
match_shape = built_of (codes "match") (pattern_rule ∷ subject_rule ∷ flag_rule ∷ [])

abbrev serve_shape : Shape
serve_shape =
    built_of (codes "serve")
    (nodes_rule ∷ port_rule ∷ shards_rule ∷ inc_rule ∷ seed_rule ∷ end_rule ∷ threads_rule ∷ log_rule ∷ time_rule
    ∷ socket_rule ∷ flag_rule ∷ [])

abbrev drain_shape : Shape
drain_shape = built_of (codes "drain") (path_rule ∷ server_rule ∷ flag_rule ∷ [])

abbrev node_shape : Shape
node_shape = built_of (codes "node")
    (name_rule ∷ mesh_rule ∷ state_rule ∷ first_rule ∷ threads_rule ∷ log_rule ∷ time_rule ∷ socket_rule ∷ flag_rule
    ∷ [])

abbrev check_shape : Shape
check_shape = built_of (codes "check") (file_rule ∷ flag_rule ∷ [])

-- ---- small steps

no_kinds : (k : ErrorKind) (ks : Kinds) → k ∷ ks ≡ [] → ⊥
no_kinds k ks e = cc

one_given : (a : Bool) → cond (not a || false) (kind.MissingRequiredArgument ∷ []) [] ≡ [] → a ≡ true
one_given true e = refl
one_given false e = absurd (no_kinds kind.MissingRequiredArgument [] e)

both_given : (a b : Bool)
    → cond (not a || (not b || false)) (kind.MissingRequiredArgument ∷ []) [] ≡ []
    → (a ≡ true) × (b ≡ true)
both_given true true e = (refl, refl)
both_given true false e = absurd (no_kinds kind.MissingRequiredArgument [] e)
both_given false b e = absurd (no_kinds kind.MissingRequiredArgument [] e)

accepted : (b : Bool) (k : ErrorKind) → cond b [] (k ∷ []) ≡ [] → b ≡ true
accepted true k e = refl
accepted false k e = absurd (no_kinds k [] e)

-- an argument that is a number
abbrev numeric : Rule → Rule
numeric a = record a {
  parser = Some (vp.Unsigned 0 greatest_number);
  ignore_case = false;
}

number_passes : (a : Rule) (text : Text) → Passes (numeric a) text → IsNumber text
number_passes a text e = accepts-Accepts false (vp.Unsigned 0 greatest_number) text
    (accepted (accepts false (vp.Unsigned 0 greatest_number) text) (refused_kind (vp.Unsigned 0 greatest_number)) e)

number_read : (a : Rule) (r : Row) → Reads (numeric a) r → IsSomeAnd (row_text r) IsNumber
number_read a r h =
    let text = text_of_row (numeric a) r h in
    subst (λ (o : Option Text). IsSomeAnd o IsNumber) (sym text.2) (number_passes a text.0 text.3)

number_found : (a : Rule) (o : Option Row)
    → IfSome o (Reads (numeric a))
    → is_some o ≡ true
    → IsSomeAnd (option_and_then row_text o) IsNumber
number_found a None h e = absurd (true≢false (sym e))
number_found a (Some r) h e = number_read a r h

number_if_found : (a : Rule) (o : Option Row)
    → IfSome o (Reads (numeric a))
    → IfSome (option_and_then row_text o) IsNumber
number_if_found a None h = tt
number_if_found a (Some r) h = go (row_text r) (number_read a r h)
  where
    go : (o : Option Text) → IsSomeAnd o IsNumber → IfSome o IsNumber
    go None bad = absurd bad
    go (Some t) ok = ok

word_found : (a : Rule) (o : Option Row)
    → IfSome o (Reads a)
    → is_some o ≡ true
    → IsSome (option_and_then (λ r. slice_get r.values 0) o)
word_found a None h e = absurd (true≢false (sym e))
word_found a (Some r) h e = ap (λ (o : Option Text). is_some o) (text_of_row a r h).1

-- an argument of a command that has a row: a number where it is one, and a text
has_number : (s : Shape) (name : Text) (a : Rule) (rows : List Row)
    → arg_by_id s.rules name ≡ Some (numeric a)
    → Each (RowFits s.rules) rows
    → is_some (find (λ r. bytes_eq r.id name) rows) ≡ true
    → HasNumber name rows
has_number s name a rows own fit there =
    number_found a (find (λ r. bytes_eq r.id name) rows) (row_of_rule s.rules name (numeric a) rows own fit) there

has_text : (s : Shape) (name : Text) (a : Rule) (rows : List Row)
    → arg_by_id s.rules name ≡ Some a
    → Each (RowFits s.rules) rows
    → is_some (find (λ r. bytes_eq r.id name) rows) ≡ true
    → IsSome (first_of name rows)
has_text s name a rows own fit there =
    word_found a (find (λ r. bytes_eq r.id name) rows) (row_of_rule s.rules name a rows own fit) there

-- ---- `match`

match_keeps : Each (Keeps match_shape.args_override_self (Each (RowFits match_shape.rules))) match_shape.rules
match_keeps = (
  value_keeps false match_shape.rules pattern_rule refl,
  (
    value_keeps false match_shape.rules subject_rule refl,
    (help_keeps false (Each (RowFits match_shape.rules)) flag_rule, tt),
  ),
)

match_defaults : Each (KeepsDefault (Each (RowFits match_shape.rules))) match_shape.rules
match_defaults = (
  default_keeps match_shape.rules pattern_rule refl,
  (
    default_keeps match_shape.rules subject_rule refl,
    (default_keeps match_shape.rules flag_rule refl, tt),
  ),
)

match_needs : (rows : List Row)
    → check_fault match_shape rows false ≡ []
    → (is_given (codes "PATTERN") rows ≡ true) × (is_given (codes "SUBJECT") rows ≡ true)
match_needs rows e = both_given (is_given (codes "PATTERN") rows) (is_given (codes "SUBJECT") rows) e

match_whole : (words : List Text)
    → level_fault match_shape [] nothing_held words false [] ≡ []
    → AreWords (rows_after match_shape.rules [] words)
match_whole words e =
    let rows = rows_after match_shape.rules [] words in
    let kept = level_keeps match_shape (Each (RowFits match_shape.rules)) match_keeps [] nothing_held words false []
    match_defaults e tt in
    let given = match_needs rows kept.1 in
    record {
      pattern =
          has_text match_shape (codes "PATTERN") pattern_rule rows refl kept.0
          (given_found (codes "PATTERN") rows given.0);
      subject =
          has_text match_shape (codes "SUBJECT") subject_rule rows refl kept.0
          (given_found (codes "SUBJECT") rows given.1);
    }

-- ---- `serve`

serve_keeps : Each (Keeps serve_shape.args_override_self (Each (RowFits serve_shape.rules))) serve_shape.rules
serve_keeps = (
  value_keeps false serve_shape.rules nodes_rule refl,
  (
    value_keeps false serve_shape.rules port_rule refl,
    (
      value_keeps false serve_shape.rules shards_rule refl,
      (
        value_keeps false serve_shape.rules inc_rule refl,
        (
          value_keeps false serve_shape.rules seed_rule refl,
          (
            value_keeps false serve_shape.rules end_rule refl,
            (
              value_keeps false serve_shape.rules threads_rule refl,
              (
                value_keeps false serve_shape.rules log_rule refl,
                (
                  value_keeps false serve_shape.rules time_rule refl,
                  (
                    value_keeps false serve_shape.rules socket_rule refl,
                    (help_keeps false (Each (RowFits serve_shape.rules)) flag_rule, tt),
                  ),
                ),
              ),
            ),
          ),
        ),
      ),
    ),
  ),
)

serve_defaults : Each (KeepsDefault (Each (RowFits serve_shape.rules))) serve_shape.rules
serve_defaults = (
  default_keeps serve_shape.rules nodes_rule refl,
  (
    default_keeps serve_shape.rules port_rule refl,
    (
      default_keeps serve_shape.rules shards_rule refl,
      (
        default_keeps serve_shape.rules inc_rule refl,
        (
          default_keeps serve_shape.rules seed_rule refl,
          (
            default_keeps serve_shape.rules end_rule refl,
            (
              default_keeps serve_shape.rules threads_rule refl,
              (
                default_keeps serve_shape.rules log_rule refl,
                (
                  default_keeps serve_shape.rules time_rule refl,
                  (
                    default_keeps serve_shape.rules socket_rule refl,
                    (default_keeps serve_shape.rules flag_rule refl, tt),
                  ),
                ),
              ),
            ),
          ),
        ),
      ),
    ),
  ),
)

serve_needs : (rows : List Row)
    → check_fault serve_shape rows false ≡ []
    → (is_given (codes "nodes") rows ≡ true) × (is_given (codes "port") rows ≡ true)
serve_needs rows e = both_given (is_given (codes "nodes") rows) (is_given (codes "port") rows) e

-- the options that have defaults
shards_there : (rows : List Row) → has_row (codes "shards") (fold with_default rows serve_shape.rules) ≡ true
shards_there rows =
    let before = with_default (with_default rows nodes_rule) port_rule in
    defaults_stay (codes "shards") (drop 3 serve_shape.rules) (with_default before shards_rule)
    (default_comes shards_rule (codes "2") before)

inc_there : (rows : List Row) → has_row (codes "inc") (fold with_default rows serve_shape.rules) ≡ true
inc_there rows =
    let before = with_default (with_default (with_default rows nodes_rule) port_rule) shards_rule in
    defaults_stay (codes "inc") (drop 4 serve_shape.rules) (with_default before inc_rule)
    (default_comes inc_rule (codes "1") before)

word_there : (rows : List Row) → has_row (codes "word") (fold with_default rows serve_shape.rules) ≡ true
word_there rows =
    let early = with_default (with_default rows nodes_rule) port_rule in
    let before = with_default (with_default early shards_rule) inc_rule in
    defaults_stay (codes "word") (drop 5 serve_shape.rules) (with_default before seed_rule)
    (default_comes seed_rule (codes "0") before)

loops_there : (rows : List Row) → has_row (codes "loops") (fold with_default rows serve_shape.rules) ≡ true
loops_there rows =
    let early = with_default (with_default rows nodes_rule) port_rule in
    let later = with_default (with_default (with_default early shards_rule) inc_rule) seed_rule in
    let before = with_default later end_rule in
    defaults_stay (codes "loops") (drop 7 serve_shape.rules) (with_default before threads_rule)
    (default_comes threads_rule (codes "1") before)

level_there : (rows : List Row) → has_row (codes "log-level") (fold with_default rows serve_shape.rules) ≡ true
level_there rows =
    let early = with_default (with_default rows nodes_rule) port_rule in
    let later = with_default (with_default (with_default early shards_rule) inc_rule) seed_rule in
    let before = with_default (with_default later end_rule) threads_rule in
    defaults_stay (codes "log-level") (drop 8 serve_shape.rules) (with_default before log_rule)
    (default_comes log_rule (codes "info") before)

seconds_there : (rows : List Row) → has_row (codes "drain-seconds") (fold with_default rows serve_shape.rules) ≡ true
seconds_there rows =
    let early = with_default (with_default rows nodes_rule) port_rule in
    let later = with_default (with_default (with_default early shards_rule) inc_rule) seed_rule in
    let before = with_default (with_default (with_default later end_rule) threads_rule) log_rule in
    defaults_stay (codes "drain-seconds") (drop 9 serve_shape.rules) (with_default before time_rule)
    (default_comes time_rule (codes "30") before)

serve_whole : (words : List Text)
    → level_fault serve_shape [] nothing_held words false [] ≡ []
    → AreOptions (rows_after serve_shape.rules [] words)
serve_whole words e =
    let rows = rows_after serve_shape.rules [] words in
    let kept = level_keeps serve_shape (Each (RowFits serve_shape.rules)) serve_keeps [] nothing_held words false []
    serve_defaults e tt in
    let given = serve_needs rows kept.1 in
    let used = (settled serve_shape.rules (walk serve_shape.rules [] nothing_held words).held).rows in
    record {
      nodes =
          has_number serve_shape (codes "nodes") nodes_rule rows refl kept.0 (given_found (codes "nodes") rows given.0);
      port = has_number serve_shape (codes "port") port_rule rows refl kept.0 (given_found (codes "port") rows given.1);
      shards =
          has_number serve_shape (codes "shards") shards_rule rows refl kept.0
          (row_found (codes "shards") rows (shards_there used));
      inc =
          has_number serve_shape (codes "inc") inc_rule rows refl kept.0
          (row_found (codes "inc") rows (inc_there used));
      word =
          has_number serve_shape (codes "word") seed_rule rows refl kept.0
          (row_found (codes "word") rows (word_there used));
      stop_after =
          number_if_found end_rule (find (λ r. bytes_eq r.id (codes "stop-after")) rows)
          (row_of_rule serve_shape.rules (codes "stop-after") end_rule rows refl kept.0);
      loops =
          has_number serve_shape (codes "loops") threads_rule rows refl kept.0
          (row_found (codes "loops") rows (loops_there used));
      log_level =
          has_text serve_shape (codes "log-level") log_rule rows refl kept.0
          (row_found (codes "log-level") rows (level_there used));
      drain_seconds =
          has_number serve_shape (codes "drain-seconds") time_rule rows refl kept.0
          (row_found (codes "drain-seconds") rows (seconds_there used));
    }

-- ---- `drain`

drain_keeps : Each (Keeps drain_shape.args_override_self (Each (RowFits drain_shape.rules))) drain_shape.rules
drain_keeps = (
  value_keeps false drain_shape.rules path_rule refl,
  (
    value_keeps false drain_shape.rules server_rule refl,
    (help_keeps false (Each (RowFits drain_shape.rules)) flag_rule, tt),
  ),
)

drain_defaults : Each (KeepsDefault (Each (RowFits drain_shape.rules))) drain_shape.rules
drain_defaults = (
  default_keeps drain_shape.rules path_rule refl,
  (
    default_keeps drain_shape.rules server_rule refl,
    (default_keeps drain_shape.rules flag_rule refl, tt),
  ),
)

drain_needs : (rows : List Row) → check_fault drain_shape rows false ≡ [] → is_given (codes "PATH") rows ≡ true
drain_needs rows e = one_given (is_given (codes "PATH") rows) e

drain_whole : (words : List Text) → level_fault drain_shape [] nothing_held words false [] ≡ []
    → IsSome (first_of (codes "PATH") (rows_after drain_shape.rules [] words))
drain_whole words e =
    let rows = rows_after drain_shape.rules [] words in
    let kept = level_keeps drain_shape (Each (RowFits drain_shape.rules)) drain_keeps [] nothing_held words false []
    drain_defaults e tt in
    has_text drain_shape (codes "PATH") path_rule rows refl kept.0
    (given_found (codes "PATH") rows (drain_needs rows kept.1))

-- ---- `node`

node_keeps : Each (Keeps node_shape.args_override_self (Each (RowFits node_shape.rules))) node_shape.rules
node_keeps = (
  value_keeps false node_shape.rules name_rule refl,
  (
    value_keeps false node_shape.rules mesh_rule refl,
    (
      value_keeps false node_shape.rules state_rule refl,
      (
        value_keeps false node_shape.rules first_rule refl,
        (
          value_keeps false node_shape.rules threads_rule refl,
          (
            value_keeps false node_shape.rules log_rule refl,
            (
              value_keeps false node_shape.rules time_rule refl,
              (
                value_keeps false node_shape.rules socket_rule refl,
                (help_keeps false (Each (RowFits node_shape.rules)) flag_rule, tt),
              ),
            ),
          ),
        ),
      ),
    ),
  ),
)

node_defaults : Each (KeepsDefault (Each (RowFits node_shape.rules))) node_shape.rules
node_defaults = (
  default_keeps node_shape.rules name_rule refl,
  (
    default_keeps node_shape.rules mesh_rule refl,
    (
      default_keeps node_shape.rules state_rule refl,
      (
        default_keeps node_shape.rules first_rule refl,
        (
          default_keeps node_shape.rules threads_rule refl,
          (
            default_keeps node_shape.rules log_rule refl,
            (
              default_keeps node_shape.rules time_rule refl,
              (
                default_keeps node_shape.rules socket_rule refl,
                (default_keeps node_shape.rules flag_rule refl, tt),
              ),
            ),
          ),
        ),
      ),
    ),
  ),
)

node_needs : (rows : List Row)
    → check_fault node_shape rows false ≡ []
    → (is_given (codes "NAME") rows ≡ true) × (is_given (codes "mesh") rows ≡ true)
node_needs rows e = both_given (is_given (codes "NAME") rows) (is_given (codes "mesh") rows) e

-- the options that have defaults
state_there : (rows : List Row) → has_row (codes "state") (fold with_default rows node_shape.rules) ≡ true
state_there rows =
    let before = with_default (with_default rows name_rule) mesh_rule in
    defaults_stay (codes "state") (drop 3 node_shape.rules) (with_default before state_rule)
    (default_comes state_rule (codes ".") before)

node_loops_there : (rows : List Row) → has_row (codes "loops") (fold with_default rows node_shape.rules) ≡ true
node_loops_there rows =
    let early = with_default (with_default rows name_rule) mesh_rule in
    let before = with_default (with_default early state_rule) first_rule in
    defaults_stay (codes "loops") (drop 5 node_shape.rules) (with_default before threads_rule)
    (default_comes threads_rule (codes "1") before)

node_level_there : (rows : List Row) → has_row (codes "log-level") (fold with_default rows node_shape.rules) ≡ true
node_level_there rows =
    let early = with_default (with_default rows name_rule) mesh_rule in
    let before = with_default (with_default (with_default early state_rule) first_rule) threads_rule in
    defaults_stay (codes "log-level") (drop 6 node_shape.rules) (with_default before log_rule)
    (default_comes log_rule (codes "info") before)

node_seconds_there : (rows : List Row)
    → has_row (codes "drain-seconds") (fold with_default rows node_shape.rules) ≡ true
node_seconds_there rows =
    let early = with_default (with_default rows name_rule) mesh_rule in
    let later = with_default (with_default early state_rule) first_rule in
    let before = with_default (with_default later threads_rule) log_rule in
    defaults_stay (codes "drain-seconds") (drop 7 node_shape.rules) (with_default before time_rule)
    (default_comes time_rule (codes "30") before)

node_whole : (words : List Text)
    → level_fault node_shape [] nothing_held words false [] ≡ []
    → AreNodeOptions (rows_after node_shape.rules [] words)
node_whole words e =
    let rows = rows_after node_shape.rules [] words in
    let kept = level_keeps node_shape (Each (RowFits node_shape.rules)) node_keeps [] nothing_held words false []
    node_defaults e tt in
    let given = node_needs rows kept.1 in
    let used = (settled node_shape.rules (walk node_shape.rules [] nothing_held words).held).rows in
    record {
      name = has_text node_shape (codes "NAME") name_rule rows refl kept.0 (given_found (codes "NAME") rows given.0);
      mesh = has_text node_shape (codes "mesh") mesh_rule rows refl kept.0 (given_found (codes "mesh") rows given.1);
      state =
          has_text node_shape (codes "state") state_rule rows refl kept.0
          (row_found (codes "state") rows (state_there used));
      least_inc =
          number_if_found first_rule (find (λ r. bytes_eq r.id (codes "least-inc")) rows)
          (row_of_rule node_shape.rules (codes "least-inc") first_rule rows refl kept.0);
      loops =
          has_number node_shape (codes "loops") threads_rule rows refl kept.0
          (row_found (codes "loops") rows (node_loops_there used));
      log_level =
          has_text node_shape (codes "log-level") log_rule rows refl kept.0
          (row_found (codes "log-level") rows (node_level_there used));
      drain_seconds =
          has_number node_shape (codes "drain-seconds") time_rule rows refl kept.0
          (row_found (codes "drain-seconds") rows (node_seconds_there used));
    }

-- ---- `check`

check_keeps : Each (Keeps check_shape.args_override_self (Each (RowFits check_shape.rules))) check_shape.rules
check_keeps = (
  value_keeps false check_shape.rules file_rule refl,
  (help_keeps false (Each (RowFits check_shape.rules)) flag_rule, tt),
)

check_defaults : Each (KeepsDefault (Each (RowFits check_shape.rules))) check_shape.rules
check_defaults = (
  default_keeps check_shape.rules file_rule refl,
  (default_keeps check_shape.rules flag_rule refl, tt),
)

check_needs : (rows : List Row) → check_fault check_shape rows false ≡ [] → is_given (codes "FILE") rows ≡ true
check_needs rows e = one_given (is_given (codes "FILE") rows) e

check_whole : (words : List Text) → level_fault check_shape [] nothing_held words false [] ≡ []
    → IsSome (first_of (codes "FILE") (rows_after check_shape.rules [] words))
check_whole words e =
    let rows = rows_after check_shape.rules [] words in
    let kept = level_keeps check_shape (Each (RowFits check_shape.rules)) check_keeps [] nothing_held words false []
    check_defaults e tt in
    has_text check_shape (codes "FILE") file_rule rows refl kept.0
    (given_found (codes "FILE") rows (check_needs rows kept.1))

-- ---- the line

-- where the first that passes is known to fit
first_fits : {X : Type 0} (P : X → Type 0) (p : X → Bool) (xs : List X)
    → Each (λ x. p x ≡ true → P x) xs
    → IfSome (find p xs) P
first_fits P p [] all = tt
first_fits P p (x ∷ xs) all = go (p x) all.0 (first_fits P p xs all.1)
  where
    go : (b : Bool) → (b ≡ true → P x) → IfSome (find p xs) P → IfSome (cond b (Some x) (find p xs)) P
    go true here rest = here refl
    go false here rest = rest

left_holds : (b : Bool) → (b || false) ≡ true → b ≡ true
left_holds true e = refl
left_holds false e = e

help_met : (word : Text) → (bytes_eq (codes "help") word || false) ≡ true → IsNoHelp whole_line.top word → ⊥
help_met word e plain =
    let same = (bytes_eq-Decides (codes "help") word).0 (left_holds (bytes_eq (codes "help") word) e) in
    let bad : true ≡ false = subst (λ (w : Text). (bytes_eq w (codes "help") && true) ≡ false) (sym same) plain in
    true≢false bad

-- the subcommand that the words name is whole, where it has no fault
abbrev IsWholeAt : List Text → Shape → Type 0
IsWholeAt words s = level_fault s [] nothing_held words false [] ≡ [] → IsWhole (rows_at s words)

each_whole : (name : Text) (words : List Text) → IsNoHelp whole_line.top name
    → Each (λ s. answers_to name (label_of s) ≡ true → IsWholeAt words s) whole_line.subs
each_whole name words plain = (
  (λ _ _. inl refl),
  (
    (λ _ e. inr (inl (refl, match_whole words e))),
    (
      (λ _ _. inr (inr (inl refl))),
      (
        (λ _ _. inr (inr (inr (inl refl)))),
        (
          (λ _ e. inr (inr (inr (inr (inl (refl, serve_whole words e)))))),
          (
            (λ _ e. inr (inr (inr (inr (inr (inl (refl, drain_whole words e))))))),
            (
              (λ _ e. inr (inr (inr (inr (inr (inr (inl (refl, node_whole words e)))))))),
              (
                (λ _ e. inr (inr (inr (inr (inr (inr (inr (refl, check_whole words e)))))))),
                ((λ here _. absurd (help_met name here plain)), tt),
              ),
            ),
          ),
        ),
      ),
    ),
  ),
)

entered_whole : (o : Option Shape) (rows : List Row) (words : List Text) → IfSome o (IsWholeAt words)
    → option_map_or (λ s. level_fault s [] nothing_held words false []) o [] ≡ []
    → check_fault whole_line.top rows (is_some (option_map (λ s. rows_at s words) o)) ≡ []
    → IsSomeAnd (option_map (λ s. rows_at s words) o) IsWhole
entered_whole None rows words whole e check = absurd (no_kinds kind.MissingSubcommand [] check)
entered_whole (Some s) rows words whole e check = whole e

stop_whole : (stop : Option (Text × List Text)) (rows : List Row) → IfSome stop (λ p. IsNoHelp whole_line.top p.0)
    → entered_fault whole_line stop ≡ [] → check_fault whole_line.top rows (is_some (entered whole_line stop)) ≡ []
    → IsSomeAnd (entered whole_line stop) IsWhole
stop_whole None rows plain e check = absurd (no_kinds kind.MissingSubcommand [] check)
stop_whole (Some p) rows plain e check =
    entered_whole (find (λ s. answers_to p.0 (label_of s)) whole_line.subs) rows p.1
    (first_fits (IsWholeAt p.1) (λ s. answers_to p.0 (label_of s)) whole_line.subs (each_whole p.0 p.1 plain)) e check

-- words without a fault name a command, and give it all that it needs
pub taken_whole : (words : List Text) → fault_of router words ≡ [] → IsSomeAnd (subcommand_of router words) IsWhole
taken_whole words e =
    let given = argument_words whole_line words in
    let names = names_of whole_line in
    let end = walk whole_line.top.rules names nothing_held given in
    let a = both_pass (walk_fault whole_line.top names (walk_from nothing_held) given) _ e in
    let b = both_pass (entered_fault whole_line end.stopped) _ a.1 in
    let c = both_pass (settle_fault whole_line.top.rules whole_line.top.args_override_self end.held) _ b.1 in
    let d = both_pass (defaults_fault (settled whole_line.top.rules end.held).rows whole_line.top.rules) _ c.1 in
    stop_whole end.stopped (finished whole_line.top.rules end.held)
    (walk_stops whole_line.top names (walk_from nothing_held) given a.0 tt) b.0 d.1

-- the grammar says what a parse gives, and how it fails
pub is_exact : is_simple_and_free router ≡ true
is_exact = refl

pub is_simple_line : is_simple router ≡ true
is_simple_line = refl
