use Rattle.std.proofs.Common.{◌≡◌, ◌∙◌, ap, sym, subst, true, map, List, [], Option}
use Rattle.std.specs.Prelude.{IsSomeAnd}
use Rattle.std.specs.String.{string_bytes}
use Rattle.clap.specs.Words.{App, HasKind, Row, Text, app_of, fault_of, is_simple, is_simple_and_free, kind_of, subcommand_of, subcommand_rows_of, takes}
use Rattle.clap.specs.declared.error.kind.ErrorKind.TheVariants.{OutOfMemory}
use Rattle.clap.proofs.KindLemmas.{fails_by_from}
use Rattle.clap.proofs.TakesLemmas.{passed_up}
use Rattle.router_command.specs.Command.{IsWhole}
use Rattle.router_command.specs.Line.{router}
use Rattle.router_command.proofs.Taken.{is_exact, is_simple_line, taken_whole}
use Rattle.router_command.proofs.command.command_of.Goals as goal

-- what the contract of the parse says of the built command, said of the definition
as_router : (P : App → Type 0) (a : App) → a ≡ router → (is_simple_and_free a ≡ true → P a) → P router
as_router P a same told = subst P same (told (ap is_simple_and_free same ∙ is_exact))

found_is : (a : App) (words : List Text) (found : Option (Text × List Row))
    → a ≡ router
    → (is_simple a ≡ true → found ≡ subcommand_of a words)
    → found ≡ subcommand_of router words
found_is a words found same told =
    told (ap is_simple same ∙ is_simple_line) ∙ ap (λ (b : App). subcommand_of b words) same

pub returns-in_err-found-clause-refused : goal.returns-in_err-found-clause-refused
returns-in_err-found-clause-refused c =
    let words = map string_bytes c.args.words.now in
    let kinds : HasKind (fault_of router words) c.in_err-found.field-0.0 = as_router
    (λ (a : App). HasKind (fault_of a words) c.in_err-found.field-0.0) (app_of c.in_ok-line.field-0)
    c.in_ok-line.ensures.same c.in_err-found.ensures.kinds in
    fails_by_from (fault_of router words) c.from_residual-in_err-found.result c.in_err-found.field-0.0 kinds
    c.from_residual-in_err-found.ensures.0 c.from_residual-in_err-found.ensures.1

pub returns-in_err-found-clause-taken : goal.returns-in_err-found-clause-taken
returns-in_err-found-clause-taken c =
    let words = map string_bytes c.args.words.now in
    let told : takes router words ≡ true → kind_of c.in_err-found.field-0.0 ≡ OutOfMemory =
    subst (λ (a : App). takes a words ≡ true → kind_of c.in_err-found.field-0.0 ≡ OutOfMemory) c.in_ok-line.ensures.same
    c.in_err-found.ensures.passes in
    passed_up c.from_residual-in_err-found.result c.in_err-found.field-0.0
    (λ e. takes router words ≡ true → kind_of e ≡ OutOfMemory) c.from_residual-in_err-found.ensures.1 told

pub command_in-requires : goal.command_in-requires
command_in-requires c =
    let words = map string_bytes c.args.words.now in
    let none : fault_of router words ≡ [] = as_router (λ (a : App). fault_of a words ≡ []) (app_of c.in_ok-line.field-0)
    c.in_ok-line.ensures.same c.in_ok-found.ensures.kinds in
    let is : subcommand_rows_of c.in_ok-found.found ≡ subcommand_of router words =
    found_is (app_of c.in_ok-line.field-0) words _ c.in_ok-line.ensures.same
    (λ simple. (c.in_ok-found.ensures.matches simple).1) in
    subst (λ (o : Option (Text × List Row)). IsSomeAnd o IsWhole) (sym is) (taken_whole words none)

pub returns-clause-asked : goal.returns-clause-asked
returns-clause-asked c =
    let words = map string_bytes c.args.words.now in
    let is : subcommand_rows_of c.in_ok-found.found ≡ subcommand_of router words =
    found_is (app_of c.in_ok-line.field-0) words _ c.in_ok-line.ensures.same
    (λ simple. (c.in_ok-found.ensures.matches simple).1) in
    let named = c.command_in.ensures in
    (named.0, sym is ∙ named.1, named.2)

pub returns-clause-refused : goal.returns-clause-refused
returns-clause-refused c =
    let words = map string_bytes c.args.words.now in
    as_router (λ (a : App). fault_of a words ≡ []) (app_of c.in_ok-line.field-0) c.in_ok-line.ensures.same
    c.in_ok-found.ensures.kinds
