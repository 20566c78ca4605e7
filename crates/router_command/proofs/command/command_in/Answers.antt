use Rattle.std.proofs.Common.{rules, ◌≡◌, ◌∙◌, codes, List, Option, Some, subst}
use Rattle.std.specs.Prelude.{IsSome, IsSomeAnd}
use Rattle.clap.specs.Words.{Row, Text, first_of, found_of, rows_of, subcommand_rows_of}
use Rattle.clap.proofs.WalkLemmas.{one_text-rows}
use Rattle.router_command.specs.Command.{AreWords, IsWhole}
use Rattle.router_command.proofs.Texts.{text_if_there, text_is, text_there}
use Rattle.router_command.proofs.command.command_in.Goals as goal

words_of : (name : Text) (rows : List Row) → name ≡ codes "match" → IsWhole (name, rows) → AreWords rows
words_of name rows e whole = search rules

path_of : (name : Text) (rows : List Row)
    → name ≡ codes "drain"
    → IsWhole (name, rows)
    → IsSome (first_of (codes "PATH") rows)
path_of name rows e whole = search rules

file_of : (name : Text) (rows : List Row)
    → name ≡ codes "check"
    → IsWhole (name, rows)
    → IsSome (first_of (codes "FILE") rows)
file_of name rows e whole = search rules

whole_at : (found : Option (Text × List Row)) (name : Text) (rows : List Row)
    → found ≡ Some (name, rows)
    → IsSomeAnd found IsWhole
    → IsWhole (name, rows)
whole_at found name rows is whole = subst (λ (o : Option (Text × List Row)). IsSomeAnd o IsWhole) is whole

pub unwrap-requires-in-match : goal.unwrap-requires-in-match
unwrap-requires-in-match c =
    let rows = rows_of (found_of c.unwrap.result.1.now) in
    let is : subcommand_rows_of c.args.found.now ≡ Some (c.unwrap.result.0.now, rows) = search rules in
    let name : c.unwrap.result.0.now ≡ codes "match" = search rules in
    text_there (found_of c.unwrap.result.1.now) (codes "PATTERN") c.get_str.result c.get_str.ensures
    (words_of _ rows name (whole_at _ _ rows is c.requires)).pattern

pub unwrap-requires-in-match-2 : goal.unwrap-requires-in-match-2
unwrap-requires-in-match-2 c =
    let rows = rows_of (found_of c.unwrap.result.1.now) in
    let is : subcommand_rows_of c.args.found.now ≡ Some (c.unwrap.result.0.now, rows) = search rules in
    let name : c.unwrap.result.0.now ≡ codes "match" = search rules in
    text_there (found_of c.unwrap.result.1.now) (codes "SUBJECT") c.get_str-in-match.result c.get_str-in-match.ensures
    (words_of _ rows name (whole_at _ _ rows is c.requires)).subject

pub returns-in-match : goal.returns-in-match
returns-in-match c =
    let found = found_of c.unwrap.result.1.now in
    let rows = rows_of found in
    let is : subcommand_rows_of c.args.found.now ≡ Some (codes "match", rows) = search rules in (
      rows,
      is,
      (
        text_is found (codes "PATTERN") c.get_str.result c.unwrap-in-match.result c.get_str.ensures
            c.unwrap-in-match.ensures,
        text_is found (codes "SUBJECT") c.get_str-in-match.result c.unwrap-in-match-2.result c.get_str-in-match.ensures
            c.unwrap-in-match-2.ensures,
      ),
    )

pub returns-in-script : goal.returns-in-script
returns-in-script c =
    let rows = rows_of (found_of c.unwrap.result.1.now) in
    let is : subcommand_rows_of c.args.found.now ≡ Some (codes "script", rows) = search rules in
    let same = one_text-rows (found_of c.unwrap.result.1.now) (codes "audit") in
    (rows, is, record { on = λ e. c.get_flag.ensures.value (same ∙ e); off = λ e. c.get_flag.ensures.other (same ∙ e) })

pub unwrap-requires-in-drain : goal.unwrap-requires-in-drain
unwrap-requires-in-drain c =
    let rows = rows_of (found_of c.unwrap.result.1.now) in
    let is : subcommand_rows_of c.args.found.now ≡ Some (c.unwrap.result.0.now, rows) = search rules in
    let name : c.unwrap.result.0.now ≡ codes "drain" = search rules in
    text_there (found_of c.unwrap.result.1.now) (codes "PATH") c.get_str-in-drain.result c.get_str-in-drain.ensures
    (path_of _ rows name (whole_at _ _ rows is c.requires))

pub returns-in-drain : goal.returns-in-drain
returns-in-drain c =
    let found = found_of c.unwrap.result.1.now in
    let rows = rows_of found in
    let is : subcommand_rows_of c.args.found.now ≡ Some (codes "drain", rows) = search rules in (
      rows,
      is,
      (
        text_is found (codes "PATH") c.get_str-in-drain.result c.unwrap-in-drain.result c.get_str-in-drain.ensures
            c.unwrap-in-drain.ensures,
        text_if_there found (codes "NAME") c.get_str-in-drain-2.result c.get_str-in-drain-2.ensures,
      ),
    )

pub unwrap-requires-in-check : goal.unwrap-requires-in-check
unwrap-requires-in-check c =
    let rows = rows_of (found_of c.unwrap.result.1.now) in
    let is : subcommand_rows_of c.args.found.now ≡ Some (c.unwrap.result.0.now, rows) = search rules in
    let name : c.unwrap.result.0.now ≡ codes "check" = search rules in
    text_there (found_of c.unwrap.result.1.now) (codes "FILE") c.get_str-in-check.result c.get_str-in-check.ensures
    (file_of _ rows name (whole_at _ _ rows is c.requires))

pub returns-in-check : goal.returns-in-check
returns-in-check c =
    let found = found_of c.unwrap.result.1.now in
    let rows = rows_of found in
    let is : subcommand_rows_of c.args.found.now ≡ Some (codes "check", rows) = search rules in (
      rows,
      is,
      text_is found (codes "FILE") c.get_str-in-check.result c.unwrap-in-check.result c.get_str-in-check.ensures
          c.unwrap-in-check.ensures,
    )
