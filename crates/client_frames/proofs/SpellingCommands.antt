-- A line means what it spells, and is refused for its cause.
use Rattle.std.proofs.Common.{◌≡◌, ℕ, Bool, true, false, cond, List, [], ◌∷◌, ◌++◌, length, drop, refl, ap, sym, ◌∙◌, subst, Option, Some, None, Ok, Err}
use Rattle.std.specs.Prelude.{nat_le, is_some}
use Rattle.std.specs.Str.{bytes_eq, str_to_ascii_lowercase}
use Rattle.std.proofs.lemmas.Bool.{leb-true, le-leb}
use Rattle.std.proofs.lemmas.Slice.Eq.{bytes_eq-Decides}
use Rattle.subj.specs.Names.{pattern_fault, sid_fault}
use Rattle.line_fields.specs.Fields.{is_word, line_fields}
use Rattle.line_fields.specs.Spelling.{IsLineOf}
use Rattle.line_fields.proofs.SpellingFields.{line_fields_are, begins_with_fields}
use Rattle.client_frames.specs.declared.decoding.Operation.{Operation}
use Rattle.client_frames.specs.declared.decoding.Operation.TheVariants as operation
use Rattle.client_frames.specs.declared.decoding.Sizes.{Sizes}
use Rattle.client_frames.specs.declared.client_line.ClientLine.{ClientLine}
use Rattle.client_frames.specs.declared.client_line.ClientLine.TheVariants.{Connect, Pub, PubBad, Sub, Unsub, Ping, Pong}
use Rattle.client_frames.specs.declared.client_line.Options.{Options}
use Rattle.client_frames.specs.declared.faults.LineFault.{LineFault}
use Rattle.client_frames.specs.declared.faults.LineFault.TheVariants.{UnknownOp, BadArgs, BadJson, BadSubject, BadHeader}
use Rattle.client_frames.specs.Arguments.{Arguments, two_or_three, HeadedArguments, three_or_four, count_of}
use Rattle.client_frames.specs.Choices.{options_of}
use Rattle.client_frames.specs.Operations.{word_of, operations, operation_among, operation_of}
use Rattle.client_frames.specs.Lines.{Meaning, line_meaning, fields_meaning, operation_meaning, connection_by, publication_fault, publication_of, publication_sized, sizes_of, headed_publication, headed_publication_of, membership_fault, subscription_of, maximum, maximum_of, unsubscription, unsubscription_of}
use Rattle.client_frames.specs.Spelling.{outer_fields, SpellsPub, SpellsHpub, publishing, SpellsPublication, SpellsSub, SpellsMaximum, SpellsUnsub, TextSpells, IsOperationOn, Spells, MeansWhatItSpells, SpellsWhatItMeans, SpellsOneCommand}
use Rattle.client_frames.specs.Causes.{HasBadArgs, NamesNoOperation, TextIsRefused, IsRefusedBehind, HasCause, IsRefusedForItsCause, HasTheCauseItIsRefusedFor, IsItsCause, HasOneCause}
use Rattle.client_frames.proofs.Texts.{text_behind}

-- ---- operations

-- the operation that is found is one whose word the field is
found_is_named : (among : List Operation) (field : List ℕ) (o : Operation)
    → operation_among among field ≡ Some o
    → is_word (word_of o) field ≡ true
found_is_named [] field o is = absurd (cc)
found_is_named (first ∷ others) field o is =
    by_test (is_word (word_of first) field) refl is (λ rest. found_is_named others field o rest)
  where
    by_test : (b : Bool)
        → is_word (word_of first) field ≡ b
        → cond b (Some first) (operation_among others field) ≡ Some o
        → (operation_among others field ≡ Some o → is_word (word_of o) field ≡ true)
        → is_word (word_of o) field ≡ true
    by_test true named same later = let e : first ≡ o = cc in subst (λ p. is_word (word_of p) field ≡ true) e named
    by_test false named rest later = later rest

abbrev lower : List ℕ → List ℕ
lower bytes = str_to_ascii_lowercase bytes

abbrev among_letters : List Operation → List ℕ → Option Operation
among_letters [] letters = None
among_letters (o ∷ others) letters = cond (bytes_eq letters (lower (word_of o))) (Some o) (among_letters others letters)

each_is_found : (o : Operation) → among_letters operations (lower (word_of o)) ≡ Some o
each_is_found operation.Connect = refl
each_is_found operation.Pub = refl
each_is_found operation.Hpub = refl
each_is_found operation.Sub = refl
each_is_found operation.Unsub = refl
each_is_found operation.Ping = refl
each_is_found operation.Pong = refl

-- and an operation whose word the field is, is found
named_is_found : (o : Operation) (field : List ℕ) → is_word (word_of o) field ≡ true → operation_of field ≡ Some o
named_is_found o field named =
    ap (among_letters operations) ((bytes_eq-Decides (lower field) (lower (word_of o))).0 named) ∙ each_is_found o

-- ---- from what stands behind an operation to its meaning

abbrev arguments_of : List ℕ → Option (List ℕ) → List ℕ → Arguments
arguments_of first between last = record { first = first; between = between; last = last }

outer : (first : List ℕ) (between : Option (List ℕ)) (last : List ℕ)
    → two_or_three (outer_fields first between last) ≡ Some (arguments_of first between last)
outer first None last = refl
outer first (Some reply) last = refl

connect_by : (text : List ℕ) (arguments : List (List ℕ)) (options : Option Options)
    → ¬ (arguments ≡ [])
    → options_of text ≡ options
    → operation_meaning (Some operation.Connect) text arguments ≡ connection_by options
connect_by text [] options some is = absurd (some refl)
connect_by text (field ∷ more) options some is = ap connection_by is

-- a publication whose subject or reply is bad, or is not
abbrev publication_by : Bool → List ℕ → Option (List ℕ) → Option ℕ → ℕ → ClientLine
publication_by bad subject reply headers size =
    cond bad (PubBad size) (Pub (record { subject = subject; reply = reply; headers = headers; size = size }))

pub_by : (arguments : List (List ℕ)) (subject : List ℕ) (reply : Option (List ℕ)) (size : ℕ) (bad : Bool)
    → SpellsPub arguments subject reply size
    → is_some (publication_fault subject reply) ≡ bad
    → publication_of (two_or_three arguments) ≡ Ok (publication_by bad subject reply None size)
pub_by arguments subject reply size bad spelt is_bad =
    ap (λ fs. publication_of (two_or_three fs)) spelt.are ∙ ap publication_of (outer subject reply spelt.digits)
    ∙ ap (publication_sized (arguments_of subject reply spelt.digits)) spelt.is_size
    ∙ ap (λ b. Ok (publication_by b subject reply None size)) is_bad

abbrev headed_arguments_of : List ℕ → Option (List ℕ) → List ℕ → List ℕ → HeadedArguments
headed_arguments_of first between block whole = record {
  first = first;
  between = between;
  block = block;
  whole = whole;
}

outer_and_one : (first : List ℕ) (between : Option (List ℕ)) (block whole : List ℕ)
    → three_or_four (outer_fields first between block ++ (whole ∷ []))
    ≡ Some (headed_arguments_of first between block whole)
outer_and_one first None block whole = refl
outer_and_one first (Some reply) block whole = refl

abbrev sizes : ℕ → ℕ → Sizes
sizes block whole = record { block = block; whole = whole }

sizes_by : (block_digits digits : List ℕ) (block whole : ℕ) (part : Bool)
    → count_of block_digits ≡ Some block
    → count_of digits ≡ Some whole
    → nat_le block whole ≡ part
    → sizes_of (count_of block_digits) (count_of digits) ≡ cond part (Some (sizes block whole)) None
sizes_by block_digits digits block whole part is_block is_whole is_part =
    ap (λ b. sizes_of b (count_of digits)) is_block
    ∙ ap (sizes_of (Some block)) is_whole
    ∙ ap (λ p. cond p (Some (sizes block whole)) None) is_part

hpub_by : (arguments : List (List ℕ)) (subject : List ℕ) (reply : Option (List ℕ)) (block size : ℕ) (bad : Bool)
    → SpellsHpub arguments subject reply block size
    → is_some (publication_fault subject reply) ≡ bad
    → headed_publication_of (three_or_four arguments) ≡ Ok (publication_by bad subject reply (Some block) size)
hpub_by arguments subject reply block size bad spelt is_bad =
    ap (λ fs. headed_publication_of (three_or_four fs)) spelt.are
    ∙ ap headed_publication_of (outer_and_one subject reply spelt.block_digits spelt.digits)
    ∙ ap (headed_publication (headed_arguments_of subject reply spelt.block_digits spelt.digits))
    (sizes_by spelt.block_digits spelt.digits block size true spelt.is_block spelt.is_size
    (le-leb block size spelt.is_part))
    ∙ ap (λ b. Ok (publication_by b subject reply (Some block) size)) is_bad

published_by : (text : List ℕ) (arguments : List (List ℕ)) (subject : List ℕ) (reply : Option (List ℕ))
    (headers : Option ℕ) (size : ℕ) (bad : Bool)
    → SpellsPublication arguments subject reply headers size
    → is_some (publication_fault subject reply) ≡ bad
    → operation_meaning (Some (publishing headers)) text arguments ≡ Ok (publication_by bad subject reply headers size)
published_by text arguments subject reply None size bad spelt is_bad =
    pub_by arguments subject reply size bad spelt is_bad
published_by text arguments subject reply (Some block) size bad spelt is_bad =
    hpub_by arguments subject reply block size bad spelt is_bad

abbrev subscription_by : Bool → Bool → List ℕ → Option (List ℕ) → List ℕ → Meaning
subscription_by bad_names bad_pattern pattern queue sid =
    cond bad_names (Err BadArgs) (cond bad_pattern (Err BadSubject) (Ok (Sub pattern queue sid)))

sub_by : (arguments : List (List ℕ)) (pattern : List ℕ) (queue : Option (List ℕ)) (sid : List ℕ) (bad : Bool)
    → SpellsSub arguments pattern queue sid
    → is_some (pattern_fault pattern) ≡ bad
    → subscription_of (two_or_three arguments) ≡ subscription_by false bad pattern queue sid
sub_by arguments pattern queue sid bad spelt is_bad =
    ap (λ fs. subscription_of (two_or_three fs)) spelt.are ∙ ap subscription_of (outer pattern queue sid)
    ∙ ap (λ b. subscription_by b (is_some (pattern_fault pattern)) pattern queue sid) spelt.are_names
    ∙ ap (λ b. subscription_by false b pattern queue sid) is_bad

maximum_by : (fields : List (List ℕ)) (max : Option ℕ) → SpellsMaximum fields max → maximum_of fields ≡ Ok max
maximum_by fields None none = ap maximum_of none
maximum_by fields (Some max) some = ap maximum_of some.1 ∙ ap maximum some.2

abbrev closing_by : Bool → List ℕ → Option ℕ → Meaning
closing_by bad sid max = cond bad (Err BadArgs) (Ok (Unsub sid max))

unsub_by : (arguments : List (List ℕ)) (sid : List ℕ) (max : Option ℕ)
    → SpellsUnsub arguments sid max
    → unsubscription_of arguments ≡ Ok (Unsub sid max)
unsub_by arguments sid max spelt =
    ap unsubscription_of spelt.are
    ∙ ap (unsubscription sid) (maximum_by spelt.behind max spelt.is_maximum)
    ∙ ap (λ b. closing_by b sid max) spelt.is_sid

-- the same text behind the same operation
behind_same : (o named : Operation) (text : List ℕ) (arguments : List (List ℕ))
    → o ≡ named
    → operation_meaning (Some o) text arguments ≡ operation_meaning (Some named) text arguments
behind_same o named text arguments is = ap (λ p. operation_meaning (Some p) text arguments) is

text_means : (o : Operation) (text : List ℕ) (arguments : List (List ℕ)) (command : ClientLine)
    → TextSpells o text arguments command
    → operation_meaning (Some o) text arguments ≡ Ok command
text_means o text arguments (Connect options) spelt =
    behind_same o operation.Connect text arguments spelt.0
    ∙ connect_by text arguments (Some options) spelt.1.some spelt.1.chosen
text_means o text arguments (Pub head) spelt =
    behind_same o (publishing head.headers) text arguments spelt.0
    ∙ published_by text arguments head.subject head.reply head.headers head.size false spelt.1 spelt.2
text_means o text arguments (PubBad size) spelt =
    behind_same o (publishing spelt.headers) text arguments spelt.publishes
    ∙ published_by text arguments spelt.subject spelt.reply spelt.headers size true spelt.spelt spelt.bad
text_means o text arguments (Sub pattern queue sid) spelt =
    behind_same o operation.Sub text arguments spelt.0 ∙ sub_by arguments pattern queue sid false spelt.1 spelt.2
text_means o text arguments (Unsub sid max) spelt =
    behind_same o operation.Unsub text arguments spelt.0 ∙ unsub_by arguments sid max spelt.1
text_means o text arguments Ping spelt = behind_same o operation.Ping text arguments spelt
text_means o text arguments Pong spelt = behind_same o operation.Pong text arguments spelt

-- ---- what stands behind an operation spells a command, or has a cause

data Judged (o : Operation) (text : List ℕ) (arguments : List (List ℕ)) : Type 0 where
  spelt : (command : ClientLine) → TextSpells o text arguments command → Judged o text arguments
  refused : (fault : LineFault)
      → TextIsRefused fault o text arguments
      → operation_meaning (Some o) text arguments ≡ Err fault
      → Judged o text arguments

judged_connect : (text : List ℕ) (arguments : List (List ℕ)) → Judged operation.Connect text arguments
judged_connect text [] = refused BadArgs refl refl
judged_connect text (field ∷ more) = by_options (options_of text) refl where
  some : ¬ ((field ∷ more) ≡ [])
  some is = absurd (cc)

  by_options : (options : Option Options) → options_of text ≡ options → Judged operation.Connect text (field ∷ more)
  by_options None is = refused BadJson (refl, record { some = some; none_chosen = is }) (ap connection_by is)
  by_options (Some options) is = spelt (Connect options) (refl, record { some = some; chosen = is })

judged_pub_by : (text : List ℕ) (subject : List ℕ) (reply : Option (List ℕ)) (last : List ℕ) (size : Option ℕ)
    (bad : Bool)
    → count_of last ≡ size
    → is_some (publication_fault subject reply) ≡ bad
    → Judged operation.Pub text (outer_fields subject reply last)
judged_pub_by text subject reply last None bad is is_bad = refused BadArgs none (no_size)
  where
    no_size : operation_meaning (Some operation.Pub) text (outer_fields subject reply last) ≡ Err BadArgs
    no_size = ap publication_of (outer subject reply last) ∙ ap (publication_sized (arguments_of subject reply last)) is

    none : (s : List ℕ) (r : Option (List ℕ)) (n : ℕ) → ¬ (SpellsPub (outer_fields subject reply last) s r n)
    none s r n spells =
        let means = pub_by (outer_fields subject reply last) s r n _ spells refl in absurd (cc (means, no_size))
judged_pub_by text subject reply last (Some size) true is is_bad =
    spelt (PubBad size) (record {
      headers = None;
      publishes = refl;
      subject = subject;
      reply = reply;
      spelt = record { digits = last; are = refl; is_size = is };
      bad = is_bad;
    })
judged_pub_by text subject reply last (Some size) false is is_bad =
    spelt (Pub (record { subject = subject; reply = reply; headers = None; size = size }))
    (refl, record { digits = last; are = refl; is_size = is }, is_bad)

-- fields that no publication has
no_pub : (arguments : List (List ℕ))
    → publication_of (two_or_three arguments) ≡ Err BadArgs
    → HasBadArgs operation.Pub arguments
no_pub arguments is subject reply size spells =
    let means = pub_by arguments subject reply size _ spells refl in absurd (cc (means, is))

judged_pub : (text : List ℕ) (arguments : List (List ℕ)) → Judged operation.Pub text arguments
judged_pub text [] = refused BadArgs (no_pub [] refl) refl
judged_pub text (a ∷ []) = refused BadArgs (no_pub (a ∷ []) refl) refl
judged_pub text (a ∷ b ∷ []) = judged_pub_by text a None b _ _ refl refl
judged_pub text (a ∷ b ∷ c ∷ []) = judged_pub_by text a (Some b) c _ _ refl refl
judged_pub text (a ∷ b ∷ c ∷ d ∷ more) = refused BadArgs (no_pub (a ∷ b ∷ c ∷ d ∷ more) refl) refl

-- fields that no publication with headers has
no_hpub : (arguments : List (List ℕ))
    → headed_publication_of (three_or_four arguments) ≡ Err BadArgs
    → HasBadArgs operation.Hpub arguments
no_hpub arguments is subject reply block size spells =
    let means = hpub_by arguments subject reply block size _ spells refl in absurd (cc (means, is))

abbrev headed_fields : List ℕ → Option (List ℕ) → List ℕ → List ℕ → List (List ℕ)
headed_fields subject reply block whole = outer_fields subject reply block ++ (whole ∷ [])

-- sizes that are none
no_sizes : (text : List ℕ) (subject : List ℕ) (reply : Option (List ℕ)) (block whole : List ℕ)
    → sizes_of (count_of block) (count_of whole) ≡ None
    → Judged operation.Hpub text (headed_fields subject reply block whole)
no_sizes text subject reply block whole none =
    refused BadArgs (no_hpub (headed_fields subject reply block whole) bad) bad
  where
    bad : headed_publication_of (three_or_four (headed_fields subject reply block whole)) ≡ Err BadArgs
    bad =
        ap headed_publication_of (outer_and_one subject reply block whole)
        ∙ ap (headed_publication (headed_arguments_of subject reply block whole)) none

judged_hpub_by : (text : List ℕ) (subject : List ℕ) (reply : Option (List ℕ)) (block_digits digits : List ℕ)
    (block size : ℕ) (bad : Bool)
    → SpellsHpub (headed_fields subject reply block_digits digits) subject reply block size
    → is_some (publication_fault subject reply) ≡ bad
    → Judged operation.Hpub text (headed_fields subject reply block_digits digits)
judged_hpub_by text subject reply block_digits digits block size true spells is_bad =
    spelt (PubBad size)
    (record { headers = Some block; publishes = refl; subject = subject; reply = reply; spelt = spells; bad = is_bad })
judged_hpub_by text subject reply block_digits digits block size false spells is_bad =
    spelt (Pub (record { subject = subject; reply = reply; headers = Some block; size = size })) (refl, spells, is_bad)

judged_part : (text : List ℕ) (subject : List ℕ) (reply : Option (List ℕ)) (block_digits digits : List ℕ)
    (block size : ℕ) (part : Bool)
    → count_of block_digits ≡ Some block
    → count_of digits ≡ Some size
    → nat_le block size ≡ part
    → Judged operation.Hpub text (headed_fields subject reply block_digits digits)
judged_part text subject reply block_digits digits block size true is_block is_size is_part =
    judged_hpub_by text subject reply block_digits digits block size _
    (record {
      block_digits = block_digits;
      digits = digits;
      are = refl;
      is_block = is_block;
      is_size = is_size;
      is_part = leb-true block size is_part;
    })
    refl
judged_part text subject reply block_digits digits block size false is_block is_size is_part =
    no_sizes text subject reply block_digits digits
    (sizes_by block_digits digits block size false is_block is_size is_part)

judged_sizes : (text : List ℕ) (subject : List ℕ) (reply : Option (List ℕ)) (block_digits digits : List ℕ)
    (block size : Option ℕ)
    → count_of block_digits ≡ block
    → count_of digits ≡ size
    → Judged operation.Hpub text (headed_fields subject reply block_digits digits)
judged_sizes text subject reply block_digits digits None size is_block is_size =
    no_sizes text subject reply block_digits digits (ap (λ b. sizes_of b (count_of digits)) is_block)
judged_sizes text subject reply block_digits digits (Some block) None is_block is_size =
    no_sizes text subject reply block_digits digits
    (ap (λ b. sizes_of b (count_of digits)) is_block ∙ ap (sizes_of (Some block)) is_size)
judged_sizes text subject reply block_digits digits (Some block) (Some size) is_block is_size =
    judged_part text subject reply block_digits digits block size _ is_block is_size refl

judged_hpub : (text : List ℕ) (arguments : List (List ℕ)) → Judged operation.Hpub text arguments
judged_hpub text [] = refused BadArgs (no_hpub [] refl) refl
judged_hpub text (a ∷ []) = refused BadArgs (no_hpub (a ∷ []) refl) refl
judged_hpub text (a ∷ b ∷ []) = refused BadArgs (no_hpub (a ∷ b ∷ []) refl) refl
judged_hpub text (a ∷ b ∷ c ∷ []) = judged_sizes text a None b c _ _ refl refl
judged_hpub text (a ∷ b ∷ c ∷ d ∷ []) = judged_sizes text a (Some b) c d _ _ refl refl
judged_hpub text (a ∷ b ∷ c ∷ d ∷ e ∷ more) = refused BadArgs (no_hpub (a ∷ b ∷ c ∷ d ∷ e ∷ more) refl) refl

no_sub_by : (bad : Bool) (pattern : List ℕ) (queue : Option (List ℕ)) (sid : List ℕ)
    → subscription_by false bad pattern queue sid ≡ Err BadArgs
    → ⊥
no_sub_by true pattern queue sid is = cc
no_sub_by false pattern queue sid is = cc

no_sub : (arguments : List (List ℕ))
    → subscription_of (two_or_three arguments) ≡ Err BadArgs
    → HasBadArgs operation.Sub arguments
no_sub arguments is pattern queue sid spells =
    no_sub_by (is_some (pattern_fault pattern)) pattern queue sid
    (sym (sub_by arguments pattern queue sid _ spells refl) ∙ is)

judged_sub_by : (text : List ℕ) (pattern : List ℕ) (queue : Option (List ℕ)) (sid : List ℕ)
    (bad_names bad_pattern : Bool)
    → is_some (membership_fault queue sid) ≡ bad_names
    → is_some (pattern_fault pattern) ≡ bad_pattern
    → Judged operation.Sub text (outer_fields pattern queue sid)
judged_sub_by text pattern queue sid true bad_pattern are_names is_pattern =
    refused BadArgs (no_sub (outer_fields pattern queue sid) bad) bad
  where
    bad : operation_meaning (Some operation.Sub) text (outer_fields pattern queue sid) ≡ Err BadArgs
    bad =
        ap subscription_of (outer pattern queue sid)
        ∙ ap (λ b. subscription_by b (is_some (pattern_fault pattern)) pattern queue sid) are_names
judged_sub_by text pattern queue sid false true are_names is_pattern =
    let spells : SpellsSub (outer_fields pattern queue sid) pattern queue sid = record {
      are = refl;
      are_names = are_names;
    } in
    refused BadSubject (refl, record { pattern = pattern; queue = queue; sid = sid; spelt = spells; bad = is_pattern })
    (sub_by (outer_fields pattern queue sid) pattern queue sid true spells is_pattern)
judged_sub_by text pattern queue sid false false are_names is_pattern =
    spelt (Sub pattern queue sid) (refl, record { are = refl; are_names = are_names }, is_pattern)

judged_sub : (text : List ℕ) (arguments : List (List ℕ)) → Judged operation.Sub text arguments
judged_sub text [] = refused BadArgs (no_sub [] refl) refl
judged_sub text (a ∷ []) = refused BadArgs (no_sub (a ∷ []) refl) refl
judged_sub text (a ∷ b ∷ []) = judged_sub_by text a None b _ _ refl refl
judged_sub text (a ∷ b ∷ c ∷ []) = judged_sub_by text a (Some b) c _ _ refl refl
judged_sub text (a ∷ b ∷ c ∷ d ∷ more) = refused BadArgs (no_sub (a ∷ b ∷ c ∷ d ∷ more) refl) refl

no_unsub : (arguments : List (List ℕ))
    → unsubscription_of arguments ≡ Err BadArgs
    → HasBadArgs operation.Unsub arguments
no_unsub arguments is sid max spells = let means = unsub_by arguments sid max spells in absurd (cc (means, is))

judged_unsub_by : (text sid : List ℕ) (behind : List (List ℕ)) (max : Option ℕ) (bad : Bool)
    → SpellsMaximum behind max
    → is_some (sid_fault sid) ≡ bad
    → Judged operation.Unsub text (sid ∷ behind)
judged_unsub_by text sid behind max true is_maximum is_sid = refused BadArgs (no_unsub (sid ∷ behind) bad) bad
  where
    bad : operation_meaning (Some operation.Unsub) text (sid ∷ behind) ≡ Err BadArgs
    bad = ap (unsubscription sid) (maximum_by behind max is_maximum) ∙ ap (λ b. closing_by b sid max) is_sid
judged_unsub_by text sid behind max false is_maximum is_sid =
    spelt (Unsub sid max) (refl, record { behind = behind; are = refl; is_sid = is_sid; is_maximum = is_maximum })

judged_maximum : (text sid digits : List ℕ) (max : Option ℕ)
    → count_of digits ≡ max
    → Judged operation.Unsub text (sid ∷ digits ∷ [])
judged_maximum text sid digits None is = refused BadArgs (no_unsub (sid ∷ digits ∷ []) bad) bad
  where
    bad : operation_meaning (Some operation.Unsub) text (sid ∷ digits ∷ []) ≡ Err BadArgs
    bad = ap (λ max. unsubscription sid (maximum max)) is
judged_maximum text sid digits (Some max) is =
    judged_unsub_by text sid (digits ∷ []) (Some max) _ (digits, refl, is) refl

judged_unsub : (text : List ℕ) (arguments : List (List ℕ)) → Judged operation.Unsub text arguments
judged_unsub text [] = refused BadArgs (no_unsub [] refl) refl
judged_unsub text (sid ∷ []) = judged_unsub_by text sid [] None _ refl refl
judged_unsub text (sid ∷ digits ∷ []) = judged_maximum text sid digits _ refl
judged_unsub text (sid ∷ digits ∷ another ∷ more) = refused BadArgs (no_unsub (sid ∷ digits ∷ another ∷ more) refl) refl

judged : (o : Operation) (text : List ℕ) (arguments : List (List ℕ)) → Judged o text arguments
judged operation.Connect text arguments = judged_connect text arguments
judged operation.Pub text arguments = judged_pub text arguments
judged operation.Hpub text arguments = judged_hpub text arguments
judged operation.Sub text arguments = judged_sub text arguments
judged operation.Unsub text arguments = judged_unsub text arguments
judged operation.Ping text arguments = spelt Ping refl
judged operation.Pong text arguments = spelt Pong refl

-- ---- lines

-- the operation that a line begins with
line_on : (o : Operation) (text line : List ℕ) (arguments : List (List ℕ))
    → IsOperationOn o text arguments line
    → line_meaning line ≡ operation_meaning (Some o) text arguments
line_on o text line arguments on =
    ap (fields_meaning line) (line_fields_are on.field arguments line on.fields)
    ∙ ap (λ p. operation_meaning p (drop (length on.field) line) arguments) (named_is_found o on.field on.named)
    ∙ ap (λ t. operation_meaning (Some o) t arguments) (text_behind on.field text line on.whole)

pub means_what_it_spells : MeansWhatItSpells
means_what_it_spells line command spells =
    line_on spells.named spells.text line spells.arguments spells.operation
    ∙ text_means spells.named spells.text spells.arguments command spells.spelt

-- a line begins with an operation or with none
data Begun (line : List ℕ) : Type 0 where
  on : (o : Operation) (text : List ℕ) (arguments : List (List ℕ)) → IsOperationOn o text arguments line → Begun line
  on_none : NamesNoOperation line → line_meaning line ≡ Err UnknownOp → Begun line

begun_by : (line : List ℕ) (fs : List (List ℕ)) → line_fields line ≡ fs → Begun line
begun_by line [] are =
    on_none
    (λ o text arguments it. let same = line_fields_are it.field arguments line it.fields in absurd (cc (same, are)))
    (ap (fields_meaning line) are)
begun_by line (field ∷ arguments) are = by_operation (operation_of field) refl where
  fields : IsLineOf field arguments line
  fields = begins_with_fields line field arguments are

  by_operation : (o : Option Operation) → operation_of field ≡ o → Begun line
  by_operation (Some o) is =
      on o fields.rest arguments
      (record { field = field; whole = fields.whole; fields = fields; named = found_is_named operations field o is })
  by_operation None is =
      on_none none
      (ap (fields_meaning line) are ∙ ap (λ o. operation_meaning o (drop (length field) line) arguments) is)
    where
      none : NamesNoOperation line
      none o text others it =
          let same : (field ∷ arguments) ≡ (it.field ∷ others) =
          sym are ∙ line_fields_are it.field others line it.fields in
          let first : field ≡ it.field = cc in
          let found : operation_of field ≡ Some o = ap operation_of first ∙ named_is_found o it.field it.named in
          absurd (cc (found, is))

begun : (line : List ℕ) → Begun line
begun line = begun_by line (line_fields line) refl

-- what a line is
data Outcome (line : List ℕ) : Type 0 where
  asks : (command : ClientLine) → Spells line command → Outcome line
  fails : (fault : LineFault) → HasCause line fault → line_meaning line ≡ Err fault → Outcome line

has_cause : (line : List ℕ) (fault : LineFault) → IsRefusedBehind line fault → HasCause line fault
has_cause line UnknownOp it = absurd it.refused
has_cause line BadArgs it = it
has_cause line BadJson it = it
has_cause line BadSubject it = it
has_cause line BadHeader it = absurd it.refused

outcome_by : (line : List ℕ) → Begun line → Outcome line
outcome_by line (on_none none is) = fails UnknownOp none is
outcome_by line (on o text arguments it) = by_text (judged o text arguments) where
  by_text : Judged o text arguments → Outcome line
  by_text (spelt command is) =
      asks command (record { named = o; text = text; arguments = arguments; operation = it; spelt = is })
  by_text (refused fault cause is) =
      fails fault
      (has_cause line fault (record { named = o; text = text; arguments = arguments; operation = it; refused = cause }))
      (line_on o text line arguments it ∙ is)

outcome : (line : List ℕ) → Outcome line
outcome line = outcome_by line (begun line)

-- ---- the laws

same_command : (meaning : Meaning) (one other : ClientLine) → meaning ≡ Ok one → meaning ≡ Ok other → one ≡ other
same_command meaning one other is is_too = cc

same_fault : (meaning : Meaning) (fault other : LineFault) → meaning ≡ Err fault → meaning ≡ Err other → other ≡ fault
same_fault meaning fault other is is_too = cc

not_both : (meaning : Meaning) (command : ClientLine) (fault : LineFault)
    → meaning ≡ Ok command
    → meaning ≡ Err fault
    → ⊥
not_both meaning command fault is is_too = cc

pub spells_what_it_means : SpellsWhatItMeans
spells_what_it_means line command is = by_outcome (outcome line) where
  by_outcome : Outcome line → Spells line command
  by_outcome (asks other spells) =
      subst (Spells line) (same_command (line_meaning line) other command (means_what_it_spells line other spells) is)
      spells
  by_outcome (fails fault cause not) = absurd (not_both (line_meaning line) command fault is not)

pub spells_one_command : SpellsOneCommand
spells_one_command line one other spells spells_too =
    same_command (line_meaning line) one other (means_what_it_spells line one spells)
    (means_what_it_spells line other spells_too)

pub has_the_cause_it_is_refused_for : HasTheCauseItIsRefusedFor
has_the_cause_it_is_refused_for line fault is = by_outcome (outcome line) where
  by_outcome : Outcome line → HasCause line fault
  by_outcome (asks command spells) =
      absurd (not_both (line_meaning line) command fault (means_what_it_spells line command spells) is)
  by_outcome (fails other cause not) = subst (HasCause line) (same_fault (line_meaning line) fault other is not) cause

-- ---- from a cause to the refusal

no_publication : (arguments : List (List ℕ)) (subject : List ℕ) (reply : Option (List ℕ)) (headers : Option ℕ)
    (size : ℕ)
    → HasBadArgs (publishing headers) arguments
    → SpellsPublication arguments subject reply headers size
    → ⊥
no_publication arguments subject reply None size none spells = none subject reply size spells
no_publication arguments subject reply (Some block) size none spells = none subject reply block size spells

-- the fields of the operation are bad
bad_args_of : (o named : Operation) (arguments : List (List ℕ))
    → o ≡ named
    → HasBadArgs o arguments
    → HasBadArgs named arguments
bad_args_of o named arguments is none = subst (λ p. HasBadArgs p arguments) is none

bad_args_spell_nothing : (o : Operation) (command : ClientLine) (text : List ℕ) (arguments : List (List ℕ))
    → HasBadArgs o arguments
    → TextSpells o text arguments command
    → ⊥
bad_args_spell_nothing o (Connect options) text arguments none spells =
    spells.1.some (bad_args_of o operation.Connect arguments spells.0 none)
bad_args_spell_nothing o (Pub head) text arguments none spells =
    no_publication arguments head.subject head.reply head.headers head.size
    (bad_args_of o (publishing head.headers) arguments spells.0 none) spells.1
bad_args_spell_nothing o (PubBad size) text arguments none spells =
    no_publication arguments spells.subject spells.reply spells.headers size
    (bad_args_of o (publishing spells.headers) arguments spells.publishes none) spells.spelt
bad_args_spell_nothing o (Sub pattern queue sid) text arguments none spells =
    bad_args_of o operation.Sub arguments spells.0 none pattern queue sid spells.1
bad_args_spell_nothing o (Unsub sid max) text arguments none spells =
    bad_args_of o operation.Unsub arguments spells.0 none sid max spells.1
bad_args_spell_nothing o Ping text arguments none spells = bad_args_of o operation.Ping arguments spells none
bad_args_spell_nothing o Pong text arguments none spells = bad_args_of o operation.Pong arguments spells none

bad_args_alone : (fault : LineFault) (o : Operation) (text : List ℕ) (arguments : List (List ℕ))
    → HasBadArgs o arguments
    → TextIsRefused fault o text arguments
    → fault ≡ BadArgs
bad_args_alone UnknownOp o text arguments none cause = absurd cause
bad_args_alone BadArgs o text arguments none cause = refl
bad_args_alone BadJson o text arguments none cause =
    absurd (cause.1.some (subst (λ p. HasBadArgs p arguments) cause.0 none))
bad_args_alone BadSubject o text arguments none cause =
    let it = cause.1 in absurd (subst (λ p. HasBadArgs p arguments) cause.0 none it.pattern it.queue it.sid it.spelt)
bad_args_alone BadHeader o text arguments none cause = absurd cause

bad_args_mean : (o : Operation) (text : List ℕ) (arguments : List (List ℕ))
    → HasBadArgs o arguments
    → operation_meaning (Some o) text arguments ≡ Err BadArgs
bad_args_mean o text arguments none = by_text (judged o text arguments) where
  by_text : Judged o text arguments → operation_meaning (Some o) text arguments ≡ Err BadArgs
  by_text (refused fault cause is) = is ∙ ap (λ f. Err f) (bad_args_alone fault o text arguments none cause)
  by_text (spelt command is) = absurd (bad_args_spell_nothing o command text arguments none is)

refused_means : (fault : LineFault) (o : Operation) (text : List ℕ) (arguments : List (List ℕ))
    → TextIsRefused fault o text arguments
    → operation_meaning (Some o) text arguments ≡ Err fault
refused_means UnknownOp o text arguments cause = absurd cause
refused_means BadArgs o text arguments cause = bad_args_mean o text arguments cause
refused_means BadJson o text arguments cause =
    ap (λ p. operation_meaning (Some p) text arguments) cause.0
    ∙ connect_by text arguments None cause.1.some cause.1.none_chosen
refused_means BadSubject o text arguments cause =
    let it = cause.1 in
    ap (λ p. operation_meaning (Some p) text arguments) cause.0
    ∙ sub_by arguments it.pattern it.queue it.sid true it.spelt it.bad
refused_means BadHeader o text arguments cause = absurd cause

refused_behind : (line : List ℕ) (fault : LineFault) → IsRefusedBehind line fault → line_meaning line ≡ Err fault
refused_behind line fault it =
    line_on it.named it.text line it.arguments it.operation
    ∙ refused_means fault it.named it.text it.arguments it.refused

no_operation_means : (line : List ℕ) → NamesNoOperation line → Begun line → line_meaning line ≡ Err UnknownOp
no_operation_means line none (on o text arguments it) = absurd (none o text arguments it)
no_operation_means line none (on_none also is) = is

pub is_refused_for_its_cause : IsRefusedForItsCause
is_refused_for_its_cause line UnknownOp cause = no_operation_means line cause (begun line)
is_refused_for_its_cause line BadArgs cause = refused_behind line BadArgs cause
is_refused_for_its_cause line BadJson cause = refused_behind line BadJson cause
is_refused_for_its_cause line BadSubject cause = refused_behind line BadSubject cause
is_refused_for_its_cause line BadHeader cause = absurd cause

pub has_one_cause : HasOneCause
has_one_cause line nothing = by_outcome (outcome line) where
  by_outcome : Outcome line → (fault : LineFault) × IsItsCause line fault
  by_outcome (asks command spells) = absurd (nothing command spells)
  by_outcome (fails fault cause is) = (
    fault,
    record {
      cause = cause;
      only = λ other also. same_fault (line_meaning line) fault other is (is_refused_for_its_cause line other also);
    },
  )
