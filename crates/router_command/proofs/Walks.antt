-- What each use of an argument keeps of the rows, a walk over words without a fault keeps as well.
use Rattle.std.proofs.Common.{◌≡◌, ℕ, Bool, cond, true, false, zero, suc, refl, List, [], ◌∷◌, Option, Some, None, length, drop, codes}
use Rattle.std.specs.Prelude.{⊤, IfSome, is_some, encode_utf8, slice_get, find, not, ◌&&◌}
use Rattle.std.specs.List.{fold}
use Rattle.std.specs.Option.{option_map_or}
use Rattle.std.specs.Str.{bytes_eq, chars}
use Rattle.clap.specs.Lexer.{long_of, short_of}
use Rattle.clap.specs.Kinds.{Kinds, or_else}
use Rattle.clap.specs.Walk.{Held, Names, Outcome, Row, Rule, Step, Text, Waiting, Walk, after_flag, after_step, arg_by_id, arg_by_index, arg_by_long, arg_by_short, attached_value, bundle_met, bundle_step, done, finished, flag_met, idle, is_pending, long_met, long_or_other, next, option, option_met, option_word, plain, plain_word, positional, reacted, refused, settled, settled_rows, short_met, short_or_plain, subcommand, subcommand_met, subcommand_or_other, takes_several, takes_values, to_positional, trailing, used, used_by_id, value, waits, walk, walk_from, walked, walked_from, with_default, word_met}
use Rattle.clap.specs.Simple.{Shape}
use Rattle.clap.specs.Faults.{bundle_fault, bundle_step_fault, check_fault, default_fault, defaults_fault, flag_word_fault, flags_fault, level_fault, long_fault, option_fault, other_fault, positional_fault, react_fault, settle_fault, short_fault, step_fault, stray_fault, turn_fault, use_fault, walk_fault, word_fault}
use Rattle.clap.specs.declared.error.kind.ErrorKind.TheVariants as kind

-- each element fits
abbrev pub Each : {X : Type 0} → (X → Type 0) → List X → Type 0
Each P [] = ⊤
Each P (x ∷ xs) = P x × Each P xs

pub found_fits : {X : Type 0} (P : X → Type 0) (p : X → Bool) (xs : List X) → Each P xs → IfSome (find p xs) P
found_fits P p [] all = tt
found_fits P p (x ∷ xs) all = go (p x) all.0 (found_fits P p xs all.1)
  where
    go : (b : Bool) → P x → IfSome (find p xs) P → IfSome (cond b (Some x) (find p xs)) P
    go true here rest = here
    go false here rest = rest

-- where neither of two steps has a fault
pub both_pass : (a b : Kinds) → or_else a b ≡ [] → (a ≡ []) × (b ≡ [])
both_pass [] b e = (refl, e)
both_pass (k ∷ ks) b e = let bad : ⊥ = cc in absurd bad

-- a use of the argument keeps R, and so does its default
abbrev pub Keeps : Bool → (List Row → Type 0) → Rule → Type 0
Keeps again R a =
    (values : List Text) (rows : List Row) → use_fault again a values rows ≡ [] → R rows → R (used a values rows)

abbrev pub KeepsDefault : (List Row → Type 0) → Rule → Type 0
KeepsDefault R a = (rows : List Row) → default_fault rows a ≡ [] → R rows → R (with_default rows a)

-- ---- a level whose arguments keep R

module _ (s : Shape) (R : List Row → Type 0) (all : Each (Keeps s.args_override_self R) s.rules) where
  used_keeps : (found : Option Rule) (values : List Text) (rows : List Row)
      → IfSome found (Keeps s.args_override_self R)
      → option_map_or (λ a. use_fault s.args_override_self a values rows) found [] ≡ []
      → R rows
      → R (used_by_id found values rows)
  used_keeps None values rows keeps e r = r
  used_keeps (Some a) values rows keeps e r = keeps values rows e r

  pending_keeps : (o : Option (Text × List Text)) (rows : List Row)
      → option_map_or (λ p. option_map_or (λ a. use_fault s.args_override_self a p.1 rows) (arg_by_id s.rules p.0) []) o
      [] ≡ []
      → R rows
      → R (settled_rows s.rules o rows)
  pending_keeps None rows e r = r
  pending_keeps (Some p) rows e r = used_keeps (arg_by_id s.rules p.0) p.1 rows (found_fits _ _ s.rules all) e r

  settled_keeps : (h : Held) → settle_fault s.rules s.args_override_self h ≡ [] → R h.rows → R (settled s.rules h).rows
  settled_keeps h e r = pending_keeps h.pending h.rows e r

  reacted_keeps : (a : Rule) (values : List Text) (h : Held) → Keeps s.args_override_self R a
      → react_fault s.rules s.args_override_self a values h ≡ [] → R h.rows → R (reacted s.rules a values h).rows
  reacted_keeps a values h keeps e r =
      let parts = both_pass (settle_fault s.rules s.args_override_self h) _ e in
      keeps values (settled s.rules h).rows parts.1 (settled_keeps h parts.0 r)

  option_keeps : (a : Rule) (v : Option Text) (h : Held) → Keeps s.args_override_self R a
      → option_fault s.rules s.args_override_self a v h ≡ [] → R h.rows → R (option_met s.rules a v h).0.rows
  option_keeps a (Some v) h keeps e r = reacted_keeps a (v ∷ []) h keeps e r
  option_keeps a None h keeps e r = settled_keeps h e r

  long_some : (takes : Bool) (a : Rule) (v : Option Text) (h : Held)
      → Keeps s.args_override_self R a
      → cond takes (option_fault s.rules s.args_override_self a v h)
      (cond (is_some v) (kind.TooManyValues ∷ []) (react_fault s.rules s.args_override_self a [] h)) ≡ []
      → R h.rows
      → R (cond takes (option_met s.rules a v h) (flag_met s.rules a v h)).0.rows
  long_some true a v h keeps e r = option_keeps a v h keeps e r
  long_some false a None h keeps e r = reacted_keeps a [] h keeps e r
  long_some false a (Some v) h keeps e r = r

  long_keeps : (found : Option Rule) (v : Option Text) (h : Held) → IfSome found (Keeps s.args_override_self R)
      → long_fault s.rules s.args_override_self found v h ≡ [] → R h.rows → R (long_met s.rules found v h).0.rows
  long_keeps None v h keeps e r = r
  long_keeps (Some a) v h keeps e r = long_some (takes_values a) a v h keeps e r

  short_some : (takes : Bool) (a : Rule) (v : Option Text) (h : Held) (fault : Held → Kinds)
      (then : Held → Held × Outcome)
      → Keeps s.args_override_self R a
      → ((g : Held) → fault g ≡ [] → R g.rows → R (then g).0.rows)
      → cond takes (option_fault s.rules s.args_override_self a v h)
      (or_else (react_fault s.rules s.args_override_self a [] h) (fault (reacted s.rules a [] h))) ≡ []
      → R h.rows
      → R (cond takes (option_met s.rules a v h) (then (reacted s.rules a [] h))).0.rows
  short_some true a v h fault then keeps more e r = option_keeps a v h keeps e r
  short_some false a v h fault then keeps more e r =
      let parts = both_pass (react_fault s.rules s.args_override_self a [] h) _ e in
      more (reacted s.rules a [] h) parts.1 (reacted_keeps a [] h keeps parts.0 r)

  short_keeps : (found : Option Rule) (rest : Text) (h : Held) (fault : Held → Kinds) (then : Held → Held × Outcome)
      → IfSome found (Keeps s.args_override_self R)
      → ((g : Held) → fault g ≡ [] → R g.rows → R (then g).0.rows)
      → short_fault s.rules s.args_override_self found rest h fault ≡ []
      → R h.rows
      → R (short_met s.rules found rest h then).0.rows
  short_keeps None rest h fault then keeps more e r = r
  short_keeps (Some a) rest h fault then keeps more e r =
      short_some (takes_values a) a (attached_value rest) h fault then keeps more e r

  step_keeps : (k : ℕ) (x : Option ℕ) (flags : Text) (skip : ℕ) (so_far : Outcome) (h : Held)
      → ((t : Text) (n : ℕ) (o : Outcome) (g : Held) → flags_fault s.rules s.args_override_self k t n g ≡ [] → R g.rows
      → R (bundle_met s.rules k t n o g).0.rows)
      → bundle_step_fault s.rules s.args_override_self x flags skip h (flags_fault s.rules s.args_override_self k) ≡ []
      → R h.rows
      → R (bundle_step s.rules x flags skip so_far h (bundle_met s.rules k)).0.rows
  step_keeps k None flags skip so_far h more e r = r
  step_keeps k (Some x) flags zero so_far h more e r =
      let rest = drop (length (encode_utf8 x)) flags in
      short_keeps (arg_by_short s.rules x) rest h (flags_fault s.rules s.args_override_self k rest 0)
      (bundle_met s.rules k rest 0 done) (found_fits _ _ s.rules all) (more rest 0 done) e r
  step_keeps k (Some x) flags (suc skip) so_far h more e r =
      more (drop (length (encode_utf8 x)) flags) skip so_far h e r

  bundle_keeps : (k : ℕ) (flags : Text) (skip : ℕ) (so_far : Outcome) (h : Held)
      → flags_fault s.rules s.args_override_self k flags skip h ≡ []
      → R h.rows
      → R (bundle_met s.rules k flags skip so_far h).0.rows
  unfolding flags_fault bundle_met
  bundle_keeps zero flags skip so_far h e r = r
  bundle_keeps (suc k) flags skip so_far h e r =
      step_keeps k (slice_get (chars flags) 0) flags skip so_far h (bundle_keeps k) e r

  pushed_keeps : (found : Option Rule) (id word : Text) (h : Held) → R h.rows → R (option_word found id word h).0.rows
  pushed_keeps None id word h r = r
  pushed_keeps (Some a) id word h r = r

  plain_keeps : (waiting : Waiting) (word : Text) (h : Held) → R h.rows → R (plain_word s.rules waiting word h).0.rows
  plain_keeps idle word h r = r
  plain_keeps (option id) word h r = pushed_keeps (arg_by_id s.rules id) id word h r
  plain_keeps positional word h r = r

  flag_keeps : (waiting : Waiting) (word : Text) (h : Held) (o : Outcome)
      → R h.rows
      → R (after_flag s.rules waiting word h o).0.rows
  flag_keeps waiting word h done r = r
  flag_keeps waiting word h (waits id) r = r
  flag_keeps waiting word h plain r = plain_keeps waiting word h r
  flag_keeps waiting word h refused r = plain_keeps waiting word h r

  short_word_keeps : (waiting : Waiting) (word : Text) (o : Option Text) (h : Held)
      → option_map_or (λ flags. bundle_fault s.rules s.args_override_self flags h) o [] ≡ []
      → R h.rows
      → R (short_or_plain s.rules waiting word o h).0.rows
  short_word_keeps waiting word None h e r = plain_keeps waiting word h r
  short_word_keeps waiting word (Some flags) h e r =
      flag_keeps waiting word _ _ (bundle_keeps (length flags) flags h.skip plain (record h { skip = 0 }) e r)

  flag_word_keeps : (waiting : Waiting) (word : Text) (l : Option (Text × Option Text)) (h : Held)
      → flag_word_fault s.rules s.args_override_self l word h ≡ []
      → R h.rows
      → R (long_or_other s.rules waiting word l h).0.rows
  flag_word_keeps waiting word (Some p) h e r =
      flag_keeps waiting word _ _ (long_keeps (arg_by_long s.rules p.0) p.1 h (found_fits _ _ s.rules all) e r)
  flag_word_keeps waiting word None h e r = short_word_keeps waiting word (short_of word) h e r

  dashes_keep : (dashes : Bool) (waiting : Waiting) (position : ℕ) (word : Text) (h : Held)
      → cond dashes [] (flag_word_fault s.rules s.args_override_self (long_of word) word h) ≡ []
      → R h.rows → R (cond dashes (h, trailing position) (long_or_other s.rules waiting word (long_of word) h)).0.rows
  dashes_keep true waiting position word h e r = r
  dashes_keep false waiting position word h e r = flag_word_keeps waiting word (long_of word) h e r

  other_keeps : (o : Option Text) (waiting : Waiting) (position : ℕ) (word : Text) (h : Held)
      → other_fault s o word h ≡ [] → R h.rows → R (subcommand_or_other s.rules o waiting position word h).0.rows
  other_keeps (Some name) waiting position word h e r = r
  other_keeps None waiting position word h e r = dashes_keep (bytes_eq word (45 ∷ 45 ∷ [])) waiting position word h e r

  word_keeps : (names : Names) (is_trailing : Bool) (waiting : Waiting) (position : ℕ) (word : Text) (h : Held)
      → word_fault s names is_trailing waiting word h ≡ []
      → R h.rows
      → R (word_met s.rules names is_trailing waiting position word h).0.rows
  word_keeps names true waiting position word h e r = r
  word_keeps names false waiting position word h e r =
      other_keeps (subcommand_met names waiting word) waiting position word h e r

  held_keeps : (b : Bool) (h : Held)
      → cond b [] (settle_fault s.rules s.args_override_self h) ≡ []
      → R h.rows
      → R (cond b h (settled s.rules h)).rows
  held_keeps true h e r = r
  held_keeps false h e r = settled_keeps h e r

  positional_keeps : (found : Option Rule) (word : Text) (w : Walk) (h : Held)
      → option_map_or (λ a. positional_fault s.rules s.args_override_self a h) found (stray_fault s) ≡ []
      → R h.rows
      → R (to_positional s.rules found word w h).held.rows
  positional_keeps None word w h e r = r
  positional_keeps (Some a) word w h e r = held_keeps (is_pending a h.pending && takes_several a) h e r

  after_keeps : (word : Text) (w : Walk) (h : Held) (step : Step)
      → step_fault s w.position h step ≡ []
      → R h.rows
      → R (after_step s.rules word w h step).held.rows
  after_keeps word w h (next waiting) e r = r
  after_keeps word w h (trailing position) e r = r
  after_keeps word w h (subcommand name) e r = r
  after_keeps word w h value e r = positional_keeps (arg_by_index s.rules w.position) word w h e r

  from_keeps : (names : Names) (o : Option (Text × List Text)) (w : Walk) (word : Text)
      → cond (is_some o) []
      (or_else (word_fault s names w.is_trailing w.waiting word w.held)
      (step_fault s w.position (word_met s.rules names w.is_trailing w.waiting w.position word w.held).0
      (word_met s.rules names w.is_trailing w.waiting w.position word w.held).1)) ≡ []
      → R w.held.rows
      → R (walked_from s.rules names o w word).held.rows
  from_keeps names (Some p) w word e r = r
  from_keeps names None w word e r =
      let parts = both_pass (word_fault s names w.is_trailing w.waiting word w.held) _ e in
      after_keeps word w _ _ parts.1 (word_keeps names w.is_trailing w.waiting w.position word w.held parts.0 r)

  turn_keeps : (names : Names) (w : Walk) (word : Text)
      → turn_fault s names w word ≡ []
      → R w.held.rows
      → R (walked s.rules names w word).held.rows
  unfolding walked
  turn_keeps names w word e r = from_keeps names w.stopped w word e r

  walk_keeps : (names : Names) (w : Walk) (words : List Text)
      → walk_fault s names w words ≡ []
      → R w.held.rows
      → R (fold (walked s.rules names) w words).held.rows
  unfolding walk_fault
  walk_keeps names w [] e r = r
  walk_keeps names w (word ∷ rest) e r =
      let parts = both_pass (turn_fault s names w word) _ e in
      walk_keeps names (walked s.rules names w word) rest parts.1 (turn_keeps names w word parts.0 r)

  defaults_keep : (rules : List Rule) (rows : List Row)
      → Each (KeepsDefault R) rules
      → defaults_fault rows rules ≡ []
      → R rows
      → R (fold with_default rows rules)
  unfolding defaults_fault
  defaults_keep [] rows each e r = r
  defaults_keep (a ∷ rest) rows each e r =
      let parts = both_pass (default_fault rows a) _ e in
      defaults_keep rest (with_default rows a) each.1 parts.1 (each.0 rows parts.0 r)

  -- and so at the end of a level, whose last checks pass
  pub level_keeps : (names : Names) (h : Held) (words : List Text) (has : Bool) (below : Kinds)
      → Each (KeepsDefault R) s.rules
      → level_fault s names h words has below ≡ []
      → R h.rows
      → R (finished s.rules (walk s.rules names h words).held)
      × (check_fault s (finished s.rules (walk s.rules names h words).held) has ≡ [])
  level_keeps names h words has below each e r =
      let end = (walk s.rules names h words).held in
      let a = both_pass (walk_fault s names (walk_from h) words) _ e in
      let b = both_pass below _ a.1 in
      let c = both_pass (settle_fault s.rules s.args_override_self end) _ b.1 in
      let d = both_pass (defaults_fault (settled s.rules end).rows s.rules) _ c.1 in (
        defaults_keep s.rules (settled s.rules end).rows each d.0
            (settled_keeps end c.0 (walk_keeps names (walk_from h) words a.0 r)),
        d.1,
      )

-- ---- the subcommand at which a walk stops

-- it is not `help`, or `help` is a subcommand like another
abbrev pub IsNoHelp : Shape → Text → Type 0
IsNoHelp s name = (bytes_eq name (codes "help") && not s.disable_help_subcommand) ≡ false

module _ (s : Shape) where
  abbrev StopsWell : Step → Type 0
  StopsWell (next waiting) = ⊤
  StopsWell (trailing position) = ⊤
  StopsWell (subcommand name) = IsNoHelp s name
  StopsWell value = ⊤

  plain_stops : (waiting : Waiting) (word : Text) (h : Held) → StopsWell (plain_word s.rules waiting word h).1
  plain_stops idle word h = tt
  plain_stops (option id) word h = tt
  plain_stops positional word h = tt

  flag_stops : (waiting : Waiting) (word : Text) (h : Held) (o : Outcome)
      → StopsWell (after_flag s.rules waiting word h o).1
  flag_stops waiting word h done = tt
  flag_stops waiting word h (waits id) = tt
  flag_stops waiting word h plain = plain_stops waiting word h
  flag_stops waiting word h refused = plain_stops waiting word h

  short_stops : (waiting : Waiting) (word : Text) (o : Option Text) (h : Held)
      → StopsWell (short_or_plain s.rules waiting word o h).1
  short_stops waiting word None h = plain_stops waiting word h
  short_stops waiting word (Some flags) h = flag_stops waiting word _ _

  flag_word_stops : (waiting : Waiting) (word : Text) (l : Option (Text × Option Text)) (h : Held)
      → StopsWell (long_or_other s.rules waiting word l h).1
  flag_word_stops waiting word (Some p) h = flag_stops waiting word _ _
  flag_word_stops waiting word None h = short_stops waiting word (short_of word) h

  dashes_stop : (dashes : Bool) (waiting : Waiting) (position : ℕ) (word : Text) (h : Held)
      → StopsWell (cond dashes (h, trailing position) (long_or_other s.rules waiting word (long_of word) h)).1
  dashes_stop true waiting position word h = tt
  dashes_stop false waiting position word h = flag_word_stops waiting word (long_of word) h

  no_help : (b : Bool) → cond b (kind.DisplayHelp ∷ kind.InvalidSubcommand ∷ []) [] ≡ [] → b ≡ false
  no_help true e = let bad : ⊥ = cc in absurd bad
  no_help false e = refl

  other_stops : (o : Option Text) (waiting : Waiting) (position : ℕ) (word : Text) (h : Held)
      → other_fault s o word h ≡ []
      → StopsWell (subcommand_or_other s.rules o waiting position word h).1
  other_stops (Some name) waiting position word h e = no_help _ e
  other_stops None waiting position word h e = dashes_stop (bytes_eq word (45 ∷ 45 ∷ [])) waiting position word h

  word_stops : (names : Names) (is_trailing : Bool) (waiting : Waiting) (position : ℕ) (word : Text) (h : Held)
      → word_fault s names is_trailing waiting word h ≡ []
      → StopsWell (word_met s.rules names is_trailing waiting position word h).1
  word_stops names true waiting position word h e = tt
  word_stops names false waiting position word h e =
      other_stops (subcommand_met names waiting word) waiting position word h e

  positional_stops : (found : Option Rule) (word : Text) (w : Walk) (h : Held) → IfSome w.stopped (λ p. IsNoHelp s p.0)
      → IfSome (to_positional s.rules found word w h).stopped (λ p. IsNoHelp s p.0)
  positional_stops None word w h r = r
  positional_stops (Some a) word w h r = tt

  after_stops : (word : Text) (w : Walk) (h : Held) (step : Step)
      → StopsWell step
      → IfSome w.stopped (λ p. IsNoHelp s p.0)
      → IfSome (after_step s.rules word w h step).stopped (λ p. IsNoHelp s p.0)
  after_stops word w h (next waiting) e r = r
  after_stops word w h (trailing position) e r = r
  after_stops word w h (subcommand name) e r = e
  after_stops word w h value e r = positional_stops (arg_by_index s.rules w.position) word w h r

  from_stops : (names : Names) (o : Option (Text × List Text)) (w : Walk) (word : Text)
      → cond (is_some o) []
      (or_else (word_fault s names w.is_trailing w.waiting word w.held)
      (step_fault s w.position (word_met s.rules names w.is_trailing w.waiting w.position word w.held).0
      (word_met s.rules names w.is_trailing w.waiting w.position word w.held).1)) ≡ []
      → IfSome o (λ p. IsNoHelp s p.0)
      → IfSome w.stopped (λ p. IsNoHelp s p.0)
      → IfSome (walked_from s.rules names o w word).stopped (λ p. IsNoHelp s p.0)
  from_stops names (Some p) w word e here r = here
  from_stops names None w word e here r =
      let parts = both_pass (word_fault s names w.is_trailing w.waiting word w.held) _ e in
      after_stops word w _ _ (word_stops names w.is_trailing w.waiting w.position word w.held parts.0) r

  turn_stops : (names : Names) (w : Walk) (word : Text)
      → turn_fault s names w word ≡ []
      → IfSome w.stopped (λ p. IsNoHelp s p.0)
      → IfSome (walked s.rules names w word).stopped (λ p. IsNoHelp s p.0)
  unfolding walked
  turn_stops names w word e r = from_stops names w.stopped w word e r r

  pub walk_stops : (names : Names) (w : Walk) (words : List Text)
      → walk_fault s names w words ≡ []
      → IfSome w.stopped (λ p. IsNoHelp s p.0)
      → IfSome (fold (walked s.rules names) w words).stopped (λ p. IsNoHelp s p.0)
  unfolding walk_fault
  walk_stops names w [] e r = r
  walk_stops names w (word ∷ rest) e r =
      let parts = both_pass (turn_fault s names w word) _ e in
      walk_stops names (walked s.rules names w word) rest parts.1 (turn_stops names w word parts.0 r)
