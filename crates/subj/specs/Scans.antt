-- What one pass over a text sees of its tokens.
use Rattle.std.specs.Prelude.{ℕ, Bool, true, false, not, ◌&&◌, ◌||◌, nat_eq, List, [], ◌∷◌, if◌then◌else◌}
use Rattle.subj.specs.declared.scans.TokenKind.{TokenKind}
use Rattle.subj.specs.declared.scans.TokenKind.TheVariants.{Empty, One, Rest, Literal}
use Rattle.subj.specs.declared.scans.Scan.{Scan}
use Rattle.list_laws.specs.Lists.{is_empty}
use Rattle.subj.specs.Names.{tokens, is_dot, is_one_wildcard, is_rest_wildcard, is_forbidden, has_forbidden, has_empty_token, has_wild_token, has_wild_before_last}

abbrev pub kind_of : List ℕ → TokenKind
kind_of token =
    if is_empty token then Empty
    else (if is_one_wildcard token then One
    else (if is_rest_wildcard token then Rest else Literal))

-- the first token's kind, and what is true of those behind it
abbrev pub scan_tokens : Bool → List (List ℕ) → Scan
scan_tokens forbidden [] = record {
  forbidden = forbidden;
  first = Empty;
  more = false;
  empty = false;
  wild = false;
  early = false;
}
scan_tokens forbidden (token ∷ ts) = record {
  forbidden = forbidden;
  first = kind_of token;
  more = not (is_empty ts);
  empty = has_empty_token ts;
  wild = has_wild_token ts;
  early = has_wild_before_last ts;
}

abbrev pub scan_of : List ℕ → Scan
scan_of text = scan_tokens (has_forbidden text) (tokens text)

-- ---- a byte in front

abbrev pub kind_before : ℕ → TokenKind → TokenKind
kind_before byte Empty = if nat_eq byte 42 then One else (if nat_eq byte 62 then Rest else Literal)
kind_before byte One = Literal
kind_before byte Rest = Literal
kind_before byte Literal = Literal

abbrev pub kind_is_empty : TokenKind → Bool
kind_is_empty Empty = true
kind_is_empty One = false
kind_is_empty Rest = false
kind_is_empty Literal = false

abbrev pub kind_is_rest : TokenKind → Bool
kind_is_rest Empty = false
kind_is_rest One = false
kind_is_rest Rest = true
kind_is_rest Literal = false

abbrev pub kind_is_wild : TokenKind → Bool
kind_is_wild Empty = false
kind_is_wild One = true
kind_is_wild Rest = true
kind_is_wild Literal = false

abbrev pub some_empty : Scan → Bool
some_empty scan = kind_is_empty scan.first || scan.empty

abbrev pub some_wild : Scan → Bool
some_wild scan = kind_is_wild scan.first || scan.wild

abbrev pub some_early : Scan → Bool
some_early scan = (kind_is_rest scan.first && scan.more) || scan.early

abbrev pub scan_before : ℕ → Scan → Scan
scan_before byte scan =
    if is_dot byte
    then record {
      forbidden = is_forbidden byte || scan.forbidden;
      first = Empty;
      more = true;
      empty = some_empty scan;
      wild = some_wild scan;
      early = some_early scan;
    }
    else record scan {
      forbidden = is_forbidden byte || scan.forbidden;
      first = kind_before byte scan.first;
    }

-- the bytes of a text in front, the last one first
abbrev pub scan_onto : Scan → List ℕ → Scan
scan_onto scan [] = scan
scan_onto scan (byte ∷ text) = scan_before byte (scan_onto scan text)
