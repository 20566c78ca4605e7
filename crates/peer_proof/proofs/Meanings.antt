-- What is authenticated is read in one way.
use Rattle.std.proofs.Common.{◌≡◌, ◌≢◌, ℕ, List, [], ◌∷◌, ◌++◌, length, take, drop, refl, sym, ap, ◌∙◌, append_assoc}
use Rattle.std.proofs.Math.Seq.{drop-append_seam, take-append_seam}
use Rattle.peer_proof.specs.declared.handshake.Role.{Role}
use Rattle.peer_proof.specs.declared.handshake.Role.TheVariants.{Dialer, Acceptor}
use Rattle.peer_proof.specs.declared.handshake.Parties.{Parties}
use Rattle.peer_proof.specs.Messages.{message_of, part, role_word}

head_of : List ℕ → ℕ
head_of [] = 0
head_of (byte ∷ bytes) = byte

rest_of : List ℕ → List ℕ
rest_of [] = []
rest_of (byte ∷ bytes) = bytes

-- two parts, each with what stands behind it
pub first_part : (a b x y : List ℕ) → part a ++ x ≡ part b ++ y → (a ≡ b) × (x ≡ y)
unfolding head_of rest_of
first_part a b x y same =
    let size : length a ≡ length b = ap head_of same in
    let rest : a ++ x ≡ b ++ y = ap rest_of same in (
      sym (take-append_seam a x) ∙ ap (take (length a)) rest ∙ ap (λ n. take n (b ++ y)) size ∙ take-append_seam b y,
      sym (drop-append_seam a x) ∙ ap (drop (length a)) rest ∙ ap (λ n. drop n (b ++ y)) size ∙ drop-append_seam b y,
    )

-- the same of a last part
last_part : (a b : List ℕ) → part a ≡ part b → a ≡ b
unfolding rest_of
last_part a b same = ap rest_of same

in_order : (a b c d e : List ℕ) → (((a ++ b) ++ c) ++ d) ++ e ≡ a ++ (b ++ (c ++ (d ++ e)))
in_order a b c d e = simp append_assoc refl

role_of_word : (role others : Role) → role_word role ≡ role_word others → role ≡ others
unfolding head_of
role_of_word Dialer Dialer same = refl
role_of_word Acceptor Acceptor same = refl
role_of_word Dialer Acceptor same = let h : 100 ≡ 97 = ap head_of same in absurd (cc)
role_of_word Acceptor Dialer same = let h : 97 ≡ 100 = ap head_of same in absurd (cc)

pub apart : (parties others : Parties) → message_of Dialer parties ≢ message_of Acceptor others
unfolding head_of
apart parties others same = let h : 6 ≡ 8 = ap head_of same in cc

same_parties : (parties others : Parties) → parties.dialer ≡ others.dialer → parties.acceptor ≡ others.acceptor →
    parties.dialer_word.0 ≡ others.dialer_word.0 → parties.acceptor_word.0 ≡ others.acceptor_word.0 → parties ≡ others
same_parties parties others a b c d =
    ap (λ (x : List ℕ).
    let p : Parties = record {
      dialer = x;
      acceptor = parties.acceptor;
      dialer_word = parties.dialer_word;
      acceptor_word = parties.acceptor_word;
    } in
    p)
    a
    ∙ ap (λ (x : List ℕ).
    let p : Parties = record {
      dialer = others.dialer;
      acceptor = x;
      dialer_word = parties.dialer_word;
      acceptor_word = parties.acceptor_word;
    } in
    p)
    b
    ∙ ap (λ (x : List ℕ).
    let p : Parties = record {
      dialer = others.dialer;
      acceptor = others.acceptor;
      dialer_word = record { 0 = x };
      acceptor_word = parties.acceptor_word;
    } in
    p)
    c
    ∙ ap (λ (x : List ℕ).
    let p : Parties = record {
      dialer = others.dialer;
      acceptor = others.acceptor;
      dialer_word = others.dialer_word;
      acceptor_word = record { 0 = x };
    } in
    p)
    d

pub one_meaning : (role other_role : Role) (parties others : Parties) →
    message_of role parties ≡ message_of other_role others → (role ≡ other_role) × (parties ≡ others)
one_meaning role other_role parties others same =
    let whole =
    sym (in_order (part (role_word role)) (part parties.dialer) (part parties.acceptor) (part parties.dialer_word.0)
    (part parties.acceptor_word.0))
    ∙ same
    ∙ in_order (part (role_word other_role)) (part others.dialer) (part others.acceptor) (part others.dialer_word.0)
    (part others.acceptor_word.0) in
    let roles = first_part _ _ _ _ whole in
    let dialers = first_part _ _ _ _ roles.1 in
    let acceptors = first_part _ _ _ _ dialers.1 in
    let words = first_part _ _ _ _ acceptors.1 in
    let other_words = last_part _ _ words.1 in (
      role_of_word role other_role roles.0,
      same_parties parties others dialers.0 acceptors.0 words.0 other_words,
    )
