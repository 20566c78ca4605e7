-- What each end of a handshake answers to a line. (Profile.)
use Rattle.std.specs.Prelude.{ℕ, Bool, true, false, List, Option, Some, None, Result, Ok, Err, if◌then◌else◌}
use Rattle.std.specs.List.{position}
use Rattle.std.specs.Str.{bytes_eq}
use Rattle.subj.specs.Servers.{ServerIdentity, is_peer, own_name}
use Rattle.peer_proof.specs.declared.handshake.ProofFault.{ProofFault}
use Rattle.peer_proof.specs.declared.handshake.ProofFault.TheVariants.{NoHello, NotForMe, NotInMesh, NoProof, WrongProof}
use Rattle.peer_proof.specs.declared.lines.FreshWord.{FreshWord}
use Rattle.peer_proof.specs.declared.lines.Mac.{Mac}
use Rattle.peer_proof.specs.declared.handshake.Role.TheVariants as role
use Rattle.peer_proof.specs.declared.handshake.Parties.{Parties}
use Rattle.peer_proof.specs.declared.lines.Hello.{Hello}
use Rattle.peer_proof.specs.declared.lines.Answer.{Answer}
use Rattle.peer_proof.specs.declared.handshake.Dialer.{Dialer}
use Rattle.peer_proof.specs.declared.handshake.Acceptor.{Acceptor}
use Rattle.peer_proof.specs.declared.handshake.Acceptor.TheVariants as acceptor
use Rattle.peer_proof.specs.declared.handshake.Heard.{Heard}
use Rattle.peer_proof.specs.declared.handshake.Heard.TheVariants as heard
use Rattle.peer_proof.specs.Lines.{hello_of, answer_of, proof_of}
use Rattle.peer_proof.specs.Messages.{mac_of}

-- ---- the dialer, under a secret with this block

abbrev pub hello_from : Dialer → Hello
hello_from dialer = record { me = dialer.me; you = dialer.peer; word = dialer.word }

abbrev pub parties_of : Dialer → Answer → Parties
parties_of dialer answer = record {
  dialer = dialer.me;
  acceptor = dialer.peer;
  dialer_word = dialer.word;
  acceptor_word = answer.word;
}

-- the acceptor has to prove that it is whom the dialer has dialed; then the dialer proves itself
abbrev pub dialer_judges : List ℕ → Parties → Mac → Result Mac ProofFault
dialer_judges block parties mac =
    if bytes_eq mac.0 (mac_of block role.Acceptor parties)
    then Ok (record { 0 = mac_of block role.Dialer parties })
    else Err WrongProof

abbrev pub dialer_takes : List ℕ → Dialer → Option Answer → Result Mac ProofFault
dialer_takes block dialer None = Err NoProof
dialer_takes block dialer (Some answer) = dialer_judges block (parties_of dialer answer) answer.mac

abbrev pub dialer_hears : List ℕ → Dialer → List ℕ → Result Mac ProofFault
dialer_hears block dialer line = dialer_takes block dialer (answer_of line)

-- ---- the acceptor

abbrev pub is_peer_at : ServerIdentity → Option ℕ → Bool
is_peer_at life None = false
is_peer_at life (Some place) = is_peer life place

abbrev pub is_other_server : ServerIdentity → List ℕ → Bool
is_other_server life name = is_peer_at life (position (λ other. bytes_eq other name) life.names)

abbrev pub hello_fault : ServerIdentity → Hello → Option ProofFault
hello_fault life hello =
    if bytes_eq hello.you (own_name life)
    then (if is_other_server life hello.me then None else Some NotInMesh)
    else Some NotForMe

abbrev pub parties_with : Hello → FreshWord → Parties
parties_with hello word = record {
  dialer = hello.me;
  acceptor = hello.you;
  dialer_word = hello.word;
  acceptor_word = word;
}

abbrev pub answer_by : List ℕ → Parties → Answer
answer_by block parties = record {
  word = parties.acceptor_word;
  mac = record { 0 = mac_of block role.Acceptor parties };
}

abbrev pub hello_comes_to : List ℕ → Parties → Option ProofFault → Result Heard ProofFault
hello_comes_to block parties (Some fault) = Err fault
hello_comes_to block parties None =
    Ok (heard.Hello (acceptor.AwaitsProof parties) (answer_by block parties))

abbrev pub takes_hello : List ℕ → ServerIdentity → FreshWord → Option Hello
    → Result Heard ProofFault
takes_hello block life word None = Err NoHello
takes_hello block life word (Some hello) =
    hello_comes_to block (parties_with hello word) (hello_fault life hello)

abbrev pub hears_hello : List ℕ → ServerIdentity → FreshWord → List ℕ → Result Heard ProofFault
hears_hello block life word line = takes_hello block life word (hello_of line)

-- the dialer has to prove that it is who its HELLO says
abbrev pub takes_proof : List ℕ → Parties → Option Mac → Result Heard ProofFault
takes_proof block parties None = Err NoProof
takes_proof block parties (Some mac) =
    if bytes_eq mac.0 (mac_of block role.Dialer parties) then Ok (heard.Proved parties.dialer)
    else Err WrongProof

abbrev pub hears_proof : List ℕ → Parties → List ℕ → Result Heard ProofFault
hears_proof block parties line = takes_proof block parties (proof_of line)

abbrev pub acceptor_hears : List ℕ → ServerIdentity → Acceptor → List ℕ → Result Heard ProofFault
acceptor_hears block life (acceptor.AwaitsHello word) line = hears_hello block life word line
acceptor_hears block life (acceptor.AwaitsProof parties) line = hears_proof block parties line
