use Rattle.std.proofs.Common.{◌≡◌, [], ◌∷◌, ◌++◌, Some, refl, ◌∙◌}
use Rattle.std.specs.Prelude.{codes}
use Rattle.std.proofs.lemmas.Option.{same_Some}
use Rattle.subj.specs.Servers.{server_of}
use Rattle.mesh_pipe.specs.PipeServing.{pipe_server}
use Rattle.mesh_pipe.proofs.pipe_server.only_server.Goals as goal

pub returns : goal.returns
returns c =
    let names : c.push.new.self.items ≡ codes "n1" ∷ [] =
    c.in_ok-push.ensures.items ∙ (λ k. c.new-names.ensures.items k ++ c.name.ensures k ∷ []) in
    let computed : server_of pipe_server ≡ Some pipe_server = refl in
    same_Some c.in-Some.server pipe_server
    (c.in-Some.ensures ∙ (λ k. server_of (record { names = names k; me = 0; inc = c.first_life.ensures k; shards = 1 }))
    ∙ computed)
