use Rattle.std.proofs.Common.{◌∙◌}
use Rattle.client_frames.specs.ServerFacts.{ServerFacts}
use Rattle.mesh_pipe.specs.PipeText.{pipe_info}
use Rattle.mesh_pipe.proofs.pipe_server.info.Goals as goal

pub returns : goal.returns
unfolding pipe_info
returns c =
    let server = c.in_ok-new.ensures ∙ (λ k.
    let s : ServerFacts = record {
      name = c.name.ensures k;
      inc = c.first_life.ensures k;
      host = c.host.ensures k;
      port = 0;
    } in
    s) in
    λ k. record { server = server k; client_id = c.new-2.ensures k }
