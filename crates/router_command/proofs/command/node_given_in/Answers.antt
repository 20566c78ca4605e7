use Rattle.std.proofs.Common.{◌∙◌, codes}
use Rattle.clap.specs.Words.{found_of}
use Rattle.router_command.proofs.Numbers.{number_if_read, number_read, number_there}
use Rattle.router_command.proofs.Texts.{text_if_there, text_is, text_there}
use Rattle.router_command.proofs.command.node_given_in.Goals as goal

pub unwrap-requires : goal.unwrap-requires
unwrap-requires c =
    text_there (found_of c.args.values.now) (codes "NAME") c.get_str.result c.get_str.ensures c.requires.name

pub unwrap-requires-2 : goal.unwrap-requires-2
unwrap-requires-2 c =
    text_there (found_of c.args.values.now) (codes "mesh") c.get_str-2.result c.get_str-2.ensures c.requires.mesh

pub unwrap-requires-3 : goal.unwrap-requires-3
unwrap-requires-3 c =
    text_there (found_of c.args.values.now) (codes "state") c.get_str-3.result c.get_str-3.ensures c.requires.state

pub unwrap-requires-4 : goal.unwrap-requires-4
unwrap-requires-4 c =
    number_there (found_of c.args.values.now) (codes "loops") c.get_one-2.result c.get_one-2.ensures.none
    c.get_one-2.ensures.value c.requires.loops

pub unwrap-requires-5 : goal.unwrap-requires-5
unwrap-requires-5 c =
    text_there (found_of c.args.values.now) (codes "log-level") c.get_str-4.result c.get_str-4.ensures
    c.requires.log_level

pub unwrap-requires-6 : goal.unwrap-requires-6
unwrap-requires-6 c =
    number_there (found_of c.args.values.now) (codes "drain-seconds") c.get_one-3.result c.get_one-3.ensures.none
    c.get_one-3.ensures.value c.requires.drain_seconds

pub returns : goal.returns
returns c =
    let found = found_of c.args.values.now in
    record {
      written = c.requires;
      name = text_is found (codes "NAME") c.get_str.result c.unwrap.result c.get_str.ensures c.unwrap.ensures;
      mesh = text_is found (codes "mesh") c.get_str-2.result c.unwrap-2.result c.get_str-2.ensures c.unwrap-2.ensures;
      state = text_is found (codes "state") c.get_str-3.result c.unwrap-3.result c.get_str-3.ensures c.unwrap-3.ensures;
      least_inc =
          number_if_read found (codes "least-inc") c.get_one.result c.get_one.ensures.none c.get_one.ensures.value
          c.requires.least_inc;
      loops =
          number_read found (codes "loops") c.get_one-2.result c.get_one-2.ensures.none c.get_one-2.ensures.value
          c.requires.loops
          ∙ c.unwrap-4.ensures;
      log_level =
          text_is found (codes "log-level") c.get_str-4.result c.unwrap-5.result c.get_str-4.ensures c.unwrap-5.ensures;
      drain_seconds =
          number_read found (codes "drain-seconds") c.get_one-3.result c.get_one-3.ensures.none
          c.get_one-3.ensures.value c.requires.drain_seconds
          ∙ c.unwrap-6.ensures;
      control = text_if_there found (codes "control") c.get_str-5.result c.get_str-5.ensures;
    }
