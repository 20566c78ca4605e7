use Rattle.std.proofs.Common.{◌∙◌, codes}
use Rattle.clap.specs.Words.{found_of}
use Rattle.router_command.proofs.Numbers.{number_if_read, number_read, number_there}
use Rattle.router_command.proofs.Texts.{text_if_there, text_is, text_there}
use Rattle.router_command.proofs.command.given_in.Goals as goal

pub unwrap-requires : goal.unwrap-requires
unwrap-requires c =
    number_there (found_of c.args.values.now) (codes "nodes") c.get_one.result c.get_one.ensures.none
    c.get_one.ensures.value c.requires.nodes

pub unwrap-requires-2 : goal.unwrap-requires-2
unwrap-requires-2 c =
    number_there (found_of c.args.values.now) (codes "port") c.get_one-2.result c.get_one-2.ensures.none
    c.get_one-2.ensures.value c.requires.port

pub unwrap-requires-3 : goal.unwrap-requires-3
unwrap-requires-3 c =
    number_there (found_of c.args.values.now) (codes "shards") c.get_one-3.result c.get_one-3.ensures.none
    c.get_one-3.ensures.value c.requires.shards

pub unwrap-requires-4 : goal.unwrap-requires-4
unwrap-requires-4 c =
    number_there (found_of c.args.values.now) (codes "inc") c.get_one-4.result c.get_one-4.ensures.none
    c.get_one-4.ensures.value c.requires.inc

pub unwrap-requires-5 : goal.unwrap-requires-5
unwrap-requires-5 c =
    number_there (found_of c.args.values.now) (codes "word") c.get_one-5.result c.get_one-5.ensures.none
    c.get_one-5.ensures.value c.requires.word

pub unwrap-requires-6 : goal.unwrap-requires-6
unwrap-requires-6 c =
    number_there (found_of c.args.values.now) (codes "loops") c.get_one-7.result c.get_one-7.ensures.none
    c.get_one-7.ensures.value c.requires.loops

pub unwrap-requires-7 : goal.unwrap-requires-7
unwrap-requires-7 c =
    text_there (found_of c.args.values.now) (codes "log-level") c.get_str.result c.get_str.ensures c.requires.log_level

pub unwrap-requires-8 : goal.unwrap-requires-8
unwrap-requires-8 c =
    number_there (found_of c.args.values.now) (codes "drain-seconds") c.get_one-8.result c.get_one-8.ensures.none
    c.get_one-8.ensures.value c.requires.drain_seconds

pub returns : goal.returns
returns c =
    let found = found_of c.args.values.now in
    record {
      written = c.requires;
      nodes =
          number_read found (codes "nodes") c.get_one.result c.get_one.ensures.none c.get_one.ensures.value
          c.requires.nodes
          ∙ c.unwrap.ensures;
      port =
          number_read found (codes "port") c.get_one-2.result c.get_one-2.ensures.none c.get_one-2.ensures.value
          c.requires.port
          ∙ c.unwrap-2.ensures;
      shards =
          number_read found (codes "shards") c.get_one-3.result c.get_one-3.ensures.none c.get_one-3.ensures.value
          c.requires.shards
          ∙ c.unwrap-3.ensures;
      inc =
          number_read found (codes "inc") c.get_one-4.result c.get_one-4.ensures.none c.get_one-4.ensures.value
          c.requires.inc
          ∙ c.unwrap-4.ensures;
      word =
          number_read found (codes "word") c.get_one-5.result c.get_one-5.ensures.none c.get_one-5.ensures.value
          c.requires.word
          ∙ c.unwrap-5.ensures;
      stop_after =
          number_if_read found (codes "stop-after") c.get_one-6.result c.get_one-6.ensures.none
          c.get_one-6.ensures.value c.requires.stop_after;
      loops =
          number_read found (codes "loops") c.get_one-7.result c.get_one-7.ensures.none c.get_one-7.ensures.value
          c.requires.loops
          ∙ c.unwrap-6.ensures;
      log_level =
          text_is found (codes "log-level") c.get_str.result c.unwrap-7.result c.get_str.ensures c.unwrap-7.ensures;
      drain_seconds =
          number_read found (codes "drain-seconds") c.get_one-8.result c.get_one-8.ensures.none
          c.get_one-8.ensures.value c.requires.drain_seconds
          ∙ c.unwrap-8.ensures;
      control = text_if_there found (codes "control") c.get_str-2.result c.get_str-2.ensures;
    }
