use Rattle.job_block.specs.Publications.{content_by}
use Rattle.job_block.specs.declared.spans.Spans.{Spans}
use Rattle.job_block.proofs.Texts.{all_put}
use Rattle.job_block.proofs.spans.append_parts.Goals as goal

pub returns-clause-spans : goal.returns-clause-spans
returns-clause-spans c =
    let spans : Spans = record {
      subject = c.in_ok-subject.subject;
      reply = c.in_ok-reply.reply;
      headers = c.in_ok-headers.headers;
      payload = c.in_ok-payload.payload;
    } in
    all_put c.append_subject.new.text.items c.append_optional.new.text.items c.append_optional-2.new.text.items
    c.append.new.text.items spans (content_by c.args.publication.now)
    c.in_ok-subject.ensures.part
    c.in_ok-reply.ensures.text c.in_ok-reply.ensures.part
    c.in_ok-headers.ensures.text c.in_ok-headers.ensures.part
    c.in_ok-payload.ensures.text c.in_ok-payload.ensures.part
