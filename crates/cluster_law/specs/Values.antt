-- The router's values as the law has them.
use Rattle.subj.specs.Messages as subj
use Rattle.cluster_law.specs.Messages.{Content}

abbrev pub content_of : subj.Content → Content
content_of content = record {
  subject = content.subject;
  reply = content.reply;
  headers = content.headers;
  payload = content.payload;
}
