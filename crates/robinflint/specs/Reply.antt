-- The numbers of a C reply, and the bytes of the lent buffer, as a reply of document 01.
use Rattle.std.specs.Prelude.{List, ℕ}
use Rattle.ji.specs.Reply as ji
use Rattle.robinflint.specs.declared.reply.Reply.{Reply}

abbrev pub reply_of : Reply → List ℕ → ji.Reply
reply_of r buffer =
    record {
      code = r.code;
      length = r.length;
      count = r.count;
      body = r.body;
      tone = r.tone;
      khin = r.khin;
      position = r.position;
      buffer = buffer;
    }
