use Rattle.std.proofs.Common.{get_or}
use Rattle.replay.specs.Record.{header_of}
use Rattle.replay.proofs.record.read.Goals as goal

pub returns : goal.returns
unfolding header_of
returns c =
    let s = c.args.s.now in
    λ i. record {
      call = get_or s 0 0;
      first = get_or s 1 0;
      second = get_or s 2 0;
      code = get_or s 3 0;
      tone = get_or s 14 0;
      khin = get_or s 15 0;
      input = c.pair.ensures i;
      other = c.pair-2.ensures i;
      lent = c.pair-3.ensures i;
      length = c.pair-4.ensures i;
      body = c.pair-5.ensures i;
      position = c.pair-6.ensures i;
      wanted = c.pair-7.ensures i;
      asked = c.word.ensures i;
      count = c.word-2.ensures i;
    }
