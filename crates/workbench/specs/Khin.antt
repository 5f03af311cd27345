-- `strip_khin`, laid out in numbers: the length of the rest, where it begins, and the mark.
use Rattle.std.specs.Prelude.{List, [], ℕ, ◌-◌, length}
use Rattle.ji.specs.Reply.{Reply}
use Rattle.ji.specs.Lomaji.Khin.{after_khin, khin_of, khin_number}

abbrev pub khin_call : List ℕ → Reply
khin_call s =
    record {
      code = 0;
      length = length (after_khin s);
      count = 0;
      body = 0;
      tone = 0;
      khin = khin_number (khin_of s);
      position = length s - length (after_khin s);
      buffer = [];
    }
