use Rattle.std.proofs.Common.{◌≡◌, ◌+◌, List, ℕ, length, sym, subst, ◌∙◌, arith}
use Rattle.std.proofs.KnownBytes.{Appends-trans}
use Rattle.std.specs.Io.KnownBytes.{Appends}
use Rattle.ji.specs.Unicode.{unicode16}
use Rattle.khiin_entries.specs.Listing.{shown, together}
use Rattle.lister.proofs.Laws.{next_sized, printed_further, printed_all}
use Rattle.lister.proofs.print_listing.Goals as goal

pub loop-after-preserved : goal.loop-after-preserved
loop-after-preserved g c =
    let was = c.loop-after.invariant in
    let entry = c.args.entry.now in
    let from = c.loop-after.next in
    let block = λ (n : ℕ). shown unicode16 entry from n in
    let range = rw c.in-Some.is at c.in_ok-after.ensures.range in
    let next : c.in-Some.after ≡ from + length (block 65536) = next_sized entry from c.in-Some.after (length c.loop-after.block) 65536 was.size (sym (rw c.in-Some.is at c.in_ok-after.ensures.next)) in
    record {
      size = c.print_block.auto.block ∙ was.size;
      inside = omega (arith, range, was.inside);
      written =
          subst (λ (t : List ℕ). Appends (g.W.Write.contents c.args.writer.now) (g.W.Write.contents c.print_block.new.writer) t)
          (printed_further entry from 65536 c.in-Some.after next)
          (Appends-trans _ _ _ _ (together (block 65536)) was.written
          (subst (λ (n : ℕ). Appends (g.W.Write.contents c.loop-after.writer) (g.W.Write.contents c.print_block.new.writer) (together (block n))) was.size c.in_ok-after.ensures.written));
    }

pub returns : goal.returns
returns g c =
    let was = c.loop-after.invariant in
    let entry = c.args.entry.now in
    let from = c.loop-after.next in
    let block = λ (n : ℕ). shown unicode16 entry from n in
    let next : from ≡ from + length (block 65536) = next_sized entry from from (length c.loop-after.block) 65536 was.size (sym (rw c.in_default.is at c.in_ok-after.ensures.next)) in
    subst (λ (t : List ℕ). Appends (g.W.Write.contents c.args.writer.now) (g.W.Write.contents c.print_block.new.writer) t)
    (printed_further entry from 65536 from next ∙ printed_all entry from (sym next))
    (Appends-trans _ _ _ _ (together (block 65536)) was.written
    (subst (λ (n : ℕ). Appends (g.W.Write.contents c.loop-after.writer) (g.W.Write.contents c.print_block.new.writer) (together (block n))) was.size c.in_ok-after.ensures.written))
