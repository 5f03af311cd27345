-- `listing::put_line` meets its contract.
use Rattle.std.proofs.Common.{◌≡◌, ◌+◌, ◌≤◌, length, arith}
use Rattle.khiin_entries.specs.Listing.{decimal}
use Rattle.khiin_entries.proofs.listing.Texts.{number_length, line_put, numbered_length, keyed_length}
use Rattle.khiin_entries.proofs.listing.put_line.Goals as goal
use Rattle.khiin_entries.proofs.listing.put_line.Goals.{After-put_number}

-- where the number ends, and that there is room behind it
behind : (t : After-put_number) → (t.put_number.result ≡ t.args.at + length (decimal t.args.position) + 3) × (t.put_number.result + t.args.n + 1 ≤ length t.put_number.new.out)
behind t =
    let p = t.put_number.ensures in
    let numbered = numbered_length t.args.out.now t.args.at t.args.letter p in
    (omega (arith, p.ends, number_length t.args.position 0x20), omega (arith, p.ends, number_length t.args.position 0x20, numbered, t.requires))

pub write_at-requires : goal.write_at-requires
write_at-requires c =
    let b = behind (goal.at.write_at-requires c).After-put_number in
    (omega (arith, c.requires), omega (arith, b))

pub bounds-out-end : goal.bounds-out-end
bounds-out-end c =
    let b = behind (goal.at.bounds-out-end c).After-put_number in
    omega (arith, b, keyed_length c.args.layout.now c.args.position _ _ _ (omega (arith, c.requires)) (omega (arith, b)) c.write_at.ensures)

pub returns : goal.returns
returns c =
    let b = behind (goal.at.returns c).After-put_number in
    line_put c.args.layout.now c.args.position c.args.letter c.args.out.now _ _ c.args.at _ c.args.n c.requires.0 (omega (arith, c.requires)) (omega (arith, b, c.requires)) c.put_number.ensures c.write_at.ensures
