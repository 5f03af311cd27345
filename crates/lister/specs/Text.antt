-- What `keylist` takes as the entry, and what it prints (document 01, "Program `keylist`").
use Rattle.std.specs.Prelude.{List, ℕ, ◌-◌, eqb, length, take, get_or}
use Rattle.ji.specs.Unicode.{unicode16, pick_text}
use Rattle.khiin_entries.specs.Listing.{listing, together}

-- "drops one final newline"
unfoldable pub without_newline : List ℕ → List ℕ
without_newline s = pick_text (eqb (get_or s (length s - 1) 0) 0x0A) (take (length s - 1) s) s

-- the entry in an input, of which at most 1,026 bytes are read
abbrev pub entry_in : List ℕ → List ℕ
entry_in input = without_newline (take 1026 input)

-- all lines of an entry's listing, one behind the other
abbrev pub printed : List ℕ → List ℕ
printed entry = together (listing unicode16 entry)
