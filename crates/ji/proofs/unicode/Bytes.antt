-- What the crates above know of the bytes of a text, which this crate alone turns into code points and back, and of the two tests of lists
-- that the table's crate defines.
use mathlib.Core.Path.{◌≡◌, refl}
use mathlib.Core.Bool.{false, ◌||◌}
use mathlib.Core.List.{List, [], ◌∷◌}
use Prim.Native.Nat.{ℕ}
use lib.Dec.{eqb}
use Rattle.ucd.specs.Table.{listed}
pub use Rattle.ucd.proofs.Tests.{same_equal, same_itself}
pub use Rattle.ji.proofs.utf8.Encoding.{bytes_one, bytes_two, bytes_three, bytes_four, encode_nil, encode_cons, encode_append, encode_most}
pub use Rattle.ji.proofs.utf8.RoundTrip.{decode_encode, encode_decode}
pub use Rattle.ji.proofs.utf8.OneToOne.{bytes_some, fewer, encode_one_to_one, same_bytes, begins_bytes, drop_bytes}
pub use Rattle.ji.proofs.utf8.Last.{but_last_law, last_skip, start_bytes, front_bytes, point_bytes}

pub listed_nil : (c : ℕ) → listed [] c ≡ false
unfolding listed
listed_nil c = refl

pub listed_cons : (x : ℕ) (xs : List ℕ) (c : ℕ) → listed (x ∷ xs) c ≡ (eqb x c || listed xs c)
unfolding listed
listed_cons x xs c = refl
