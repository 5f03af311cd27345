-- The two calls that make the NFC of code points: one writes its bytes, with the two code points of a pair exchanged wherever it stands, one makes it in the
-- lent buffer.
use Rattle.std.specs.Prelude.{◌≡◌, List, [], ◌∷◌, ℕ, ◌/◌, ◌≤◌, ◌<◌, length, leb}
use Rattle.ucd.specs.Table.{Table}
use Rattle.ji.specs.Text.{replace_all}
use Rattle.ji.specs.Utf8.{encode}
use Rattle.ji.specs.Nfd.{nfd}
use Rattle.ji.specs.Nfc.{nfc}
use Rattle.ji.specs.Reply.{Reply, refused, pick_reply, over, placed}
use Rattle.ji.specs.declared.reply.Refusal.TheVariants.{TooLong}
use Rattle.std.specs.Prelude.{Some, Option, None}
use Rattle.ji.specs.declared.unicode.CharLen.{CharLen}

-- each a b becomes b a
abbrev pub exchanged : ℕ → ℕ → List ℕ → List ℕ
exchanged a b s = replace_all (a ∷ b ∷ []) (b ∷ a ∷ []) s

-- 2 of a text above 1,024 code points, four times the longest text of document 01; 7 of the buffer
abbrev pub exchanged_call : Table → ℕ → ℕ → List ℕ → List ℕ → Reply
exchanged_call t a b s buffer = pick_reply (leb (length s) 1024) (placed 0 (encode (exchanged a b (nfc t s))) buffer) (refused TooLong buffer)

-- ── NFC in the buffer itself
-- the NFC of s stands in the buffer, where its NFD was made; or the buffer is as it was, since it has fewer than three places for a code point
abbrev pub Normalising : Table → List ℕ → List ℕ → List ℕ → Option CharLen → Type 0
Normalising t s before after (Some n) = (length s ≤ length before / 3) × (n.0 ≡ length (nfc t s)) × (after ≡ over (nfc t s) (over (nfd t s) before))
Normalising t s before after None = (length before / 3 < length s) × (after ≡ before)
