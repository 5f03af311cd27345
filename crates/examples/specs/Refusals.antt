-- What calls reply that are refused (document 01, "Replies, by who causes them").
use Rattle.std.specs.Prelude.{[]}
use Rattle.ji.specs.Text.{points}
use Rattle.ji.specs.Reply.{Reply, refused}
use Rattle.ji.specs.declared.reply.Refusal.TheVariants.{IllFormed}

-- compose of ill-formed raw input and of a body outside the table: "the first passes 2 to 4 before the second"
abbrev pub both_bad : Reply
both_bad = refused IllFormed []

-- the telex step of an ill-formed text, where a buffer with x is lent: a refusal "changes no byte of the caller's buffers"
abbrev pub lent_back : Reply
lent_back = refused IllFormed (points "x")
