use mathlib.Core.Path.{refl}
use Rattle.ucd.specs.Table.{same, in_ranges, mapping_in, member, decomposition}
use Rattle.ucd.specs.Unicode16.{unicode16, ranges16, mappings16}
use Rattle.ji.specs.Lomaji.Strip.{mark_tone, is_tone_mark}
use Rattle.ji.specs.declared.tone.Tone.TheVariants.{T7}
use Rattle.ji.proofs.lomaji.quick.Laws.{is_letter, letter_at}
use Rattle.ji.proofs.lomaji.quick.macron_letter.Goals as goal

pub returns-in-257 : goal.returns-in-257
unfolding is_letter mark_tone is_tone_mark same in_ranges mapping_in member decomposition unicode16 ranges16 mappings16
returns-in-257 c = letter_at 0x0101 0x61 0x0304 tt T7 refl c.args.c c.in-257.is

pub returns-in-275 : goal.returns-in-275
unfolding is_letter mark_tone is_tone_mark same in_ranges mapping_in member decomposition unicode16 ranges16 mappings16
returns-in-275 c = letter_at 0x0113 0x65 0x0304 tt T7 refl c.args.c c.in-275.is

pub returns-in-299 : goal.returns-in-299
unfolding is_letter mark_tone is_tone_mark same in_ranges mapping_in member decomposition unicode16 ranges16 mappings16
returns-in-299 c = letter_at 0x012B 0x69 0x0304 tt T7 refl c.args.c c.in-299.is

pub returns-in-333 : goal.returns-in-333
unfolding is_letter mark_tone is_tone_mark same in_ranges mapping_in member decomposition unicode16 ranges16 mappings16
returns-in-333 c = letter_at 0x014D 0x6F 0x0304 tt T7 refl c.args.c c.in-333.is

pub returns-in-363 : goal.returns-in-363
unfolding is_letter mark_tone is_tone_mark same in_ranges mapping_in member decomposition unicode16 ranges16 mappings16
returns-in-363 c = letter_at 0x016B 0x75 0x0304 tt T7 refl c.args.c c.in-363.is
