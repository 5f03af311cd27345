use mathlib.Core.Path.{refl}
use Rattle.ucd.specs.Table.{same, in_ranges, mapping_in, member, decomposition}
use Rattle.ucd.specs.Unicode16.{unicode16, ranges16, mappings16}
use Rattle.ji.specs.Lomaji.Strip.{mark_tone, is_tone_mark}
use Rattle.ji.specs.declared.tone.Tone.TheVariants.{T2, T3, T5}
use Rattle.ji.proofs.lomaji.quick.Laws.{is_letter, letter_at}
use Rattle.ji.proofs.lomaji.quick.low_letter.Goals as goal

pub returns-in-224 : goal.returns-in-224
unfolding is_letter mark_tone is_tone_mark same in_ranges mapping_in member decomposition unicode16 ranges16 mappings16
returns-in-224 c = letter_at 0x00E0 0x61 0x0300 tt T3 refl c.args.c c.in-224.is

pub returns-in-225 : goal.returns-in-225
unfolding is_letter mark_tone is_tone_mark same in_ranges mapping_in member decomposition unicode16 ranges16 mappings16
returns-in-225 c = letter_at 0x00E1 0x61 0x0301 tt T2 refl c.args.c c.in-225.is

pub returns-in-226 : goal.returns-in-226
unfolding is_letter mark_tone is_tone_mark same in_ranges mapping_in member decomposition unicode16 ranges16 mappings16
returns-in-226 c = letter_at 0x00E2 0x61 0x0302 tt T5 refl c.args.c c.in-226.is

pub returns-in-232 : goal.returns-in-232
unfolding is_letter mark_tone is_tone_mark same in_ranges mapping_in member decomposition unicode16 ranges16 mappings16
returns-in-232 c = letter_at 0x00E8 0x65 0x0300 tt T3 refl c.args.c c.in-232.is

pub returns-in-233 : goal.returns-in-233
unfolding is_letter mark_tone is_tone_mark same in_ranges mapping_in member decomposition unicode16 ranges16 mappings16
returns-in-233 c = letter_at 0x00E9 0x65 0x0301 tt T2 refl c.args.c c.in-233.is

pub returns-in-234 : goal.returns-in-234
unfolding is_letter mark_tone is_tone_mark same in_ranges mapping_in member decomposition unicode16 ranges16 mappings16
returns-in-234 c = letter_at 0x00EA 0x65 0x0302 tt T5 refl c.args.c c.in-234.is

pub returns-in-236 : goal.returns-in-236
unfolding is_letter mark_tone is_tone_mark same in_ranges mapping_in member decomposition unicode16 ranges16 mappings16
returns-in-236 c = letter_at 0x00EC 0x69 0x0300 tt T3 refl c.args.c c.in-236.is

pub returns-in-237 : goal.returns-in-237
unfolding is_letter mark_tone is_tone_mark same in_ranges mapping_in member decomposition unicode16 ranges16 mappings16
returns-in-237 c = letter_at 0x00ED 0x69 0x0301 tt T2 refl c.args.c c.in-237.is

pub returns-in-238 : goal.returns-in-238
unfolding is_letter mark_tone is_tone_mark same in_ranges mapping_in member decomposition unicode16 ranges16 mappings16
returns-in-238 c = letter_at 0x00EE 0x69 0x0302 tt T5 refl c.args.c c.in-238.is

pub returns-in-242 : goal.returns-in-242
unfolding is_letter mark_tone is_tone_mark same in_ranges mapping_in member decomposition unicode16 ranges16 mappings16
returns-in-242 c = letter_at 0x00F2 0x6F 0x0300 tt T3 refl c.args.c c.in-242.is

pub returns-in-243 : goal.returns-in-243
unfolding is_letter mark_tone is_tone_mark same in_ranges mapping_in member decomposition unicode16 ranges16 mappings16
returns-in-243 c = letter_at 0x00F3 0x6F 0x0301 tt T2 refl c.args.c c.in-243.is

pub returns-in-244 : goal.returns-in-244
unfolding is_letter mark_tone is_tone_mark same in_ranges mapping_in member decomposition unicode16 ranges16 mappings16
returns-in-244 c = letter_at 0x00F4 0x6F 0x0302 tt T5 refl c.args.c c.in-244.is

pub returns-in-249 : goal.returns-in-249
unfolding is_letter mark_tone is_tone_mark same in_ranges mapping_in member decomposition unicode16 ranges16 mappings16
returns-in-249 c = letter_at 0x00F9 0x75 0x0300 tt T3 refl c.args.c c.in-249.is

pub returns-in-250 : goal.returns-in-250
unfolding is_letter mark_tone is_tone_mark same in_ranges mapping_in member decomposition unicode16 ranges16 mappings16
returns-in-250 c = letter_at 0x00FA 0x75 0x0301 tt T2 refl c.args.c c.in-250.is

pub returns-in-251 : goal.returns-in-251
unfolding is_letter mark_tone is_tone_mark same in_ranges mapping_in member decomposition unicode16 ranges16 mappings16
returns-in-251 c = letter_at 0x00FB 0x75 0x0302 tt T5 refl c.args.c c.in-251.is
