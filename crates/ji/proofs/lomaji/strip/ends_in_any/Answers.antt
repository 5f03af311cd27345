use mathlib.Core.Path.{refl, sym, ◌∙◌}
use mathlib.Core.List.{[], ◌∷◌}
use Rattle.ji.proofs.lomaji.strip.Laws.{stop_one, stop_none, stop_empty, last_read}
use Rattle.std.proofs.Common.{rules}
use Rattle.ji.proofs.text.Laws.{lower_ascii}
use Rattle.ji.proofs.lomaji.strip.ends_in_any.Goals as goal

pub returns-in_default : goal.returns-in_default
returns-in_default c = stop_empty c.args.s.now c.in_default.ensures.value

pub returns-in-104 : goal.returns-in-104
returns-in-104 c = c.ends_in.ensures ∙ stop_one 0x68 (0x68 ∷ []) _ refl (sym c.in-104.is ∙ last_read c.args.s.now _ _ c.in-Some.ensures.value (c.to_ascii_lowercase.ensures.value ∙ lower_ascii _))

pub returns-in-112 : goal.returns-in-112
returns-in-112 c = c.ends_in-in-112.ensures ∙ stop_one 0x70 (0x70 ∷ []) _ refl (sym c.in-112.is ∙ last_read c.args.s.now _ _ c.in-Some.ensures.value (c.to_ascii_lowercase.ensures.value ∙ lower_ascii _))

pub returns-in-116 : goal.returns-in-116
returns-in-116 c = c.ends_in-in-116.ensures ∙ stop_one 0x74 (0x74 ∷ []) _ refl (sym c.in-116.is ∙ last_read c.args.s.now _ _ c.in-Some.ensures.value (c.to_ascii_lowercase.ensures.value ∙ lower_ascii _))

pub returns-in-107 : goal.returns-in-107
returns-in-107 c = c.ends_in-in-107.ensures ∙ stop_one 0x6B (0x6B ∷ []) _ refl (sym c.in-107.is ∙ last_read c.args.s.now _ _ c.in-Some.ensures.value (c.to_ascii_lowercase.ensures.value ∙ lower_ascii _))

pub returns-in-110 : goal.returns-in-110
returns-in-110 c = c.ends_in-in-110.ensures ∙ stop_one 0x6E (0x68 ∷ 0x6E ∷ 0x6E ∷ []) _ refl (sym c.in-110.is ∙ last_read c.args.s.now _ _ c.in-Some.ensures.value (c.to_ascii_lowercase.ensures.value ∙ lower_ascii _))

pub returns-in-191 : goal.returns-in-191
returns-in-191 c = c.ends_in-in-191.ensures ∙ stop_one 0xBF (0x68 ∷ 0xE2 ∷ 0x81 ∷ 0xBF ∷ []) _ refl (sym c.in-191.is ∙ last_read c.args.s.now _ _ c.in-Some.ensures.value (c.to_ascii_lowercase.ensures.value ∙ lower_ascii _))

pub returns-in-186 : goal.returns-in-186
returns-in-186 c = c.ends_in-in-186.ensures ∙ stop_one 0xBA (0x68 ∷ 0xE1 ∷ 0xB4 ∷ 0xBA ∷ []) _ refl (sym c.in-186.is ∙ last_read c.args.s.now _ _ c.in-Some.ensures.value (c.to_ascii_lowercase.ensures.value ∙ lower_ascii _))

pub returns-in_default-to_ascii_lowercase : goal.returns-in_default-to_ascii_lowercase
returns-in_default-to_ascii_lowercase c = stop_none _ _ (last_read c.args.s.now _ _ c.in-Some.ensures.value (c.to_ascii_lowercase.ensures.value ∙ lower_ascii _)) (search rules)
