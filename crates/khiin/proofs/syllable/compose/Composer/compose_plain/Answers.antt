use mathlib.Core.Path.{sym, ap, ◌∙◌, subst}
use mathlib.Core.List.{List}
use Prim.Native.Nat.{ℕ}
use Rattle.ji.specs.Unicode.{unicode16}
use Rattle.ji.specs.Utf8.{encode}
use Rattle.ji.specs.Reply.{placed}
use Rattle.khiin.specs.Syllable.{compose}
use Rattle.khiin.specs.Compose.{QuickAs}
use Rattle.khiin.proofs.syllable.plain.Laws.{plain_composed}
use Rattle.khiin.proofs.syllable.compose.Composer.compose_plain.Goals as goal

pub returns-in-No : goal.returns-in-No
returns-in-No c =
    let s = c.args.s.now in
    let plain = c.is_plain.ensures c.if-is_plain.true in (
      λ h. plain.ascii,
      subst (QuickAs _ c.args.out.now _)
          (ap (λ (v : List ℕ). placed 0 (encode v) c.args.out.now) (plain_composed s plain c.args.self.input.points c.args.self.tone ∙ ap (compose unicode16 c.args.self.input.points s c.args.self.tone) (sym c.in-No.is)))
          c.place_plain.ensures,
    )
