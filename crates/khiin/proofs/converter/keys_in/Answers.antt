use mathlib.Core.Path.{sym, ap}
use Rattle.khiin.specs.Converter.{keys_in}
use Rattle.khiin.specs.declared.converter.ToneMode.{ToneMode}
use Rattle.khiin.proofs.converter.keys_in.Goals as goal

pub returns-in-Numeric : goal.returns-in-Numeric
returns-in-Numeric c = ap (λ (m : ToneMode). keys_in m c.args.k) (sym c.in-Numeric.is)
