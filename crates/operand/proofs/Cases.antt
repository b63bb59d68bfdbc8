-- Cases of operands beside those in the table of marked cases: a cut W, and bytes read with and without a sign.
-- Below: the definitions. Assumes nothing.
use mathlib.Core.Path.{◌≡◌, refl}
use mathlib.Core.List.{[], ◌∷◌}
use Rattle.operand.specs.Operand.{UB, SB, DB, W, got, out, if_there, signed, fetched}

pub record Others : Type 0 where
  pub cut : fetched W (0x34 ∷ []) 0 ≡ out 1
  pub ub : fetched UB (0xff ∷ []) 0 ≡ got 255 1
  pub sb : fetched SB (0xff ∷ []) 0 ≡ got 65535 1
  pub db : fetched DB (0x80 ∷ []) 0 ≡ got 128 1

pub others : Others
unfolding fetched if_there signed
others = record { cut = refl; ub = refl; sb = refl; db = refl }
