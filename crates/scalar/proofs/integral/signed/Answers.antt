-- `scalar::integral::signed` meets its contract. Assumes nothing.
use mathlib.Core.Path.{sym, subst}
use lib.Dec.{T}
use Rattle.scalar.proofs.floats.BitSignLaws.{copysign_pattern, signed_pattern}
use Rattle.scalar.proofs.integral.signed.Goals as goal

pub float_from_bits-result : goal.float_from_bits-result
float_from_bits-result c =
    copysign_pattern c.copysign_bits.result c.args.w c.args.x c.copysign_bits.ensures (subst T (sym c.well_formed.0.1) tt) (subst T (sym c.well_formed.1.0.1) tt) c.requires.number c.requires.sign_number

pub returns : goal.returns
returns c =
    signed_pattern c.copysign_bits.result c.args.w c.args.x c.copysign_bits.ensures (subst T (sym c.well_formed.0.1) tt) (subst T (sym c.well_formed.1.0.1) tt) c.requires.sign_number
