-- `scalar::bits::decode` meets its contract. Assumes nothing.
use mathlib.Core.Path.{sym, ◌∙◌, subst}
use lib.Dec.{T, leb}
use lib.Ieee.{binary32, fits, to_bits}
use Prim.Native.Nat.{◌%◌, ◌/◌}
use Rattle.scalar.proofs.floats.BitsLaws.{no_nan, the_nan, fields, at_255, at_0, at_mid, split_0, split_mid}
use Rattle.scalar.proofs.bits.decode.Goals as goal

pub returns-then-is_nan : goal.returns-then-is_nan
returns-then-is_nan c = the_nan c.args.x (sym c.is_nan.ensures.value ∙ c.if-is_nan.true)

pub float_to_bits-b : goal.float_to_bits-b
float_to_bits-b c = no_nan c.args.x (sym c.is_nan.ensures.value ∙ c.if-is_nan.false)

pub returns-then-e-eq255 : goal.returns-then-e-eq255
returns-then-e-eq255 c =
    let held : T (fits binary32 c.args.x) = subst T (sym c.well_formed.0.1) tt in
    let b = to_bits binary32 c.args.x in
    at_255 c.args.x (leb 2147483648 b) (b % 2147483648 / 8388608) (b % 8388608) (fields c.args.x held) c.if-e-eq255.true (no_nan c.args.x (sym c.is_nan.ensures.value ∙ c.if-is_nan.false))

pub returns-then-e-eq0 : goal.returns-then-e-eq0
returns-then-e-eq0 c =
    let held : T (fits binary32 c.args.x) = subst T (sym c.well_formed.0.1) tt in
    let b = to_bits binary32 c.args.x in
    (at_0 c.args.x (leb 2147483648 b) (b % 2147483648 / 8388608) (b % 8388608) (fields c.args.x held) c.if-e-eq0.true, split_0 b)

pub returns : goal.returns
returns c =
    let held : T (fits binary32 c.args.x) = subst T (sym c.well_formed.0.1) tt in
    let b = to_bits binary32 c.args.x in
    (at_mid c.args.x (leb 2147483648 b) (b % 2147483648 / 8388608) (b % 8388608) (fields c.args.x held) c.if-e-eq0.false c.if-e-eq255.false, split_mid b c.if-e-eq255.false)
