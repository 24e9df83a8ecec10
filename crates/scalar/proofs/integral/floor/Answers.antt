-- `scalar::integral::floor` meets its contract. Assumes nothing.
use mathlib.Core.Path.{sym, ap, ◌∙◌, subst}
use lib.Dec.{T}
use lib.Ieee.{Float, binary32, fits, lt}
use Rattle.scalar.specs.Integral.{toward_negative}
use Rattle.scalar.proofs.floats.BitsLaws.{no_nan}
use Rattle.scalar.proofs.whole_numbers.IntegralRules.{toward_negative_rule}
use Rattle.scalar.proofs.whole_numbers.IntegralSums.{whole, floor_below, floor_same, large_stays, nan_stays}
use Rattle.scalar.proofs.integral.floor.Goals as goal

pub returns-then-is_nan : goal.returns-then-is_nan
returns-then-is_nan c = nan_stays toward_negative c.args.x (sym c.is_nan.ensures.value ∙ c.if-is_nan.true)

pub size-requires : goal.size-requires
size-requires c = no_nan c.args.x (sym c.is_nan.ensures.value ∙ c.if-is_nan.false)

pub near-w-requires : goal.near-w-requires
near-w-requires c =
    ap (λ (y : Float). lt y whole) (sym c.size.ensures) ∙ c.if-size.true

pub returns-then-above : goal.returns-then-above
returns-then-above c =
    let held : T (fits binary32 c.args.x) = subst T (sym c.well_formed.0.1) tt in
    floor_below c.args.x c.size.result held c.size.ensures c.if-size.true c.near-w.result c.near-w.ensures c.if-above.true

pub returns-else-above : goal.returns-else-above
returns-else-above c =
    let held : T (fits binary32 c.args.x) = subst T (sym c.well_formed.0.1) tt in
    floor_same c.args.x c.size.result held c.size.ensures c.if-size.true c.near-w.result c.near-w.ensures c.if-above.false

pub returns : goal.returns
returns c =
    let held : T (fits binary32 c.args.x) = subst T (sym c.well_formed.0.1) tt in
    large_stays toward_negative toward_negative_rule c.args.x c.size.result held c.size.ensures c.if-size.false
