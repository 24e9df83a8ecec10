-- `scalar::fused::sum` meets its contract: the sign is that of the larger term, and a sum of zero is +0. Assumes nothing.
use mathlib.Core.Path.{◌≡◌, refl, sym, ◌∙◌}
use mathlib.Core.Bool.{false}
use mathlib.Core.Logic.{inl, inr}
use Prim.Native.Nat.{◌^◌}
use lib.Pow.{pow_pos}
use lib.Ieee.{binary32, round, of_bits}
use Rattle.laws.proofs.operations.SumSigns.{sum_level, sum_sized}
use Rattle.scalar.proofs.fused.sum.Goals as goal

none : of_bits binary32 0 ≡ round binary32 false 0 (2 ^ 426)
unfolding of_bits round
none = refl

pub returns-then-v-eq0 : goal.returns-then-v-eq0
returns-then-v-eq0 c =
    none ∙ sym (sum_level binary32 c.args.s c.args.t c.args.x c.args.y (2 ^ c.args.e) (2 ^ 426) c.size_of-v.result (pow_pos c.args.e) c.requires.0 c.size_of-v.ensures c.if-v-eq0.true)

pub returns : goal.returns
returns c =
    c.round_pack.ensures
    ∙ sum_sized binary32 c.args.s c.args.t c.args.x c.args.y (2 ^ c.args.e) (2 ^ 426) c.size_of-v.result (pow_pos c.args.e) c.requires.0 c.size_of-v.ensures c.if-x-y.negative c.if-v-eq0.false
    (elim c.if-x-y.branch [ goal.then-x-y p ↦ inl (p.if-x-y.true, p.negative-is) | goal.else-x-y p ↦ inr (p.if-x-y.false, p.negative-is) ])
