-- `scalar::round_pack::round_pack` meets its contract: the laws of RoundPackLaws at the bits of v. Assumes nothing.
use mathlib.Core.Path.{◌∙◌}
use native.Mathlib.Omega.{arith}
use Rattle.scalar.proofs.products.RoundPackLaws.{ulp_full, ulp_low, ulp_round, ulp_packs, ulp_inf, ulp_none, round_zero}
use Rattle.scalar.proofs.round_pack.round_pack.Goals as goal

pub returns-then-v-eq0 : goal.returns-then-v-eq0
returns-then-v-eq0 c = c.pack.ensures ∙ round_zero c.args.negative c.args.v c.args.e c.if-v-eq0.true

pub returns-then-k-gt253 : goal.returns-then-k-gt253
returns-then-k-gt253 c =
    let full = ulp_full c.args.v c.normalized-w.result c.args.e c.normalized-w.ensures c.if-e-z.true in
    c.pack-then-k-gt253.ensures ∙ ulp_inf _ _ _ _ _ full _ c.if-k-gt253.true

pub pack-requires-then-e-z : goal.pack-requires-then-e-z
pack-requires-then-e-z c =
    let full = ulp_full c.args.v c.normalized-w.result c.args.e c.normalized-w.ensures c.if-e-z.true in
    ulp_packs _ _ _ _ _ full c.nearest.result c.nearest.ensures c.if-k-gt253.false

pub returns-then-e-z : goal.returns-then-e-z
returns-then-e-z c =
    let full = ulp_full c.args.v c.normalized-w.result c.args.e c.normalized-w.ensures c.if-e-z.true in
    c.pack-then-e-z.ensures ∙ ulp_round _ _ _ _ _ full c.nearest.result c.nearest.ensures _

pub returns-then-g-gt63 : goal.returns-then-g-gt63
returns-then-g-gt63 c =
    let low = ulp_low c.args.v c.normalized-w.result c.args.e c.normalized-w.ensures c.if-e-z.false in
    c.pack-then-g-gt63.ensures ∙ ulp_none _ _ _ _ _ low _ c.if-g-gt63.true

pub pack-requires-2 : goal.pack-requires-2
pack-requires-2 c =
    let low = ulp_low c.args.v c.normalized-w.result c.args.e c.normalized-w.ensures c.if-e-z.false in
    ulp_packs _ _ _ _ _ low c.nearest-2.result c.nearest-2.ensures (omega arith)

pub returns : goal.returns
returns c =
    let low = ulp_low c.args.v c.normalized-w.result c.args.e c.normalized-w.ensures c.if-e-z.false in
    c.pack-2.ensures ∙ ulp_round _ _ _ _ _ low c.nearest-2.result c.nearest-2.ensures _
