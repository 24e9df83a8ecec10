-- `scalar::round_pack::shift_right_sticky` meets its contract: a shift by more than 63 bits leaves their sticky bit, as one by 63 does. Assumes nothing.
use mathlib.Core.Path.{sym, ◌∙◌}
use Prim.Native.Nat.{◌^◌, ◌<◌}
use native.Mathlib.Omega.{arith}
use lib.Pow.{pow_pos}
use Rattle.laws.proofs.rounding.StickyLaws.{sticky_whole, sticky_lossy}
use Rattle.scalar.proofs.products.WordLaws.{shift_within, truncated_word}
use Rattle.scalar.proofs.round_pack.shift_right_sticky.Goals as goal

pub returns-then-h-c : goal.returns-then-h-c
returns-then-h-c c =
    let word : c.args.v < 18446744073709551616 = omega arith in
    let b = 2 ^ c.min-c.result in
    sym (sticky_whole c.args.v b (pow_pos c.min-c.result) (sym (truncated_word c.args.v b word) ∙ c.if-h-c.true)) ∙ shift_within c.args.v c.args.d c.min-c.result word c.min-c.ensures

pub returns-else-h-c : goal.returns-else-h-c
returns-else-h-c c =
    let word : c.args.v < 18446744073709551616 = omega arith in
    let b = 2 ^ c.min-c.result in
    sym (sticky_lossy c.args.v b (pow_pos c.min-c.result) (λ e. c.if-h-c.false (truncated_word c.args.v b word ∙ e)))
    ∙ shift_within c.args.v c.args.d c.min-c.result word c.min-c.ensures
