-- `scalar::euclid::rem` meets its contract. Assumes nothing.
use mathlib.Core.Path.{ap, ◌∙◌}
use Prim.Native.Nat.{ℕ, ◌*◌, ◌^◌, ◌<◌}
use native.Mathlib.Omega.{arith}
use lib.Ieee.{binary32, round}
use Rattle.scalar.proofs.RestLaws.{rem_by_inf, rem_rest}
use Rattle.scalar.proofs.euclid.rem.Goals as goal

pub returns-in-Inf : goal.returns-in-Inf
returns-in-Inf c =
    let dividend = rw c.in-Fin.is at c.decode.ensures in
    rem_by_inf _ _ _ _ _ dividend.0 _ (rw c.in-Inf.is at c.decode-2.ensures)

pub returns-else-k-d : goal.returns-else-k-d
returns-else-k-d c =
    let dividend = rw c.in-Fin.is at c.decode.ensures in
    let divisor = rw c.in-Fin-decode.is at c.decode-2.ensures in
    let some : 0 < c.in-Fin-decode.n = omega (arith, c.if-n-eq0.false) in
    c.pack_exact.ensures
    ∙ ap (λ (r : ℕ). round binary32 c.in-Fin.s (r * 2 ^ c.in-Fin-decode.d) (2 ^ 149)) c.rest.ensures
    ∙ rem_rest _ _ _ _ _ dividend.0 _ _ _ divisor.0 some c.if-k-d.false
