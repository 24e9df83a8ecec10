-- `scalar::root::is_exact` meets its contract. Assumes nothing.
use mathlib.Core.Path.{◌≡◌, sym, ap, ◌∙◌, subst}
use mathlib.Core.Bool.{not}
use Prim.Native.Nat.{◌*◌, ◌^◌, ◌%◌, ◌<◌}
use native.Mathlib.Omega.{arith}
use lib.Dec.{T, eqb}
use lib.Ieee.{Float, is_nan}
use Rattle.scalar.specs.Root.{root_units}
use Rattle.scalar.specs.RootParts.{Positive}
use Rattle.scalar.proofs.floats.PartsLaws.{other}
use Rattle.scalar.proofs.roots.RootCases.{root_positive}
use Rattle.scalar.proofs.roots.ExactRootLaws.{significand_bits, significand_exact, root_no_nan, exact_other, exact_zero, exact_negative, exact_positive}
use Rattle.scalar.proofs.root.is_exact.Goals as goal

pub returns-in_default : goal.returns-in_default
returns-in_default c = exact_other _ (other c.decode.result c.args.x c.in_default.not-Fin c.decode.ensures)

pub returns-then-q-eq0 : goal.returns-then-q-eq0
returns-then-q-eq0 c =
    let parts = rw c.in-Fin.is at c.decode.ensures in
    exact_zero _ _ _ _ parts.0 c.if-q-eq0.true

pub returns-then-s : goal.returns-then-s
returns-then-s c =
    let parts = rw c.in-Fin.is at c.decode.ensures in
    let some : 0 < c.in-Fin.q = omega (arith, c.if-q-eq0.false) in
    exact_negative _ _ _ _ parts.0 some c.if-s.true

pub float_to_bits-m : goal.float_to_bits-m
float_to_bits-m c =
    let parts = rw c.in-Fin.is at c.decode.ensures in
    let some : 0 < c.in-Fin.q = omega (arith, c.if-q-eq0.false) in
    let positive : Positive c.in-Fin.q c.in-Fin.k = let p = parts in record { some = some; bits = p.1.bits; range = p.1.range } in
    let root_is : c.args.root ≡ root_units (c.in-Fin.q * 2 ^ c.in-Fin.k) = c.requires ∙ sym (root_positive _ _ _ _ parts.0 some c.if-s.false) in
    subst (λ (y : Float). T (not (is_nan y))) (sym root_is) (root_no_nan _ _ _ positive c.shift_of.ensures)

pub returns : goal.returns
returns c =
    let parts = rw c.in-Fin.is at c.decode.ensures in
    let some : 0 < c.in-Fin.q = omega (arith, c.if-q-eq0.false) in
    let positive : Positive c.in-Fin.q c.in-Fin.k = let p = parts in record { some = some; bits = p.1.bits; range = p.1.range } in
    let root_is : c.args.root ≡ root_units (c.in-Fin.q * 2 ^ c.in-Fin.k) = c.requires ∙ sym (root_positive _ _ _ _ parts.0 some c.if-s.false) in
    let n = c.in-Fin.q * 2 ^ c.shift_of.result % 2 ^ 64 in
    ap (λ (y : Float). eqb (significand_bits y * significand_bits y) n) root_is
    ∙ significand_exact _ _ _ positive c.shift_of.ensures
    ∙ exact_positive _ _ _ _ parts.0 some c.if-s.false
