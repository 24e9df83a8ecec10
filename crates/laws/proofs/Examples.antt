-- Worked uses of the solver and of the error bounds, kept as checks that they serve. Assumes nothing.
use mathlib.Core.Path.{◌≡◌, refl, sym, ap, ◌∙◌, subst}
use mathlib.Core.Bool.{Bool, true, false}
use mathlib.Core.List.{[], ◌∷◌}
use Prim.Native.Nat.{ℕ, ◌+◌, ◌*◌, ◌^◌, ◌≤◌, ◌<◌}
use native.Mathlib.Nat.{mul-le-mul_right, le_of_mul-le-mul_right, eq_of_mul-eq-mul_right}
use native.Mathlib.Omega.{arith}
use lib.IntN.{ℤ, ◌+ℤ◌, ◌-ℤ◌, ◌*ℤ◌}
use lib.Dec.{T, lit<}
use lib.Pow.{pow_pos}
use lib.Ieee.{Float, Format, binary32, low, unlike, round, mul, fits}
use lib.Ieee.Scale.{grid, finite, normal_of_fraction}
use Rattle.laws.specs.Within.{Within}
use Rattle.laws.specs.Exact.{negative, size_in}
use Rattle.laws.specs.RoundsTo.{gap, off}
use Rattle.laws.proofs.solvers.Ring.{var, lit, ◌⊕◌, ◌⊗◌}
use Rattle.laws.proofs.solvers.RingNat.{Expr, ring}
use Rattle.laws.proofs.solvers.Certificates.{cert, by, done, square}
use Rattle.laws.proofs.solvers.RingInt as Z
use Rattle.laws.proofs.rounding.RoundingError.{round_relative, finite_round}
use Rattle.laws.proofs.values.SizeLaws.{size_of_value, value_of_size, size_unique}
use Rattle.laws.proofs.operations.OperationLaws.{mul_at}
use Rattle.laws.proofs.rounding.OverflowLaws.{size_under}
use Rattle.laws.proofs.rounding.RoundNearest.{round_nearest}

-- ---- equations over ℕ
square_of_sum : (a b : ℕ) → (a + b) * (a + b) ≡ a * a + 2 * a * b + b * b
square_of_sum a b = ring (a ∷ b ∷ []) ((var 0 ⊕ var 1) ⊗ (var 0 ⊕ var 1)) (var 0 ⊗ var 0 ⊕ lit 2 ⊗ var 0 ⊗ var 1 ⊕ var 1 ⊗ var 1) refl

-- a power of two is a literal
halves : (a b : ℕ) → (a * 2 + b) * 2 ^ 24 ≡ a * 2 ^ 25 + 2 ^ 24 * b
halves a b = ring (a ∷ b ∷ []) ((var 0 ⊗ lit 2 ⊕ var 1) ⊗ lit (2 ^ 24)) (var 0 ⊗ lit (2 ^ 25) ⊕ lit (2 ^ 24) ⊗ var 1) refl

-- ---- inequalities over ℕ
abbrev A : Expr
A = var 0

abbrev B : Expr
B = var 1

abbrev X : Expr
X = var 2

abbrev Y : Expr
Y = var 3

abbrev N : Expr
N = var 4

-- two relative errors multiply
errors_multiply : (a b x y n : ℕ) → a * n ≤ x * (n + 1) → b * n ≤ y * (n + 1) → a * b * (n * n) ≤ x * y * (n * n + 2 * n + 1)
errors_multiply a b x y n h k =
    cert (a ∷ b ∷ x ∷ y ∷ n ∷ []) (A ⊗ B ⊗ (N ⊗ N)) (X ⊗ Y ⊗ (N ⊗ N ⊕ lit 2 ⊗ N ⊕ lit 1))
    (by (B ⊗ N) (A ⊗ N) (X ⊗ (N ⊕ lit 1)) h (by (X ⊗ (N ⊕ lit 1)) (B ⊗ N) (Y ⊗ (N ⊕ lit 1)) k done)) tt

-- twice a product is at most the sum of the squares
twice_product : (a b : ℕ) → 2 * a * b ≤ a * a + b * b
twice_product a b = cert (a ∷ b ∷ []) (lit 2 ⊗ A ⊗ B) (A ⊗ A ⊕ B ⊗ B) (by (lit 1) (A ⊗ B ⊕ B ⊗ A) (A ⊗ A ⊕ B ⊗ B) (square a b) done) tt

-- ---- equations over ℤ
difference_of_squares : (a b : ℤ) → (a +ℤ b) *ℤ (a -ℤ b) ≡ a *ℤ a -ℤ b *ℤ b
difference_of_squares a b =
    Z.ringℤ (a ∷ b ∷ []) (Z.◌⊗◌ (Z.◌⊕◌ (Z.var 0) (Z.var 1)) (Z.◌⊕◌ (Z.var 0) (Z.⊖◌ (Z.var 1)))) (Z.◌⊕◌ (Z.◌⊗◌ (Z.var 0) (Z.var 0)) (Z.⊖◌ (Z.◌⊗◌ (Z.var 1) (Z.var 1)))) refl

-- Lagrange's identity, for vectors of two components
lagrange : (a b c d : ℤ) → (a *ℤ a +ℤ b *ℤ b) *ℤ (c *ℤ c +ℤ d *ℤ d) ≡ (a *ℤ c +ℤ b *ℤ d) *ℤ (a *ℤ c +ℤ b *ℤ d) +ℤ (a *ℤ d -ℤ b *ℤ c) *ℤ (a *ℤ d -ℤ b *ℤ c)
lagrange a b c d =
    Z.ringℤ (a ∷ b ∷ c ∷ d ∷ [])
    (Z.◌⊗◌ (Z.◌⊕◌ (Z.◌⊗◌ (Z.var 0) (Z.var 0)) (Z.◌⊗◌ (Z.var 1) (Z.var 1))) (Z.◌⊕◌ (Z.◌⊗◌ (Z.var 2) (Z.var 2)) (Z.◌⊗◌ (Z.var 3) (Z.var 3))))
    (Z.◌⊕◌ (Z.◌⊗◌ dot dot) (Z.◌⊗◌ cross cross))
    refl
  where
    dot : Z.Expr
    dot = Z.◌⊕◌ (Z.◌⊗◌ (Z.var 0) (Z.var 2)) (Z.◌⊗◌ (Z.var 1) (Z.var 3))

    cross : Z.Expr
    cross = Z.◌⊕◌ (Z.◌⊗◌ (Z.var 0) (Z.var 3)) (Z.⊖◌ (Z.◌⊗◌ (Z.var 1) (Z.var 2)))

-- ---- the error of one rounding: a product of two binary32 values, in the normal range, is off by at most itself / 2 ^ 24
product_error : (x y : Float) → T (fits binary32 x) → T (fits binary32 y) → T (finite x) → T (finite y) → T (finite (mul binary32 x y))
    → 2 ^ 23 * 2 ^ 149 ≤ size_in binary32 x * size_in binary32 y
    → Within (size_in binary32 (mul binary32 x y) * 2 ^ 149 * 2 ^ 24) (size_in binary32 x * size_in binary32 y * 2 ^ 24) (size_in binary32 x * size_in binary32 y)
product_error x y h k t u v normal =
    let X = size_in binary32 x in
    let Y = size_in binary32 y in
    let l = 2 ^ 149 in
    let s = unlike (negative x) (negative y) in
    let G = grid binary32 (X * Y) (l * l) in
    let is = mul_at binary32 x y (negative x) (negative y) X Y (value_of_size binary32 x h t) (value_of_size binary32 y k u) in
    let value = finite_round binary32 s (X * Y) (l * l) (subst (λ (z : Float). T (finite z)) is v) in
    let size = ap (size_in binary32) is ∙ (size_of_value binary32 (round binary32 s (X * Y) (l * l)) s G value).0 in
    let near = round_relative binary32 (X * Y) (l * l) (lit< tt) (normal_of_fraction binary32 (X * Y) (l * l) (lit< tt) (mul-le-mul_right l normal)) in
    subst (λ (N : ℕ). Within (N * l * 2 ^ 24) (X * Y * 2 ^ 24) (X * Y)) (sym size) (in_units G (X * Y) l (2 ^ 24) (pow_pos 149) near)
  where
    in_units : (G N l p : ℕ) → 0 < l → Within (G * (l * l) * p) (N * l * p) (N * l) → Within (G * l * p) (N * p) N
    in_units G N l p L w =
        let ρ = G ∷ N ∷ l ∷ p ∷ [] in (
          le_of_mul-le-mul_right (cert ρ (A ⊗ X ⊗ Y ⊗ X) ((B ⊗ Y ⊕ B) ⊗ X) (by (lit 1) (A ⊗ (X ⊗ X) ⊗ Y) (B ⊗ X ⊗ Y ⊕ B ⊗ X) w.0 done) tt) L,
          le_of_mul-le-mul_right (cert ρ (B ⊗ Y ⊗ X) ((A ⊗ X ⊗ Y ⊕ B) ⊗ X) (by (lit 1) (B ⊗ X ⊗ Y) (A ⊗ (X ⊗ X) ⊗ Y ⊕ B ⊗ X) w.1 done) tt) L,
        )

-- ---- a value of the format rounds to itself: nothing is nearer than it
itself : (f : Format) (x : Float) → T (fits f x) → T (finite x) → round f (negative x) (size_in f x) (2 ^ low f) ≡ x
itself f x h t =
    let s = negative x in
    let l = 2 ^ low f in
    let r = round f s (size_in f x) l in
    let rounded = round_nearest f s (size_in f x) l (pow_pos (low f)) in
    let u = rounded.below (size_under f x h t) in
    let near = subst (λ (b : Bool). gap b (size_in f r * l) s (size_in f x * l) ≤ off f x s (size_in f x) l) rounded.sign (rounded.nearest u x h t) in
    size_unique f r x rounded.value h u t rounded.sign
    (eq_of_mul-eq-mul_right l (pow_pos (low f)) (size_in f r) (size_in f x) (none s (size_in f r * l) (size_in f x * l) near))
  where
    none : (s : Bool) (a b : ℕ) → gap s a s b ≤ gap s b s b → a ≡ b
    none true a b h = omega arith
    none false a b h = omega arith
