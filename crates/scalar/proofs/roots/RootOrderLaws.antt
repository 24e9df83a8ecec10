-- Nearest roots keep the order. Of a root nothing is used but what it means, that no other f32 is as near (RootMeaning). Assumes nothing.
use mathlib.Core.Path.{◌≡◌, sym, ap, subst}
use mathlib.Core.Bool.{false}
use Prim.Native.Nat.{ℕ, ◌+◌, ◌*◌, ◌^◌, ◌≤◌, ◌<◌}
use native.Mathlib.Nat.{le_of_eq, le_antisymm, add_comm, mul-le-mul_right}
use native.Mathlib.Omega.{arith}
use lib.Dec.{T}
use lib.Pow.{pow_pos}
use lib.Ieee.{Float, binary32, fits, le}
use Rattle.laws.specs.Exact.{size_in}
use Rattle.laws.proofs.numbers.WholeRootLaws.{square_mono}
use Rattle.laws.proofs.values.ValueLaws.{Value}
use Rattle.laws.proofs.values.SizeLaws.{size_of_value, unsigned_value}
use Rattle.laws.proofs.values.ValueOrderLaws.{le_of_sizes}
use Rattle.scalar.specs.RootMeaning.{NearestRoot, radicand}

-- ---- r is nearest to the root of n, and s to that of m: were s below r, the middle between them would lie below the first root and above the second
in_order : (r s n m : ℕ) → n ≤ m → (s < r → (r + s) * (r + s) < 4 * n) → (s < r → 4 * m < (s + r) * (s + r)) → r ≤ s
in_order r s n m h p q = not_over (λ k. clash h (p k) (q k))
  where
    not_over : (s < r → ⊥) → r ≤ s
    not_over h = omega arith

    clash : n ≤ m → (r + s) * (r + s) < 4 * n → 4 * m < (s + r) * (s + r) → ⊥
    clash h k l = omega (arith, ap (λ (i : ℕ). i * i) (add_comm r s))

-- n is the root of its square
own_lower : (n y : ℕ) → y < n → (n + y) * (n + y) < 4 * (n * n)
own_lower n y h = let k : n + y < n + n = omega arith in omega (arith, square_mono (n + y) (n + n) k)

own_upper : (n y : ℕ) → n < y → 4 * (n * n) < (n + y) * (n + y)
own_upper n y h = let k : n + n < n + y = omega arith in omega (arith, square_mono (n + n) (n + y) k)

-- ---- two roots
pub nearest_order : (x y r s : Float) → NearestRoot x r → NearestRoot y s → size_in binary32 x ≤ size_in binary32 y → size_in binary32 r ≤ size_in binary32 s
nearest_order x y r s p q h = in_order (size_in binary32 r) (size_in binary32 s) (radicand x) (radicand y) (mul-le-mul_right (2 ^ 149) h) (p.lower s q.value) (q.upper r p.value)

pub nearest_value : (x r : Float) → NearestRoot x r → Value binary32 r false (size_in binary32 r)
nearest_value x r near = unsigned_value binary32 r near.value near.number near.sign

-- ---- the root r of x, and the size of an f32 y
module _ (x r y : Float) (near : NearestRoot x r) (fit : T (fits binary32 y)) where
  abbrev R : ℕ
  R = size_in binary32 r

  abbrev Y : ℕ
  Y = size_in binary32 y

  size_at_least : Y * Y ≤ radicand x → Y ≤ R
  size_at_least l = in_order Y R (Y * Y) (radicand x) l (own_lower Y R) (near.upper y fit)

  size_at_most : radicand x ≤ Y * Y → R ≤ Y
  size_at_most l = in_order R Y (radicand x) (Y * Y) l (near.lower y fit) (own_upper Y R)

  -- where the root is an f32, it is that one
  pub size_of_square : Y * Y ≡ radicand x → R ≡ Y
  size_of_square e = le_antisymm (size_at_most (le_of_eq (sym e))) (size_at_least (le_of_eq e))

-- ---- the same of an f32 y of the size n
module _ (x r y : Float) (n : ℕ) (near : NearestRoot x r) (fit : T (fits binary32 y)) (h : Value binary32 y false n) where
  size : size_in binary32 y ≡ n
  size = (size_of_value binary32 y false n h).0

  pub root_at_least : n * n ≤ radicand x → n ≤ size_in binary32 r
  root_at_least l = subst (λ (m : ℕ). m ≤ size_in binary32 r) size (size_at_least x r y near fit (subst (λ (m : ℕ). m * m ≤ radicand x) (sym size) l))

  pub root_at_most : radicand x ≤ n * n → size_in binary32 r ≤ n
  root_at_most l = subst (λ (m : ℕ). size_in binary32 r ≤ m) size (size_at_most x r y near fit (subst (λ (m : ℕ). radicand x ≤ m * m) (sym size) l))

  -- in f32
  pub root_from : n * n ≤ radicand x → T (le y r)
  root_from l = le_of_sizes y r n (size_in binary32 r) (2 ^ 149) (pow_pos 149) h (nearest_value x r near) (root_at_least l)

  pub root_to : radicand x ≤ n * n → T (le r y)
  root_to l = le_of_sizes r y (size_in binary32 r) n (2 ^ 149) (pow_pos 149) (nearest_value x r near) h (root_at_most l)
