-- `closest n u`, n / u rounded to nearest even: how near it is, and that none is nearer. Assumes nothing.
use mathlib.Core.Path.{◌≡◌, sym, ap, subst}
use Prim.Native.Nat.{ℕ, ◌+◌, ◌*◌, ◌/◌, ◌%◌, ◌≤◌, ◌<◌, compare, Ordering}
use native.Mathlib.Nat.{le_of_eq, le_antisymm, lt_of_not-le, add-mul, suc-mul, mul-le-mul_right, mod-lt, div-add-mod'}
use native.Mathlib.Omega.{arith}
use lib.Ieee.{nearest}
use lib.Ieee.Nearest.{closest}
use Rattle.laws.specs.Within.{distance, Within}
use Rattle.laws.proofs.numbers.CompareLaws.{Cmp, cmp}

-- w * u + r, rounded to a multiple of u
half : (w u r : ℕ) (o : Ordering) → Cmp o (r * 2) u → r < u → Within (nearest w o * u * 2) ((w * u + r) * 2) u
half w u r Ordering.lt c h = omega arith
half w u r Ordering.eq c h =
    let t : w % 2 * u ≤ 1 * u = mul-le-mul_right u (bit w) in
    omega (arith, add-mul w (w % 2) u)
  where
    bit : (w : ℕ) → w % 2 ≤ 1
    bit w = omega arith
half w u r Ordering.gt c h = omega (arith, suc-mul w u)

pub closest_near : (n u : ℕ) → 0 < u → Within (closest n u * u * 2) (n * 2) u
closest_near n u U =
    subst (λ (m : ℕ). Within (closest n u * u * 2) (m * 2) u) (div-add-mod' n u)
    (half (n / u) u (n % u) (compare (n % u * 2) u) (cmp (n % u * 2) u) (mod-lt n U))

-- where it is no tie
pub closest_is : (a b q : ℕ) → 0 < b → q * b * 2 < a * 2 + b → a * 2 < q * b * 2 + b → closest a b ≡ q
closest_is a b q B lo hi = le_antisymm (lt→le (lt_of_not-le up)) (lt→le (lt_of_not-le down))
  where
    c : ℕ
    c = closest a b

    lt→le : {x y : ℕ} → x < y + 1 → x ≤ y
    lt→le h = omega arith

    up : q + 1 ≤ c → ⊥
    up h = omega (arith, (closest_near a b B).0, mul-le-mul_right b h, add-mul q 1 b)

    down : c + 1 ≤ q → ⊥
    down h = omega (arith, (closest_near a b B).1, mul-le-mul_right b h, add-mul c 1 b)

-- ---- no multiple of u is nearer to n, and where another one is as near, the one taken is even
-- two multiples of u, of which the first is at most u / 2 from n
nearer : (n u q w : ℕ) (o : Ordering) → Cmp o q w → Within (q * u * 2) (n * 2) u → distance (q * u) n ≤ distance (w * u) n
nearer n u q w Ordering.lt c h = let t = mul-le-mul_right u c in let e = suc-mul q u in omega arith
nearer n u q w Ordering.eq c h = le_of_eq (ap (λ (x : ℕ). distance (x * u) n) c)
nearer n u q w Ordering.gt c h = let t = mul-le-mul_right u c in let e = suc-mul w u in omega arith

pub closest_best : (n u w : ℕ) → 0 < u → distance (closest n u * u) n ≤ distance (w * u) n
closest_best n u w U = nearer n u (closest n u) w (compare (closest n u) w) (cmp (closest n u) w) (closest_near n u U)

halfway : (n u q w : ℕ) (o : Ordering) → Cmp o q w → (q ≡ w → ⊥) → Within (q * u * 2) (n * 2) u → distance (q * u) n ≡ distance (w * u) n → distance (q * u) n * 2 ≡ u
halfway n u q w Ordering.lt c d h e = let t = mul-le-mul_right u c in let s = suc-mul q u in omega arith
halfway n u q w Ordering.eq c d h e = absurd (d c)
halfway n u q w Ordering.gt c d h e = let t = mul-le-mul_right u c in let s = suc-mul w u in omega arith

tie_even : (w u r : ℕ) (o : Ordering) → Cmp o (r * 2) u → r < u → distance (nearest w o * u) (w * u + r) * 2 ≡ u → nearest w o % 2 ≡ 0
tie_even w u r Ordering.lt c h e = absurd (omega arith)
tie_even w u r Ordering.eq c h e = omega arith
tie_even w u r Ordering.gt c h e = let s = suc-mul w u in absurd (omega arith)

pub closest_tie : (n u w : ℕ) → 0 < u → (closest n u ≡ w → ⊥) → distance (closest n u * u) n ≡ distance (w * u) n → closest n u % 2 ≡ 0
closest_tie n u w U d e =
    tie_even (n / u) u (n % u) (compare (n % u * 2) u) (cmp (n % u * 2) u) (mod-lt n U)
    (subst (λ (m : ℕ). distance (closest n u * u) m * 2 ≡ u) (sym (div-add-mod' n u))
    (halfway n u (closest n u) w (compare (closest n u) w) (cmp (closest n u) w) d (closest_near n u U) e))

-- ---- a multiple of u at most u / 2 from n is the nearest one, or one of two that are as near
pub near_of_best : (n u q w : ℕ) → Within (q * u * 2) (n * 2) u → distance (w * u) n ≤ distance (q * u) n → Within (w * u * 2) (n * 2) u
near_of_best n u q w h l = (omega arith, omega arith)

-- of which only one is even
pub even_unique : (n u q w : ℕ) → 0 < u → Within (q * u * 2) (n * 2) u → Within (w * u * 2) (n * 2) u → q % 2 ≡ 0 → w % 2 ≡ 0 → q ≡ w
even_unique n u q w U h k e d = go (compare q w) (cmp q w)
  where
    apart : (q w : ℕ) → q % 2 ≡ 0 → w % 2 ≡ 0 → q < w → Within (q * u * 2) (n * 2) u → Within (w * u * 2) (n * 2) u → ⊥
    apart q w e d l h k = let t : (q + 2) * u ≤ w * u = mul-le-mul_right u (omega arith) in omega (arith, add-mul q 2 u)

    go : (o : Ordering) → Cmp o q w → q ≡ w
    go Ordering.lt l = absurd (apart q w e d l h k)
    go Ordering.eq l = l
    go Ordering.gt l = absurd (apart w q d e l k h)
