-- How far `round` goes, in any format: half a unit in the last place. In the normal range that is at most the value / 2 ^ prec,
-- below it half the format's smallest value. Assumes nothing.
use mathlib.Core.Path.{◌≡◌, refl, sym, ap, ◌∙◌, subst}
use mathlib.Core.Bool.{Bool, true, false, not, cond}
use Prim.Native.Nat.{ℕ, suc, ◌+◌, ◌-◌, ◌*◌, ◌/◌, ◌^◌, ◌≤◌, ◌<◌}
use native.Mathlib.Nat.{le_trans, le_of_eq, le_of_lt, le-add_left, le-add_right, mul-one, mul_comm, mul_assoc, mul_left_comm, mul_right_comm, add-mul, mul-le-mul_right, mul-pos, le-div_iff_mul-le}
use native.Mathlib.Omega.{arith}
use lib.Dec.{T, leb→le, nleb→lt, leb, ltb}
use lib.Pow.{pow_pos, pow-add}
use lib.Ieee.Fits.{two, two-le_pos, round_is}
use lib.Ieee.Exact.{odd_sign}
use lib.Ieee.{Float, inf, Format, binary32, binary64, prec, emax, low, size, odd, units, round}
use lib.Ieee.Digits.{size_reaches}
use lib.Ieee.Order.{drop, kept}
use lib.Ieee.Scale.{grid, finite}
use Rattle.laws.specs.Within.{Within}
use Rattle.laws.proofs.rounding.ClosestLaws.{closest_near}
use Rattle.laws.proofs.values.ValueLaws.{Value}

-- ---- in units of the smallest value, n / c rounds to grid, within half of 2 ^ drop units
pub grid_near : (f : Format) (a c : ℕ) → 0 < c → Within (grid f a c * c * 2) (a * 2 ^ low f * 2) (c * 2 ^ drop (prec f) (a * 2 ^ low f) c)
grid_near f a c C =
    let n = a * 2 ^ low f in
    let k = drop (prec f) n c in
    subst (λ (m : ℕ). Within (m * 2) (n * 2) (c * 2 ^ k)) (swap (kept (prec f) n c) c (2 ^ k)) (closest_near n (c * 2 ^ k) (mul-pos C (pow_pos k)))
  where
    swap : (q c x : ℕ) → q * (c * x) ≡ q * x * c
    swap q c x = simp (mul_assoc, mul_comm)

scaled : (a b c m : ℕ) → Within a b c → Within (a * m) (b * m) (c * m)
scaled a b c m h = (le_trans (mul-le-mul_right m h.0) (le_of_eq (add-mul b c m)), le_trans (mul-le-mul_right m h.1) (le_of_eq (add-mul a c m)))

pub looser : (a b c d : ℕ) → c ≤ d → Within a b c → Within a b d
looser a b c d h k = omega arith

halved : (a b c : ℕ) → Within (a * 2) (b * 2) (c * 2) → Within a b c
halved a b c h = omega arith

-- the unit is at most n * 2 / 2 ^ p in the normal range
unit_small : (p n c : ℕ) → 0 < p → 0 < c → p ≤ size (n / c) → c * 2 ^ drop p n c * 2 ^ p ≤ n * 2
unit_small p n c P C N =
    let k = drop p n c in
    let h : 2 ^ (p - 1 + k) * c ≤ n = (le-div_iff_mul-le C).0 (size_reaches (n / c) (p - 1 + k) (inside p (size (n / c)) P N)) in
    let e : c * 2 ^ k * 2 ^ p ≡ 2 ^ (p - 1 + k) * c * 2 =
    ap (λ (x : ℕ). c * 2 ^ k * 2 ^ x) (sym (back p P))
    ∙ ap (λ (x : ℕ). c * 2 ^ k * x) (pow-add 2 (p - 1) 1)
    ∙ shuffle c (2 ^ k) (2 ^ (p - 1))
    ∙ ap (λ (x : ℕ). x * c * 2) (sym (pow-add 2 (p - 1) k)) in
    le_trans (le_of_eq e) (mul-le-mul_right 2 h)
  where
    inside : (p z : ℕ) → 0 < p → p ≤ z → p - 1 + (z - p) < z
    inside p z P N = omega arith

    back : (p : ℕ) → 0 < p → p - 1 + 1 ≡ p
    back p h = omega arith

    shuffle : (c x y : ℕ) → c * x * (y * 2) ≡ y * x * c * 2
    shuffle c x y = simp (mul_assoc, mul_comm, mul_left_comm)

-- in the normal range the error is at most the value / 2 ^ prec
pub round_relative : (f : Format) (a c : ℕ) → 0 < c → prec f ≤ size (a * 2 ^ low f / c)
    → Within (grid f a c * c * 2 ^ prec f) (a * 2 ^ low f * 2 ^ prec f) (a * 2 ^ low f)
round_relative f a c C N =
    let n = a * 2 ^ low f in
    let p = prec f in
    let w = scaled (grid f a c * c * 2) (n * 2) (c * 2 ^ drop p n c) (2 ^ p) (grid_near f a c C) in
    let l = looser (grid f a c * c * 2 * 2 ^ p) (n * 2 * 2 ^ p) (c * 2 ^ drop p n c * 2 ^ p) (n * 2) (unit_small p n c (two-le_pos p (two f)) C N) w in
    halved (grid f a c * c * 2 ^ p) (n * 2 ^ p) n
    (subst (λ (x : ℕ). Within x (n * 2 ^ p * 2) (n * 2)) (mul_right_comm (grid f a c * c) 2 (2 ^ p))
    (subst (λ (x : ℕ). Within (grid f a c * c * 2 * 2 ^ p) x (n * 2)) (mul_right_comm n 2 (2 ^ p)) l))

-- below it, at most half the smallest value
round_absolute : (f : Format) (a c : ℕ) → 0 < c → size (a * 2 ^ low f / c) ≤ prec f → Within (grid f a c * c * 2) (a * 2 ^ low f * 2) c
round_absolute f a c C N =
    let n = a * 2 ^ low f in
    subst (λ (x : ℕ). Within (grid f a c * c * 2) (n * 2) x) (ap (λ (k : ℕ). c * 2 ^ k) (none (size (n / c)) (prec f) N) ∙ mul-one c) (grid_near f a c C)
  where
    none : (z p : ℕ) → z ≤ p → z - p ≡ 0
    none z p h = omega arith

pub prec_twice : (f : Format) → 2 ^ prec f ≡ 2 * 2 ^ (prec f - 1)
prec_twice binary32 = refl
prec_twice binary64 = refl

-- in any case: |r - x| * 2 ^ prec ≤ x + 2 ^ (prec - 1) smallest values
pub round_error : (f : Format) (a c : ℕ) → 0 < c
    → Within (grid f a c * c * 2 ^ prec f) (a * 2 ^ low f * 2 ^ prec f) (a * 2 ^ low f + c * 2 ^ (prec f - 1))
round_error f a c C = go (leb (prec f) (size (n / c))) (leb→le (prec f) (size (n / c))) (nleb→lt (prec f) (size (n / c)))
  where
    n : ℕ
    n = a * 2 ^ low f

    up : (x : ℕ) → x * 2 * 2 ^ (prec f - 1) ≡ x * 2 ^ prec f
    up x = mul_assoc x 2 (2 ^ (prec f - 1)) ∙ ap (λ (y : ℕ). x * y) (sym (prec_twice f))

    go : (b : Bool) → (T b → prec f ≤ size (n / c)) → (T (not b) → size (n / c) < prec f)
        → Within (grid f a c * c * 2 ^ prec f) (a * 2 ^ low f * 2 ^ prec f) (a * 2 ^ low f + c * 2 ^ (prec f - 1))
    go true h k = looser (grid f a c * c * 2 ^ prec f) (a * 2 ^ low f * 2 ^ prec f) (a * 2 ^ low f) (a * 2 ^ low f + c * 2 ^ (prec f - 1)) (le-add_right (a * 2 ^ low f) (c * 2 ^ (prec f - 1))) (round_relative f a c C (h tt))
    go false h k =
        looser (grid f a c * c * 2 ^ prec f) (a * 2 ^ low f * 2 ^ prec f) (c * 2 ^ (prec f - 1)) (a * 2 ^ low f + c * 2 ^ (prec f - 1)) (le-add_left (c * 2 ^ (prec f - 1)) (a * 2 ^ low f))
        (subst (λ (x : ℕ). Within x (a * 2 ^ low f * 2 ^ prec f) (c * 2 ^ (prec f - 1))) (up (grid f a c * c))
        (subst (λ (x : ℕ). Within (grid f a c * c * 2 * 2 ^ (prec f - 1)) x (c * 2 ^ (prec f - 1))) (up (a * 2 ^ low f))
        (scaled (grid f a c * c * 2) (a * 2 ^ low f * 2) c (2 ^ (prec f - 1)) (round_absolute f a c C (le_of_lt (k tt))))))

-- ---- the rounded value itself, of either sign
finite_units : (f : Format) (s : Bool) (q k : ℕ) → T (finite (units f s q k)) → Value f (units f s q k) s (q * 2 ^ k)
unfolding units
finite_units f s q k = at (ltb (q * 2 ^ k) (2 ^ (low f + suc (emax f))))
  where
    at : (b : Bool) → T (finite (cond b (odd (suc (prec f)) s q k (low f)) (inf s))) → Value f (cond b (odd (suc (prec f)) s q k (low f)) (inf s)) s (q * 2 ^ k)
    at true t = odd_sign (suc (prec f)) s q k (low f)
    at false t = absurd t

pub finite_round : (f : Format) (s : Bool) (a c : ℕ) → T (finite (round f s a c)) → Value f (round f s a c) s (grid f a c)
finite_round f s a c t =
    subst (λ (x : Float). Value f x s (grid f a c)) (sym (round_is f s a c))
    (finite_units f s (kept (prec f) (a * 2 ^ low f) c) (drop (prec f) (a * 2 ^ low f) c) (subst (λ (x : Float). T (finite x)) (round_is f s a c) t))
