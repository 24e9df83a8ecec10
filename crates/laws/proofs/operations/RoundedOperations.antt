-- The four operations on finite values, as whole numbers of the format's smallest value: the sign is exact, the size is rounded once.
-- 1 is `unit f`, and a rounding of a number up to 2 ^ j, j above 0, is off by at most 2 ^ (j - 1) times `half_ulp f`. Assumes nothing.
use mathlib.Core.Path.{◌≡◌, sym, ap, ◌∙◌, subst}
use mathlib.Core.Bool.{Bool, true, false, not, cond}
use Prim.Native.Nat.{ℕ, ◌+◌, ◌-◌, ◌*◌, ◌^◌, ◌≤◌, ◌<◌}
use native.Mathlib.Nat.{le_trans, le_of_eq, one-mul, mul_right_comm, mul-le-mul_right}
use native.Mathlib.Omega.{arith}
use lib.Dec.{T, ltb, ltb→lt, nltb→le}
use lib.Pow.{pow_pos}
use lib.Ieee.{Float, Format, emax, low, unlike, round, sum, add, sub, mul, div, neg}
use Rattle.laws.specs.Within.{Within}
use Rattle.laws.proofs.values.ValueLaws.{Value}
use Rattle.laws.proofs.values.SizeLaws.{size_of_value}
use Rattle.laws.proofs.operations.OperationLaws.{mul_at, div_at, add_at, add_like_at, neg_value}
use Rattle.laws.proofs.rounding.GridErrorLaws.{unit, half_ulp}
use Rattle.laws.proofs.rounding.ErrorLaws.{rounded, rounded_least, rounded_most, rounded_near, rounded_value}

-- a signed number's two parts, one of them 0
abbrev pub plus : Bool → ℕ → ℕ
plus s n = cond s 0 n

abbrev pub minus : Bool → ℕ → ℕ
minus s n = cond s n 0

-- v has the sign s, and its size is x / c, off by at most err
pub record Sized (f : Format) (v : Float) (s : Bool) (c x err top : ℕ) : Type 0 where
  pub size : ℕ
  pub has : Value f v s size
  pub near : Within (size * c) x (err * c)
  pub most : size ≤ top

-- v is p - m, off by at most err
pub record Signed (f : Format) (v : Float) (p m err top : ℕ) : Type 0 where
  pub sign : Bool
  pub size : ℕ
  pub has : Value f v sign size
  pub near : Within (plus sign size + m) (minus sign size + p) err
  pub most : size ≤ top

unit_pos : (f : Format) → 0 < unit f
unit_pos f = pow_pos (low f)

-- ---- the product
pub mul_near : (f : Format) (x y : Float) (s t : Bool) (a b j : ℕ) → Value f x s a → Value f y t b → a * b ≤ unit f * unit f * 2 ^ j → j ≤ emax f
    → Sized f (mul f x y) (unlike s t) (unit f) (a * b) (half_ulp f * 2 ^ (j - 1)) (2 ^ (low f + j))
mul_near f x y s t a b j h k l J = record {
  size = rounded f (a * b) (unit f);
  has = rounded_value f (a * b) (unit f) j (unit_pos f) l (mul f x y) (unlike s t) J (mul_at f x y s t a b h k);
  near = rounded_near f (a * b) (unit f) j (unit_pos f) l;
  most = rounded_most f (a * b) (unit f) j (unit_pos f) l;
}

-- ---- the quotient
pub div_near : (f : Format) (x y : Float) (s t : Bool) (a b j : ℕ) → 0 < b → Value f x s a → Value f y t b → a ≤ b * 2 ^ j → j ≤ emax f
    → Sized f (div f x y) (unlike s t) b (a * unit f) (half_ulp f * 2 ^ (j - 1)) (2 ^ (low f + j))
div_near f x y s t a b j B h k l J = record {
  size = rounded f (a * unit f) b;
  has = rounded_value f (a * unit f) b j B scaled (div f x y) (unlike s t) J (div_at f x y s t a b h k B);
  near = rounded_near f (a * unit f) b j B scaled;
  most = rounded_most f (a * unit f) b j B scaled;
}
  where
    scaled : a * unit f ≤ b * unit f * 2 ^ j
    scaled = le_trans (mul-le-mul_right (unit f) l) (le_of_eq (mul_right_comm b (2 ^ j) (unit f)))

-- ---- sums
once : (f : Format) (n j : ℕ) → n ≤ unit f * 2 ^ j → n ≤ 1 * unit f * 2 ^ j
once f n j h = le_trans h (le_of_eq (ap (λ (u : ℕ). u * 2 ^ j) (sym (one-mul (unit f)))))

module _ (f : Format) (j : ℕ) (J : j ≤ emax f) where
  -- a whole number of smallest values, rounded
  whole : (s : Bool) (n : ℕ) → n ≤ unit f * 2 ^ j → Sized f (round f s n (unit f)) s 1 n (half_ulp f * 2 ^ (j - 1)) (2 ^ (low f + j))
  whole s n h = record {
    size = rounded f n 1;
    has = rounded_value f n 1 j (omega arith) (once f n j h) (round f s n (unit f)) s J (ap (λ (u : ℕ). round f s n u) (sym (one-mul (unit f))));
    near = rounded_near f n 1 j (omega arith) (once f n j h);
    most = rounded_most f n 1 j (omega arith) (once f n j h);
  }

  -- with its sign, where it stands for p - m
  as_signed : (s : Bool) (n p m : ℕ) → n ≤ unit f * 2 ^ j → plus s n + m ≡ minus s n + p → Signed f (round f s n (unit f)) p m (half_ulp f * 2 ^ (j - 1)) (2 ^ (low f + j))
  as_signed s n p m h e =
      let w = whole s n h in
      record { sign = s; size = w.size; has = w.has; near = at s w.size (half_ulp f * 2 ^ (j - 1)) e w.near; most = w.most }
    where
      at : (s : Bool) (g r : ℕ) → plus s n + m ≡ minus s n + p → Within (g * 1) n (r * 1) → Within (plus s g + m) (minus s g + p) r
      at true g r e h = omega arith
      at false g r e h = omega arith

  sum_near : (s t : Bool) (a b : ℕ) → plus s a + plus t b ≤ minus s a + minus t b + unit f * 2 ^ j → minus s a + minus t b ≤ plus s a + plus t b + unit f * 2 ^ j
      → Signed f (sum f s a t b (unit f)) (plus s a + plus t b) (minus s a + minus t b) (half_ulp f * 2 ^ (j - 1)) (2 ^ (low f + j))
  unfolding sum
  sum_near true true a b h k = as_signed true (a + b) 0 (a + b) (omega arith) (omega arith)
  sum_near false false a b h k = as_signed false (a + b) (a + b) 0 (omega arith) (omega arith)
  sum_near false true a b h k = go (ltb a b) (ltb→lt a b) (nltb→le a b)
    where
      go : (c : Bool) → (T c → a < b) → (T (not c) → b ≤ a) → Signed f (cond c (round f true (b - a) (unit f)) (round f false (a - b) (unit f))) (a + 0) (0 + b) (half_ulp f * 2 ^ (j - 1)) (2 ^ (low f + j))
      go true p q = let l = p tt in as_signed true (b - a) (a + 0) (0 + b) (omega arith) (omega arith)
      go false p q = let l = q tt in as_signed false (a - b) (a + 0) (0 + b) (omega arith) (omega arith)
  sum_near true false a b h k = go (ltb a b) (ltb→lt a b) (nltb→le a b) (ltb b a) (ltb→lt b a) (nltb→le b a)
    where
      go : (c : Bool) → (T c → a < b) → (T (not c) → b ≤ a) → (d : Bool) → (T d → b < a) → (T (not d) → a ≤ b)
          → Signed f (cond c (round f false (b - a) (unit f)) (round f d (a - b) (unit f))) (0 + b) (a + 0) (half_ulp f * 2 ^ (j - 1)) (2 ^ (low f + j))
      go true p q d p' q' = let l = p tt in as_signed false (b - a) (0 + b) (a + 0) (omega arith) (omega arith)
      go false p q true p' q' = let l = p' tt in as_signed true (a - b) (0 + b) (a + 0) (omega arith) (omega arith)
      go false p q false p' q' = let l = q tt in let r = q' tt in as_signed false (a - b) (0 + b) (a + 0) (omega arith) (omega arith)

  pub add_near : (x y : Float) (s t : Bool) (a b : ℕ) → Value f x s a → Value f y t b
      → plus s a + plus t b ≤ minus s a + minus t b + unit f * 2 ^ j → minus s a + minus t b ≤ plus s a + plus t b + unit f * 2 ^ j
      → Signed f (add f x y) (plus s a + plus t b) (minus s a + minus t b) (half_ulp f * 2 ^ (j - 1)) (2 ^ (low f + j))
  add_near x y s t a b h k l r =
      subst (λ (v : Float). Signed f v (plus s a + plus t b) (minus s a + minus t b) (half_ulp f * 2 ^ (j - 1)) (2 ^ (low f + j))) (sym (add_at f x y s t a b h k)) (sum_near s t a b l r)

pub sub_near : (f : Format) (j : ℕ) → j ≤ emax f → (x y : Float) (s t : Bool) (a b : ℕ) → Value f x s a → Value f y t b
    → plus s a + plus (not t) b ≤ minus s a + minus (not t) b + unit f * 2 ^ j → minus s a + minus (not t) b ≤ plus s a + plus (not t) b + unit f * 2 ^ j
    → Signed f (sub f x y) (plus s a + plus (not t) b) (minus s a + minus (not t) b) (half_ulp f * 2 ^ (j - 1)) (2 ^ (low f + j))
unfolding sub
sub_near f j J x y s t a b h k l r = add_near f j J x (neg y) s (not t) a b h (neg_value f y t b k) l r

-- v has the sign s, and its size is n, off by at most err
pub record Summed (f : Format) (v : Float) (s : Bool) (n err top : ℕ) : Type 0 where
  pub size : ℕ
  pub has : Value f v s size
  pub near : Within size n err
  pub most : size ≤ top
  pub least : (i : ℕ) → unit f * 2 ^ i ≤ n → 2 ^ (low f + i) ≤ size

-- numbers of one sign: the sum has it
pub add_like : (f : Format) (j : ℕ) → j ≤ emax f → (x y : Float) (s : Bool) (a b : ℕ) → Value f x s a → Value f y s b → a + b ≤ unit f * 2 ^ j
    → Summed f (add f x y) s (a + b) (half_ulp f * 2 ^ (j - 1)) (2 ^ (low f + j))
add_like f j J x y s a b h k l = record {
  size = rounded f (a + b) 1;
  has = rounded_value f (a + b) 1 j (omega arith) (once f (a + b) j l) (add f x y) s J (add_like_at f x y s a b h k);
  near = plainly (rounded f (a + b) 1) (a + b) (half_ulp f * 2 ^ (j - 1)) (rounded_near f (a + b) 1 j (omega arith) (once f (a + b) j l));
  most = rounded_most f (a + b) 1 j (omega arith) (once f (a + b) j l);
  least = λ i g. rounded_least f (a + b) 1 i (omega arith) (le_trans (le_of_eq (ap (λ (u : ℕ). u * 2 ^ i) (one-mul (unit f)))) g);
}
  where
    plainly : (g n e : ℕ) → Within (g * 1) n (e * 1) → Within g n e
    plainly g n e w = omega arith

-- ---- a value has one sign and one size
pub same_value : (f : Format) (x : Float) (s t : Bool) (a b : ℕ) → Value f x s a → Value f x t b → (s ≡ t) × (a ≡ b)
same_value f x s t a b h k = let p = size_of_value f x s a h in let q = size_of_value f x t b k in (sym p.1 ∙ q.1, sym p.0 ∙ q.0)
