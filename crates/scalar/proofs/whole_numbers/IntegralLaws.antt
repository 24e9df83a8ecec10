-- What the rules for a whole number share: equal fractions give equal results, and what is whole or not finite stays. Assumes nothing.
use mathlib.Core.Path.{◌≡◌, sym, ap, ◌∙◌}
use mathlib.Core.Bool.{Bool}
use mathlib.Core.Logic.{inl, inr}
use Prim.Native.Nat.{ℕ, ◌+◌, ◌-◌, ◌*◌, ◌^◌, ◌≤◌, ◌<◌}
use native.Mathlib.Nat.{mul-one, mul_assoc}
use native.Mathlib.Omega.{arith}
use lib.Dec.{T}
use lib.Pow.{pow_pos, pow-add}
use lib.Ieee.{Float, nan, inf, fin, binary32, up, down, odd, round, fits}
use lib.Ieee.Exact.{HasValue, round_exact}
use lib.Ieee.Fits.{down_pos, round-fits}
use Rattle.laws.proofs.values.ValueLaws.{value_same, value_unique}
use Rattle.scalar.specs.Integral.{integral}
use Rattle.scalar.specs.Parts.{Split}
use Rattle.scalar.proofs.floats.PartsLaws.{Other, value_of_parts, parts_under}

-- ---- what every rule for a whole number must do

-- equal fractions get equal results
abbrev pub Respects : (Bool → ℕ → ℕ → ℕ) → Type 0
Respects by = (s : Bool) (a b c d : ℕ) → 0 < b → 0 < d → a * d ≡ c * b → by s a b ≡ by s c d

-- a whole number stays
abbrev pub Keeps : (Bool → ℕ → ℕ → ℕ) → Type 0
Keeps by = (s : Bool) (w c : ℕ) → 0 < c → by s (w * c) c ≡ w

pub record Rule (by : Bool → ℕ → ℕ → ℕ) : Type 0 where
  pub respects : Respects by
  pub keeps : Keeps by

-- ---- what is not finite stays
pub other_stays : (by : Bool → ℕ → ℕ → ℕ) (x : Float) → Other x → x ≡ integral by x
unfolding integral
other_stays by x (inl e) = e ∙ sym (ap (integral by) e)
other_stays by x (inr p) = p.1 ∙ sym (ap (integral by) p.1)

pub integral_at : (by : Bool → ℕ → ℕ → ℕ) → Respects by → (x : Float) (s : Bool) (a c : ℕ) → 0 < c → HasValue x s a c → integral by x ≡ round binary32 s (by s a c) 1
unfolding integral
integral_at by R nan s a c C h = absurd h
integral_at by R (inf t) s a c C h = absurd h
integral_at by R (fin t m e) s a c C h =
    ap (λ (b : Bool). round binary32 b (by b (m * up e) (down e)) 1) h.0
    ∙ ap (λ (n : ℕ). round binary32 s n 1) (R s (m * up e) (down e) a c (down_pos e) C h.1)

module _ (by : Bool → ℕ → ℕ → ℕ) (rule : Rule by) (x : Float) (s : Bool) (q k : ℕ) (e : x ≡ odd 24 s q k 149) where
  has : HasValue x s (q * 2 ^ k) (2 ^ 149)
  has = value_of_parts x s q k e

  made_whole : integral by x ≡ round binary32 s (by s (q * 2 ^ k) (2 ^ 149)) 1
  made_whole = integral_at by rule.respects x s (q * 2 ^ k) (2 ^ 149) (pow_pos 149) has

  -- where no bit lies below 1
  pub whole_stays : T (fits binary32 x) → Split q k → 149 ≤ k → x ≡ integral by x
  whole_stays fx S h =
      sym
      (made_whole
      ∙ ap (λ (n : ℕ). round binary32 s n 1) (ap (λ (n : ℕ). by s n (2 ^ 149)) (sym joined) ∙ rule.keeps s (q * 2 ^ (k - 149)) (2 ^ 149) (pow_pos 149))
      ∙ value_unique binary32 (round binary32 s (q * 2 ^ (k - 149)) 1) x s (q * 2 ^ k) (round-fits binary32 s (q * 2 ^ (k - 149)) 1) fx
      (value_same (round binary32 s (q * 2 ^ (k - 149)) 1) s (q * 2 ^ (k - 149)) 1 (q * 2 ^ k) (2 ^ 149) (pow_pos 0) exact
      (round_exact binary32 s (q * 2 ^ (k - 149)) 1 q k (pow_pos 0) S.bits (parts_under q k S.bits S.range) exact))
      has)
    where
      back : (k : ℕ) → 149 ≤ k → k - 149 + 149 ≡ k
      back k h = omega arith

      joined : q * 2 ^ (k - 149) * 2 ^ 149 ≡ q * 2 ^ k
      joined = mul_assoc q (2 ^ (k - 149)) (2 ^ 149) ∙ ap (λ (n : ℕ). q * n) (sym (pow-add 2 (k - 149) 149) ∙ ap (λ (n : ℕ). 2 ^ n) (back k h))

      exact : q * 2 ^ (k - 149) * 2 ^ 149 ≡ q * 2 ^ k * 1
      exact = joined ∙ sym (mul-one (q * 2 ^ k))
