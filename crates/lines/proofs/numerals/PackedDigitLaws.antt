-- Numbers side by side in one number, divided all at once, and the bytes of digits. Assumes nothing.
use Rattle.std.proofs.Common.{◌≡◌, ℕ, ◌+◌, ◌-◌, ◌*◌, ◌/◌, ◌%◌, ◌<◌, ◌≤◌, sym, ap, ◌∙◌, mod-eq_of_lt, mul_assoc, mul_comm, add-mul, zero-add, arith}
use native.Mathlib.Nat.{add-mul-div_left, add-mul-mod_self_left, div-eq_of_lt, div-div-eq-div-mul}
use Rattle.lines.specs.PackedDigits.{halves, quarters, Hundreds, Tens, two_digits}

-- ---- a number a in a place of s * (k * u), and b above it, times m and divided by s: a's quotient q is what is left modulo k, and b's is above it
module _ (m s k u : ℕ) (p : 0 < s) (w : 0 < k * u) (a b q : ℕ) (e : a * m / s ≡ q) (l : q < k) where
  product : (a + s * (k * u) * b) * m / s ≡ q + k * u * (b * m)
  product =
      ap (λ (x : ℕ). x / s) (add-mul a (s * (k * u) * b) m ∙ ap (λ (x : ℕ). a * m + x) (mul_assoc (s * (k * u)) b m ∙ mul_assoc s (k * u) (b * m)))
      ∙ (add-mul-div_left (a * m) (k * u * (b * m)) p ∙ ap (λ (x : ℕ). x + k * u * (b * m)) e)

  lowest : (a + s * (k * u) * b) * m / s % k ≡ q
  lowest =
      ap (λ (x : ℕ). x % k) (product ∙ ap (λ (x : ℕ). q + x) (mul_assoc k u (b * m)))
      ∙ (add-mul-mod_self_left q k (u * (b * m)) ∙ mod-eq_of_lt l)

  above : q < k * u → (a + s * (k * u) * b) * m / s / (s * (k * u)) ≡ b * m / s
  above h =
      ap (λ (x : ℕ). x / (s * (k * u))) product
      ∙ (ap (λ (x : ℕ). (q + k * u * (b * m)) / x) (mul_comm s (k * u))
      ∙ (sym (div-div-eq-div-mul (q + k * u * (b * m)) (k * u) s)
      ∙ ap (λ (x : ℕ). x / s) (add-mul-div_left q (b * m) w ∙ (ap (λ (x : ℕ). x + b * m) (div-eq_of_lt h) ∙ zero-add (b * m)))))

-- ---- halves by 100, where m / 2 ^ 20 serves for a hundredth of each
pub hundreds_are : (m x : ℕ) → ((a : ℕ) → a < 10000 → a * m / 1048576 ≡ a / 100)
    → Hundreds x (x * m / 1048576 % 128 + x * m / 1048576 / 4294967296 * 4294967296)
hundreds_are m x hundredth a b p q e =
    let low : (a + 4294967296 * b) * m / 1048576 % 128 ≡ a / 100 = lowest m 1048576 128 32 (omega arith) (omega arith) a b (a / 100) (hundredth a p) (omega arith) in
    let high : (a + 4294967296 * b) * m / 1048576 / 4294967296 ≡ b * m / 1048576 = above m 1048576 128 32 (omega arith) (omega arith) a b (a / 100) (hundredth a p) (omega arith) (omega arith) in
    rw (e, low, high, hundredth b q) (omega arith)

-- ---- quarters by 10, where m / 2 ^ 10 serves for a tenth of each
module _ (m : ℕ) (tenth : (a : ℕ) → a < 100 → a * m / 1024 ≡ a / 10) where
  quarter_low : (a b : ℕ) → a < 100 → (a + 65536 * b) * m / 1024 % 16 ≡ a / 10
  quarter_low a b h = lowest m 1024 16 4 (omega arith) (omega arith) a b (a / 10) (tenth a h) (omega arith)

  quarter_high : (a b : ℕ) → a < 100 → (a + 65536 * b) * m / 1024 / 65536 ≡ b * m / 1024
  quarter_high a b h = above m 1024 16 4 (omega arith) (omega arith) a b (a / 10) (tenth a h) (omega arith) (omega arith)

pub tens_are : (m x : ℕ) → ((a : ℕ) → a < 100 → a * m / 1024 ≡ a / 10)
    → Tens x (x * m / 1024 % 16 + x * m / 1024 / 65536 % 16 * 65536 + x * m / 1024 / 4294967296 % 16 * 4294967296 + x * m / 1024 / 281474976710656 * 281474976710656)
tens_are m x tenth a b c d p q r s e =
    let y = (a + 65536 * (b + 65536 * (c + 65536 * d))) * m / 1024 in
    let third : y / 4294967296 ≡ y / 65536 / 65536 = sym (div-div-eq-div-mul y 65536 65536) in
    let fourth : y / 281474976710656 ≡ y / 65536 / 65536 / 65536 = sym (div-div-eq-div-mul y 4294967296 65536) ∙ ap (λ (z : ℕ). z / 65536) third in
    rw (
      e,
      third,
      fourth,
      quarter_low m tenth a (b + 65536 * (c + 65536 * d)) p,
      quarter_high m tenth a (b + 65536 * (c + 65536 * d)) p,
      quarter_low m tenth b (c + 65536 * d) q,
      quarter_high m tenth b (c + 65536 * d) q,
      quarter_low m tenth c d r,
      quarter_high m tenth c d r,
      tenth d s,
    )
    (omega arith)

-- ---- cut into numbers of two digits, and these into digits
pub twos_are : (a b h : ℕ) → h ≡ halves (a / 100) (b / 100) → (a + b * 4294967296 - 100 * h) * 65536 + h ≡ quarters (a / 100) (a % 100) (b / 100) (b % 100)
twos_are a b h e = omega arith

pub hundreds_below : (a b h : ℕ) → h ≡ halves (a / 100) (b / 100) → 100 * h ≤ a + b * 4294967296
hundreds_below a b h e = omega arith

pub digits_are : (a b c d x t : ℕ) → x ≡ quarters a b c d → t ≡ quarters (a / 10) (b / 10) (c / 10) (d / 10)
    → 256 * (x - 10 * t) + t + 3472328296227680304 ≡ quarters (two_digits a) (two_digits b) (two_digits c) (two_digits d)
digits_are a b c d x t e f = from (a / 10) (a % 10) (b / 10) (b % 10) (c / 10) (c % 10) (d / 10) (d % 10) x t (omega arith) f
  where
    from : (i j k l m n o p x t : ℕ) → x ≡ quarters (10 * i + j) (10 * k + l) (10 * m + n) (10 * o + p) → t ≡ quarters i k m o
        → 256 * (x - 10 * t) + t + 3472328296227680304 ≡ quarters (48 + i + 256 * (48 + j)) (48 + k + 256 * (48 + l)) (48 + m + 256 * (48 + n)) (48 + o + 256 * (48 + p))
    from i j k l m n o p x t e f = omega arith

-- ---- what fits into a word
module _ (a b c d : ℕ) (p : a < 100) (q : b < 100) (r : c < 100) (s : d < 100) where
  pub twos_below : quarters a b c d < 100 * 281474976710656
  twos_below = omega arith

  pub tens_below : 10 * quarters (a / 10) (b / 10) (c / 10) (d / 10) ≤ quarters a b c d
  tens_below = let ten : (x : ℕ) → 10 * (x / 10) ≤ x = λ x. omega arith in omega (arith, ten a, ten b, ten c, ten d)

  pub digits_below : quarters (two_digits a) (two_digits b) (two_digits c) (two_digits d) < 18446744073709551616
  digits_below =
      let few : (x : ℕ) → x < 100 → two_digits x < 65536 = λ x l. omega arith in
      from (two_digits a) (two_digits b) (two_digits c) (two_digits d) (few a p) (few b q) (few c r) (few d s)
    where
      from : (i j k l : ℕ) → i < 65536 → j < 65536 → k < 65536 → l < 65536 → quarters i j k l < 18446744073709551616
      from i j k l p q r s = omega arith

-- ---- the bytes of two digits, whatever is above them
module _ (p r : ℕ) (h : p < 100) where
  pub first_byte : (two_digits p + 65536 * r) % 256 ≡ 48 + p / 10
  first_byte = omega arith

  pub second_byte : (two_digits p + 65536 * r) / 256 % 256 ≡ 48 + p % 10
  second_byte =
      let rest : (two_digits p + 65536 * r) / 256 ≡ 48 + p % 10 + 256 * r = omega arith in
      rw rest (add-mul-mod_self_left (48 + p % 10) 256 r ∙ mod-eq_of_lt (omega arith))

  pub bytes_above : (two_digits p + 65536 * r) / 65536 ≡ r
  bytes_above = omega arith
