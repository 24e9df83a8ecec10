-- How signs go through the products and sums of the pair and its dot products: what holds of sizes holds with signs. Assumes nothing.
use mathlib.Core.Path.{◌≡◌, refl, sym, subst}
use mathlib.Core.Bool.{Bool, true, false, not}
use Prim.Native.Nat.{ℕ, ◌+◌, ◌*◌}
use native.Mathlib.Nat.{zero-mul, mul-zero}
use native.Mathlib.Omega.{arith}
use lib.Ieee.{unlike}
use Rattle.laws.specs.Within.{Within}
use Rattle.laws.proofs.operations.RoundedOperations.{plus, minus}

-- ---- the signs of the pair's components
pub sign_h : (sz sx : Bool) → unlike (unlike (unlike sz sx) sx) (unlike true sz) ≡ true
sign_h true true = refl
sign_h true false = refl
sign_h false true = refl
sign_h false false = refl

pub sign_k : (sz sy : Bool) → unlike (unlike sy sy) (unlike true sz) ≡ not sz
sign_k true true = refl
sign_k true false = refl
sign_k false true = refl
sign_k false false = refl

pub sign_b : (s sz : Bool) → unlike s (unlike true sz) ≡ not (unlike s sz)
sign_b true true = refl
sign_b true false = refl
sign_b false true = refl
sign_b false false = refl

pub sign_b1 : (s sz : Bool) → unlike sz (not (unlike s sz)) ≡ not s
sign_b1 true true = refl
sign_b1 true false = refl
sign_b1 false true = refl
sign_b1 false false = refl

pub sign_x1 : (sz sx : Bool) → unlike (not sz) sx ≡ not (unlike sz sx)
sign_x1 true true = refl
sign_x1 true false = refl
sign_x1 false true = refl
sign_x1 false false = refl

pub sign_twice : (s t : Bool) → t ≡ unlike s (unlike s t)
sign_twice true true = refl
sign_twice true false = refl
sign_twice false true = refl
sign_twice false false = refl

-- ---- signs in three products
pub three : (p p' q q' r r' : Bool) (a b c n : ℕ) → p ≡ p' → q ≡ q' → r ≡ r'
    → Within (plus p' a + plus q' b + plus r' c) (minus p' a + minus q' b + minus r' c) n → Within (plus p a + plus q b + plus r c) (minus p a + minus q b + minus r c) n
three p p' q q' r r' a b c n i j k h =
    subst (λ (p : Bool). Within (plus p a + plus q b + plus r c) (minus p a + minus q b + minus r c) n) (sym i)
    (subst (λ (q : Bool). Within (plus p' a + plus q b + plus r c) (minus p' a + minus q b + minus r c) n) (sym j)
    (subst (λ (r : Bool). Within (plus p' a + plus q' b + plus r c) (minus p' a + minus q' b + minus r c) n) (sym k) h))

pub back : (s t : Bool) → unlike t (not (unlike s t)) ≡ not s
back true true = refl
back true false = refl
back false true = refl
back false false = refl

pub back' : (s t : Bool) → unlike t (not (unlike t s)) ≡ not s
back' true true = refl
back' true false = refl
back' false true = refl
back' false false = refl

pub first_of_lem : (sx sy sz : Bool) → unlike sx (not (unlike (unlike sx sy) sz)) ≡ not (unlike sy sz)
first_of_lem true true sz = not_not sz
  where
    not_not : (s : Bool) → unlike true (not (unlike false s)) ≡ not (unlike true s)
    not_not true = refl
    not_not false = refl
first_of_lem true false true = refl
first_of_lem true false false = refl
first_of_lem false true true = refl
first_of_lem false true false = refl
first_of_lem false false true = refl
first_of_lem false false false = refl

pub assoc : (s t u : Bool) → unlike s (unlike t u) ≡ unlike (unlike s t) u
assoc true true true = refl
assoc true true false = refl
assoc true false true = refl
assoc true false false = refl
assoc false true true = refl
assoc false true false = refl
assoc false false true = refl
assoc false false false = refl

pub last_of : (sy sz : Bool) → unlike sz (not sy) ≡ not (unlike sy sz)
last_of true true = refl
last_of true false = refl
last_of false true = refl
last_of false false = refl

pub not_through : (s t u : Bool) → unlike (not s) (unlike t u) ≡ unlike (not (unlike s t)) u
not_through true true true = refl
not_through true true false = refl
not_through true false true = refl
not_through true false false = refl
not_through false true true = refl
not_through false true false = refl
not_through false false true = refl
not_through false false false = refl

pub both_not : (sx sy sz : Bool) → unlike (not (unlike sz sx)) (not sy) ≡ unlike (unlike sx sy) sz
both_not true true true = refl
both_not true true false = refl
both_not true false true = refl
both_not true false false = refl
both_not false true true = refl
both_not false true false = refl
both_not false false true = refl
both_not false false false = refl

-- ---- dot products by signs: g is the sign that all terms share
pub dot_first : (g sh : Bool) (x y z h b c r : ℕ) → Within (x * plus sh h) (y * b + z * c + x * minus sh h) r
    → Within (plus (unlike g sh) (x * h) + plus (not g) (y * b) + plus (not g) (z * c)) (minus (unlike g sh) (x * h) + minus (not g) (y * b) + minus (not g) (z * c)) r
dot_first true true x y z h b c r w = omega (arith, mul-zero x)
dot_first true false x y z h b c r w = omega (arith, mul-zero x)
dot_first false true x y z h b c r w = omega (arith, mul-zero x)
dot_first false false x y z h b c r w = omega (arith, mul-zero x)

pub dot_second : (g sk : Bool) (x y z k b c r : ℕ) → Within (y * plus sk k) (x * b + z * c + y * minus sk k) r
    → Within (plus (not g) (x * b) + plus (unlike g sk) (y * k) + plus (not g) (z * c)) (minus (not g) (x * b) + minus (unlike g sk) (y * k) + minus (not g) (z * c)) r
dot_second true true x y z k b c r w = omega (arith, mul-zero y)
dot_second true false x y z k b c r w = omega (arith, mul-zero y)
dot_second false true x y z k b c r w = omega (arith, mul-zero y)
dot_second false false x y z k b c r w = omega (arith, mul-zero y)

pub dot_across : (g sh sk : Bool) (h b c k b' c' r : ℕ) → Within (plus sh h * b' + b * plus sk k) (c * c' + minus sh h * b' + b * minus sk k) r
    → Within (plus (unlike sh (not g)) (h * b') + plus (unlike (not g) sk) (b * k) + plus g (c * c')) (minus (unlike sh (not g)) (h * b') + minus (unlike (not g) sk) (b * k) + minus g (c * c')) r
dot_across true true true h b c k b' c' r w = omega (arith, mul-zero b, zero-mul b')
dot_across true true false h b c k b' c' r w = omega (arith, mul-zero b, zero-mul b')
dot_across true false true h b c k b' c' r w = omega (arith, mul-zero b, zero-mul b')
dot_across true false false h b c k b' c' r w = omega (arith, mul-zero b, zero-mul b')
dot_across false true true h b c k b' c' r w = omega (arith, mul-zero b, zero-mul b')
dot_across false true false h b c k b' c' r w = omega (arith, mul-zero b, zero-mul b')
dot_across false false true h b c k b' c' r w = omega (arith, mul-zero b, zero-mul b')
dot_across false false false h b c k b' c' r w = omega (arith, mul-zero b, zero-mul b')

-- ---- a product with a factor that is not negative, and a squared length, with their signs
pub scaled : (s : Bool) (h r w e d : ℕ) → Within (w * d) (h * r) (e * d) → Within (plus s w * d + minus s h * r) (plus s h * r + minus s w * d) (e * d)
scaled true h r w e d k = omega (arith, zero-mul d, zero-mul r)
scaled false h r w e d k = omega (arith, zero-mul d, zero-mul r)

pub norm_of : (sh : Bool) (h b x c r : ℕ) → Within (plus sh h * plus sh h + minus sh h * minus sh h + b * b + x * x) c r → Within (h * h + b * b + x * x) c r
norm_of true h b x c r w = omega arith
norm_of false h b x c r w = omega arith

pub swapped : (k b y c r : ℕ) → Within (k * k + b * b + y * y) c r → Within (b * b + k * k + y * y) c r
swapped k b y c r w = omega arith
