-- The exact dot product of two vectors, by its positive and its negative terms. Assumes nothing.
use mathlib.Core.Path.{◌≡◌, refl, ap, ap₂, ◌∙◌}
use mathlib.Core.Bool.{Bool, true, false, not}
use mathlib.Core.List.{[], ◌∷◌}
use Prim.Native.Nat.{ℕ, ◌+◌, ◌-◌, ◌*◌, ◌≤◌, ◌<◌}
use native.Mathlib.Nat.{le_trans, le_of_eq, le_of_lt}
use native.Mathlib.Omega.{arith}
use lib.Dec.{T, leb, leb→le, nleb→lt}
use lib.IntN.{ℤ, pos, neg_ℤ, nat_abs, ◌+ℤ◌, ◌*ℤ◌, +ℤ_comm, pos-+ℤ-pos}
use lib.Ieee.{Float, binary32, unlike}
use Rattle.laws.specs.Exact.{negative, size_in, signed, exact}
use Rattle.laws.specs.Within.{Within}
use Rattle.laws.proofs.solvers.RingInt.{var, lit, ◌⊕◌, ⊖◌, ringℤ}
use Rattle.laws.proofs.numbers.SignedLaws.{size_of, signed_mul, signed_sub}
use Rattle.laws.proofs.operations.RoundedOperations.{plus, minus}
use Rattle.vector.specs.declared.vec3.Vec3.{Vec3}
use Rattle.vector.specs.ExactVectors.{exact_dot}
use Rattle.vector.proofs.values.SignedVectors.{above, under, Dot, exact_of}

in_parts : (s : Bool) (n : ℕ) → signed s n ≡ pos (plus s n) +ℤ neg_ℤ (pos (minus s n))
in_parts true n = ringℤ (pos n ∷ []) (⊖ var 0) (lit (pos 0) ⊕ ⊖ var 0) refl
in_parts false n = ringℤ (pos n ∷ []) (var 0) (var 0 ⊕ ⊖ lit (pos 0)) refl

three_parts : (s t u : Bool) (a b c : ℕ) → signed s a +ℤ signed t b +ℤ signed u c ≡ pos (plus s a + plus t b + plus u c) +ℤ neg_ℤ (pos (minus s a + minus t b + minus u c))
three_parts s t u a b c =
    ap₂ ◌+ℤ◌ (ap₂ ◌+ℤ◌ (in_parts s a) (in_parts t b)) (in_parts u c)
    ∙ ringℤ (pos (plus s a) ∷ pos (minus s a) ∷ pos (plus t b) ∷ pos (minus t b) ∷ pos (plus u c) ∷ pos (minus u c) ∷ [])
    (var 0 ⊕ ⊖ var 1 ⊕ (var 2 ⊕ ⊖ var 3) ⊕ (var 4 ⊕ ⊖ var 5)) (var 0 ⊕ var 2 ⊕ var 4 ⊕ ⊖ (var 1 ⊕ var 3 ⊕ var 5)) refl
    ∙ ap₂ (λ (x y : ℤ). x +ℤ neg_ℤ y) (pos_sum (plus s a) (plus t b) (plus u c)) (pos_sum (minus s a) (minus t b) (minus u c))
  where
    pos_sum : (a b c : ℕ) → pos a +ℤ pos b +ℤ pos c ≡ pos (a + b + c)
    pos_sum a b c = ap (λ (x : ℤ). x +ℤ pos c) (pos-+ℤ-pos a b) ∙ pos-+ℤ-pos (a + b) c

difference_size : (a b c : ℕ) → Within a b c → nat_abs (pos a +ℤ neg_ℤ (pos b)) ≤ c
difference_size a b c h = go (leb b a) (leb→le b a) (nleb→lt b a)
  where
    go : (t : Bool) → (T t → b ≤ a) → (T (not t) → a < b) → nat_abs (pos a +ℤ neg_ℤ (pos b)) ≤ c
    go true p q = le_trans (le_of_eq (ap nat_abs (signed_sub false a b (p tt)) ∙ size_of false (a - b))) (omega arith)
    go false p q =
        let l : a ≤ b = le_of_lt (q tt) in
        le_trans (le_of_eq (ap nat_abs (+ℤ_comm (pos a) (neg_ℤ (pos b)) ∙ signed_sub true b a l) ∙ size_of true (b - a))) (omega arith)

-- two values' product, by sign and size
abbrev sign : Float → Float → Bool
sign x y = unlike (negative x) (negative y)

abbrev product : Float → Float → ℕ
product x y = size_in binary32 x * size_in binary32 y

pub dot_size : (u v : Vec3) (c : ℕ) → Dot (exact_of u) (exact_of v) c → nat_abs (exact_dot u v) ≤ c
dot_size u v c h =
    le_trans (le_of_eq (ap nat_abs (ap₂ ◌+ℤ◌ (ap₂ ◌+ℤ◌ (term u.x v.x) (term u.y v.y)) (term u.z v.z)
    ∙ three_parts (sign u.x v.x) (sign u.y v.y) (sign u.z v.z) (product u.x v.x) (product u.y v.y) (product u.z v.z))))
    (difference_size (above (exact_of u) (exact_of v)) (under (exact_of u) (exact_of v)) c h)
  where
    term : (x y : Float) → exact binary32 x *ℤ exact binary32 y ≡ signed (sign x y) (product x y)
    term x y = signed_mul (negative x) (negative y) (size_in binary32 x) (size_in binary32 y)
