-- The sign functions on bit patterns agree with those on floats, component by component, wherever the one that a sign is taken from is no NaN; and so they
-- agree where none is. Assumes nothing.
use mathlib.Core.Path.{◌≡◌, sym, ap, ◌∙◌}
use mathlib.Core.Bool.{Bool, true, false, not}
use Prim.Native.Nat.{ℕ, ◌+◌, ◌*◌, ◌≤◌}
use native.Mathlib.Omega.{arith}
use lib.Dec.{T, lit≤}
use lib.Ieee as Ieee
use Rattle.laws.specs.Exact.{negative}
use Rattle.scalar.specs.Sign.{sign_bit}
use Rattle.scalar.proofs.floats.BitSignLaws.{sign_of_bits, copysign_of_bits}
use Rattle.vector.specs.declared.vec3.Vec3.{Vec3}
use Rattle.vector.specs.declared.bvec3.BVec3.{BVec3}
use Rattle.vector.specs.Indexed.{indexed, component}
use Rattle.vector.specs.Comparisons.{each_test, is_nan}
use Rattle.vector.specs.Masks.{mask, bit, bitmask, test}
use Rattle.vector.specs.ElementsMeaning.{at}
use Rattle.vector.specs.Signs.{of_patterns, copysign, copysign_bits, is_negative_bitmask, is_negative_bitmask_bits}
use Rattle.vector.specs.SignsMeaning.{bit_at, MasksAgree, CopiesAgree}
use Rattle.vector.proofs.meanings.IndexedLaws.{by_index, same_vector, number_at}

-- ---- the bits of a mask are its elements
bit_small : (b : Bool) → bit b ≤ 1
bit_small true = lit≤ tt
bit_small false = lit≤ tt

mask_bit : (m : BVec3) (i : ℕ) → i ≤ 2 → bit_at (bitmask m) i ≡ bit (test m i).value
unfolding bitmask indexed
mask_bit m =
    let x = bit_small m.x in
    let y = bit_small m.y in
    let z = bit_small m.z in
    by_index (λ (i : ℕ). bit_at (bitmask m) i ≡ bit (test m i).value) (omega arith) (omega arith) (omega arith)

same_bitmask : (m n : BVec3) → ((i : ℕ) → i ≤ 2 → bit_at (bitmask m) i ≡ bit_at (bitmask n) i) → bitmask m ≡ bitmask n
unfolding bitmask indexed
same_bitmask m n e =
    let same : (i : ℕ) → i ≤ 2 → bit (test m i).value ≡ bit (test n i).value = λ i h. sym (mask_bit m i h) ∙ e i h ∙ mask_bit n i h in
    λ k. same 0 (lit≤ tt) k + same 1 (lit≤ tt) k * 2 + same 2 (lit≤ tt) k * 4

-- ---- the signs
signs_agree : (x y z i : ℕ) → i ≤ 2 → T (not (Ieee.is_nan (at (of_patterns x y z) i)))
    → (test (mask (sign_bit x) (sign_bit y) (sign_bit z)) i).value ≡ (test (each_test negative (of_patterns x y z)) i).value
unfolding component indexed
signs_agree x y z =
    by_index (λ (i : ℕ). T (not (Ieee.is_nan (at v i))) → (test (mask (sign_bit x) (sign_bit y) (sign_bit z)) i).value ≡ (test (each_test negative v) i).value)
    (λ n. sym (sign_of_bits x n))
    (λ n. sym (sign_of_bits y n))
    (λ n. sym (sign_of_bits z n))
  where
    v : Vec3
    v = of_patterns x y z

pub masks_agree : (x y z : ℕ) → MasksAgree x y z
unfolding is_negative_bitmask is_negative_bitmask_bits
masks_agree x y z i h n = mask_bit _ i h ∙ ap bit (signs_agree x y z i h n) ∙ sym (mask_bit _ i h)

pub bitmask_of_patterns : (x y z : ℕ) → is_nan (of_patterns x y z) ≡ false → is_negative_bitmask_bits x y z ≡ is_negative_bitmask (of_patterns x y z)
unfolding is_negative_bitmask is_negative_bitmask_bits
bitmask_of_patterns x y z n = same_bitmask _ _ (λ i h. masks_agree x y z i h (number_at (of_patterns x y z) n i h))

-- ---- copysign
pub copies_agree : (x y z a b c : ℕ) → CopiesAgree x y z a b c
unfolding copysign_bits copysign component indexed
copies_agree x y z a b c =
    by_index (λ (i : ℕ). T (not (Ieee.is_nan (at (of_patterns a b c) i))) → at (copysign_bits x y z a b c) i ≡ at (copysign (of_patterns x y z) (of_patterns a b c)) i)
    (copysign_of_bits x a)
    (copysign_of_bits y b)
    (copysign_of_bits z c)

pub copysign_of_patterns : (x y z a b c : ℕ) → is_nan (of_patterns a b c) ≡ false → copysign_bits x y z a b c ≡ copysign (of_patterns x y z) (of_patterns a b c)
copysign_of_patterns x y z a b c n = same_vector _ _ (λ i h. copies_agree x y z a b c i h (number_at (of_patterns a b c) n i h))
