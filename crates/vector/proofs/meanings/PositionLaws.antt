-- The positions are at most 2; without NaNs they are those of the first least and of the first greatest component, of which there is one. Assumes nothing.
use mathlib.Core.Path.{◌≡◌}
use mathlib.Core.Bool.{Bool, true, false, not, cond}
use Prim.Native.Nat.{ℕ, ◌≤◌, ◌<◌}
use native.Mathlib.Nat.{le_antisymm}
use native.Mathlib.Omega.{arith}
use lib.Dec.{T, ltb, not_T, T_not, ltb→lt, nltb→le, lit≤}
use lib.Ieee.{Float, lt, is_nan}
use Rattle.std.proofs.lemmas.Float.{le_of_lt, le_left, le_right, le_of_not-lt, lt_irrefl, lt_trans, lt_of_lt_of_le, lt_of_le_of_lt}
use Rattle.vector.specs.declared.vec3.Vec3.{Vec3}
use Rattle.vector.specs.Indexed.{indexed, component}
use Rattle.vector.specs.Comparisons as Comparisons
use Rattle.vector.specs.Elements.{gt, position, min_position, max_position}
use Rattle.vector.specs.ElementsMeaning.{Positions, at, First}
use Rattle.vector.proofs.meanings.IndexedLaws.{by_index, number_at}

position_small : (before : Float → Float → Bool) (a : Vec3) → position before a ≤ 2
unfolding position
position_small before a = go (before a.z (cond (before a.y a.x) a.y a.x)) (before a.y a.x)
  where
    go : (b c : Bool) → cond b 2 (cond c 1 0) ≤ 2
    go true c = lit≤ tt
    go false true = lit≤ tt
    go false false = lit≤ tt

pub positions : (a : Vec3) → Positions a
unfolding min_position max_position
positions a = record { least = position_small _ a; greatest = position_small _ a }

-- ---- a first index is the only one
module _ (before : Float → Float → Bool) (a : Vec3) where
  not_above : (i j : ℕ) → First before a i → First before a j → j ≤ i
  not_above i j p q =
      nltb→le i j
      (not_T (ltb i j) (λ t.
      let h = ltb→lt i j t in
      T_not (before (at a j) (at a i)) (p.none j (omega arith)) (q.lower i (omega arith))))

  pub first_unique : (i j : ℕ) → First before a i → First before a j → i ≡ j
  first_unique i j p q = le_antisymm (not_above j i q p) (not_above i j p q)

-- ---- the positions are the first ones

module _ (before : Float → Float → Bool)
    (once : (x y : Float) → T (before x y) → T (not (before y x)))
    (split : (z x y : Float) → T (not (is_nan y)) → T (before z x) → T (not (before y x)) → T (before z y)) where
  never : (x : Float) → T (not (before x x))
  never x = not_T (before x x) (λ t. T_not (before x x) (once x x t) t)

  module _ (a : Vec3) where
    at_0 : T (not (before a.y a.x)) → T (not (before a.z a.x)) → First before a 0
    unfolding component indexed
    at_0 y z = record {
      within = lit≤ tt;
      none = by_index (λ (j : ℕ). T (not (before (at a j) a.x))) (never a.x) y z;
      lower = λ j h. absurd (omega arith);
    }

    at_1 : T (before a.y a.x) → T (not (before a.z a.y)) → First before a 1
    unfolding component indexed
    at_1 x z = record {
      within = lit≤ tt;
      none = by_index (λ (j : ℕ). T (not (before (at a j) a.y))) (once a.y a.x x) (never a.y) z;
      lower = λ j h. by_index (λ (j : ℕ). j < 1 → T (before a.y (at a j))) (λ h. x) (λ h. absurd (omega arith)) (λ h. absurd (omega arith)) j (omega arith) h;
    }

    at_2 : T (before a.z a.x) → T (before a.z a.y) → First before a 2
    unfolding component indexed
    at_2 x y = record {
      within = lit≤ tt;
      none = by_index (λ (j : ℕ). T (not (before (at a j) a.z))) (once a.z a.x x) (once a.z a.y y) (never a.z);
      lower = λ j h. by_index (λ (j : ℕ). j < 2 → T (before a.z (at a j))) (λ h. x) (λ h. y) (λ h. absurd (omega arith)) j (omega arith) h;
    }

    is_first : T (not (is_nan a.x)) → T (not (is_nan a.y)) → First before a (position before a)
    unfolding position
    is_first x y = go (before a.y a.x) (λ h. h) (λ h. h)
      where
        later : (m : Float) (i : ℕ) (b : Bool)
            → (T b → T (before a.z m))
            → (T (not b) → T (not (before a.z m)))
            → (T (before a.z m) → First before a 2)
            → (T (not (before a.z m)) → First before a i)
            → First before a (cond b 2 i)
        later m i true t f p q = p (t tt)
        later m i false t f p q = q (f tt)

        go : (b : Bool) → (T b → T (before a.y a.x)) → (T (not b) → T (not (before a.y a.x))) → First before a (cond (before a.z (cond b a.y a.x)) 2 (cond b 1 0))
        go true t f =
            later a.y 1 (before a.z a.y) (λ h. h) (λ h. h)
            (λ h. at_2 (split a.z a.y a.x x h (once a.y a.x (t tt))) h)
            (at_1 (t tt))
        go false t f =
            later a.x 0 (before a.z a.x) (λ h. h) (λ h. h)
            (λ h. at_2 h (split a.z a.x a.y y h (f tt)))
            (at_0 (f tt))

-- ---- of floats
pub lt_once : (x y : Float) → T (lt x y) → T (not (lt y x))
lt_once x y h = not_T (lt y x) (λ g. lt_irrefl x (lt_trans x y x h g))

-- where z < x, a number y that is not below x is above z
pub lt_split : (z x y : Float) → T (not (is_nan y)) → T (lt z x) → T (not (lt y x)) → T (lt z y)
lt_split z x y n h k = lt_of_lt_of_le z x y h (le_of_not-lt y x n (le_right z x (le_of_lt z x h)) k)

gt_split : (z x y : Float) → T (not (is_nan y)) → T (gt z x) → T (not (gt y x)) → T (gt z y)
gt_split z x y n h k = lt_of_le_of_lt y x z (le_of_not-lt x y (le_left x z (le_of_lt x z h)) n k) h

pub first_least : (a : Vec3) → Comparisons.is_nan a ≡ false → First lt a (min_position a)
unfolding min_position component indexed
first_least a n = is_first lt lt_once lt_split a (number_at a n 0 (lit≤ tt)) (number_at a n 1 (lit≤ tt))

pub first_greatest : (a : Vec3) → Comparisons.is_nan a ≡ false → First gt a (max_position a)
unfolding max_position component indexed
first_greatest a n = is_first gt (λ (x y : Float). lt_once y x) gt_split a (number_at a n 0 (lit≤ tt)) (number_at a n 1 (lit≤ tt))
