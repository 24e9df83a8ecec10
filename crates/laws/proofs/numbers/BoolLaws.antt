-- Truth values joined and compared, the choice that one makes, and the test of a number for 0. Assumes nothing.
use Prim.Native.Nat.{ℕ, zero, suc, ◌<◌}
use mathlib.Core.Path.{◌≡◌, refl}
use mathlib.Core.Bool.{Bool, true, false, not, cond, ◌&&◌, ◌||◌, beq}
use native.Mathlib.Omega.{arith}
use lib.Dec.{T, eqb, eqb-suc-zero}

pub and_true : (s : Bool) → s && true ≡ s
and_true true = refl
and_true false = refl

pub and_false : (s : Bool) → s && false ≡ false
and_false true = refl
and_false false = refl

pub or_true : (s : Bool) → s || true ≡ true
or_true true = refl
or_true false = refl

pub or_false : (s : Bool) → s || false ≡ s
or_false true = refl
or_false false = refl

pub beq_same : (s t : Bool) → T (beq s t) → s ≡ t
beq_same true true h = refl
beq_same true false h = absurd h
beq_same false true h = absurd h
beq_same false false h = refl

-- what holds of both branches holds of the choice; and where the condition's value is needed too
pub cond_any : {A : Type 0} (P : A → Type 0) (b : Bool) (x y : A) → P x → P y → P (cond b x y)
cond_any P true x y p q = p
cond_any P false x y p q = q

pub cond_by : {A : Type 0} (P : A → Type 0) (b : Bool) (x y : A) → (b ≡ true → P x) → (b ≡ false → P y) → P (cond b x y)
cond_by P true x y p q = p refl
cond_by P false x y p q = q refl

-- ---- is a number 0
pub not_zero : (n : ℕ) → 0 < n → eqb n 0 ≡ false
not_zero zero h = absurd (omega arith)
not_zero (suc n) h = eqb-suc-zero n

pub pos_of_not_zero : (n : ℕ) → T (not (eqb n 0)) → 0 < n
pos_of_not_zero zero t = absurd t
pos_of_not_zero (suc n) t = omega arith
