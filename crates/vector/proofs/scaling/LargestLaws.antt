-- The largest of three numbers. Assumes nothing.
use mathlib.Core.Path.{◌≡◌}
use mathlib.Core.Bool.{Bool, true, false, not}
use mathlib.Core.Logic.{◌⊎◌, inl, inr}
use Prim.Native.Nat.{ℕ, ◌≤◌, ◌<◌}
use native.Mathlib.Omega.{arith}
use lib.Dec.{T, leb, leb→le, nleb→lt}
use Rattle.scalar.specs.Powers.{larger}

pub one_of : (x y z : ℕ) → (x ≡ larger x (larger y z)) ⊎ ((y ≡ larger x (larger y z)) ⊎ (z ≡ larger x (larger y z)))
one_of x y z = go (leb (larger y z) x) (leb y z) (leb→le (larger y z) x) (nleb→lt (larger y z) x) (leb→le y z) (nleb→lt y z)
  where
    go : (b c : Bool) → (T b → larger y z ≤ x) → (T (not b) → x < larger y z) → (T c → y ≤ z) → (T (not c) → z < y)
        → (x ≡ larger x (larger y z)) ⊎ ((y ≡ larger x (larger y z)) ⊎ (z ≡ larger x (larger y z)))
    go true c h k l m = let i = h tt in inl (omega arith)
    go false true h k l m = let i = k tt in let n = l tt in inr (inr (omega arith))
    go false false h k l m = let i = k tt in let n = m tt in inr (inl (omega arith))

pub top_of : (p q r m : ℕ) → p ≤ m → q ≤ m → r ≤ m → (p ≡ m) ⊎ ((q ≡ m) ⊎ (r ≡ m)) → larger p (larger q r) ≡ m
top_of p q r m h k l (inl e) = omega arith
top_of p q r m h k l (inr (inl e)) = omega arith
top_of p q r m h k l (inr (inr e)) = omega arith
