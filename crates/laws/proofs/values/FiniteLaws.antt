-- A finite float is no NaN; a finite sum or difference has finite terms, a finite square has a finite root, and what lies between two finite numbers is finite. Assumes nothing.
use mathlib.Core.Bool.{Bool, true, false, not}
use lib.Dec.{T}
use lib.Ieee.{Float, nan, inf, fin, Format, add, sub, neg, mul, is_nan, lt, eq, le}
use lib.Ieee.Scale.{finite}

pub finite_number : (x : Float) → T (finite x) → T (not (is_nan x))
unfolding is_nan
finite_number nan t = t
finite_number (inf s) t = tt
finite_number (fin s m e) t = tt

module _ (f : Format) where
  infinite_sum : (a b : Bool) → T (finite (add f (inf a) (inf b))) → ⊥
  unfolding add
  infinite_sum true true t = t
  infinite_sum true false t = t
  infinite_sum false true t = t
  infinite_sum false false t = t

  pub first_finite : (x y : Float) → T (finite (add f x y)) → T (finite x)
  unfolding add
  first_finite nan y t = t
  first_finite (inf a) nan t = t
  first_finite (inf a) (inf b) t = infinite_sum a b t
  first_finite (inf a) (fin b n d) t = t
  first_finite (fin a m e) y t = tt

  pub second_finite : (x y : Float) → T (finite (add f x y)) → T (finite y)
  unfolding add
  second_finite nan y t = absurd t
  second_finite (inf a) nan t = t
  second_finite (inf a) (inf b) t = infinite_sum a b t
  second_finite (inf a) (fin b n d) t = tt
  second_finite (fin a m e) nan t = t
  second_finite (fin a m e) (inf b) t = t
  second_finite (fin a m e) (fin b n d) t = tt

  pub minuend_finite : (x y : Float) → T (finite (sub f x y)) → T (finite x)
  unfolding sub
  minuend_finite x y t = first_finite x (neg y) t

  pub root_finite : (x : Float) → T (finite (mul f x x)) → T (finite x)
  unfolding mul
  root_finite nan t = t
  root_finite (inf a) t = t
  root_finite (fin a m e) t = tt

-- a number between two that are finite
pub between_finite : (x lo hi : Float) → T (finite lo) → T (finite hi) → T (le lo x) → T (le x hi) → T (finite x)
unfolding le lt eq
between_finite x nan hi f g h k = absurd f
between_finite x (inf s) hi f g h k = absurd f
between_finite x (fin s m e) nan f g h k = absurd g
between_finite x (fin s m e) (inf t) f g h k = absurd g
between_finite nan (fin s m e) (fin t n d) f g h k = absurd h
between_finite (inf true) (fin s m e) (fin t n d) f g h k = absurd h
between_finite (inf false) (fin s m e) (fin t n d) f g h k = absurd k
between_finite (fin r q i) (fin s m e) (fin t n d) f g h k = tt
