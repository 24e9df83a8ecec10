-- The mark of a root means that the argument is the square of an f32. Of the root nothing is used but what it means (RootMeaning) and its rule for
-- zeros. Assumes nothing.
use mathlib.Core.Path.{◌≡◌, refl, sym, ap, ◌∙◌, subst}
use mathlib.Core.Bool.{Bool, true, false, cond, true≢false}
use Prim.Native.Nat.{ℕ, zero, suc, ◌*◌, ◌^◌, ◌<◌}
use native.Mathlib.Nat.{mul-pos}
use native.Mathlib.Omega.{arith}
use lib.IntN.{ℤ, pos, nat_abs, ◌*ℤ◌}
use lib.Dec.{T, eqb, eqb→eq, eqb_refl, eqb-suc-zero, ltb, lt→ltb}
use lib.Pow.{pow_pos}
use lib.Ieee.{Float, nan, inf, fin, binary32, fits, unlike}
use lib.Ieee.Positive.{positive, positive-finite}
use Rattle.laws.specs.Exact.{negative, size_in, signed, exact}
use Rattle.laws.proofs.numbers.SignedLaws.{signed_mul, signed_unique, size_of}
use Rattle.laws.proofs.operations.SumSigns.{unlike_self}
use Rattle.laws.proofs.values.SizeLaws.{zero_size, positive_sign, positive_size}
use Rattle.scalar.specs.Root.{root}
use Rattle.scalar.specs.RootMeaning.{NearestRoot, radicand}
use Rattle.scalar.specs.ExactRoot.{square_is, exact_root}
use Rattle.scalar.specs.ExactRootMeaning.{Squared, ExactRootMeaning}
use Rattle.scalar.proofs.roots.RootMeaningLaws.{positive_root}
use Rattle.scalar.proofs.roots.RootOrderLaws.{size_of_square}

-- ---- squares of exact values
square_of : (r : Float) → exact binary32 r *ℤ exact binary32 r ≡ pos (size_in binary32 r * size_in binary32 r)
square_of r = signed_mul (negative r) (negative r) (size_in binary32 r) (size_in binary32 r) ∙ ap (λ (s : Bool). signed s (size_in binary32 r * size_in binary32 r)) (unlike_self (negative r))

scaled_of : (x : Float) → exact binary32 x *ℤ pos (2 ^ 149) ≡ signed (negative x) (radicand x)
scaled_of x = signed_mul (negative x) false (size_in binary32 x) (2 ^ 149) ∙ ap (λ (s : Bool). signed s (radicand x)) (own (negative x))
  where
    own : (s : Bool) → unlike s false ≡ s
    own true = refl
    own false = refl

-- ---- an argument above zero
module _ (x : Float) (F : T (fits binary32 x)) (p : T (positive x)) where
  near : NearestRoot x (root x)
  near = positive_root x F p

  pub answer_above : T (square_is (root x) (size_in binary32 x)) → Squared (root x) x
  answer_above t = record {
    value = near.value;
    root_number = near.number;
    number = positive-finite x p;
    square = square_of (root x) ∙ ap pos (eqb→eq (size_in binary32 (root x) * size_in binary32 (root x)) (radicand x) t) ∙ sym (scaled_of x ∙ ap (λ (s : Bool). signed s (radicand x)) (positive_sign x p));
  }

  pub marked_above : (r : Float) → Squared r x → T (square_is (root x) (size_in binary32 x))
  marked_above r S = subst (λ (n : ℕ). T (eqb (n * n) (radicand x))) (sym (size_of_square x (root x) r near S.value e)) (subst (λ (n : ℕ). T (eqb (size_in binary32 r * size_in binary32 r) n)) e (eqb_refl (size_in binary32 r * size_in binary32 r)))
    where
      e : size_in binary32 r * size_in binary32 r ≡ radicand x
      e = ap nat_abs (sym (square_of r) ∙ S.square ∙ scaled_of x) ∙ size_of (negative x) (radicand x)

-- ---- below zero
no_square : (x : Float) (r : Float) → negative x ≡ true → 0 < radicand x → Squared r x → ⊥
no_square x r n h S = true≢false (sym n ∙ (signed_unique (negative x) false (radicand x) (size_in binary32 r * size_in binary32 r) h (sym (scaled_of x) ∙ sym S.square ∙ square_of r)).0)

-- ---- either zero is its own root, and its own square
zero_root : (s : Bool) (e : ℤ) → root (fin s 0 e) ≡ fin s 0 e
unfolding root
zero_root s e = refl

zero_squared : (s : Bool) (e : ℤ) → T (fits binary32 (fin s 0 e)) → Squared (fin s 0 e) (fin s 0 e)
zero_squared s e F = record {
  value = F;
  root_number = tt;
  number = tt;
  square = square_of (fin s 0 e) ∙ ap (λ (n : ℕ). pos (n * n)) (zero_size binary32 s e) ∙ sym (scaled_of (fin s 0 e) ∙ ap (λ (n : ℕ). signed (negative (fin s 0 e)) (n * 2 ^ 149)) (zero_size binary32 s e) ∙ none (negative (fin s 0 e)));
}
  where
    none : (s : Bool) → signed s 0 ≡ pos 0
    none true = refl
    none false = refl

-- ---- any argument
above : (m : ℕ) → T (ltb 0 (suc m))
above m = lt→ltb 0 (suc m) (omega arith)

-- where the mark is set, and where there is a square
record Marks (x : Float) : Type 0 where
  answer : T (exact_root x) → Squared (root x) x
  marked : (r : Float) → Squared r x → T (exact_root x)

marks : (x : Float) → T (fits binary32 x) → Marks x
unfolding exact_root size_in negative fits
marks nan F = record { answer = λ t. absurd t; marked = λ r S. absurd S.number }
marks (inf s) F = record { answer = λ t. absurd t; marked = λ r S. absurd S.number }
marks (fin s zero e) F = record { answer = λ t. subst (λ (r : Float). Squared r (fin s 0 e)) (sym (zero_root s e)) (zero_squared s e F); marked = λ r S. tt }
marks (fin true (suc m) e) F = record { answer = λ t. absurd (subst T mark t); marked = λ r S. absurd (no_square (fin true (suc m) e) r refl some S) }
  where
    some : 0 < radicand (fin true (suc m) e)
    some = mul-pos (positive_size binary32 (fin false (suc m) e) F (above m)) (pow_pos 149)

    mark : exact_root (fin true (suc m) e) ≡ false
    mark = ap (λ (b : Bool). cond b true false) (eqb-suc-zero m)
marks (fin false (suc m) e) F = record {
  answer = λ t. answer_above (fin false (suc m) e) F p (subst T mark t);
  marked = λ r S. subst T (sym mark) (marked_above (fin false (suc m) e) F p r S);
}
  where
    p : T (positive (fin false (suc m) e))
    p = above m

    mark : exact_root (fin false (suc m) e) ≡ square_is (root (fin false (suc m) e)) (size_in binary32 (fin false (suc m) e))
    mark = ap (λ (b : Bool). cond b true (square_is (root (fin false (suc m) e)) (size_in binary32 (fin false (suc m) e)))) (eqb-suc-zero m)

pub exact_root_means : (x : Float) → T (fits binary32 x) → ExactRootMeaning x
exact_root_means x F = let m = marks x F in record { mark = record { some = λ t. (root x, m.answer t); marked = m.marked }; answer = m.answer }
